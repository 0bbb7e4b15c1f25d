use Rattle.std.proofs.Common.{◌≡◌, ◌∙◌, ℕ, List, ◌++◌, refl, ap}
use Rattle.std.specs.Prelude.{codes, decimal}
use Rattle.rooms_run.specs.declared.ends.RoomEnd.{RoomEnd}
use Rattle.rooms_run.specs.Texts.{end_line, room_line}
use Rattle.rooms_run.proofs.Ending.{on-err, ok-from, err-from}
use Rattle.rooms_run.proofs.Lines.{parts-whole, parts-front, parts-first}
use Rattle.rooms_run.proofs.telling.tell_room.Goals as goal

-- the two parts of a line
both : (n : ℕ) (end : RoomEnd) (first second : List ℕ) → first ≡ codes "room " ++ decimal n ++ codes " " → second ≡ end_line end → first ++ second ≡ room_line n end
both n end first second one two =
    ap (λ (x : List ℕ). x ++ second) one ∙ ap (λ (x : List ℕ). (codes "room " ++ decimal n ++ codes " ") ++ x) two

pub returns-in_err-write_all-clause-front : goal.returns-in_err-write_all-clause-front
returns-in_err-write_all-clause-front g c =
    on-err c.from_residual.result _
    (parts-first _ _ c.as_bytes.result.now (end_line c.args.end) _
    (both c.args.number c.args.end c.as_bytes.result.now (end_line c.args.end) (c.as_bytes.ensures.value ∙ c.as_str.ensures.value ∙ c.room_text.ensures) refl) c.in_err-write_all.ensures.fault)

pub returns-clause-whole : goal.returns-clause-whole
returns-clause-whole g c =
    ok-from c.write_all-2.result _ _
    (λ second. parts-whole _ (g.E.Sink.held c.write_all.new.sink) _ c.as_bytes.result.now c.as_bytes-2.result.now _
    (both c.args.number c.args.end c.as_bytes.result.now c.as_bytes-2.result.now (c.as_bytes.ensures.value ∙ c.as_str.ensures.value ∙ c.room_text.ensures)
    (c.as_bytes-2.ensures.value ∙ c.as_str-2.ensures.value ∙ c.end_text.ensures)) c.in_ok-write_all.ensures.whole second) c.write_all-2.ensures.whole

pub returns-clause-front : goal.returns-clause-front
returns-clause-front g c =
    err-from c.write_all-2.result _ _
    (λ second. parts-front _ (g.E.Sink.held c.write_all.new.sink) _ c.as_bytes.result.now c.as_bytes-2.result.now _
    (both c.args.number c.args.end c.as_bytes.result.now c.as_bytes-2.result.now (c.as_bytes.ensures.value ∙ c.as_str.ensures.value ∙ c.room_text.ensures)
    (c.as_bytes-2.ensures.value ∙ c.as_str-2.ensures.value ∙ c.end_text.ensures)) c.in_ok-write_all.ensures.whole second) c.write_all-2.ensures.fault
