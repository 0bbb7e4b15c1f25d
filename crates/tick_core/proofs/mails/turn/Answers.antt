use Rattle.std.proofs.Common.{◌≡◌, ℕ, List, ◌∷◌, sym, subst, ◌∙◌}
use Rattle.std.specs.Prelude.{slice_get, Option, Some, IfSome}
use Rattle.std.specs.List.{AllByRecursion}
use Rattle.triple_table.specs.Rows.{Row}
use Rattle.conference_spec.specs.Codec.{g726}
use Rattle.book_lists.specs.declared.seats.Seat.{Seat}
use Rattle.tick_core.specs.Opened.{IsServed}
use Rattle.tick_core.specs.Posting.{Turns}
use Rattle.tick_core.proofs.Turning.{IsMade, turns-there}
use Rattle.tick_core.proofs.mails.turn.Goals as goal

pub returns-clause-turns : goal.returns-clause-turns
returns-clause-turns c =
    let rows = c.args.table.now.rows in
    let seat = c.in-Some.seat.now in
    let others = c.in-Some.others.now in
    let at = c.in-Some-run.at in
    let state = c.after.result.now in
    let payload = c.payload.result.now in
    let split : c.args.seats.now ≡ seat ∷ others = c.in-Some.ensures.cases.0 in
    let served : IsServed rows seat = (subst (λ (ss : List Seat). AllByRecursion (IsServed rows) ss) split c.requires.served).0 in
    let both : Some served.at ≡ Some at = sym served.run ∙ c.in-Some-run.is in
    let one : served.at ≡ at = cc in
    let there : slice_get rows at ≡ Some served.row = subst (λ (i : ℕ). slice_get rows i ≡ Some served.row) one served.there in
    let is : IsMade rows at state payload = record {
      row = served.row;
      there = there;
      state_is = subst (λ (o : Option Row). IfSome o (λ r. state ≡ (g726.encoded r.triple.rate r.triple.state r.triple.mix).0)) there c.after.ensures;
      payload_is = subst (λ (o : Option Row). IfSome o (λ r. payload ≡ (g726.encoded r.triple.rate r.triple.state r.triple.mix).1)) there c.payload.ensures;
    } in
    let came = c.if-tick-mail.false in
    let stays = c.if-not-stays_after.false in
    subst (λ (ss : List Seat). Turns c.args.tick rows ss c.args.mail.now c.args.packets.now.items c.take_result.new.mail others c.take_result.new.packets.items) (sym split)
    (turns-there c.args.tick rows seat others c.args.mail.now c.take_result.new.mail c.args.packets.now.items c.take_result.new.packets.items at state payload
    came (sym c.stays_after.ensures ∙ stays) c.in-Some-run.is is c.take_result.ensures.mail c.take_result.ensures.packets)
