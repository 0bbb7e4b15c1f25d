use Rattle.std.proofs.Common.{◌≡◌, ◌∙◌, List, ℕ, length, map, All, ap, subst}
use Rattle.std.specs.List.{AllZip}
use Rattle.edge_io.specs.Told.{Grows, GrowsByFront}
use Rattle.room_pool.specs.Named.{Named}
use Rattle.rooms_run.specs.declared.closing.Outcome.{Outcome}
use Rattle.rooms_run.specs.declared.ends.RoomEnd.{RoomEnd}
use Rattle.rooms_run.specs.CommandLine.{list_name}
use Rattle.rooms_run.specs.Ends.{given_to, end_of, text_of}
use Rattle.rooms_run.specs.Starting.{IfRoom}
use Rattle.rooms_run.specs.Outcomes.{CameFor}
use Rattle.rooms_run.proofs.Ending.{came-ends, came-put, listed-here, err-with}
use Rattle.rooms_run.proofs.Zips.{zip_long}
use Rattle.rooms_run.proofs.calls.work.Goals as goal

pub put_all-requires-clause-even : goal.put_all-requires-clause-even
put_all-requires-clause-even g c =
    ap (λ (os : List Outcome). length os) c.as_slice.ensures.value ∙ zip_long (CameFor (g.F.Shelf.file c.args.shelf.now)) c.in_ok-list.list c.in_ok-list.outcomes.items c.in_ok-list.ensures.came

pub returns-in_err-put_all-clause-fronts : goal.returns-in_err-put_all-clause-fronts
returns-in_err-put_all-clause-fronts g c =
    let name = list_name c.args.words.now in
    let file = g.F.Shelf.file c.args.shelf.now in
    let old = g.O.Outs.held c.args.outs.now in
    let new = g.O.Outs.held c.put_all.new.outs in
    err-with c.from_residual-in_err-put_all.result _ (λ status end.
    listed-here name file c.in_ok-list.list (λ list. All (λ (n : Named). IfRoom file n (λ text bytes. GrowsByFront (old n.out) (new n.out) (text_of (given_to text bytes)))) list)
    c.in_ok-list.ensures.listed
    (came-put file (λ (out octets : List ℕ). GrowsByFront (old out) (new out) octets) c.in_ok-list.list c.in_ok-list.outcomes.items c.in_ok-list.ensures.came
    (subst (λ (os : List Outcome). AllZip (λ (n : Named) (o : Outcome). GrowsByFront (old n.out) (new n.out) o.out.octets) c.in_ok-list.list os) c.as_slice.ensures.value c.in_err-put_all.ensures.fronts)))

pub returns-clause-ends : goal.returns-clause-ends
returns-clause-ends g c =
    let file = g.F.Shelf.file c.args.shelf.now in
    listed-here (list_name c.args.words.now) file c.in_ok-list.list
    (λ list. AllZip (λ (n : Named) (end : RoomEnd). IfRoom file n (λ text bytes. end ≡ end_of (given_to text bytes))) list (map (λ (o : Outcome). o.end) c.in_ok-list.outcomes.items))
    c.in_ok-list.ensures.listed (came-ends file c.in_ok-list.list c.in_ok-list.outcomes.items c.in_ok-list.ensures.came)

pub returns-clause-answers : goal.returns-clause-answers
returns-clause-answers g c =
    let file = g.F.Shelf.file c.args.shelf.now in
    let old = g.O.Outs.held c.args.outs.now in
    let new = g.O.Outs.held c.put_all.new.outs in
    listed-here (list_name c.args.words.now) file c.in_ok-list.list
    (λ list. All (λ (n : Named). IfRoom file n (λ text bytes. Grows (old n.out) (new n.out) (text_of (given_to text bytes)))) list)
    c.in_ok-list.ensures.listed
    (came-put file (λ (out octets : List ℕ). Grows (old out) (new out) octets) c.in_ok-list.list c.in_ok-list.outcomes.items c.in_ok-list.ensures.came
    (subst (λ (os : List Outcome). AllZip (λ (n : Named) (o : Outcome). Grows (old n.out) (new n.out) o.out.octets) c.in_ok-list.list os) c.as_slice.ensures.value c.in_ok-put_all.ensures.whole))
