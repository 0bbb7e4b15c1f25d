use Rattle.std.proofs.Common.{◌≡◌, ◌∙◌, ℕ, List, [], ◌∷◌, ◌++◌, take, subst, arith}
use Rattle.std.specs.List.{AllZip}
use Rattle.std.proofs.lemmas.List.{take_all}
use Rattle.room_pool.specs.Named.{Named}
use Rattle.rooms_run.specs.declared.start.Start.{Start}
use Rattle.rooms_run.specs.Ends.{given_to}
use Rattle.rooms_run.specs.Starting.{start_gives, IfRoom}
use Rattle.rooms_run.proofs.Ending.{room-moved}
use Rattle.rooms_run.proofs.Zips.{zip_more}
use Rattle.rooms_run.proofs.taking.take_rooms.Goals as goal

pub loop-i-preserved : goal.loop-i-preserved
loop-i-preserved g c =
    let was = c.loop-i.invariant in
    let file = g.F.Shelf.file c.args.shelf.now in
    let told : IfRoom file c.room.result.now (λ text bytes. start_gives c.in_ok-start.start ≡ given_to text bytes) =
    room-moved (g.F.Shelf.file c.loop-i.shelf) file was.same c.room.result.now (λ text bytes. start_gives c.in_ok-start.start ≡ given_to text bytes) c.in_ok-start.ensures.gives in
    record {
      gives = rw c.in-Ok.ensures.items
          (zip_more (λ (n : Named) (start : Start). IfRoom file n (λ text bytes. start_gives start ≡ given_to text bytes)) c.args.list.now c.loop-i.starts.items c.loop-i.i
          c.room.result.now c.in_ok-start.start c.room.ensures was.gives told);
      same = λ other. c.take_room.ensures.same other ∙ was.same other;
      counts = c.in_ok-start.ensures.counts ∙ was.counts;
    }

pub returns-clause-gives : goal.returns-clause-gives
returns-clause-gives g c =
    let file = g.F.Shelf.file c.args.shelf.now in
    subst (λ (list : List Named). AllZip (λ (n : Named) (start : Start). IfRoom file n (λ text bytes. start_gives start ≡ given_to text bytes)) list c.loop-i.starts.items)
    (take_all c.loop-i.i c.args.list.now (omega (arith, c.loop-i-test.false, c.len-i-end.ensures))) c.loop-i.invariant.gives
