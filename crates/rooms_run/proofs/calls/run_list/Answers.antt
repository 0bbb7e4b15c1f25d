use Rattle.std.proofs.Common.{◌≡◌, ◌<◌, ◌+◌, length, arith}
use Rattle.room_pool.specs.Named.{Named}
use Rattle.rooms_run.specs.declared.start.Start.{Start}
use Rattle.rooms_run.specs.Ends.{given_to}
use Rattle.rooms_run.specs.Starting.{start_gives, IfRoom}
use Rattle.rooms_run.proofs.Ending.{came-for, gives-moved}
use Rattle.rooms_run.proofs.Zips.{zip_long}
use Rattle.rooms_run.proofs.calls.run_list.Goals as goal

pub run_all-requires-clause-some : goal.run_all-requires-clause-some
run_all-requires-clause-some g c =
    let file = g.F.Shelf.file c.take_list.new.shelf in
    let long : length c.in_ok-starts.starts.items ≡ length c.in_ok-workers.list =
    zip_long (λ (n : Named) (start : Start). IfRoom file n (λ text bytes. start_gives start ≡ given_to text bytes)) c.in_ok-workers.list c.in_ok-starts.starts.items c.in_ok-starts.ensures.gives in
    omega (arith, long, c.in_ok-workers.ensures.kept.1, c.in_ok-starts.starts.ok.0)

pub returns-clause-came : goal.returns-clause-came
returns-clause-came g c =
    came-for (g.F.Shelf.file c.args.shelf.now) c.in_ok-workers.list c.in_ok-starts.starts.items c.in_ok-outcomes.outcomes.items
    (gives-moved (g.F.Shelf.file c.take_list.new.shelf) (g.F.Shelf.file c.args.shelf.now) c.take_list.ensures.same c.in_ok-workers.list c.in_ok-starts.starts.items c.in_ok-starts.ensures.gives)
    c.in_ok-outcomes.ensures.comes
