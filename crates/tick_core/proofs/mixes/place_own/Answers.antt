use Rattle.tick_core.proofs.Hearing.{placed-as}
use Rattle.tick_core.proofs.mixes.place_own.Goals as goal

pub returns-clause-places : goal.returns-clause-places
returns-clause-places c =
    placed-as c.args.number c.args.spec.now.rate c.args.state.now c.mix-own.result _ c.args.table.now.rows c.args.queue.now c.place.new.table.rows c.place.new.self c.place.result
    c.mix-own.ensures.mixed c.place.ensures.places
