use Rattle.tick_core.proofs.Seats.{rests_after-more}
use Rattle.tick_core.proofs.seating.seated.Goals as goal

pub loop-place-preserved : goal.loop-place-preserved
loop-place-preserved c =
    rests_after-more c.args.present.now c.loop-place.present c.loop-place.place c.index-present-place.result c.loop-place-test.true c.loop-place.invariant c.index-present-place.is
