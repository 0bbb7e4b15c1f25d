use Rattle.std.proofs.Common.{◌∙◌}
use Rattle.udp_edge.specs.Known.{peer_at}
use Rattle.desk_run.proofs.Results.{on-err}
use Rattle.live_run.specs.Standing.{StandsTallied}
use Rattle.live_run.proofs.Closing.{goes-on, fails-ticks}
use Rattle.live_run.proofs.live.run_ticks.Goals as goal

pub loop-tick-preserved : goal.loop-tick-preserved
loop-tick-preserved g c =
    let was = c.loop-tick.invariant in
    let e = c.in_ok-run_tick.ensures in
    record {
      opened = e.opened;
      room = e.room;
      few = e.few;
      start = e.start ∙ was.start;
      plan = e.plan ∙ was.plan;
      between =
          goes-on (λ h. g.D.DeskSide.begins c.loop-tick.desk h)
          (λ f n. StandsTallied (λ x m. g.C.Audience.stands c.loop-tick.tallied.conference x m) c.loop-tick.tallied.tallies c.loop-tick.tallied.closed f n)
          (peer_at c.args.peers.now) (g.D.DeskSide.plan c.args.desk.now) _ c.args.ears.now.start _ _ _ _ _ c.loop-tick.tick was.plan was.start
          (λ h. g.D.DeskSide.begins c.run_tick.new.desk h)
          (λ f n. StandsTallied (λ x m. g.C.Audience.stands c.run_tick.new.tallied.conference x m) c.run_tick.new.tallied.tallies
          c.run_tick.new.tallied.closed f n)
          _ _ _ e.ran was.between;
    }

pub returns-in_err-run_tick-clause-failed : goal.returns-in_err-run_tick-clause-failed
returns-in_err-run_tick-clause-failed g c =
    let was = c.loop-tick.invariant in
    on-err c.from_residual.result _
    (fails-ticks (λ h. g.D.DeskSide.begins c.loop-tick.desk h)
    (λ f n. StandsTallied (λ x m. g.C.Audience.stands c.loop-tick.tallied.conference x m) c.loop-tick.tallied.tallies c.loop-tick.tallied.closed f n)
    (peer_at c.args.peers.now) (g.D.DeskSide.plan c.args.desk.now) _ c.args.ears.now.start _ _ _ _ _ c.loop-tick.tick was.plan was.start
    c.args.ticks _ c.loop-tick-test.true c.in_err-run_tick.ensures.failed was.between)
