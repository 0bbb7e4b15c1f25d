use Rattle.std.proofs.Common.{◌≡◌, ◌≤◌, ◌+◌, ◌*◌, length, true}
use Rattle.session_spec.specs.Talkers.{Events}
use Rattle.udp_edge.specs.Known.{peer_at}
use Rattle.live_run.specs.Standing.{StandsTallied}
use Rattle.live_run.specs.Running.{Between}
use Rattle.live_run.proofs.live.run_ticks.Given as goal

abbrev pub invariant-loop-tick : goal.invariant-loop-tick
invariant-loop-tick g l = record {
  opened : g.L.Link.is_open l.link ≡ true;
  room : length l.ears.buf.items ≡ 65527;
  few : l.ears.controls.heard + l.ears.controls.refused ≤ 65536 * l.tick;
  start : l.ears.start ≡ l.fn.ears.start;
  plan : g.D.DeskSide.plan l.desk ≡ g.D.DeskSide.plan l.fn.desk;
  between : (h : Events) × Between (λ e. g.D.DeskSide.begins l.desk e)
      (λ f n. StandsTallied (λ x m. g.C.Audience.stands l.tallied.conference x m) l.tallied.tallies l.tallied.closed f n)
      (peer_at l.peers) (g.D.DeskSide.plan l.fn.desk) l.fn.ears.start
      (record { traffic = g.L.Link.traffic l.fn.link; answers = g.K.Clock.answers l.fn.clock })
      (record { traffic = g.L.Link.traffic l.link; answers = g.K.Clock.answers l.clock }) l.ears.controls l.sums l.tick h;
}
