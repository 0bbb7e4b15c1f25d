use Rattle.std.proofs.Common.{◌≡◌, ◌≤◌, ◌+◌, ◌*◌, true}
use Rattle.session_spec.specs.Talkers.{Events}
use Rattle.session_spec.specs.Events.{after_records}
use Rattle.live_link.specs.Rounds.{speech}
use Rattle.live_link.proofs.Hearing.{SoFar}
use Rattle.live_link.proofs.listening.listen.Given as goal

abbrev pub invariant-rounds : goal.invariant-rounds
invariant-rounds g l = record {
  opened : g.L.Link.is_open l.link ≡ true;
  plan : g.D.DeskSide.plan l.desk ≡ g.D.DeskSide.plan l.fn.desk;
  few : l.controls.heard + l.controls.refused ≤ 65536 * l.tick + l._round;
  so : SoFar (g.L.Link.traffic l.fn.link) (g.L.Link.traffic l.link) (g.C.Clock.answers l.fn.clock) (g.C.Clock.answers l.clock) l.tick l.start l._round l.fn.controls l.controls
      (λ ds. (h : Events) → g.D.DeskSide.stands l.fn.desk h → g.D.DeskSide.stands l.desk (after_records (speech l.tick ds) h));
}
