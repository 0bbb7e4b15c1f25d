use Rattle.std.proofs.Common.{◌≡◌, ℕ, length}
use Rattle.conference_spec.specs.Feed.{Feed, closes}
use Rattle.session_spec.specs.Talkers.{Events}
use Rattle.session_spec.specs.Events.{feed_of, commands_of, after_cut}
use Rattle.roster_desk.specs.Serving.{Begins}
use Rattle.roster_desk.proofs.Going.{Going, left_of}
use Rattle.roster_desk.proofs.serving.RosterDeskDeskSide.commands.Given as goal

abbrev pub invariant-commands : goal.invariant-commands
invariant-commands g l = record {
  same : l.self.plan.timed ≡ l.fn.self.plan.timed;
  post : g.A.Audience.post l.audience ≡ g.A.Audience.post l.fn.audience;
  going : (h : Events) (n : ℕ) → Begins l.fn.self h → closes (feed_of h) ≡ l.tick → g.A.Audience.stands l.fn.audience (feed_of (after_cut l.tick h)) n
      → Going (λ (f : Feed). g.A.Audience.stands l.audience f n) l.self l.tick (commands_of l.fn.self.plan.timed l.tick) (after_cut l.tick h);
}

abbrev pub decreases-commands : goal.decreases-commands
decreases-commands g l = length (left_of l.self.plan l.tick)
