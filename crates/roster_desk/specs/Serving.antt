-- For which events a roster's plan and its desk stand.
use Rattle.std.specs.Prelude.{ℕ, ◌+◌}
use Rattle.conference_spec.specs.Feed.{closes}
use Rattle.session_spec.specs.Talkers.{Events}
use Rattle.session_spec.specs.Events.{feed_of, commands_of}
use Rattle.desk.specs.Standing.{Stands}
use Rattle.roster_desk.specs.Applied.{HasApplied}
use Rattle.roster_desk.specs.Left.{Left}
use Rattle.roster_desk.specs.declared.serving.RosterDesk.{RosterDesk}

-- the desk stands for these events, the plan's commands up to a tick were applied, and those of that tick are next
pub record Serves (d : RosterDesk) (tick : ℕ) (h : Events) : Type 0 where
  pub stands : Stands d.desk h
  pub applied : HasApplied d.plan h
  pub left : Left d.plan tick (commands_of d.plan.timed tick)

-- after these events a tick begins, and its commands are next
abbrev pub Begins : RosterDesk → Events → Type 0
Begins d h = Serves d (closes (feed_of h)) h

-- after these events a tick runs whose commands were applied
abbrev pub Runs : RosterDesk → Events → Type 0
Runs d h = Serves d (closes (feed_of h) + 1) h
