-- Which commands of a tick are still to be handed out.
use Rattle.std.specs.Prelude.{◌≡◌, ℕ, ◌+◌, ◌<◌, List, ◌∷◌, filter, take, drop, nat_lt}
use Rattle.std.specs.List.{AllByRecursion}
use Rattle.roster_text.specs.declared.commands.Command.{Command}
use Rattle.roster_text.specs.declared.commands.Timed.{Timed}
use Rattle.session_spec.specs.Events.{begin_of}

-- a roster's commands, and how many of them were handed out
pub record Planned : Type 0 where
  pub timed : List Timed
  pub given : ℕ

-- these are the commands of a tick that weren't handed out yet, and no later one was
pub record Left (plan : Planned) (tick : ℕ) (cs : List Timed) : Type 0 where
  pub due : cs ≡ filter (λ c. nat_lt c.at (begin_of (tick + 1))) (drop plan.given plan.timed)
  pub past : AllByRecursion (λ c. c.at < begin_of (tick + 1)) (take plan.given plan.timed)

-- the first of these commands was handed out, and the others are left
pub record Gives (new : Planned) (tick : ℕ) (cs : List Timed) (command : Command) : Type 0 where
  pub first : Timed
  pub others : List Timed
  pub is : cs ≡ first ∷ others
  pub command_is : first.command ≡ command
  pub left : Left new tick others
