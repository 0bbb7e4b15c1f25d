-- In which ranges the payload types and bundles of a roster are.
use Rattle.std.specs.Prelude.{ℕ, ◌≤◌, List, Option, None, Some}
use Rattle.std.specs.List.{AllByRecursion}
use Rattle.roster_text.specs.declared.commands.Law.{Law}
use Rattle.roster_text.specs.declared.commands.Law.TheVariants.{Mu, A, G726}
use Rattle.roster_text.specs.declared.commands.Talk.{Talk}
use Rattle.roster_text.specs.declared.commands.Listen.{Listen}
use Rattle.roster_text.specs.declared.commands.Command.{Command}
use Rattle.roster_text.specs.declared.commands.Command.TheVariants.{Join, Leave}
use Rattle.roster_text.specs.declared.commands.Timed.{Timed}

-- a payload type that a roster tells: one of the dynamic ones of RFC 3551
abbrev pub IsOwnType : ℕ → Type 0
IsOwnType pt = (96 ≤ pt) × (pt ≤ 127)

-- a number of ticks that a packet may carry
abbrev pub IsBundle : ℕ → Type 0
IsBundle ticks = (1 ≤ ticks) × (ticks ≤ 4)

abbrev pub LawInRange : Law → Type 0
LawInRange Mu = Unit {0}
LawInRange A = Unit {0}
LawInRange (G726 rate pt) = IsOwnType pt

abbrev pub TalksInRange : Option Talk → Type 0
TalksInRange None = Unit {0}
TalksInRange (Some talk) = LawInRange talk.law

abbrev pub ListensInRange : Option Listen → Type 0
ListensInRange None = Unit {0}
ListensInRange (Some listen) = IsOwnType listen.pt × IsBundle listen.ticks

abbrev pub IsInRange : Command → Type 0
IsInRange (Join member talk listen) = TalksInRange talk × ListensInRange listen
IsInRange (Leave member) = Unit {0}

-- each join's payload types and its bundle are in range
abbrev pub AreInRange : List Timed → Type 0
AreInRange timed = AllByRecursion (λ t. IsInRange t.command) timed
