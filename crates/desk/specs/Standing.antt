-- For which events a desk stands.
use Rattle.std.specs.Prelude.{◌≡◌, ◌≢◌, ℕ, ◌-◌, ◌^◌, min, List, [], ◌∷◌, ◌++◌, Some, None}
use Rattle.std.specs.List.{AllByRecursion}
use Rattle.roster_text.specs.declared.commands.Talk.{Talk}
use Rattle.roster_text.specs.declared.commands.Command.{Command}
use Rattle.roster_text.specs.declared.commands.Command.TheVariants.{Join, Leave}
use Rattle.session_spec.specs.Talkers.{Events, Talker, begins, talkers}
use Rattle.session_spec.specs.Events.{refused}
use Rattle.desk.specs.Channels.{StandsFor, EachStands}
use Rattle.desk.specs.Kept.{Kept, members}
use Rattle.desk.specs.declared.channel.Channel.{Channel}

-- its channels are those of who talks after these events, and its count is that of their refusals; the count stands
-- still at its type's end
pub record Stands (desk : Kept) (h : Events) : Type 0 where
  pub lines : EachStands desk.channels (talkers h)
  pub count : desk.refused ≡ min (refused h) (2 ^ 64 - 1)

-- a member that joins to talk isn't talking yet
abbrev pub Admits : List Talker → Command → Type 0
Admits ts (Join member (Some talk) listen) = AllByRecursion (λ t. t.member ≢ member) ts
Admits ts (Join member None listen) = Unit {0}
Admits ts (Leave member) = Unit {0}

-- a desk that stands for some events after which the command may be applied
pub record MayApply (desk : Kept) (command : Command) : Type 0 where
  pub events : Events
  pub stands : Stands desk events
  pub admits : Admits (talkers events) command

-- no channel is of this member
abbrev pub IsFree : ℕ → List Channel → Type 0
IsFree member channels = AllByRecursion (λ n. n ≢ member) (members channels)

-- one more channel, of a member that begins to talk
pub record Seats (old new : Kept) (member : ℕ) (talk : Talk) : Type 0 where
  pub channel : Channel
  pub stands : StandsFor channel (begins member talk)
  pub channels : new.channels ≡ old.channels ++ channel ∷ []
  pub refused : new.refused ≡ old.refused

-- only a member that joins to talk needs memory
abbrev pub NeedsRoom : Command → Type 0
NeedsRoom (Join member (Some talk) listen) = Unit {0}
NeedsRoom (Join member None listen) = ⊥
NeedsRoom (Leave member) = ⊥
