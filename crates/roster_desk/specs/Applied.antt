-- The commands that were applied.
use Rattle.std.specs.Prelude.{◌≡◌, ◌≤◌, true, List, [], ◌∷◌, map, reverse, take, Some, None}
use Rattle.roster_text.specs.declared.commands.Command.{Command}
use Rattle.roster_text.specs.declared.commands.Command.TheVariants.{Join, Leave}
use Rattle.roster_text.specs.declared.commands.Timed.{Timed}
use Rattle.roster_text.specs.Ranges.{IsBundle}
use Rattle.conference_spec.specs.declared.Entry.TheVariants as enter
use Rattle.conference_spec.specs.Codec.{g726}
use Rattle.conference_spec.specs.Feed.{may_follow}
use Rattle.session_spec.specs.Talkers.{Events, Applies, Hears, Ticks, Cuts}
use Rattle.session_spec.specs.Events.{spec_of, feed_of}
use Rattle.roster_desk.specs.Left.{Planned}

-- the commands among events, the newest first
abbrev pub applied : Events → List Command
applied [] = []
applied (Applies c ∷ h) = c ∷ applied h
applied (Hears plen octets ∷ h) = applied h
applied (Ticks ∷ h) = applied h
applied (Cuts ∷ h) = applied h

-- the events applied just these commands of a roster, the newest first
abbrev pub Follow : Events → List Timed → Type 0
Follow h past = applied h ≡ map (λ (t : Timed). t.command) past

-- the events applied just the commands that a plan handed out
abbrev pub HasApplied : Planned → Events → Type 0
HasApplied plan h = Follow h (reverse (take plan.given plan.timed))

-- who comes to listen by this command may join the conference of these events, with packets of one to four ticks
abbrev pub MayListen : Events → Command → Type 0
MayListen h (Join member talk (Some listen)) =
    (listen.pt ≤ 127) × IsBundle listen.ticks × (may_follow g726 (feed_of h) (enter.Join (spec_of member listen)) ≡ true)
MayListen h (Join member talk None) = Unit {0}
MayListen h (Leave member) = Unit {0}
