-- What the laws of sessions speak of.
use Rattle.std.specs.Prelude.{ℕ, Bool, true, false, ◌&&◌, ◌||◌, ◌==◌, List, [], ◌∷◌, filter, is_some}
use Rattle.roster_text.specs.declared.commands.Command.{Command}
use Rattle.roster_text.specs.declared.commands.Command.TheVariants.{Join, Leave}
use Rattle.roster_text.specs.declared.commands.Timed.{Timed}
use Rattle.talk_mix.specs.declared.ticks.Tick.{Tick}
use Rattle.conference_spec.specs.declared.Packet.{Packet}
use Rattle.conference_spec.specs.declared.Entry.TheVariants.{Close}
use Rattle.conference_spec.specs.Feed.{Feed}
use Rattle.session_spec.specs.Talkers.{Event, Cuts, Events}

-- the talkers that each tick was closed with, the newest tick first
abbrev pub ticks_of : Feed → List Tick
ticks_of [] = []
ticks_of (Close tick ∷ h) = tick ∷ ticks_of h
ticks_of (e ∷ h) = ticks_of h

-- the command is the join of this member, as a talker
abbrev pub joins_to_talk : ℕ → Command → Bool
joins_to_talk member (Join other talk listen) = (other == member) && is_some talk
joins_to_talk member (Leave other) = false

-- the member joins as a talker
abbrev pub is_talker : List Timed → ℕ → Bool
is_talker [] member = false
is_talker (c ∷ cs) member = joins_to_talk member c.command || is_talker cs member

-- the command is one of a talker
abbrev pub is_of_talker : List Timed → Command → Bool
is_of_talker plan (Join member talk listen) = is_some talk
is_of_talker plan (Leave member) = is_talker plan member

-- the commands without those of members that only listen
abbrev pub of_talkers : List Timed → List Timed
of_talkers plan = filter (λ c. is_of_talker plan c.command) plan

-- the event isn't a cut
abbrev pub is_no_cut : Event → Bool
is_no_cut Cuts = false
is_no_cut e = true

-- the events without the cuts among them
abbrev pub without_cuts : Events → Events
without_cuts h = filter is_no_cut h

-- the packets of one member
abbrev pub packets_to : ℕ → List Packet → List Packet
packets_to member packets = filter (λ p. p.member == member) packets
