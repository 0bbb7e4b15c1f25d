-- A session's events, tick by tick, and what they make: the feed of a conference, and the arrivals that are refused.
use Rattle.std.specs.Prelude.{ℕ, zero, suc, ◌+◌, ◌*◌, ◌%◌, Bool, false, not, ◌&&◌, ◌||◌, ◌==◌, nat_lt, nat_le, if◌then◌else◌, List, [], ◌∷◌, ◌++◌, filter, Some, None, is_some}
use Rattle.roster_text.specs.declared.commands.Listen.{Listen}
use Rattle.roster_text.specs.declared.commands.Command.{Command}
use Rattle.roster_text.specs.declared.commands.Command.TheVariants as command
use Rattle.roster_text.specs.declared.commands.Timed.{Timed}
use Rattle.rtp_dump.specs.declared.item.DumpItem.{DumpItem}
use Rattle.conference_spec.specs.declared.JoinSpec.{JoinSpec}
use Rattle.conference_spec.specs.declared.Entry.TheVariants.{Join, Leave, Close, Collect, Cut}
use Rattle.conference_spec.specs.Feed.{Feed}
use Rattle.session_spec.specs.Talkers.{Applies, Hears, Ticks, Cuts, Events, talkers, heard_now, arrival, is_accepted}

-- what a member that listens asks for
abbrev pub spec_of : ℕ → Listen → JoinSpec
spec_of member listen = record {
  member = member;
  rate = listen.rate;
  pt = listen.pt;
  ssrc = listen.ssrc;
  first_seq = listen.first_seq;
  first_stamp = listen.first_stamp;
  ticks = listen.ticks;
}

-- the member came to listen and hasn't left
abbrev pub listens : ℕ → Events → Bool
listens member [] = false
listens member (Applies (command.Join other talk listen) ∷ h) = (other == member) && is_some listen || listens member h
listens member (Applies (command.Leave other) ∷ h) = not (other == member) && listens member h
listens member (Hears plen octets ∷ h) = listens member h
listens member (Ticks ∷ h) = listens member h
listens member (Cuts ∷ h) = listens member h

-- what a command does to the conference after these events: a listener joins or leaves
abbrev pub entries : Command → Events → Feed
entries (command.Join member talk None) h = []
entries (command.Join member talk (Some listen)) h = Join (spec_of member listen) ∷ []
entries (command.Leave member) h = if listens member h then Leave member ∷ [] else []

-- the conference's feed: each tick is closed with those who are heard, and collected; and a cut is a cut
abbrev pub feed_of : Events → Feed
feed_of [] = []
feed_of (Applies c ∷ h) = entries c h ++ feed_of h
feed_of (Hears plen octets ∷ h) = feed_of h
feed_of (Ticks ∷ h) = Collect ∷ Close (heard_now h) ∷ feed_of h
feed_of (Cuts ∷ h) = Cut ∷ feed_of h

-- how many arrivals weren't accepted
abbrev pub refused : Events → ℕ
refused [] = 0
refused (Hears plen octets ∷ h) = if is_accepted (arrival (talkers h) plen octets) then refused h else refused h + 1
refused (Applies c ∷ h) = refused h
refused (Ticks ∷ h) = refused h
refused (Cuts ∷ h) = refused h

-- when tick k begins, in milliseconds
abbrev pub begin_of : ℕ → ℕ
begin_of k = 20 * k

-- the commands of tick k
abbrev pub commands_of : List Timed → ℕ → List Timed
commands_of plan k = filter (λ c. nat_le (begin_of k) c.at && nat_lt c.at (begin_of (k + 1))) plan

abbrev pub after_commands : List Timed → Events → Events
after_commands [] h = h
after_commands (c ∷ cs) h = after_commands cs (Applies c.command ∷ h)

-- a packet of RTCP, whose length on the wire stands as 0, isn't looked at
abbrev pub after_record : DumpItem → Events → Events
after_record item h = if nat_lt 0 item.plen then Hears item.plen item.octets ∷ h else h

abbrev pub after_records : List DumpItem → Events → Events
after_records [] h = h
after_records (i ∷ is) h = after_records is (after_record i h)

-- tick k begins with a cut, before its commands: after each 9,000 ticks where one more follows
abbrev pub begins_with_cut : ℕ → Bool
begins_with_cut k = nat_lt 0 k && (k % 9000 == 0)

-- the cut that tick k begins with, if it does
abbrev pub after_cut : ℕ → Events → Events
after_cut k h = if begins_with_cut k then Cuts ∷ h else h

-- how many of the ticks before tick k were closed since the last cut
abbrev pub kept_before : ℕ → ℕ
kept_before zero = 0
kept_before (suc k) = k % 9000 + 1

-- tick k, in which these are heard, after these events
abbrev pub after_tick : List Timed → ℕ → List DumpItem → Events → Events
after_tick plan k items h = Ticks ∷ after_records items (after_commands (commands_of plan k) (after_cut k h))

-- the events of the first ticks, where this is heard in each
abbrev pub events : List Timed → (ℕ → List DumpItem) → ℕ → Events
events plan heard zero = []
events plan heard (suc k) = after_tick plan k (heard k) (events plan heard k)
