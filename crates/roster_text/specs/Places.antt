-- Whether a command may stand where it stands, by the commands before it. Those are listed from the newest.
use Rattle.std.specs.Prelude.{ℕ, Bool, false, ◌==◌, ◌||◌, nat_lt, nat_le, if◌then◌else◌, List, [], ◌∷◌, length, Option, None, Some}
use Rattle.roster_text.specs.declared.commands.Talk.{Talk}
use Rattle.roster_text.specs.declared.commands.Listen.{Listen}
use Rattle.roster_text.specs.declared.commands.Command.{Command}
use Rattle.roster_text.specs.declared.commands.Command.TheVariants.{Join, Leave}
use Rattle.roster_text.specs.declared.commands.Timed.{Timed}
use Rattle.roster_text.specs.declared.entry.Entry.{Entry}
use Rattle.roster_text.specs.declared.entry.Entry.TheVariants.{Says, Ends}
use Rattle.roster_text.specs.declared.seat.Seat.{Seat}
use Rattle.roster_text.specs.declared.faults.RosterKind.{RosterKind}
use Rattle.roster_text.specs.declared.faults.RosterKind.TheVariants as kinds

-- the SSRC that a member sends with
abbrev pub talks_on : Option Talk → Option ℕ
talks_on None = None
talks_on (Some talk) = Some talk.ssrc

-- the SSRC that a member gets its packets with
abbrev pub listens_on : Option Listen → Option ℕ
listens_on None = None
listens_on (Some listen) = Some listen.ssrc

-- something is there, and it is this number
abbrev pub is_number : ℕ → Option ℕ → Bool
is_number q None = false
is_number q (Some n) = n == q

-- something is there, and it passes the test
abbrev pub passes : (ℕ → Bool) → Option ℕ → Bool
passes test None = false
passes test (Some n) = test n

-- one of the seats has this number, where each has such a number or none
abbrev pub has : (Seat → Option ℕ) → ℕ → List Seat → Bool
has number q [] = false
has number q (s ∷ seats) = is_number q (number s) || has number q seats

-- a member sits here; talks with this SSRC; listens with this SSRC
abbrev pub is_here : ℕ → List Seat → Bool
is_here q seats = has (λ s. Some s.member) q seats

abbrev pub talking : ℕ → List Seat → Bool
talking q seats = has (λ s. s.talk) q seats

abbrev pub listening : ℕ → List Seat → Bool
listening q seats = has (λ s. s.listen) q seats

-- the seats without that of a member
abbrev pub without : ℕ → List Seat → List Seat
without m [] = []
without m (s ∷ seats) = if s.member == m then without m seats else s ∷ without m seats

abbrev pub after : Command → List Seat → List Seat
after (Join m talk listen) seats = record { member = m; talk = talks_on talk; listen = listens_on listen } ∷ seats
after (Leave m) seats = without m seats

-- the seats of the members that are present after these commands
abbrev pub present : List Timed → List Seat
present [] = []
present (t ∷ past) = after t.command (present past)

abbrev pub is_join_of : ℕ → Command → Bool
is_join_of q (Join m talk listen) = m == q
is_join_of q (Leave m) = false

-- the member joined, and may have left since
abbrev pub joined : ℕ → List Timed → Bool
joined q [] = false
joined q (t ∷ past) = is_join_of q t.command || joined q past

-- the time of the newest command
abbrev pub latest : List Timed → ℕ
latest [] = 0
latest (t ∷ past) = t.at

-- the most members that are present at a time
abbrev pub most_members : ℕ
most_members = 1024

-- the greatest TIME of an end, 24 hours
abbrev pub latest_end : ℕ
latest_end = 86400000

-- what is wrong with a command after these
abbrev pub misplaced : List Timed → Command → Option RosterKind
misplaced past (Join m talk listen) =
    if joined m past then Some kinds.Used
    else if passes (λ n. talking n (present past)) (talks_on talk) || passes (λ n. listening n (present past)) (listens_on listen)
    then Some kinds.SsrcTaken
    else if nat_le most_members (length (present past)) then Some kinds.Full
    else None
misplaced past (Leave m) = if is_here m (present past) then None else Some kinds.Absent

-- what is wrong with a line after these commands
abbrev pub place_fault : List Timed → Entry → Option RosterKind
place_fault past (Says t) = if nat_lt t.at (latest past) then Some kinds.Back else misplaced past t.command
place_fault past (Ends at) =
    if nat_lt at (latest past) then Some kinds.Back
    else if nat_lt latest_end at then Some kinds.TicksOver
    else None
