-- What a room comes to: how it ends, and what its output then holds more.
use Rattle.std.specs.Prelude.{ℕ, nat_lt, if◌then◌else◌, List, [], length, Option, None, Some, Result, Ok, Err}
use Rattle.std.specs.Option.{option_or, option_map}
use Rattle.roster_text.specs.Roster.{Told, roster, ticks_of}
use Rattle.roster_text.specs.Roster.{Fault as BadLine}
use Rattle.rtp_dump.specs.Spelling.{Fault}
use Rattle.rtp_dump.specs.Capture.{capture}
use Rattle.conference_spec.specs.Codec.{g726}
use Rattle.session_spec.specs.Captured.{met, head_fault}
use Rattle.session_spec.specs.Answer.{summary_of, written}
use Rattle.desk_run.specs.Whole.{Given}
use Rattle.rooms_run.specs.declared.ends.RoomEnd.{RoomEnd}
use Rattle.rooms_run.specs.declared.ends.RoomEnd.TheVariants.{Done, RosterBad, RosterLong, DumpLong, Dump}

-- the fault that a session meets: in the line or the file head of its capture, or among the records that it needs
abbrev pub fault_met : Given → Option Fault
fault_met given =
    option_or (head_fault given.bytes) (option_map (λ m. m.fault) (met given.ticks (capture given.bytes)))

-- the end of a session that meets this fault, or none
abbrev pub end_at : Given → Option Fault → RoomEnd
end_at given None = Done (summary_of g726 given.plan given.ticks (capture given.bytes))
end_at given (Some fault) = Dump fault.at fault.kind

-- what a roster and a capture give a session, or the end of a room that has none
abbrev pub given_by : Result Told BadLine → List ℕ → Result Given RoomEnd
given_by (Err fault) bytes = Err (RosterBad fault.line fault.kind)
given_by (Ok told) bytes =
    if nat_lt 67108864 (length bytes) then Err DumpLong
    else Ok (record { plan = told.timed; ticks = ticks_of told.end; bytes = bytes })

abbrev pub given_to : List ℕ → List ℕ → Result Given RoomEnd
given_to text bytes = if nat_lt 1048576 (length text) then Err RosterLong else given_by (roster text) bytes

-- how it ends
abbrev pub end_of : Result Given RoomEnd → RoomEnd
end_of (Err end) = end
end_of (Ok given) = end_at given (fault_met given)

-- and what its output holds more: all that its session can write, which is the whole answer, or the answer up to the tick that meets
-- the fault; without a session nothing
abbrev pub text_of : Result Given RoomEnd → List ℕ
text_of (Err end) = []
text_of (Ok given) = written g726 given.plan given.ticks given.bytes
