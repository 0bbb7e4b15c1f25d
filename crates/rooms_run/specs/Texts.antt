-- The lines that are written to the error stream. Numbers are in decimal without leading zeros.
use Rattle.std.specs.Prelude.{ℕ, ◌+◌, ◌++◌, List, [], ◌∷◌, codes, decimal}
use Rattle.session_edge.specs.Texts.{summary_line, roster_fault_line, roster_long_line, dump_fault_line, read_failed_line, write_failed_line, memory_line}
use Rattle.rooms_run.specs.declared.ends.RoomEnd.{RoomEnd}
use Rattle.rooms_run.specs.declared.ends.RoomEnd.TheVariants.{Done, RosterBad, RosterLong, DumpLong, Dump}
use Rattle.rooms_run.specs.declared.status.RoomsStatus.{RoomsStatus}
use Rattle.rooms_run.specs.declared.status.RoomsStatus.TheVariants as status

-- how a room ended
abbrev pub end_line : RoomEnd → List ℕ
end_line (Done summary) = summary_line summary
end_line (RosterBad line kind) = roster_fault_line line kind
end_line RosterLong = roster_long_line
end_line DumpLong = codes "dump longer than 67108864 octets\n"
end_line (Dump at kind) = dump_fault_line at kind

-- the line of the room of this number
abbrev pub room_line : ℕ → RoomEnd → List ℕ
room_line n end = (codes "room " ++ decimal n ++ codes " ") ++ end_line end

-- the lines of rooms, of which the first has this number
abbrev pub rooms_text : ℕ → List RoomEnd → List ℕ
rooms_text n [] = []
rooms_text n (end ∷ ends) = room_line n end ++ rooms_text (n + 1) ends

-- the line of each status but Done
abbrev pub line_of : RoomsStatus → List ℕ
line_of status.Done = []
line_of status.Usage = codes "usage: rooms N LIST\n"
line_of (status.ListFault line) = codes "list line " ++ decimal line ++ codes "\n"
line_of status.ListLong = codes "list longer than 65536 octets\n"
line_of status.ReadFault = read_failed_line
line_of status.WriteFault = write_failed_line
line_of status.Memory = memory_line
