-- The exit status that the program ends with.
use Rattle.std.specs.Prelude.{ℕ}
use Rattle.rooms_run.specs.declared.status.RoomsStatus.{RoomsStatus}
use Rattle.rooms_run.specs.declared.status.RoomsStatus.TheVariants.{Done, Usage, ListFault, ListLong, ReadFault, WriteFault, Memory}

abbrev pub exit_of : RoomsStatus → ℕ
exit_of Done = 0
exit_of Usage = 2
exit_of ReadFault = 6
exit_of WriteFault = 7
exit_of Memory = 8
exit_of (ListFault line) = 14
exit_of ListLong = 15
