-- The exit status that the program ends with.
use Rattle.std.specs.Prelude.{ℕ}
use Rattle.g726_stream.specs.declared.status.Status.{Status}
use Rattle.g726_stream.specs.declared.status.Status.TheVariants.{Done, Usage, ReadFault, WriteFault, Memory, OddOctet, TornFrame}

abbrev pub exit_of : Status → ℕ
exit_of Done = 0
exit_of Usage = 2
exit_of ReadFault = 6
exit_of WriteFault = 7
exit_of Memory = 8
exit_of (OddOctet at) = 20
exit_of (TornFrame at) = 21
