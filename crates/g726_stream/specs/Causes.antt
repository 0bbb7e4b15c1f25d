-- The status that each fault below ends in, and the statuses that each step can end in.
use Rattle.edge_io.specs.declared.faults.PutFault.{PutFault}
use Rattle.edge_io.specs.declared.faults.PutFault.TheVariants as put
use Rattle.program_edge.specs.declared.words.WordsFault.{WordsFault}
use Rattle.program_edge.specs.declared.words.WordsFault.TheVariants as words
use Rattle.g726_stream.specs.declared.asked.Way.{Way}
use Rattle.g726_stream.specs.declared.asked.Way.TheVariants.{Encode, Decode}
use Rattle.g726_stream.specs.declared.status.Status.{Status}
use Rattle.g726_stream.specs.declared.status.Status.TheVariants.{Done, Usage, ReadFault, WriteFault, Memory, OddOctet, TornFrame}

abbrev pub of_words : WordsFault → Status
of_words words.Usage = Usage
of_words words.Memory = Memory

abbrev pub of_put : PutFault → Status
of_put put.Failed = WriteFault
of_put put.Memory = Memory

-- the ends of a stream that was cut short
abbrev pub IsCallEnd : Status → Type 0
IsCallEnd ReadFault = Unit {0}
IsCallEnd WriteFault = Unit {0}
IsCallEnd Memory = Unit {0}
IsCallEnd status = ⊥

-- the ends of writing
abbrev pub IsOutputEnd : Status → Type 0
IsOutputEnd WriteFault = Unit {0}
IsOutputEnd Memory = Unit {0}
IsOutputEnd status = ⊥

-- how samples can end, and how codes can, where they were read whole
abbrev pub CanEnd : Way → Status → Type 0
CanEnd Encode Done = Unit {0}
CanEnd Encode (OddOctet at) = Unit {0}
CanEnd Decode Done = Unit {0}
CanEnd Decode (TornFrame at) = Unit {0}
CanEnd way status = ⊥

-- the ends of a stream that was read whole
abbrev pub IsInputEnd : Status → Type 0
IsInputEnd Done = Unit {0}
IsInputEnd (OddOctet at) = Unit {0}
IsInputEnd (TornFrame at) = Unit {0}
IsInputEnd status = ⊥
