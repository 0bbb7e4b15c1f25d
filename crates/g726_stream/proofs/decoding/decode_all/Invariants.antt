-- What is written so far with what is to come for the octets that are left is the whole.
use Rattle.std.proofs.Common.{◌≡◌, ◌*◌}
use Rattle.g726_bits.specs.Rates.{bits_of}
use Rattle.g726_stream.specs.Streams.{decoded}
use Rattle.g726_stream.proofs.Runs.{Going}
use Rattle.g726_stream.proofs.FrameSteps.{played}
use Rattle.g726_stream.proofs.decoding.decode_all.Given as goal

abbrev pub invariant-loop-number : goal.invariant-loop-number
invariant-loop-number g l = record {
  going : Going (20 * bits_of l.rate) (played l.rate) (decoded l.rate) (g.S.Source.rest l.fn.source)
      (g.K.Sink.held l.fn.sink) l.number l.state (g.S.Source.rest l.source) (g.K.Sink.held l.sink);
  read_steady : g.S.Source.faults l.source ≡ g.S.Source.faults l.fn.source;
  write_steady : g.K.Sink.faults l.sink ≡ g.K.Sink.faults l.fn.sink;
}
