-- The codes so far were followed, one step each, and their samples put down.
use Rattle.std.specs.Prelude.{◌≡◌}
use Rattle.g726_codec.specs.Joined.{joined}
use Rattle.g726_codec.proofs.Decoding.{Heard}
use Rattle.g726_codec.proofs.decoder.follow_at.Given as goal

abbrev pub invariant-loop-i : goal.invariant-loop-i
invariant-loop-i l = record {
  heard : Heard l.rate l.fn.before l.codes l.i (joined l.predictor l.scale) l.samples;
  counted : l.predictor.steps ≡ l.i;
}
