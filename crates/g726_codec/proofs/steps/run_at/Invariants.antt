-- The samples so far were coded, one step each, and led to the state.
use Rattle.std.specs.Prelude.{◌≡◌}
use Rattle.g726_codec.specs.Joined.{joined}
use Rattle.g726_codec.proofs.Parts.{Ran}
use Rattle.g726_codec.proofs.steps.run_at.Given as goal

abbrev pub invariant-loop-i : goal.invariant-loop-i
invariant-loop-i l = record {
  ran : Ran l.rate l.fn.before l.samples l.i (joined l.predictor l.scale) l.codes;
  counted : l.predictor.steps ≡ l.i;
}
