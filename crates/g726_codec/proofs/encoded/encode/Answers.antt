-- The run's codes are small, and the state and the payload are the run's.
use Rattle.std.proofs.Common.{◌∙◌, ap, subst, sym, ◌<◌, ◌^◌}
use Rattle.std.specs.List.{All}
use Rattle.g726_bits.specs.Rates.{bits_of}
use Rattle.g726_bits.specs.Packing.{packed}
use Rattle.g726_bits.specs.Encoder.{codes_of, after_samples, payload_of}
use Rattle.g726_bits.proofs.CodeRanges.{codes_small}
use Rattle.g726_codec.proofs.encoded.encode.Goals as goal

pub pack-requires : goal.pack-requires
pack-requires c =
    subst (All (λ code. code < 2 ^ bits_of c.args.rate)) (sym c.run-after.ensures.codes) (codes_small c.args.rate c.args.state c.samples.result.now)

pub invariant_of-result : goal.invariant_of-result
unfolding payload_of
invariant_of-result c = (
  c.run-after.ensures.state ∙ ap (after_samples c.args.rate c.args.state) c.samples.ensures.value,
  c.pack.ensures.value ∙ ap (packed c.args.rate) (c.run-after.ensures.codes ∙ ap (codes_of c.args.rate c.args.state) c.samples.ensures.value),
)
