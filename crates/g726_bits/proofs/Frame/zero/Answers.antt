-- Each of the 160 samples is 0.
use Rattle.std.proofs.Common.{pos, rules}
use Rattle.std.proofs.lemmas.List.Elements.{All-replicate}
use Rattle.g726_bits.specs.Ranges.{IsSample}
use Rattle.g726_bits.proofs.Frame.zero.Goals as goal

pub invariant_of-result : goal.invariant_of-result
invariant_of-result c = All-replicate IsSample 160 (pos 0) (record { at_least = search rules; at_most = search rules })
