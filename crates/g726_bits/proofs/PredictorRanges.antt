-- The poles stay within their bounds, whatever the predictor was before.
use Rattle.std.proofs.Common.{ℕ, ℤ, pos, negsuc, ◌-ℤ◌, neg_ℤ, ◌≤ℤ◌, Bool, true, false, arith}
use Rattle.std.proofs.lemmas.Int.{ints}
use Rattle.g726_bits.specs.declared.Rate.{Rate}
use Rattle.g726_bits.specs.State.{PredictorState}
use Rattle.g726_bits.specs.Step.{second_pole, first_pole, unless_cleared, partial_signal, pole_after, predictor_after}
use Rattle.g726_bits.specs.Ranges.{Within, IsStable}
use Rattle.g726_bits.proofs.ScaleRanges.{limited_within}

pub second_pole_within : (a1 a2 : ℤ) (pk1 pk2 : Bool) (dqsez : ℤ) → Within (negsuc 12287) (pos 12288) (second_pole a1 a2 pk1 pk2 dqsez)
unfolding second_pole
second_pole_within a1 a2 pk1 pk2 dqsez = limited_within (negsuc 12287) (pos 12288) _ (omega (arith, ints))

pub first_pole_within : (a1 : ℤ) (pk1 : Bool) (a2p dqsez : ℤ) → a2p ≤ℤ pos 12288 → Within (neg_ℤ (pos 15360 -ℤ a2p)) (pos 15360 -ℤ a2p) (first_pole a1 pk1 a2p dqsez)
unfolding first_pole
first_pole_within a1 pk1 a2p dqsez h = limited_within (neg_ℤ (pos 15360 -ℤ a2p)) (pos 15360 -ℤ a2p) _ (omega (arith, ints))

cleared_second : (tr : Bool) (a2 : ℤ) → Within (negsuc 12287) (pos 12288) a2 → Within (negsuc 12287) (pos 12288) (unless_cleared tr a2)
unfolding unless_cleared
cleared_second true a2 h = record { at_least = omega (arith, ints); at_most = omega (arith, ints) }
cleared_second false a2 h = h

cleared_first : (tr : Bool) (a1 a2 : ℤ) → Within (neg_ℤ (pos 15360 -ℤ a2)) (pos 15360 -ℤ a2) a1 →
    Within (neg_ℤ (pos 15360 -ℤ unless_cleared tr a2)) (pos 15360 -ℤ unless_cleared tr a2) (unless_cleared tr a1)
unfolding unless_cleared
cleared_first true a1 a2 h = record { at_least = omega (arith, ints); at_most = omega (arith, ints) }
cleared_first false a1 a2 h = h

pub pole_after_within : (p : PredictorState) (negative : Bool) (g : ℕ) → Within (negsuc 12287) (pos 12288) (pole_after p negative g)
unfolding pole_after
pole_after_within p negative g = second_pole_within p.a1 p.a2 p.pk1 p.pk2 (partial_signal p negative g)

pub predictor_after_stable : (rate : Rate) (p : PredictorState) (negative : Bool) (g : ℕ) (tr : Bool) → IsStable (predictor_after rate p negative g tr)
unfolding predictor_after
predictor_after_stable rate p negative g tr =
    let second = pole_after_within p negative g in
    record {
      second = cleared_second tr _ second;
      first = cleared_first tr _ _ (first_pole_within p.a1 p.pk1 (pole_after p negative g) (partial_signal p negative g) second.at_most);
    }
