-- A code has no more bits than its rate gives it.
use Rattle.std.proofs.Common.{ℕ, ℤ, pos, int_lt, int_le, ◌+◌, ◌-◌, ◌^◌, ◌<◌, ◌≤◌, ◌==◌, nat_lt, ◌&&◌, Bool, true, false}
use Rattle.std.proofs.Common.{if◌then◌else◌, List, [], ◌∷◌, length, arith}
use Rattle.std.specs.List.{All}
use Rattle.std.proofs.lemmas.List.Elements.{All-nil, All-cons}
use Rattle.std.proofs.lemmas.List.Sums.{count_by-le-length}
use Rattle.g726_bits.specs.declared.Rate.{Rate}
use Rattle.g726_bits.specs.declared.Rate.TheVariants.{R16, R24, R32, R40}
use Rattle.g726_bits.specs.Rates.{bits_of}
use Rattle.g726_bits.specs.State.{CodecState}
use Rattle.g726_bits.specs.Tables.{thresholds}
use Rattle.g726_bits.specs.Step.{rank, normalised, quantised, code_of}
use Rattle.g726_bits.specs.Encoder.{stepped, codes_of}

-- half of the codes, less one, are thresholds
few_thresholds : (rate : Rate) → length (thresholds rate) + 1 ≤ 2 ^ bits_of rate - 1
few_thresholds R16 = omega arith
few_thresholds R24 = omega arith
few_thresholds R32 = omega arith
few_thresholds R40 = omega arith

rank_lt : (rate : Rate) (dln : ℤ) → rank rate dln + 1 ≤ 2 ^ bits_of rate - 1
unfolding rank
rank_lt rate dln = omega (arith, few_thresholds rate, count_by-le-length (λ t. int_le t dln) (thresholds rate))

chosen_lt : (last i : ℕ) (negative zero : Bool) → i + 1 ≤ last → (if negative then last - i else if zero then last else i) < last + 1
chosen_lt last i true zero h = omega arith
chosen_lt last i false true h = omega arith
chosen_lt last i false false h = omega arith

pub quantised_lt : (rate : Rate) (d y : ℤ) → quantised rate d y < 2 ^ bits_of rate
unfolding quantised
quantised_lt rate d y =
    let last = 2 ^ bits_of rate - 1 in
    let i = rank rate (normalised d y) in
    let few = rank_lt rate (normalised d y) in
    let h : (if int_lt d (pos 0) then last - i else if (i == 0) && nat_lt 2 (bits_of rate) then last else i) < last + 1 =
    chosen_lt last i (int_lt d (pos 0)) ((i == 0) && nat_lt 2 (bits_of rate)) few in
    omega (arith, h, few)

pub codes_small : (rate : Rate) (s : CodecState) (xs : List ℤ) → All (λ c. c < 2 ^ bits_of rate) (codes_of rate s xs)
unfolding codes_of code_of
codes_small rate s [] = All-nil (λ c. c < 2 ^ bits_of rate)
codes_small rate s (x ∷ xs) = All-cons (λ c. c < 2 ^ bits_of rate) (code_of rate s x) (codes_of rate (stepped rate s x) xs) (quantised_lt rate _ _) (codes_small rate (stepped rate s x) xs)
