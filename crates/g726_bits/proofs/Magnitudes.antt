-- What a code stands for is a number of 15 bits.
use Rattle.std.proofs.Common.{◌≡◌, ℕ, ℤ, pos, negsuc, ◌+ℤ◌, ◌≤ℤ◌, ◌+◌, ◌/◌, ◌%◌, ◌^◌, ◌≤◌, nat_le, int_le, Bool, true}
use Rattle.std.proofs.Common.{List, slice_index_or, length, inl, inr, refl, ◌∙◌, ap, arith}
use Rattle.std.specs.List.{list_all}
use Rattle.std.proofs.Math.Pow.{pow_mono}
use Rattle.std.proofs.lemmas.Int.{ints}
use Rattle.std.proofs.lemmas.Nat.{mul-le}
use Rattle.std.proofs.lemmas.Bool.{cases_lt}
use Rattle.std.proofs.lemmas.Bool.Decides.{nat_tests}
use Rattle.std.proofs.lemmas.List.{get_or_past}
use Rattle.std.proofs.lemmas.List.Elements.{All-get_or}
use Rattle.std.proofs.lemmas.List.Sums.{AllPass-from_list_all}
use Rattle.g726_bits.specs.declared.Rate.{Rate}
use Rattle.g726_bits.specs.declared.Rate.TheVariants.{R16, R24, R32, R40}
use Rattle.g726_bits.specs.Numbers.{floor_div}
use Rattle.g726_bits.specs.State.{CodecState}
use Rattle.g726_bits.specs.Tables.{log_levels, speed_steps}
use Rattle.g726_bits.specs.Step.{power, magnitude, log_level, speed_step, level_of, step_size, coded_magnitude}
use Rattle.g726_bits.specs.Ranges.{IsStepSize}
use Rattle.g726_bits.proofs.Floors.{floors}

power_small : (n : ℕ) → n ≤ 1846 → power (pos n) ≤ 32767
unfolding power
power_small n h =
    let whole : 2 ^ (n / 128) ≤ 2 ^ 14 = pow_mono {i = n / 128} {j = 14} (omega arith) in
    omega (arith, mul-le (128 + n % 128) (2 ^ (n / 128)) 255 16384 (omega arith) whole)

pub power_le : (dql : ℤ) → dql ≤ℤ pos 1846 → power dql ≤ 32767
unfolding power
power_le (pos n) h = power_small n (omega (arith, ints, h))
power_le (negsuc n) h = omega arith

pub magnitude_le : (dqln y : ℤ) → dqln ≤ℤ pos 566 → IsStepSize y → magnitude dqln y ≤ 32767
unfolding magnitude
magnitude_le dqln y h is = power_le (dqln +ℤ floor_div y 4) (omega (arith, floors, h, is))

-- what is read from a table passes a test that the default and each entry pass
pub read_passes : {X : Type 0} (p : X → Bool) (xs : List X) (k : ℕ) (d : X) → p d ≡ true → list_all p xs ≡ true → p (slice_index_or xs k d) ≡ true
read_passes p xs k d h all =
    elim (cases_lt k (length xs)) [
      | inl below ↦ All-get_or (λ x. p x ≡ true) xs k d below (AllPass-from_list_all p xs all)
      | inr past ↦ ap p (get_or_past xs k d past) ∙ h
    ]

pub log_level_le : (rate : Rate) (code : ℕ) → log_level rate code ≤ℤ pos 566
unfolding log_level
log_level_le rate code =
    let passes = read_passes (λ z. int_le z (pos 566)) (log_levels rate) (level_of rate code) (pos 0) refl (by rate) in
    grind (arith, ints)
  where
    by : (rate : Rate) → list_all (λ z. int_le z (pos 566)) (log_levels rate) ≡ true
    by R16 = refl
    by R24 = refl
    by R32 = refl
    by R40 = refl

pub least_log_level : (rate : Rate) (code : ℕ) → negsuc 2047 ≤ℤ log_level rate code
unfolding log_level
least_log_level rate code =
    let passes = read_passes (λ z. int_le (negsuc 2047) z) (log_levels rate) (level_of rate code) (pos 0) refl (by rate) in
    grind (arith, ints)
  where
    by : (rate : Rate) → list_all (λ z. int_le (negsuc 2047) z) (log_levels rate) ≡ true
    by R16 = refl
    by R24 = refl
    by R32 = refl
    by R40 = refl

pub speed_step_le : (rate : Rate) (code : ℕ) → speed_step rate code ≤ 7
unfolding speed_step
speed_step_le rate code =
    let passes = read_passes (λ n. nat_le n 7) (speed_steps rate) (level_of rate code) 0 refl (by rate) in
    grind (arith, nat_tests)
  where
    by : (rate : Rate) → list_all (λ n. nat_le n 7) (speed_steps rate) ≡ true
    by R16 = refl
    by R24 = refl
    by R32 = refl
    by R40 = refl

pub coded_magnitude_le : (rate : Rate) (s : CodecState) (code : ℕ) → IsStepSize (step_size s.scale) → coded_magnitude rate s code ≤ 32767
unfolding coded_magnitude
coded_magnitude_le rate s code is = magnitude_le (log_level rate code) (step_size s.scale) (log_level_le rate code) is
