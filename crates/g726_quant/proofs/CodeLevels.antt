-- What a code tells: its level is the rank, and above 16 kbit/s it isn't 0.
use Rattle.std.proofs.Common.{◌≡◌, ℕ, zero, suc, ℤ, pos, int_lt, int_le, ◌+◌, ◌-◌, ◌*◌, ◌^◌, ◌<◌, ◌==◌, nat_lt, nat_le}
use Rattle.std.proofs.Common.{◌&&◌, ◌||◌, Bool, true, false, if◌then◌else◌, length, refl, sym, ◌∙◌, ap, arith}
use Rattle.std.proofs.lemmas.Bool.{and_parts}
use Rattle.std.proofs.lemmas.Bool.Decides.{nat_tests}
use Rattle.std.proofs.lemmas.List.Sums.{count_by-le-length}
use Rattle.g726_bits.specs.declared.Rate.{Rate}
use Rattle.g726_bits.specs.declared.Rate.TheVariants.{R16, R24, R32, R40}
use Rattle.g726_bits.specs.Rates.{bits_of}
use Rattle.g726_bits.specs.Tables.{thresholds}
use Rattle.g726_bits.specs.Step.{rank, normalised, quantised, level_of, is_negative_code}

-- half of the codes are levels, one more than thresholds
levels_are : (rate : Rate) → length (thresholds rate) + 1 ≡ 2 ^ (bits_of rate - 1)
levels_are R16 = refl
levels_are R24 = refl
levels_are R32 = refl
levels_are R40 = refl

pub twice_levels : (rate : Rate) → 2 ^ bits_of rate - 1 + 1 ≡ 2 * 2 ^ (bits_of rate - 1)
twice_levels R16 = refl
twice_levels R24 = refl
twice_levels R32 = refl
twice_levels R40 = refl

pub rank_lt : (rate : Rate) (dln : ℤ) → rank rate dln < 2 ^ (bits_of rate - 1)
unfolding rank
rank_lt rate dln =
    omega (arith, levels_are rate, count_by-le-length (λ t. int_le t dln) (thresholds rate))

-- the level of a code of 2 * half codes
abbrev level_at : ℕ → ℕ → ℕ → ℕ
level_at half last code = if nat_le half code then last - code else code

upper : (half last i : ℕ) → i < half → last + 1 ≡ 2 * half → level_at half last (last - i) ≡ i
upper half last i h e =
    let above : nat_le half (last - i) ≡ true = grind (arith, nat_tests) in rw above (omega arith)

lower : (half last i : ℕ) → i < half → level_at half last i ≡ i
lower half last i h = let below : nat_le half i ≡ false = grind (arith, nat_tests) in rw below refl

whole : (half last : ℕ) → 0 < half → last + 1 ≡ 2 * half → level_at half last last ≡ 0
whole half last some e =
    let above : nat_le half last ≡ true = grind (arith, nat_tests) in rw above (omega arith)

chosen : (half last i : ℕ) (negative turned : Bool) → (turned ≡ true → i ≡ 0) → i < half → last + 1 ≡ 2 * half → level_at half last (if negative then last - i else if turned then last else i) ≡ i
chosen half last i true turned none h e = upper half last i h e
chosen half last i false true none h e = whole half last (omega arith) e ∙ sym (none refl)
chosen half last i false false none h e = lower half last i h

none_turned : (i : ℕ) (wide : Bool) → ((i == 0) && wide) ≡ true → i ≡ 0
none_turned i wide e = let zero : (i == 0) ≡ true = (and_parts (i == 0) wide e).0 in grind (arith, nat_tests)

pub quantised_level : (rate : Rate) (d y : ℤ) → level_of rate (quantised rate d y) ≡ rank rate (normalised d y)
unfolding quantised level_of is_negative_code
quantised_level rate d y =
    let i = rank rate (normalised d y) in
    chosen (2 ^ (bits_of rate - 1)) (2 ^ bits_of rate - 1) i (int_lt d (pos 0)) ((i == 0) && nat_lt 2 (bits_of rate)) (none_turned i (nat_lt 2 (bits_of rate))) (rank_lt rate (normalised d y)) (twice_levels rate)

given : (last i : ℕ) (negative turned : Bool) → (i ≡ 0 → turned ≡ true) → i < last → 0 < (if negative then last - i else if turned then last else i)
given last i true turned z h = omega arith
given last i false true z h = omega arith
given last zero false false z h = let no : false ≡ true = z refl in cc
given last (suc i) false false z h = omega arith

turned_zero : (i : ℕ) (wide : Bool) → wide ≡ true → i ≡ 0 → ((i == 0) && wide) ≡ true
turned_zero i wide w e = rw (e, w) refl

-- above 16 kbit/s there are more codes than levels by two or more
few_levels : (rate : Rate) → 2 < bits_of rate → 2 ^ (bits_of rate - 1) < 2 ^ bits_of rate - 1
few_levels R16 more = absurd (omega arith)
few_levels R24 more = omega arith
few_levels R32 more = omega arith
few_levels R40 more = omega arith

pub quantised_some : (rate : Rate) (d y : ℤ) → 2 < bits_of rate → 0 < quantised rate d y
unfolding quantised
quantised_some rate d y more =
    let i = rank rate (normalised d y) in
    let wide : nat_lt 2 (bits_of rate) ≡ true = grind (arith, nat_tests) in
    given (2 ^ bits_of rate - 1) i (int_lt d (pos 0)) ((i == 0) && nat_lt 2 (bits_of rate)) (turned_zero i (nat_lt 2 (bits_of rate)) wide) (omega (arith, rank_lt rate (normalised d y), few_levels rate more))

-- ---- the code with what it stands for, from its rank
pub record IsRank (rate : Rate) (d y : ℤ) (i : ℕ) (signed : Bool) : Type 0 where
  pub rank_is : i ≡ rank rate (normalised d y)
  pub sign_is : signed ≡ int_lt d (pos 0) || ((i == 0) && nat_lt 2 (bits_of rate))

-- the code by its sign alone
by_sign : (last i : ℕ) (negative turned : Bool) → (turned ≡ true → i ≡ 0) → (if negative || turned then last - i else i) ≡ (if negative then last - i else if turned then last else i)
by_sign last i true turned none = refl
by_sign last i false true none = omega (arith, none refl)
by_sign last i false false none = refl

-- and whether it is in the upper half
in_upper : (half last i : ℕ) (signed : Bool) → i < half → last + 1 ≡ 2 * half → nat_le half (if signed then last - i else i) ≡ signed
in_upper half last i true h e = grind (arith, nat_tests)
in_upper half last i false h e = grind (arith, nat_tests)

pub code_is : (rate : Rate) (d y : ℤ) (i : ℕ) (signed : Bool) (code : ℕ) → IsRank rate d y i signed → code ≡ (if signed then (2 ^ bits_of rate - 1) - i else i) → code ≡ quantised rate d y
unfolding quantised
code_is rate d y i signed code is e =
    let wide = nat_lt 2 (bits_of rate) in
    let r = rank rate (normalised d y) in
    rw (e, is.sign_is, is.rank_is) (by_sign (2 ^ bits_of rate - 1) r (int_lt d (pos 0)) ((r == 0) && wide) (none_turned r wide))

pub sign_is : (rate : Rate) (d y : ℤ) (i : ℕ) (signed : Bool) (code : ℕ) → IsRank rate d y i signed → code ≡ (if signed then (2 ^ bits_of rate - 1) - i else i) → signed ≡ is_negative_code rate code
unfolding is_negative_code
sign_is rate d y i signed code is e =
    let small : i < 2 ^ (bits_of rate - 1) = rw is.rank_is (rank_lt rate (normalised d y)) in
    rw e (sym (in_upper (2 ^ (bits_of rate - 1)) (2 ^ bits_of rate - 1) i signed small (twice_levels rate)))

pub place_is : (rate : Rate) (d y : ℤ) (i : ℕ) (signed : Bool) (code : ℕ) → IsRank rate d y i signed → code ≡ (if signed then (2 ^ bits_of rate - 1) - i else i) → i ≡ level_of rate code
place_is rate d y i signed code is e = is.rank_is ∙ (sym (quantised_level rate d y) ∙ ap (level_of rate) (sym (code_is rate d y i signed code is e)))
