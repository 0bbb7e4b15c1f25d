-- Decimal numbers without a leading zero.
use Rattle.std.proofs.Common.{◌≡◌, ◌≢◌, ℕ, ◌+◌, ◌-◌, ◌*◌, ◌^◌, ◌<◌, ◌≤◌, ◌⊎◌, inl, inr, Bool, true, false, ◌&&◌, List, [], ◌∷◌, length, Option, Some}
use Rattle.std.proofs.Common.{None, refl, sym, subst, arith, rules, get_or}
use Rattle.std.specs.Prelude.{Result, Ok, Err, nat_le, if◌then◌else◌}
use Rattle.std.specs.Fmt.{decimal}
use Rattle.std.specs.Result.{OkIff}
use Rattle.std.specs.Str.Parse.{ParsesUnsigned}
use Rattle.std.proofs.lemmas.Str.Parse.{IsNumeralModel, numerals_by_fold, parse_plain}
use Rattle.std.proofs.lemmas.Fmt.{decimal-digits_value, length-decimal-le}
use Rattle.std.proofs.lemmas.Bool.{cases_lt}
use Rattle.std.proofs.lemmas.Bool.Decides.{nat_tests}
use Rattle.roster_text.specs.Lines.{is_digit, number_from, number_of}
use Rattle.program_edge.specs.Words.{begins_above_zero, number_upto}

-- the number that goes on with these digits
abbrev read_on : ℕ → List ℕ → ℕ
read_on n [] = n
read_on n (c ∷ cs) = read_on (n * 10 + (c - 48)) cs

abbrev all_digits : List ℕ → Bool
all_digits [] = true
all_digits (c ∷ cs) = is_digit c && all_digits cs

own : IsNumeralModel (λ ds. all_digits ds ≡ true) (read_on 0)
own = numerals_by_fold _ (search rules) read_on (search rules)

cond_none : (b : Bool) → ◌≡◌ {A = Option ℕ} (if b then None else None) None
cond_none true = refl
cond_none false = refl

both_pass : (first others : Bool) → (first && others) ≡ true → (first ≡ true) × (others ≡ true)
both_pass true true h = (refl, refl)
both_pass true false h = absurd (cc)
both_pass false others h = absurd (cc)

-- digits are read whole, and what isn't digits says nothing
from_digits : (greatest n : ℕ) (bs : List ℕ) → all_digits bs ≡ true →
    number_from greatest n bs ≡ (if nat_le (read_on n bs) greatest then Some (read_on n bs) else None)
from_digits greatest n [] all = refl
from_digits greatest n (b ∷ bs) all =
    let both = both_pass (is_digit b) (all_digits bs) all in
    rw both.0 (from_digits greatest (n * 10 + (b - 48)) bs both.1)

from_others : (greatest n : ℕ) (bs : List ℕ) → all_digits bs ≡ false → number_from greatest n bs ≡ None
from_others greatest n [] none = absurd (cc)
from_others greatest n (b ∷ bs) none = by_first (is_digit b) refl none (from_others greatest (n * 10 + (b - 48)) bs)
  where
    by_first : (first : Bool) → is_digit b ≡ first → (first && all_digits bs) ≡ false →
        (all_digits bs ≡ false → number_from greatest (n * 10 + (b - 48)) bs ≡ None) → number_from greatest n (b ∷ bs) ≡ None
    by_first true e h others = rw e (others h)
    by_first false e h others = rw e refl

-- a word of digits that begins above zero says its value, and one of more than ten digits is too great
at_least : (n : ℕ) (ds : List ℕ) → n ≤ read_on n ds
at_least n [] = omega arith
at_least n (d ∷ ds) = omega (arith, at_least (n * 10 + (d - 48)) ds)

above_is : (d : ℕ) → (nat_le 49 d && nat_le d 57) ≡ true → 49 ≤ d
above_is d above = grind (arith, nat_tests)

le_passes : (a b : ℕ) → a ≤ b → nat_le a b ≡ true
le_passes a b h = grind (arith, nat_tests)

le_fails : (a b : ℕ) → b < a → nat_le a b ≡ false
le_fails a b h = grind (arith, nat_tests)

value_short : (ds : List ℕ) → all_digits ds ≡ true → begins_above_zero ds ≡ true → read_on 0 ds < 2 ^ 32 → length ds ≤ 10
value_short [] all above small = omega arith
value_short (d ∷ ds) all above small =
    let word : List ℕ = d ∷ ds in
    let first : 49 ≤ d = above_is d above in
    let is : decimal (read_on 0 word) ≡ word = decimal-digits_value own word all (omega arith) (λ (e : d ≡ 48). absurd (omega arith)) (omega arith) in
    let short : length (decimal (read_on 0 word)) ≤ 10 = length-decimal-le 10 (read_on 0 word) (omega arith) (omega arith) (omega arith) in
    subst (λ (w : List ℕ). length w ≤ 10) is short

said : (greatest : ℕ) (word : List ℕ) → all_digits word ≡ true → begins_above_zero word ≡ true →
    number_of greatest word ≡ (if nat_le (length word) 10 then (if nat_le (read_on 0 word) greatest then Some (read_on 0 word) else None) else None)
said greatest [] all above = absurd (cc)
said greatest (d ∷ ds) all above = rw (from_digits greatest 0 (d ∷ ds) all, le_passes 1 (length (d ∷ ds)) (omega arith)) refl

small_said : (greatest : ℕ) (word : List ℕ) → greatest < 2 ^ 32 → all_digits word ≡ true → begins_above_zero word ≡ true → read_on 0 word ≤ greatest →
    number_upto greatest word ≡ Some (read_on 0 word)
small_said greatest word limit all above small =
    let short = le_passes (length word) 10 (value_short word all above (omega arith)) in
    let fits = le_passes (read_on 0 word) greatest small in
    rw (above, said greatest word all above, short, fits) refl

great_said : (greatest : ℕ) (word : List ℕ) → all_digits word ≡ true → begins_above_zero word ≡ true → greatest < read_on 0 word →
    number_upto greatest word ≡ None
great_said greatest word all above great =
    let over = le_fails (read_on 0 word) greatest great in
    rw (above, said greatest word all above, over) (cond_none (nat_le (length word) 10))

other_said : (greatest : ℕ) (word : List ℕ) → all_digits word ≡ false → number_upto greatest word ≡ None
other_said greatest word none =
    rw (from_others greatest 0 word none) (rw (cond_none (nat_le 1 (length word) && nat_le (length word) 10)) (cond_none (begins_above_zero word)))

no_plus : (word : List ℕ) → begins_above_zero word ≡ true → get_or word 0 0 ≢ 43
no_plus [] above = absurd (cc)
no_plus (d ∷ ds) above = λ (e : d ≡ 43). let first : 49 ≤ d = above_is d above in absurd (omega arith)

above_none : (word : List ℕ) → begins_above_zero word ≡ true → 0 < length word
above_none [] above = absurd (cc)
above_none (d ∷ ds) above = omega arith

value_above : (word : List ℕ) → begins_above_zero word ≡ true → 1 ≤ read_on 0 word
value_above [] above = absurd (cc)
value_above (d ∷ ds) above = omega (arith, above_is d above, at_least (0 * 10 + (d - 48)) ds)

-- digits below 2 to the power of 32 are read as their value, and nothing else is
abbrev Reads : {E : Type 0} → List ℕ → Result ℕ E → Type 0
Reads word q = OkIff q ((all_digits word ≡ true) × (0 < length word) × (read_on 0 word < 2 ^ 32)) (read_on 0 word)

-- what is read of a word that begins above zero
pub read_number : {E : Type 0} (greatest n : ℕ) (word : List ℕ) (r : Result ℕ E) → greatest < 2 ^ 32 → begins_above_zero word ≡ true →
    ParsesUnsigned 32 10 word r → r ≡ Ok n → n ≤ greatest → (Some n ≡ number_upto greatest word) × (1 ≤ n)
read_number {E} greatest n word r limit above parses is small =
    let read = subst (Reads word) is (parse_plain own 32 word r parses (no_plus word above)) in
    let same : n ≡ read_on 0 word = read.1 in
    (rw same (sym (small_said greatest word limit read.0.0 above (omega arith))), omega (arith, value_above word above))

pub read_over : {E : Type 0} (greatest n : ℕ) (word : List ℕ) (r : Result ℕ E) → begins_above_zero word ≡ true → ParsesUnsigned 32 10 word r →
    r ≡ Ok n → greatest < n → None ≡ number_upto greatest word
read_over {E} greatest n word r above parses is great =
    let read = subst (Reads word) is (parse_plain own 32 word r parses (no_plus word above)) in
    let same : n ≡ read_on 0 word = read.1 in
    sym (great_said greatest word read.0.0 above (omega arith))

pub read_none : {E : Type 0} (greatest : ℕ) (word : List ℕ) (r : Result ℕ E) (e : E) → greatest < 2 ^ 32 → begins_above_zero word ≡ true →
    ParsesUnsigned 32 10 word r → r ≡ Err e → None ≡ number_upto greatest word
read_none {E} greatest word r e limit above parses is = by_digits (all_digits word) refl
  where
    by_size : all_digits word ≡ true → (read_on 0 word < 2 ^ 32) ⊎ (2 ^ 32 ≤ read_on 0 word) → None ≡ number_upto greatest word
    by_size all (inl small) =
        let fails = subst (Reads word) is (parse_plain own 32 word r parses (no_plus word above)) in
        absurd (fails (all, above_none word above, small))
    by_size all (inr great) = sym (great_said greatest word all above (omega arith))

    by_digits : (b : Bool) → all_digits word ≡ b → None ≡ number_upto greatest word
    by_digits true all = by_size all (cases_lt (read_on 0 word) (2 ^ 32))
    by_digits false none = sym (other_said greatest word none)
