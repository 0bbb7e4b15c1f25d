-- Numbers and their digits to a base.
use Rattle.std.proofs.Common.{◌≡◌, ℕ, zero, suc, List, [], ◌∷◌, ◌++◌, length, ◌+◌, ◌*◌, ◌/◌, ◌%◌, ◌^◌, ◌<◌, ◌≤◌, refl, sym, ◌∙◌, ap, arith}
use Rattle.std.specs.List.{All}
use Rattle.std.proofs.Math.Nat.{pow-zero, pow-suc, mul-le-mul_left}
use Rattle.std.proofs.lemmas.Nat.{pow-add, div-add-mod', mod-mul-add, div-mul-add, mod_below, div_below}
use Rattle.std.proofs.lemmas.List.Elements.{All-head, All-tail, All-cons, All-nil}
use Rattle.g726_bits.specs.Packing.{number, digits}

-- a number's value, one digit more at its end
pub number-push : (b : ℕ) (ds : List ℕ) (d : ℕ) → number b (ds ++ d ∷ []) ≡ number b ds + b ^ length ds * d
unfolding number
number-push b [] d = rw (pow-zero b) (omega arith)
number-push b (e ∷ ds) d = rw (number-push b ds d, pow-suc b (length ds)) (omega arith)

-- digits are read back from their number
pub digits-number : (b : ℕ) (ds : List ℕ) → All (λ d. d < b) ds → digits b (length ds) (number b ds) ≡ ds
unfolding number digits
digits-number b [] small = refl
digits-number b (d ∷ ds) small =
    let below : d < b = All-head (λ d. d < b) d ds small in
    let turn : d + b * number b ds ≡ number b ds * b + d = omega arith in
    let first : (d + b * number b ds) % b ≡ d = ap (λ n. n % b) turn ∙ mod-mul-add (number b ds) b d below in
    let rest : (d + b * number b ds) / b ≡ number b ds = ap (λ n. n / b) turn ∙ div-mul-add (number b ds) b d below in
    ap (λ e. e ∷ digits b (length ds) ((d + b * number b ds) / b)) first ∙
    ap (λ es. d ∷ es) (ap (digits b (length ds)) rest ∙ digits-number b ds (All-tail (λ d. d < b) d ds small))

-- and a number from its digits
pub number-digits : (b k n : ℕ) → 0 < b → n < b ^ k → number b (digits b k n) ≡ n
unfolding number digits
number-digits b zero n some h = omega (arith, pow-zero b)
number-digits b (suc k) n some h =
    let fewer : n / b < b ^ k = div_below n b (b ^ k) some (omega (arith, pow-suc b k)) in
    let rest : b * number b (digits b k (n / b)) ≡ b * (n / b) = ap (λ m. b * m) (number-digits b k (n / b) some fewer) in
    omega (arith, rest, div-add-mod' n b)

pub digits_small : (b k n : ℕ) → 0 < b → All (λ d. d < b) (digits b k n)
unfolding digits
digits_small b zero n some = All-nil (λ d. d < b)
digits_small b (suc k) n some = All-cons (λ d. d < b) (n % b) (digits b k (n / b)) (mod_below n b some) (digits_small b k (n / b) some)

pub length-digits : (b k n : ℕ) → length (digits b k n) ≡ k
unfolding digits
length-digits b zero n = refl
length-digits b (suc k) n = ap suc (length-digits b k (n / b))

-- a number of k digits is below the base to the power of k
pub number_lt : (b : ℕ) (ds : List ℕ) → 0 < b → All (λ d. d < b) ds → number b ds < b ^ length ds
unfolding number
number_lt b [] some small = omega (arith, pow-zero b)
number_lt b (d ∷ ds) some small =
    let below : d < b = All-head (λ d. d < b) d ds small in
    let fewer : number b ds + 1 ≤ b ^ length ds = omega (arith, number_lt b ds some (All-tail (λ d. d < b) d ds small)) in
    omega (arith, below, mul-le-mul_left b fewer, pow-suc b (length ds))

pub pow-pow : (a m n : ℕ) → (a ^ m) ^ n ≡ a ^ (m * n)
pow-pow a m zero = rw (pow-zero (a ^ m)) (sym (ap (λ k. a ^ k) (omega arith) ∙ pow-zero a))
pow-pow a m (suc n) =
    rw (pow-suc (a ^ m) n, pow-pow a m n) (sym (ap (λ k. a ^ k) (omega arith) ∙ pow-add a (m * n) m))
