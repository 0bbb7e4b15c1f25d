-- One code more from octets: what stays true from code to code.
use Rattle.std.proofs.Common.{◌≡◌, ℕ, List, [], ◌∷◌, ◌++◌, length, take, drop, get_or, ◌+◌, ◌-◌, ◌*◌, ◌/◌, ◌%◌, ◌^◌, ◌<◌, ◌≤◌, refl, sym, ◌∙◌, ap, subst, slice_set, nat_lt, Bool, true, false, if◌then◌else◌, arith}
use Rattle.std.specs.List.{All}
use Rattle.std.proofs.Math.Nat.{mul-le-mul_left, mul-le-mul_right, pow-zero, pow-suc}
use Rattle.std.proofs.lemmas.Nat.{pow-add, mod_below, div_below, div-add-mod', pow_pos}
use Rattle.std.proofs.lemmas.List.{drop_more, drop_all, take_all, take_more_set, length-take-le, length-set}
use Rattle.std.proofs.lemmas.List.Elements.{All-nil, All-push}
use Rattle.std.proofs.lemmas.Bool.Decides.{nat_tests}
use Rattle.g726_bits.specs.Packing.{number, digits}
use Rattle.pack3551.specs.declared.packing.Unpacker.{Unpacker}
use Rattle.pack3551.proofs.Numbers.{number-push, digits-number}

-- after i of so many codes of n bits: the octets taken, and the bits of them that wait
pub record Unpacks (n : ℕ) (octets : List ℕ) (count i : ℕ) (codes : List ℕ) (taken value width : ℕ) : Type 0 where
  pub sum : number (2 ^ n) (take i codes) + (2 ^ n) ^ i * (value + 2 ^ width * number 256 (drop taken octets)) ≡ number 256 octets
  pub place : 8 * taken ≡ n * i + width
  pub below : value < 2 ^ width
  pub small : All (λ c. c < 2 ^ n) (take i codes)
  pub long : length codes ≡ count
  pub within : taken ≤ length octets

-- one octet more above the bits that wait
pub refilled : (n : ℕ) (octets : List ℕ) (count i : ℕ) (codes : List ℕ) (taken value width : ℕ) → Unpacks n octets count i codes taken value width →
    taken < length octets → get_or octets taken 0 < 256 →
    Unpacks n octets count i codes (taken + 1) (value + get_or octets taken 0 * 2 ^ width) (width + 8)
unfolding number
refilled n octets count i codes taken value width is h o =
    let octet = get_or octets taken 0 in
    let rest = number 256 (drop (taken + 1) octets) in
    let front : number 256 (drop taken octets) ≡ octet + 256 * rest = ap (number 256) (drop_more octets taken 0 h) in
    let wider : 2 ^ (width + 8) ≡ 2 ^ width * 256 = pow-add 2 width 8 in
    let inner : value + 2 ^ width * number 256 (drop taken octets) ≡ value + octet * 2 ^ width + 2 ^ (width + 8) * rest =
    omega (arith, ap (λ k. 2 ^ width * k) front, ap (λ k. k * rest) wider) in
    let most : (octet + 1) * 2 ^ width ≤ 256 * 2 ^ width = mul-le-mul_right (2 ^ width) (omega arith) in
    record {
      sum = omega (arith, is.sum, ap (λ k. (2 ^ n) ^ i * k) inner);
      place = omega (arith, is.place);
      below = omega (arith, is.below, most, wider);
      small = is.small;
      long = is.long;
      within = omega arith;
    }

-- the lowest code taken away
pub split_off : (n : ℕ) (octets : List ℕ) (count i : ℕ) (codes : List ℕ) (taken value width : ℕ) → Unpacks n octets count i codes taken value width →
    i < count → n ≤ width →
    Unpacks n octets count (i + 1) (slice_set codes i (value % 2 ^ n)) taken (value / 2 ^ n) (width - n)
split_off n octets count i codes taken value width is h wide =
    let code = value % 2 ^ n in
    let inside : i < length codes = omega (arith, is.long) in
    let rest = number 256 (drop taken octets) in
    let front : take (i + 1) (slice_set codes i code) ≡ take i codes ++ code ∷ [] = take_more_set codes i code inside in
    let longer : number (2 ^ n) (take (i + 1) (slice_set codes i code)) ≡ number (2 ^ n) (take i codes) + (2 ^ n) ^ i * code =
    ap (number (2 ^ n)) front ∙ (number-push (2 ^ n) (take i codes) code ∙
    ap (λ k. number (2 ^ n) (take i codes) + (2 ^ n) ^ k * code) (length-take-le i codes (omega arith))) in
    let narrower : 2 ^ width ≡ 2 ^ n * 2 ^ (width - n) = ap (λ k. 2 ^ k) (omega arith) ∙ pow-add 2 n (width - n) in
    let whole : value ≡ code + 2 ^ n * (value / 2 ^ n) = omega (arith, div-add-mod' value (2 ^ n)) in
    let inner : value + 2 ^ width * rest ≡ code + 2 ^ n * (value / 2 ^ n + 2 ^ (width - n) * rest) =
    omega (arith, whole, ap (λ k. k * rest) narrower) in
    let up : (2 ^ n) ^ (i + 1) ≡ (2 ^ n) ^ i * 2 ^ n = ap (λ k. (2 ^ n) ^ k) (omega arith) ∙ pow-suc (2 ^ n) i in
    record {
      sum = omega (arith, is.sum, longer, ap (λ k. (2 ^ n) ^ i * k) inner, ap (λ k. k * (value / 2 ^ n + 2 ^ (width - n) * rest)) up);
      place = omega (arith, is.place);
      below = div_below value (2 ^ n) (2 ^ (width - n)) (pow_pos n) (omega (arith, is.below, narrower));
      small = subst (All (λ c. c < 2 ^ n)) (sym front) (All-push (λ c. c < 2 ^ n) (take i codes) code is.small (mod_below value (2 ^ n) (pow_pos n)));
      long = length-set codes i code ∙ is.long;
      within = is.within;
    }

-- nothing is taken yet
pub none_taken : (n : ℕ) (octets codes : List ℕ) → Unpacks n octets (length codes) 0 codes 0 0 0
unfolding number
none_taken n octets codes = record {
  sum = rw (pow-zero (2 ^ n)) (omega arith);
  place = omega arith;
  below = omega arith;
  small = All-nil (λ c. c < 2 ^ n);
  long = refl;
  within = omega arith;
}

-- after the last code no bit is left, and the codes are the octets' number
pub all_unpacked : (n count : ℕ) (octets codes : List ℕ) (taken value width : ℕ) → Unpacks n octets count count codes taken value width → n * count ≡ 8 * length octets →
    codes ≡ digits (2 ^ n) count (number 256 octets)
unfolding number
all_unpacked n count octets codes taken value width is e =
    let none : width ≡ 0 = omega (arith, is.place, is.within) in
    let nothing : value ≡ 0 = omega (arith, is.below, ap (λ k. 2 ^ k) none) in
    let spent : number 256 (drop taken octets) ≡ 0 = ap (number 256) (drop_all taken octets (omega (arith, is.place))) in
    let left : value + 2 ^ width * number 256 (drop taken octets) ≡ 0 = omega (arith, nothing, ap (λ k. 2 ^ width * k) spent) in
    let all : take count codes ≡ codes = take_all count codes (omega (arith, is.long)) in
    let sum : number (2 ^ n) codes ≡ number 256 octets =
    ap (number (2 ^ n)) (sym all) ∙ omega (arith, is.sum, ap (λ k. (2 ^ n) ^ count * k) left) in
    sym (digits-number (2 ^ n) codes (subst (All (λ c. c < 2 ^ n)) all is.small)) ∙
    (ap (λ k. digits (2 ^ n) k (number (2 ^ n) codes)) is.long ∙ ap (digits (2 ^ n) count) sum)

-- between two codes fewer than eight bits wait
pub record Waits (n : ℕ) (octets : List ℕ) (count i : ℕ) (codes : List ℕ) (u : Unpacker) : Type 0 where
  pub state : Unpacks n octets count i codes u.taken u.value u.width
  pub narrow : u.width < 8

-- with an octet more where it is needed, a code is there
pub record Filled (n : ℕ) (octets : List ℕ) (count i : ℕ) (codes : List ℕ) (u : Unpacker) : Type 0 where
  pub state : Unpacks n octets count i codes u.taken u.value u.width
  pub narrow : u.width < 8 + n
  pub wide : n ≤ u.width

-- an octet is there as long as a code is
pub octet_left : (n : ℕ) (octets : List ℕ) (count i : ℕ) (codes : List ℕ) (u : Unpacker) → Waits n octets count i codes u → i < count → n * count ≡ 8 * length octets → u.width < n → u.taken < length octets
octet_left n octets count i codes u is h e few =
    let place = is.state.place in omega (arith, place, e, mul-le-mul_left n (suc-le h))
  where
    suc-le : i < count → i + 1 ≤ count
    suc-le h = omega arith

pub fills : (n : ℕ) (octets : List ℕ) (count i : ℕ) (codes : List ℕ) (u full : Unpacker) → Waits n octets count i codes u → i < count → n * count ≡ 8 * length octets → n ≤ 8 → get_or octets u.taken 0 < 256 →
    full ≡ (if nat_lt u.width n then record { taken = u.taken + 1; value = u.value + get_or octets u.taken 0 * 2 ^ u.width; width = u.width + 8 } else u) →
    Filled n octets count i codes full
fills n octets count i codes u full is h e low small f = by (nat_lt u.width n) refl f
  where
    by : (t : Bool) → nat_lt u.width n ≡ t →
        full ≡ (if t then record { taken = u.taken + 1; value = u.value + get_or octets u.taken 0 * 2 ^ u.width; width = u.width + 8 } else u) → Filled n octets count i codes full
    by true t f =
        let few : u.width < n = grind (arith, nat_tests) in
        rw f (record {
          state = refilled n octets count i codes u.taken u.value u.width is.state (octet_left n octets count i codes u is h e few) small;
          narrow = omega arith;
          wide = omega arith;
        })
    by false t f =
        let enough : n ≤ u.width = grind (arith, nat_tests) in
        rw f (record { state = is.state; narrow = omega (arith, is.narrow); wide = enough })

pub splits : (n : ℕ) (octets : List ℕ) (count i : ℕ) (codes : List ℕ) (full rest : Unpacker) (code : ℕ) (after : List ℕ) → Filled n octets count i codes full → i < count →
    code ≡ full.value % 2 ^ n → after ≡ slice_set codes i code → rest ≡ record { taken = full.taken; value = full.value / 2 ^ n; width = full.width - n } →
    Waits n octets count (i + 1) after rest
splits n octets count i codes full rest code after is h e f g =
    rw (f, e, g) (record { state = split_off n octets count i codes full.taken full.value full.width is.state h is.wide; narrow = omega (arith, is.narrow, is.wide) })
