-- One code more in a frame's octets: what stays true from code to code.
use Rattle.std.proofs.Common.{◌≡◌, ℕ, List, [], ◌∷◌, ◌++◌, length, take, drop, get_or, ◌+◌, ◌-◌, ◌*◌, ◌/◌, ◌%◌, ◌^◌, ◌<◌, ◌≤◌, refl, sym, ◌∙◌, ap, subst, replicate, slice_set, nat_lt, Bool, true, false, if◌then◌else◌, arith}
use Rattle.std.specs.List.{All}
use Rattle.std.proofs.Math.Nat.{mul-le-mul_right, pow-suc}
use Rattle.std.proofs.lemmas.Nat.{pow-add, mod_below, div_below}
use Rattle.std.proofs.lemmas.List.{take_more, take_all, take_more_set, length-take-le, drop-set-lt, drop-drop, drop-replicate, length-set}
use Rattle.std.proofs.lemmas.List.Elements.{All-nil, All-push}
use Rattle.std.proofs.lemmas.Bool.Decides.{nat_tests}
use Rattle.pack3551.specs.declared.packing.Packer.{Packer}
use Rattle.g726_bits.specs.Packing.{number, digits}
use Rattle.pack3551.specs.Packs.{Packs}
use Rattle.pack3551.proofs.Numbers.{number-push, digits-number, pow-pow}

-- both places as one power of 2
same_place : (n i count width : ℕ) → 8 * count + width ≡ n * i → 256 ^ count * 2 ^ width ≡ (2 ^ n) ^ i
same_place n i count width e =
    ap (λ p. p * 2 ^ width) (pow-pow 2 8 count) ∙ (sym (pow-add 2 (8 * count) width) ∙ (ap (λ k. 2 ^ k) e ∙ sym (pow-pow 2 n i)))

-- the sum with a code at its place
joined_sum : (n : ℕ) (codes : List ℕ) (i : ℕ) (octets : List ℕ) (count value width : ℕ) → Packs n codes i octets count value width → i < length codes →
    number 256 (take count octets) + 256 ^ count * (value + get_or codes i 0 * 2 ^ width) ≡ number (2 ^ n) (take (i + 1) codes)
joined_sum n codes i octets count value width is h =
    let code = get_or codes i 0 in
    let at : 256 ^ count * 2 ^ width ≡ (2 ^ n) ^ i = same_place n i count width is.place in
    let more : number (2 ^ n) (take (i + 1) codes) ≡ number (2 ^ n) (take i codes) + (2 ^ n) ^ i * code =
    ap (number (2 ^ n)) (take_more codes i 0 h) ∙ (number-push (2 ^ n) (take i codes) code ∙
    ap (λ k. number (2 ^ n) (take i codes) + (2 ^ n) ^ k * code) (length-take-le i codes (omega arith))) in
    omega (arith, is.sum, more, ap (λ p. p * code) at)

-- a code above the bits that wait has no more bits than both
joined_below : (n code value width : ℕ) → code < 2 ^ n → value < 2 ^ width → value + code * 2 ^ width < 2 ^ (width + n)
joined_below n code value width c v =
    let most : (code + 1) * 2 ^ width ≤ 2 ^ n * 2 ^ width = mul-le-mul_right (2 ^ width) (omega arith) in
    omega (arith, most, pow-add 2 width n)

-- the code waits with the bits before it
pub waits : (n : ℕ) (codes : List ℕ) (i : ℕ) (octets : List ℕ) (count value width : ℕ) → Packs n codes i octets count value width →
    i < length codes → get_or codes i 0 < 2 ^ n → width + n < 8 →
    Packs n codes (i + 1) octets count (value + get_or codes i 0 * 2 ^ width) (width + n)
waits n codes i octets count value width is h c few = record {
  sum = joined_sum n codes i octets count value width is h;
  place = omega (arith, is.place);
  below = joined_below n (get_or codes i 0) value width c is.below;
  narrow = few;
  small = is.small;
  long = is.long;
  rest = is.rest;
}

-- an octet gets whole
pub gets_whole : (n : ℕ) (codes : List ℕ) (i : ℕ) (octets : List ℕ) (count value width : ℕ) → Packs n codes i octets count value width →
    i < length codes → get_or codes i 0 < 2 ^ n → n ≤ 8 → 8 ≤ width + n → count < 100 →
    Packs n codes (i + 1) (slice_set octets count ((value + get_or codes i 0 * 2 ^ width) % 256)) (count + 1) ((value + get_or codes i 0 * 2 ^ width) / 256) (width + n - 8)
gets_whole n codes i octets count value width is h c narrow enough room =
    let joined = value + get_or codes i 0 * 2 ^ width in
    let octet = joined % 256 in
    let inside : count < length octets = omega (arith, is.long) in
    let front : take (count + 1) (slice_set octets count octet) ≡ take count octets ++ octet ∷ [] = take_more_set octets count octet inside in
    let longer : number 256 (take (count + 1) (slice_set octets count octet)) ≡ number 256 (take count octets) + 256 ^ count * octet =
    ap (number 256) front ∙ (number-push 256 (take count octets) octet ∙
    ap (λ k. number 256 (take count octets) + 256 ^ k * octet) (length-take-le count octets (omega arith))) in
    let halves : 256 ^ count * (octet + 256 * (joined / 256)) ≡ 256 ^ count * joined = ap (λ k. 256 ^ count * k) (omega arith) in
    let up : 256 ^ (count + 1) ≡ 256 ^ count * 256 = ap (λ k. 256 ^ k) (omega arith) ∙ pow-suc 256 count in
    let split : 2 ^ (width + n) ≡ 2 ^ (width + n - 8) * 256 = ap (λ k. 2 ^ k) (omega arith) ∙ pow-add 2 (width + n - 8) 8 in
    record {
      sum = omega (arith, joined_sum n codes i octets count value width is h, longer, halves, ap (λ p. p * (joined / 256)) up);
      place = omega (arith, is.place);
      below = div_below joined 256 (2 ^ (width + n - 8)) (omega arith) (omega (arith, joined_below n (get_or codes i 0) value width c is.below, split));
      narrow = omega (arith, is.narrow);
      small = subst (All (λ o. o < 256)) (sym front) (All-push (λ o. o < 256) (take count octets) octet is.small (mod_below joined 256 (omega arith)));
      long = length-set octets count octet ∙ is.long;
      rest =
          drop-set-lt (count + 1) octets count octet (omega arith) ∙
          (sym (drop-drop 1 count octets) ∙ (ap (drop 1) is.rest ∙ (drop-replicate 1 (100 - count) 0 ∙ ap (λ k. replicate k 0) (omega arith))));
    }

-- at the end no bit waits, and the octets are the codes' number
pub all_packed : (n : ℕ) (codes octets : List ℕ) (count value width : ℕ) → Packs n codes 160 octets count value width → length codes ≡ 160 → n ≤ 5 →
    (count ≡ 20 * n) × (take count octets ≡ digits 256 (20 * n) (number (2 ^ n) codes))
all_packed n codes octets count value width is e few =
    let whole : count ≡ 20 * n = omega (arith, is.place, is.narrow) in
    let none : width ≡ 0 = omega (arith, is.place, is.narrow) in
    let nothing : value ≡ 0 = omega (arith, is.below, ap (λ k. 2 ^ k) none) in
    let all : take 160 codes ≡ codes = take_all 160 codes (omega arith) in
    let sum : number 256 (take count octets) ≡ number (2 ^ n) codes =
    omega (arith, is.sum, ap (λ k. 256 ^ count * k) nothing) ∙ ap (number (2 ^ n)) all in
    let read = digits-number 256 (take count octets) is.small in
    let long : length (take count octets) ≡ 20 * n = length-take-le count octets (omega (arith, is.long, whole, is.place)) ∙ whole in
    (whole, sym read ∙ (ap (λ k. digits 256 k (number 256 (take count octets))) long ∙ ap (digits 256 (20 * n)) sum))

-- nothing is packed yet
pub none_packed : (n : ℕ) (codes : List ℕ) → Packs n codes 0 (replicate 100 0) 0 0 0
unfolding number
none_packed n codes = record {
  sum = refl;
  place = omega arith;
  below = omega arith;
  narrow = omega arith;
  small = All-nil (λ o. o < 256);
  long = refl;
  rest = refl;
}

-- the one or the other, as the step chooses
pub packs_next : (n : ℕ) (codes : List ℕ) (i : ℕ) (octets : List ℕ) (p : Packer) (after : List ℕ) (next : Packer) →
    Packs n codes i octets p.count p.value p.width → i < length codes → get_or codes i 0 < 2 ^ n → n ≤ 8 → p.count < 100 →
    (let joined = p.value + get_or codes i 0 * 2 ^ p.width in after ≡ (if nat_lt (p.width + n) 8 then octets else slice_set octets p.count (joined % 256))) →
    (let joined = p.value + get_or codes i 0 * 2 ^ p.width in let width = p.width + n in
    next ≡ (if nat_lt width 8 then record { count = p.count; value = joined; width = width } else record { count = p.count + 1; value = joined / 256; width = width - 8 })) →
    Packs n codes (i + 1) after next.count next.value next.width
packs_next n codes i octets p after next is h c narrow room e f = by (nat_lt (p.width + n) 8) refl e f
  where
    by : (t : Bool) → nat_lt (p.width + n) 8 ≡ t →
        (let joined = p.value + get_or codes i 0 * 2 ^ p.width in after ≡ (if t then octets else slice_set octets p.count (joined % 256))) →
        (let joined = p.value + get_or codes i 0 * 2 ^ p.width in let width = p.width + n in
        next ≡ (if t then record { count = p.count; value = joined; width = width } else record { count = p.count + 1; value = joined / 256; width = width - 8 })) →
        Packs n codes (i + 1) after next.count next.value next.width
    by true t e f = rw (e, f) (waits n codes i octets p.count p.value p.width is h c (grind (arith, nat_tests)))
    by false t e f = rw (e, f) (gets_whole n codes i octets p.count p.value p.width is h c narrow (grind (arith, nat_tests)) room)

-- the same place, written otherwise
pub packs_at : (n : ℕ) (codes : List ℕ) (i j : ℕ) (octets : List ℕ) (count value width : ℕ) → i ≡ j →
    Packs n codes i octets count value width → Packs n codes j octets count value width
packs_at n codes i j octets count value width e is = subst (λ k. Packs n codes k octets count value width) e is
