-- Packing and unpacking give back what the other took.
use Rattle.std.proofs.Common.{◌≡◌, ℕ, List, length, ◌*◌, ◌^◌, ◌<◌, sym, ◌∙◌, ap, subst, arith}
use Rattle.std.specs.List.{All}
use Rattle.std.proofs.lemmas.Nat.{pow_pos}
use Rattle.g726_bits.specs.declared.Rate.{Rate}
use Rattle.g726_bits.specs.Rates.{bits_of}
use Rattle.g726_bits.specs.Packing.{number, digits, packed, unpacked}
use Rattle.pack3551.proofs.Numbers.{digits-number, number-digits, number_lt, pow-pow}

-- 160 codes and their octets have as many bits
same_bits : (n : ℕ) → 256 ^ (20 * n) ≡ (2 ^ n) ^ 160
same_bits n = pow-pow 2 8 (20 * n) ∙ (ap (λ k. 2 ^ k) (omega arith) ∙ sym (pow-pow 2 n 160))

pub unpacked-packed : (rate : Rate) (codes : List ℕ) → length codes ≡ 160 → All (λ c. c < 2 ^ bits_of rate) codes → unpacked rate (packed rate codes) ≡ codes
unfolding packed unpacked
unpacked-packed rate codes long small =
    let n = bits_of rate in
    let below : number (2 ^ n) codes < 256 ^ (20 * n) =
    subst (λ k. number (2 ^ n) codes < k) (ap (λ k. (2 ^ n) ^ k) long ∙ sym (same_bits n)) (number_lt (2 ^ n) codes (pow_pos n) small) in
    ap (digits (2 ^ n) 160) (number-digits 256 (20 * n) (number (2 ^ n) codes) (omega arith) below) ∙
    (ap (λ k. digits (2 ^ n) k (number (2 ^ n) codes)) (sym long) ∙ digits-number (2 ^ n) codes small)

pub packed-unpacked : (rate : Rate) (octets : List ℕ) → length octets ≡ 20 * bits_of rate → All (λ o. o < 256) octets → packed rate (unpacked rate octets) ≡ octets
unfolding packed unpacked
packed-unpacked rate octets long small =
    let n = bits_of rate in
    let below : number 256 octets < (2 ^ n) ^ 160 =
    subst (λ k. number 256 octets < k) (ap (λ k. 256 ^ k) long ∙ same_bits n) (number_lt 256 octets (omega arith) small) in
    ap (digits 256 (20 * n)) (number-digits (2 ^ n) 160 (number 256 octets) (pow_pos n) below) ∙
    (ap (λ k. digits 256 k (number 256 octets)) (sym long) ∙ digits-number 256 octets small)
