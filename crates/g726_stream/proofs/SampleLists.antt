-- Samples in octets, by their places, and over a front and the rest of the octets.
use Rattle.std.proofs.Common.{◌≡◌, ℕ, zero, suc, pos, List, [], ◌∷◌, length, take, drop, get_or, ◌+◌, ◌*◌, ◌/◌, ◌<◌, refl, ap, arith}
use Rattle.g726_stream.specs.Samples.{fourth, samples_in}

-- two more octets
twice_suc : (k : ℕ) → 2 * suc k ≡ suc (suc (2 * k))
twice_suc k = omega arith

pub samples_at : (octets : List ℕ) (i : ℕ) → 2 * i + 1 < length octets →
    get_or (samples_in octets) i (pos 0) ≡ fourth (get_or octets (2 * i) 0) (get_or octets (2 * i + 1) 0)
samples_at [] i h = absurd (omega arith)
samples_at (x ∷ []) i h = absurd (omega arith)
samples_at (x ∷ y ∷ xs) zero h = refl
samples_at (x ∷ y ∷ xs) (suc i) h =
    let low : get_or (x ∷ y ∷ xs) (2 * suc i) 0 ≡ get_or xs (2 * i) 0 =
    ap (λ n. get_or (x ∷ y ∷ xs) n 0) (twice_suc i) in
    let next : 2 * suc i + 1 ≡ suc (suc (2 * i + 1)) = omega arith in
    let high : get_or (x ∷ y ∷ xs) (2 * suc i + 1) 0 ≡ get_or xs (2 * i + 1) 0 =
    ap (λ n. get_or (x ∷ y ∷ xs) n 0) next in
    rw (low, high) (samples_at xs i (omega arith))

pub length-samples : (octets : List ℕ) → length (samples_in octets) ≡ length octets / 2
length-samples [] = refl
length-samples (x ∷ []) = refl
length-samples (x ∷ y ∷ xs) = omega (arith, length-samples xs)

pub samples-take : (k : ℕ) (octets : List ℕ) → samples_in (take (2 * k) octets) ≡ take k (samples_in octets)
samples-take zero octets = refl
samples-take (suc k) [] = rw twice_suc refl
samples-take (suc k) (x ∷ []) = rw twice_suc refl
samples-take (suc k) (x ∷ y ∷ xs) = rw twice_suc (ap (λ zs. fourth x y ∷ zs) (samples-take k xs))

pub samples-drop : (k : ℕ) (octets : List ℕ) → samples_in (drop (2 * k) octets) ≡ drop k (samples_in octets)
samples-drop zero octets = refl
samples-drop (suc k) [] = rw twice_suc refl
samples-drop (suc k) (x ∷ []) = rw twice_suc refl
samples-drop (suc k) (x ∷ y ∷ xs) = rw twice_suc (samples-drop k xs)
