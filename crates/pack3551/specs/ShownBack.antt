-- What contracts see of a payload gives back its array.
use Rattle.std.specs.Prelude.{ℕ, List, ◌≡◌, ◌-◌, ◌++◌, length, take, replicate}
use Rattle.std.proofs.Common.{◌∙◌, ap, arith, sym, take-append-drop}
use Rattle.std.proofs.lemmas.List.{length-take-le}
use Rattle.pack3551.specs.Shown.{IsPadded, padded}

-- the octets that count give back how many they are, and the array
pub length_shown : (octets : List ℕ) (count : ℕ) → IsPadded octets count → length (take count octets) ≡ count
length_shown octets count is = length-take-le count octets (omega (arith, is.long, is.within))

pub padded_shown : (octets : List ℕ) (count : ℕ) → IsPadded octets count → padded (take count octets) ≡ octets
padded_shown octets count is =
    ap (λ n. take count octets ++ replicate (100 - n) 0) (length_shown octets count is) ∙
    (ap (λ rest. take count octets ++ rest) (sym is.rest) ∙ take-append-drop count octets)
