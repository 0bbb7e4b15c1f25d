-- The word of a place: a sample, or the least word where it holds none.
use Rattle.std.specs.Prelude.{◌≡◌, ℤ, negsuc, Bool, true, false, if◌then◌else◌, Option, None, Some, unwrap_or}
use Rattle.std.proofs.Common.{refl, sym}
use Rattle.std.specs.Ordering.{int_eq}
use Rattle.std.proofs.lemmas.Bool.Decides.{Decides-int_eq}

abbrev pub held_in : ℤ → Option ℤ
held_in word = if int_eq word (negsuc 32767) then None else Some word

abbrev pub word_of : Option ℤ → ℤ
word_of place = unwrap_or place (negsuc 32767)

-- what contracts see of a place gives back its word
pub word_shown : (word : ℤ) → word_of (held_in word) ≡ word
word_shown word = by_test (int_eq word (negsuc 32767)) (Decides-int_eq word (negsuc 32767)).0
  where
    by_test : (b : Bool) → (b ≡ true → word ≡ negsuc 32767) → word_of (if b then None else Some word) ≡ word
    by_test true least = sym (least refl)
    by_test false least = refl
