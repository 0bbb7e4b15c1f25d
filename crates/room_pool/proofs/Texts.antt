-- Octets that are no text.
use Rattle.std.proofs.Common.{◌≡◌, ℕ, Bool, true, false, List, refl}
use Rattle.std.specs.Str.{IsUtf8, is_utf8}
use Rattle.std.proofs.lemmas.Str.{IsUtf8-from_is_utf8}

refused : (b : Bool) (P : Type 0) → (b ≡ true → P) → ¬ P → b ≡ false
refused true P holds apart = absurd (apart (holds refl))
refused false P holds apart = refl

pub no_text : (word : List ℕ) → ¬ (IsUtf8 word) → is_utf8 word ≡ false
no_text word apart = refused (is_utf8 word) (IsUtf8 word) (IsUtf8-from_is_utf8 word) apart
