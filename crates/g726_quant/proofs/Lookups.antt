-- What stands in a table at a place is what a clause reads there.
use Rattle.std.proofs.Common.{◌≡◌, ℕ, ℤ, pos, List, Some, slice_get, slice_index_or, sym}
use Rattle.std.proofs.lemmas.Int.{to_z-of_z}
use Rattle.std.proofs.lemmas.Option.{get_or_from_slice_get}
use Rattle.g726_bits.proofs.Floors.{kept16}

pub signed_read : (xs : List ℤ) (k : ℕ) (z : ℤ) → slice_get xs k ≡ Some z → z ≡ slice_index_or xs k (pos 0)
signed_read xs k z e = sym (get_or_from_slice_get xs k z (pos 0) e)

pub plain_read : (xs : List ℕ) (k n : ℕ) → slice_get xs k ≡ Some n → n ≡ slice_index_or xs k 0
plain_read xs k n e = sym (get_or_from_slice_get xs k n 0 e)

pub ruleset lookups = (to_z-of_z, kept16, signed_read, plain_read)
