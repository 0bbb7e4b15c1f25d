-- One encoder alone.
use Rattle.std.specs.Prelude.{◌≡◌, ◌↔◌, IsTrue, ℕ, ℤ, Bool, List, [], ◌∷◌}
use Rattle.g726_bits.specs.declared.Rate.{Rate}
use Rattle.g726_bits.specs.State.{CodecState}
use Rattle.g726_codec.specs.declared.Triple.{Triple}

-- What is taken of a codec: its start state, what a frame makes of a state with its payload, and whether two triples are
-- one. The definitions are written over it, so that rows can be computed with a small one; `g726` is the one that is meant.
pub record Coder : Type 0 where
  pub start : CodecState
  pub encoded : Rate → CodecState → List ℤ → CodecState × List ℕ
  pub is_same : Triple → Triple → Bool

-- the state after these frames, the first one first
abbrev pub after_all : Coder → Rate → CodecState → List (List ℤ) → CodecState
after_all coder rate s [] = s
after_all coder rate s (f ∷ fs) = after_all coder rate (coder.encoded rate s f).0 fs

-- the payloads of these frames, the first one first: an encoder alone, begun in this state
abbrev pub payloads_of : Coder → Rate → CodecState → List (List ℤ) → List (List ℕ)
payloads_of coder rate s [] = []
payloads_of coder rate s (f ∷ fs) = (coder.encoded rate s f).1 ∷ payloads_of coder rate (coder.encoded rate s f).0 fs

-- the state after what was heard, the newest first
abbrev pub after : Coder → Rate → CodecState → List (List ℤ) → CodecState
after coder rate first [] = first
after coder rate first (f ∷ heard) = (coder.encoded rate (after coder rate first heard) f).0

-- the payloads of what was heard, both the newest first
abbrev pub payloads_heard : Coder → Rate → CodecState → List (List ℤ) → List (List ℕ)
payloads_heard coder rate first [] = []
payloads_heard coder rate first (f ∷ heard) =
    (coder.encoded rate (after coder rate first heard) f).1 ∷ payloads_heard coder rate first heard

-- the test says of two triples just whether they are one
abbrev pub Tells : Coder → Type 0
Tells coder = (a b : Triple) → IsTrue (coder.is_same a b) ↔ (a ≡ b)
