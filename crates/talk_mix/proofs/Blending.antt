-- The sum of at most three voices, sample by sample.
use Rattle.std.proofs.Common.{◌≡◌, ◌<◌, ◌+◌, ◌+ℤ◌, ◌==◌, ℕ, ℤ, pos, true, false, cond, refl, ◌∙◌, ap, arith, List, [], ◌∷◌, get_or, length, Option, None, Some, replicate, not}
use Rattle.std.proofs.lemmas.List.{get_or-replicate, get_or_default}
use Rattle.std.specs.Prelude.{IsSome, All}
use Rattle.std.specs.Option.{SomeIff}
use Rattle.std.proofs.lemmas.Int.{ints, clamps}
use Rattle.std.proofs.Math.ListN.{set, length-set}
use Rattle.std.proofs.lemmas.List.Edits.{fill_by_more}
use Rattle.std.proofs.lemmas.List.FromFn.{fill_by_all}
use Rattle.g726_bits.specs.Ranges.{IsSample}
use Rattle.talk_mix.specs.Voices.{Voice}
use Rattle.talk_mix.specs.Mix.{others, sum_at, limited, mix}

pub is_some_if : {T : Type 0} {P : Type 0} (o : Option T) (v : T) → SomeIff o P v → P → IsSome o
is_some_if None v never p = absurd (never p)
is_some_if (Some x) v iff p = refl

pub limited_sample : (z : ℤ) → IsSample (limited z)
limited_sample z = record { at_least = omega (arith, ints, clamps); at_most = omega (arith, ints, clamps) }

pub All-limited : (f : ℕ → ℤ) (xs : List ℤ) → length xs ≡ 160 → ((k : ℕ) → k < 160 → get_or xs k (pos 0) ≡ limited (f k)) → All IsSample xs
All-limited f xs long each k d within =
    rw (get_or_default xs k d (pos 0) within, each k (omega arith)) (limited_sample (f k))

-- the first k samples of three frames, added up and limited once
pub record Blended (a b c out : List ℤ) (k : ℕ) : Type 0 where
  pub long : length out ≡ 160
  pub sums : (j : ℕ) → j < k → get_or out j (pos 0) ≡ limited (get_or a j (pos 0) +ℤ (get_or b j (pos 0) +ℤ get_or c j (pos 0)))

pub blended_more : (a b c out : List ℤ) (k : ℕ) (x : ℤ) → Blended a b c out k → k < 160 → x ≡ limited (get_or a k (pos 0) +ℤ (get_or b k (pos 0) +ℤ get_or c k (pos 0))) → Blended a b c (set out k x) (k + 1)
blended_more a b c out k x before within is = record {
  long = simp length-set before.long;
  sums = rw is (fill_by_more (λ j. limited (get_or a j (pos 0) +ℤ (get_or b j (pos 0) +ℤ get_or c j (pos 0)))) out k (pos 0) (omega (arith, before.long)) before.sums);
}

-- what a voice adds, where the listener hears silence in place of its own
abbrev pub heard : List ℤ → ℕ → Voice → List ℤ
heard silence listener v = cond (v.0 == listener) silence v.1

abbrev pub at : List ℤ → ℕ → ℤ
at frame k = get_or frame k (pos 0)

at_silence : (silence : List ℤ) (k : ℕ) → silence ≡ replicate 160 (pos 0) → k < 160 → at silence k ≡ pos 0
at_silence silence k silent within = rw silent (get_or-replicate 160 k (pos 0) (pos 0) within)

sum_at-cons : (silence : List ℤ) (listener : ℕ) (v : Voice) (vs : List Voice) (k : ℕ) → silence ≡ replicate 160 (pos 0) → k < 160 → sum_at (others listener (v ∷ vs)) k ≡ at (heard silence listener v) k +ℤ sum_at (others listener vs) k
sum_at-cons silence listener v vs k silent within =
    elim (v.0 == listener) as (λ own. sum_at (cond (not own) (v ∷ others listener vs) (others listener vs)) k ≡ at (cond own silence v.1) k +ℤ sum_at (others listener vs) k) [
      | true ↦ rw (at_silence silence k silent within) (omega (arith, ints))
      | false ↦ refl
    ]

-- a frame whose samples are limited sums of three frames is the mix, where these add up to what the others say
mix_by : (listener : ℕ) (voices : List Voice) (x y z frame : List ℤ) → length frame ≡ 160 → ((k : ℕ) → k < 160 → at frame k ≡ limited (at x k +ℤ (at y k +ℤ at z k))) → ((k : ℕ) → k < 160 → at x k +ℤ (at y k +ℤ at z k) ≡ sum_at (others listener voices) k) → frame ≡ mix listener voices
unfolding mix
mix_by listener voices x y z frame long each same =
    fill_by_all (λ k. limited (sum_at (others listener voices) k)) frame 160 (pos 0) long (λ k within. each k within ∙ ap limited (same k within))

pub mix_none : (silence : List ℤ) (listener : ℕ) → silence ≡ replicate 160 (pos 0) → silence ≡ mix listener []
unfolding mix
mix_none silence listener silent = silent

pub mix_one : (silence : List ℤ) (listener : ℕ) (a : Voice) (x frame : List ℤ) → silence ≡ replicate 160 (pos 0) → x ≡ heard silence listener a → length frame ≡ 160 → ((k : ℕ) → k < 160 → at frame k ≡ limited (at x k +ℤ (at silence k +ℤ at silence k))) → frame ≡ mix listener (a ∷ [])
mix_one silence listener a x frame silent from_a long each =
    mix_by listener (a ∷ []) x silence silence frame long each (λ k within.
    let first = sum_at-cons silence listener a [] k silent within in
    let none = at_silence silence k silent within in
    rw from_a (omega (arith, ints)))

pub mix_two : (silence : List ℤ) (listener : ℕ) (a b : Voice) (x y frame : List ℤ) → silence ≡ replicate 160 (pos 0) → x ≡ heard silence listener a → y ≡ heard silence listener b → length frame ≡ 160 → ((k : ℕ) → k < 160 → at frame k ≡ limited (at x k +ℤ (at y k +ℤ at silence k))) → frame ≡ mix listener (a ∷ b ∷ [])
mix_two silence listener a b x y frame silent from_a from_b long each =
    mix_by listener (a ∷ b ∷ []) x y silence frame long each (λ k within.
    let first = sum_at-cons silence listener a (b ∷ []) k silent within in
    let second = sum_at-cons silence listener b [] k silent within in
    let none = at_silence silence k silent within in
    rw (from_a, from_b) (omega (arith, ints)))

pub mix_three : (silence : List ℤ) (listener : ℕ) (a b c : Voice) (x y z frame : List ℤ) → silence ≡ replicate 160 (pos 0) → x ≡ heard silence listener a → y ≡ heard silence listener b → z ≡ heard silence listener c → length frame ≡ 160 → ((k : ℕ) → k < 160 → at frame k ≡ limited (at x k +ℤ (at y k +ℤ at z k))) → frame ≡ mix listener (a ∷ b ∷ c ∷ [])
mix_three silence listener a b c x y z frame silent from_a from_b from_c long each =
    mix_by listener (a ∷ b ∷ c ∷ []) x y z frame long each (λ k within.
    let first = sum_at-cons silence listener a (b ∷ c ∷ []) k silent within in
    let second = sum_at-cons silence listener b (c ∷ []) k silent within in
    let third = sum_at-cons silence listener c [] k silent within in
    rw (from_a, from_b, from_c) (omega (arith, ints)))
