-- Voices that are silent are no one's choice, so the chosen are the same without them.
use Rattle.std.proofs.Common.{◌≡◌, ◌≢◌, ◌+◌, ℕ, Bool, true, false, cond, List, [], ◌∷◌, ◌++◌, map, filter, refl, ap, ◌∙◌, sym, arith, inl, inr}
use Rattle.std.specs.Prelude.{◌==◌, ◌&&◌, ◌||◌, nat_le, nat_lt, count_by}
use Rattle.std.specs.List.{AllByRecursion}
use Rattle.std.proofs.lemmas.Bool.Decides.{nat_tests}
use Rattle.std.proofs.lemmas.List.Sums.{sum_by-cons}
use Rattle.jitter_line.specs.Histories.{silence}
use Rattle.talk_mix.specs.Voices.{Voice}
use Rattle.talk_mix.specs.Choice.{loudness, is_ahead, is_loud, is_chosen, sorted_by, is_lower, chosen}
use Rattle.desk.specs.Kept.{EachOther}
use Rattle.desk.specs.Turning.{AreBut}

-- ---- one more voice

pub but_none : AreBut [] []
but_none = refl

-- a voice that is kept
pub but_more : (us vs : List Voice) (v : Voice) → AreBut us vs → AreBut (us ++ v ∷ []) (vs ++ v ∷ [])
but_more us [] v are = inr ([], ap (λ (ws : List Voice). ws ++ v ∷ []) are, refl)
but_more us (w ∷ vs) v are = elim are [
  | inl silent ↦ inl (silent.0, but_more us vs v silent.1)
  | inr kept ↦ inr (kept.0 ++ v ∷ [], ap (λ (ws : List Voice). ws ++ v ∷ []) kept.1, but_more kept.0 vs v kept.2)
]

-- one that is left out
pub but_silent : (us vs : List Voice) (v : Voice) → AreBut us vs → v.1 ≡ silence → AreBut us (vs ++ v ∷ [])
but_silent us [] v are silent = inl (silent, are)
but_silent us (w ∷ vs) v are silent = elim are [
  | inl left ↦ inl (left.0, but_silent us vs v left.1 silent)
  | inr kept ↦ inr (kept.0, kept.1, but_silent kept.0 vs v kept.2 silent)
]

-- ---- the members still differ

all_but : (P : ℕ → Type 0) (us vs : List Voice) → AreBut us vs → AllByRecursion P (map (λ (v : Voice). v.0) vs)
    → AllByRecursion P (map (λ (v : Voice). v.0) us)
all_but P us [] are all = rw are tt
all_but P us (v ∷ vs) are all = elim are [
  | inl left ↦ all_but P us vs left.1 all.1
  | inr kept ↦ rw kept.1 (all.0, all_but P kept.0 vs kept.2 all.1)
]

pub other_but : (us vs : List Voice) → AreBut us vs → EachOther (map (λ (v : Voice). v.0) vs) → EachOther (map (λ (v : Voice). v.0) us)
other_but us [] are differ = rw are tt
other_but us (v ∷ vs) are differ = elim are [
  | inl left ↦ other_but us vs left.1 differ.1
  | inr kept ↦ rw kept.1 (all_but (λ (o : ℕ). o ≢ v.0) kept.0 vs kept.2 differ.0, other_but kept.0 vs kept.2 differ.1)
]

-- ---- the choice

quiet : (v : Voice) → v.1 ≡ silence → loudness v.1 ≡ 0
quiet v silent = ap loudness silent

not_loud : (v : Voice) → v.1 ≡ silence → is_loud v ≡ false
not_loud v silent = ap (λ (n : ℕ). nat_le 1600 n) (quiet v silent)

-- a silent voice isn't ahead of one that may be chosen
not_ahead : (s v : Voice) → s.1 ≡ silence → is_loud v ≡ true → is_ahead s v ≡ false
not_ahead s v silent loud = by_loudness (loudness s.1) (loudness v.1) (nat_lt s.0 v.0) (quiet s silent) loud
  where
    by_loudness : (low high : ℕ) (b : Bool) → low ≡ 0 → nat_le 1600 high ≡ true → (nat_lt high low || low == high && b) ≡ false
    by_loudness low high b none enough =
        let below : nat_lt high low ≡ false = grind (arith, nat_tests) in
        let other : (low == high) ≡ false = grind (arith, nat_tests) in
        rw (below, other) refl

count_but : (us vs : List Voice) (v : Voice) → AreBut us vs → is_loud v ≡ true
    → count_by (λ a. is_ahead a v) us ≡ count_by (λ a. is_ahead a v) vs
count_but us [] v are loud = ap (count_by (λ a. is_ahead a v)) are
count_but us (w ∷ vs) v are loud =
    let more : count_by (λ a. is_ahead a v) (w ∷ vs) ≡ cond (is_ahead w v) 1 0 + count_by (λ a. is_ahead a v) vs =
    sum_by-cons (λ a. cond (is_ahead a v) 1 0) w vs in
    elim are [
      | inl left ↦
          let one : ℕ = cond (is_ahead w v) 1 0 in
          let none : ℕ = 0 in
          let out : one ≡ none = ap (λ (b : Bool). cond {A = ℕ} b 1 0) (not_ahead w v left.0 loud) in
          count_but us vs v left.1 loud ∙ omega (arith, more, out)
      | inr kept ↦
          ap (count_by (λ a. is_ahead a v)) kept.1 ∙ sum_by-cons (λ a. cond (is_ahead a v) 1 0) w kept.0
          ∙ ap (λ (n : ℕ). cond (is_ahead w v) 1 0 + n) (count_but kept.0 vs v kept.2 loud) ∙ sym more
    ]

same_test : (us vs : List Voice) (v : Voice) → AreBut us vs → is_chosen us v ≡ is_chosen vs v
same_test us vs v are =
    by_test (is_loud v) (count_by (λ a. is_ahead a v) us) (count_by (λ a. is_ahead a v) vs) (λ loud. count_but us vs v are loud)
  where
    by_test : (b : Bool) (m n : ℕ) → (b ≡ true → m ≡ n) → (b && nat_lt m 3) ≡ (b && nat_lt n 3)
    by_test true m n same = ap (λ (k : ℕ). nat_lt k 3) (same refl)
    by_test false m n same = refl

filter_but : (p q : Voice → Bool) → ((v : Voice) → p v ≡ q v) → ((v : Voice) → v.1 ≡ silence → q v ≡ false) → (us vs : List Voice)
    → AreBut us vs → filter p us ≡ filter q vs
filter_but p q same never us [] are = ap (filter p) are
filter_but p q same never us (v ∷ vs) are = elim are [
  | inl left ↦ filter_but p q same never us vs left.1 ∙ sym (ap (λ (b : Bool). cond b (v ∷ filter q vs) (filter q vs)) (never v left.0))
  | inr kept ↦
      ap (filter p) kept.1
      ∙ ap (λ (b : Bool). cond b (v ∷ filter p kept.0) (filter p kept.0)) (same v)
      ∙ ap (λ (ws : List Voice). cond (q v) (v ∷ ws) ws) (filter_but p q same never kept.0 vs kept.2)
]

pub chosen_but : (us vs : List Voice) → AreBut us vs → chosen us ≡ chosen vs
unfolding chosen
chosen_but us vs are =
    ap (sorted_by is_lower)
    (filter_but (is_chosen us) (is_chosen vs) (λ v. same_test us vs v are)
    (λ v silent. ap (λ (b : Bool). b && nat_lt (count_by (λ a. is_ahead a v) vs) 3) (not_loud v silent)) us vs are)
