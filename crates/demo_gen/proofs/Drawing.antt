-- Draws one after the other.
use Rattle.std.proofs.Common.{◌≡◌, ℕ, zero, suc, ◌+◌, ◌/◌, ◌^◌, ◌++◌, ◌∷◌, [], List, map, refl, ap, ◌∙◌, sym, arith, add-suc, set, take, length, ◌<◌, ◌≤◌}
use Rattle.std.specs.List.{range_with_len}
use Rattle.std.proofs.Math.Seq.{take-length}
use Rattle.std.proofs.lemmas.List.{take_more_set}
use Rattle.std.proofs.lemmas.List.FromFn.{map-range_with_len_more}
use Rattle.demo_gen.specs.Draws.{next, after_draws, draw, draws}

-- draws go on where others end
pub after_draws-add : (x n i : ℕ) → after_draws x (n + i) ≡ after_draws (after_draws x n) i
unfolding after_draws
after_draws-add x n zero = ap (after_draws x) (omega arith)
after_draws-add x n (suc i) = rw add-suc (ap next (after_draws-add x n i))

pub after_draws-more : (x i : ℕ) → after_draws x (i + 1) ≡ next (after_draws x i)
unfolding after_draws
after_draws-more x i = after_draws-add x i 1

map_draw-after : (x n a b count : ℕ) → n + a ≡ b
    → map (draw x) (range_with_len b count) ≡ map (draw (after_draws x n)) (range_with_len a count)
map_draw-after x n a b zero e = refl
map_draw-after x n a b (suc count) e =
    let here : draw x b ≡ draw (after_draws x n) a = ap (draw x) (sym e) ∙ ap (λ (y : ℕ). next y / 2 ^ 24) (after_draws-add x n a) in
    rw (here, map_draw-after x n (a + 1) (b + 1) count (omega arith)) refl

pub draws-after : (x n a b count : ℕ) → n + a ≡ b → draws x b count ≡ draws (after_draws x n) a count
unfolding draws
draws-after x n a b count e = map_draw-after x n a b count e

-- a piece of speech, once this many draws have filled its front
pub record Drawn (x count number : ℕ) (speech : List ℕ) : Type 0 where
  pub number_is : number ≡ after_draws x count
  pub front : take count speech ≡ draws x 0 count

pub drawn_none : (x : ℕ) (speech : List ℕ) → Drawn x 0 x speech
unfolding draws after_draws
drawn_none x speech = record { number_is = refl; front = refl }

pub drawn_more : (x i number number' v : ℕ) (speech : List ℕ) → Drawn x i number speech → i < length speech
    → number' ≡ next number → v ≡ number' / 2 ^ 24 → Drawn x (i + 1) number' (set speech i v)
unfolding draws
drawn_more x i number number' v speech drawn within is_next is_top =
    let moved : number' ≡ next (after_draws x i) = is_next ∙ ap next drawn.number_is in
    let top : v ≡ draw x i = is_top ∙ ap (λ (y : ℕ). y / 2 ^ 24) moved in
    record {
      number_is = moved ∙ sym (after_draws-more x i);
      front =
          take_more_set speech i v within
          ∙ ap (λ (l : List ℕ). l ++ v ∷ []) drawn.front
          ∙ ap (λ (o : ℕ). map (draw x) (range_with_len 0 i) ++ o ∷ []) top
          ∙ sym (map-range_with_len_more (draw x) 0 i i (omega arith));
    }

pub drawn_all : (x i number count : ℕ) (speech : List ℕ) → Drawn x i number speech → count ≤ i → i ≤ count → length speech ≡ count
    → (number ≡ after_draws x count) × (speech ≡ draws x 0 count)
drawn_all x i number count speech drawn low high long =
    let e : i ≡ count = omega arith in
    let whole : take count speech ≡ speech = ap (λ (n : ℕ). take n speech) (sym long) ∙ take-length speech in
    (drawn.number_is ∙ ap (after_draws x) e, sym whole ∙ ap (λ (n : ℕ). take n speech) (sym e) ∙ drawn.front ∙ ap (draws x 0) e)
