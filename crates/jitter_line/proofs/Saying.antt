-- A frame that is taken from the places is what the history says.
use Rattle.std.proofs.Common.{◌≡◌, ◌<◌, ◌+◌, ◌*◌, ◌%◌, ◌^◌, ◌==◌, ℕ, ℤ, pos, refl, sym, ◌∙◌, ap, arith, Bool, true, List, [], ◌∷◌, length, get_or, map, Option, None, Some, unwrap_or, replicate}
use Rattle.std.specs.Prelude.{IsSome, All}
use Rattle.std.specs.Option.{SomeIff}
use Rattle.std.specs.List.{range_with_len}
use Rattle.std.proofs.lemmas.List.FromFn.{fill_by_all}
use Rattle.std.proofs.lemmas.List.{get_or_default, get_or-replicate, length-replicate}
use Rattle.std.proofs.lemmas.Bool.Decides.{nat_tests}
use Rattle.std.proofs.lemmas.Option.{same_Some}
use Rattle.g726_bits.specs.Ranges.{IsSample}
use Rattle.jitter_line.specs.Kept.{Kept}
use Rattle.jitter_line.specs.Histories.{History, Pulls, Gauge, position_of, gauge, gauge_pulled, held, ahead, said, said_by}
use Rattle.jitter_line.specs.Standing.{Stands, StandsAs}

some_position : (origin : Option ℕ) (pulls position : ℕ) → position_of origin pulls ≡ Some position → (h : History) →
    said_by origin h ≡ map (λ i. unwrap_or (ahead h i) (pos 0)) (range_with_len 0 160)
some_position None pulls position is h = cc
some_position (Some origin) pulls position is h = refl

no_position : (origin : Option ℕ) (pulls : ℕ) → position_of origin pulls ≡ None → (h : History) → said_by origin h ≡ replicate 160 (pos 0)
no_position None pulls is h = refl
no_position (Some origin) pulls is h = cc

pub said_none : (l : Kept) (h : History) → Stands l h → l.position ≡ None → replicate 160 (pos 0) ≡ said h
unfolding said
said_none l h stands none = sym (no_position (gauge h).origin (gauge h).pulls (sym stands.position ∙ none) h)

pub said_some : (l : Kept) (h : History) (position : ℕ) (frame : List ℤ) → Stands l h → l.position ≡ Some position → length frame ≡ 160 →
    ((k : ℕ) → k < 160 → get_or frame k (pos 0) ≡ unwrap_or (get_or l.places k None) (pos 0)) → frame ≡ said h
unfolding said
said_some l h position frame stands some long each =
    fill_by_all (λ i. unwrap_or (ahead h i) (pos 0)) frame 160 (pos 0) long (λ k within. each k within ∙ ap (λ (o : Option ℤ). unwrap_or o (pos 0)) (stands.places k))
    ∙ sym (some_position (gauge h).origin (gauge h).pulls position (sym stands.position ∙ some) h)

pub is_empty : (places : List (Option ℤ)) (test : Bool) → test ≡ (length places == 0) → test ≡ true → places ≡ []
is_empty [] test is holds = refl
is_empty (x ∷ xs) test is holds = absurd (positive (length (x ∷ xs)) (sym is ∙ holds) (omega arith))
  where
    positive : (n : ℕ) → (n == 0) ≡ true → 0 < n → ⊥
    positive n none some = grind (arith, nat_tests)

-- a line that holds nothing says silence, and moves its position
pub said_empty : (l : Kept) (h : History) (position : ℕ) → Stands l h → l.position ≡ Some position → l.places ≡ [] → replicate 160 (pos 0) ≡ said h
said_empty l h position stands some empty =
    said_some l h position (replicate 160 (pos 0)) stands some (length-replicate 160 (pos 0))
    (λ k within. rw empty (get_or-replicate 160 k (pos 0) (pos 0) within))

pulled_empty : (o : Option ℕ) (g : Gauge) (l : Kept) (position : ℕ) (at : ℕ → Option ℤ) → g.origin ≡ o → StandsAs l g at → l.position ≡ Some position →
    l.places ≡ [] → StandsAs (record l { position = Some ((position + 160) % 2 ^ 32) }) (gauge_pulled o g) at
pulled_empty None g l position at origin stands some empty =
    let none : l.position ≡ None = stands.position ∙ ap (λ (o : Option ℕ). position_of o g.pulls) origin in
    cc
pulled_empty (Some origin) g l position at is stands some empty =
    let was : Some position ≡ Some ((origin + 160 * g.pulls) % 2 ^ 32) = sym some ∙ stands.position ∙ ap (λ (o : Option ℕ). position_of o g.pulls) is in
    let number : position ≡ (origin + 160 * g.pulls) % 2 ^ 32 = same_Some _ _ was in
    record {
      position = ap Some (omega (arith, number)) ∙ ap (λ (o : Option ℕ). position_of o (g.pulls + 1)) (sym is);
      refusals = stands.refusals;
      places = λ i.
          let index : 160 * g.pulls + (160 + i) ≡ 160 * (g.pulls + 1) + i = omega arith in
          rw empty refl ∙ sym (ap (λ (xs : List (Option ℤ)). get_or xs (160 + i) None) empty) ∙ stands.places (160 + i) ∙ ap at index;
    }

pub stands_empty : (l : Kept) (h : History) (position : ℕ) → Stands l h → l.position ≡ Some position → l.places ≡ [] →
    Stands (record l { position = Some ((position + 160) % 2 ^ 32) }) (Pulls ∷ h)
stands_empty l h position stands some empty = pulled_empty (gauge h).origin (gauge h) l position (held h) refl stands some empty

pub all_samples : (places : List (Option ℤ)) (frame : List ℤ) → ((i : ℕ) → IsSample (unwrap_or (get_or places i None) (pos 0))) → length frame ≡ 160 →
    ((k : ℕ) → k < 160 → get_or frame k (pos 0) ≡ unwrap_or (get_or places k None) (pos 0)) → All IsSample frame
all_samples places frame within long each k d below =
    rw (get_or_default frame k d (pos 0) below, each k (omega arith)) (within k)

pub is_some_if : {T : Type 0} {P : Type 0} (o : Option T) (v : T) → SomeIff o P v → P → IsSome o
is_some_if None v never p = absurd (never p)
is_some_if (Some x) v iff p = refl
