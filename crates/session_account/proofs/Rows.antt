-- Rows, one after the other.
use Rattle.std.proofs.Common.{◌≡◌, ◌∙◌, ℕ, ◌+◌, List, [], ◌∷◌, ◌++◌, append_assoc, append-nil, length, take, map, sym, ap, arith}
use Rattle.std.specs.Prelude.{◌==◌, if◌then◌else◌, Some, slice_get}
use Rattle.std.specs.List.{flat_map}
use Rattle.std.proofs.lemmas.List.{take_more, map-append, length-map, length-take-le}
use Rattle.std.proofs.Math.Dec.{eqb-suc-zero}
use Rattle.std.proofs.lemmas.Option.{get_or_from_slice_get, slice_get_within}
use Rattle.std.proofs.lemmas.Grind.{flat_map-append}
use Rattle.session_account.specs.declared.forms.Form.{Form}
use Rattle.session_account.specs.Forms.{Named, sep_of, row_text, rows_text}

-- a front with one more
pub front-more : {X : Type 0} (i : ℕ) (xs : List X) (x : X) → slice_get xs i ≡ Some x → take (i + 1) xs ≡ take i xs ++ x ∷ []
front-more i xs x at =
    take_more xs i x (slice_get_within xs i x at) ∙ ap (λ y. take i xs ++ y ∷ []) (get_or_from_slice_get xs i x x at)

module _ (form : Form) (name : List ℕ) where
  parted : List Named → List ℕ
  parted r = sep_of form ++ row_text form name r

  snoc : (rs : List (List Named)) (r : List Named)
      → rows_text form name rs ++ ((if length rs == 0 then [] else sep_of form) ++ row_text form name r) ≡ rows_text form name (rs ++ r ∷ [])
  snoc [] r = sym (append-nil (row_text form name r))
  snoc (q ∷ rs) r =
      ap (λ b. (row_text form name q ++ flat_map (λ s. sep_of form ++ row_text form name s) rs) ++ ((if b then [] else sep_of form) ++ row_text form name r))
      (eqb-suc-zero (length rs))
      ∙ append_assoc (row_text form name q) (flat_map (λ s. sep_of form ++ row_text form name s) rs) (sep_of form ++ row_text form name r)
      ∙ ap (λ t. row_text form name q ++ t)
      (ap (λ t. flat_map (λ s. sep_of form ++ row_text form name s) rs ++ t) (sym (append-nil (sep_of form ++ row_text form name r)))
      ∙ sym (flat_map-append (λ s. sep_of form ++ row_text form name s) rs (r ∷ [])))

  -- one more row
  pub rows-more : {X : Type 0} (row : X → List Named) (i : ℕ) (xs : List X) (x : X) (cells : List Named) (old mid new : List ℕ)
      → slice_get xs i ≡ Some x → cells ≡ row x → mid ≡ old ++ rows_text form name (map row (take i xs))
      → new ≡ mid ++ ((if i == 0 then [] else sep_of form) ++ row_text form name cells)
      → new ≡ old ++ rows_text form name (map row (take (i + 1) xs))
  rows-more row i xs x cells old mid new at is before added =
      let many : length (map row (take i xs)) ≡ i = length-map (take i xs) row ∙ length-take-le i xs (omega (arith, slice_get_within xs i x at)) in
      let next : map row (take (i + 1) xs) ≡ map row (take i xs) ++ row x ∷ [] =
      ap (map row) (front-more i xs x at) ∙ map-append row (take i xs) (x ∷ []) in
      added
      ∙ ap (λ cs. mid ++ ((if i == 0 then [] else sep_of form) ++ row_text form name cs)) is
      ∙ ap (λ t. t ++ ((if i == 0 then [] else sep_of form) ++ row_text form name (row x))) before
      ∙ append_assoc old (rows_text form name (map row (take i xs))) ((if i == 0 then [] else sep_of form) ++ row_text form name (row x))
      ∙ ap (λ t. old ++ t)
      (ap (λ n. rows_text form name (map row (take i xs)) ++ ((if n == 0 then [] else sep_of form) ++ row_text form name (row x))) (sym many)
      ∙ snoc (map row (take i xs)) (row x) ∙ ap (λ rs. rows_text form name rs) (sym next))

-- four pieces, one behind the other
pub four-pieces : (t a b c d t1 t2 t3 t4 : List ℕ) → t1 ≡ t ++ a → t2 ≡ t1 ++ b → t3 ≡ t2 ++ c → t4 ≡ t3 ++ d
    → t4 ≡ t ++ (a ++ (b ++ (c ++ (d ++ []))))
four-pieces t a b c d t1 t2 t3 t4 e1 e2 e3 e4 =
    e4 ∙ ap (λ (x : List ℕ). x ++ d) (e3 ∙ ap (λ (x : List ℕ). x ++ c) (e2 ∙ ap (λ (x : List ℕ). x ++ b) e1))
    ∙ append_assoc ((t ++ a) ++ b) c d ∙ append_assoc (t ++ a) b (c ++ d) ∙ append_assoc t a (b ++ (c ++ d))
    ∙ ap (λ (x : List ℕ). t ++ (a ++ (b ++ (c ++ x)))) (sym (append-nil d))
