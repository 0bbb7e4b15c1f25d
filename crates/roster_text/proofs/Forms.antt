-- The form of a line, by how many words it has.
use denote.Ref.{Bor}
use Rattle.std.proofs.Common.{◌≡◌, ◌<◌, ◌≤◌, ℕ, List, [], ◌∷◌, length, get_or, Option, None, Some, refl, arith}
use Rattle.roster_text.specs.Grammar.{Shape, join_form, shape_of}
use Rattle.roster_text.specs.Lent.{texts, text}

-- a join whose listening words are those from the fifth on
abbrev pub join_of : (d : Bor (List ℕ)) (ws : List (Bor (List ℕ))) (bundle : Option (Bor (List ℕ))) → Option Shape
join_of d ws bundle = join_form (get_or ws 0 d).now (get_or ws 1 d).now (get_or ws 2 d).now (get_or ws 3 d).now (Some (record {
  rate = (get_or ws 4 d).now;
  pt = (get_or ws 5 d).now;
  ssrc = (get_or ws 6 d).now;
  seq = (get_or ws 7 d).now;
  stamp = (get_or ws 8 d).now;
  bundle = text bundle;
}))

-- a join of nine words
pub nine_words : (d : Bor (List ℕ)) (ws : List (Bor (List ℕ))) → 9 ≤ length ws → length ws < 10 → shape_of (texts ws) ≡ join_of d ws None
nine_words d [] h l = absurd (omega arith)
nine_words d (w0 ∷ []) h l = absurd (omega arith)
nine_words d (w0 ∷ w1 ∷ []) h l = absurd (omega arith)
nine_words d (w0 ∷ w1 ∷ w2 ∷ []) h l = absurd (omega arith)
nine_words d (w0 ∷ w1 ∷ w2 ∷ w3 ∷ []) h l = absurd (omega arith)
nine_words d (w0 ∷ w1 ∷ w2 ∷ w3 ∷ w4 ∷ []) h l = absurd (omega arith)
nine_words d (w0 ∷ w1 ∷ w2 ∷ w3 ∷ w4 ∷ w5 ∷ []) h l = absurd (omega arith)
nine_words d (w0 ∷ w1 ∷ w2 ∷ w3 ∷ w4 ∷ w5 ∷ w6 ∷ []) h l = absurd (omega arith)
nine_words d (w0 ∷ w1 ∷ w2 ∷ w3 ∷ w4 ∷ w5 ∷ w6 ∷ w7 ∷ []) h l = absurd (omega arith)
nine_words d (w0 ∷ w1 ∷ w2 ∷ w3 ∷ w4 ∷ w5 ∷ w6 ∷ w7 ∷ w8 ∷ []) h l = refl
nine_words d (w0 ∷ w1 ∷ w2 ∷ w3 ∷ w4 ∷ w5 ∷ w6 ∷ w7 ∷ w8 ∷ w9 ∷ ws) h l = absurd (omega arith)

-- a join of ten words
pub ten_words : (d : Bor (List ℕ)) (ws : List (Bor (List ℕ))) → 10 ≤ length ws → length ws < 11 → shape_of (texts ws) ≡ join_of d ws (Some (get_or ws 9 d))
ten_words d [] h l = absurd (omega arith)
ten_words d (w0 ∷ []) h l = absurd (omega arith)
ten_words d (w0 ∷ w1 ∷ []) h l = absurd (omega arith)
ten_words d (w0 ∷ w1 ∷ w2 ∷ []) h l = absurd (omega arith)
ten_words d (w0 ∷ w1 ∷ w2 ∷ w3 ∷ []) h l = absurd (omega arith)
ten_words d (w0 ∷ w1 ∷ w2 ∷ w3 ∷ w4 ∷ []) h l = absurd (omega arith)
ten_words d (w0 ∷ w1 ∷ w2 ∷ w3 ∷ w4 ∷ w5 ∷ []) h l = absurd (omega arith)
ten_words d (w0 ∷ w1 ∷ w2 ∷ w3 ∷ w4 ∷ w5 ∷ w6 ∷ []) h l = absurd (omega arith)
ten_words d (w0 ∷ w1 ∷ w2 ∷ w3 ∷ w4 ∷ w5 ∷ w6 ∷ w7 ∷ []) h l = absurd (omega arith)
ten_words d (w0 ∷ w1 ∷ w2 ∷ w3 ∷ w4 ∷ w5 ∷ w6 ∷ w7 ∷ w8 ∷ []) h l = absurd (omega arith)
ten_words d (w0 ∷ w1 ∷ w2 ∷ w3 ∷ w4 ∷ w5 ∷ w6 ∷ w7 ∷ w8 ∷ w9 ∷ []) h l = refl
ten_words d (w0 ∷ w1 ∷ w2 ∷ w3 ∷ w4 ∷ w5 ∷ w6 ∷ w7 ∷ w8 ∷ w9 ∷ w10 ∷ ws) h l = absurd (omega arith)

-- no form has another number of words
pub other_count : (ws : List (Bor (List ℕ))) → (length ws ≡ 2 → ⊥) → (length ws ≡ 3 → ⊥) → (length ws ≡ 5 → ⊥) → (length ws ≡ 9 → ⊥)
    → (length ws ≡ 10 → ⊥) → None ≡ shape_of (texts ws)
other_count [] a b c d e = refl
other_count (w0 ∷ []) a b c d e = refl
other_count (w0 ∷ w1 ∷ []) a b c d e = absurd (a refl)
other_count (w0 ∷ w1 ∷ w2 ∷ []) a b c d e = absurd (b refl)
other_count (w0 ∷ w1 ∷ w2 ∷ w3 ∷ []) a b c d e = refl
other_count (w0 ∷ w1 ∷ w2 ∷ w3 ∷ w4 ∷ []) a b c d e = absurd (c refl)
other_count (w0 ∷ w1 ∷ w2 ∷ w3 ∷ w4 ∷ w5 ∷ []) a b c d e = refl
other_count (w0 ∷ w1 ∷ w2 ∷ w3 ∷ w4 ∷ w5 ∷ w6 ∷ []) a b c d e = refl
other_count (w0 ∷ w1 ∷ w2 ∷ w3 ∷ w4 ∷ w5 ∷ w6 ∷ w7 ∷ []) a b c d e = refl
other_count (w0 ∷ w1 ∷ w2 ∷ w3 ∷ w4 ∷ w5 ∷ w6 ∷ w7 ∷ w8 ∷ []) a b c d e = absurd (d refl)
other_count (w0 ∷ w1 ∷ w2 ∷ w3 ∷ w4 ∷ w5 ∷ w6 ∷ w7 ∷ w8 ∷ w9 ∷ []) a b c d e = absurd (e refl)
other_count (w0 ∷ w1 ∷ w2 ∷ w3 ∷ w4 ∷ w5 ∷ w6 ∷ w7 ∷ w8 ∷ w9 ∷ w10 ∷ ws) a b c d e = refl
