-- A frame taken from the front of the places.
use Rattle.std.proofs.Common.{◌≡◌, ◌<◌, ◌+◌, ◌-◌, ℕ, ℤ, sym, ◌∙◌, ap, arith, List, ◌++◌, length, get_or, take, drop, replicate, Option, None, inl, inr, min}
use Rattle.std.proofs.Common.{length-take-le, get_or-drop, get_or-take}
use Rattle.std.proofs.lemmas.Bool.{cases_lt}
use Rattle.std.proofs.lemmas.List.{get_or_append_left, get_or-append_right, get_or_past, get_or-replicate}

-- what was read over 160 empty places is what the first 160 places hold
pub read_places : (old : List (Option ℤ)) (n k : ℕ) → n ≡ min 160 (length old) → k < 160 →
    get_or (take n old ++ drop n (replicate 160 None)) k None ≡ get_or old k None
read_places old n k read within =
    let long : length (take n old) ≡ n = length-take-le n old (omega (arith, read)) in
    elim (cases_lt k n) [
      | inl below ↦ get_or_append_left (take n old) (drop n (replicate 160 None)) None k (omega (arith, long)) ∙ get_or-take n old k None below
      | inr past ↦
          get_or-append_right (take n old) (drop n (replicate 160 None)) n k None long past
          ∙ get_or-drop n (replicate 160 None) (k - n) None
          ∙ get_or-replicate 160 (n + (k - n)) None None (omega arith)
          ∙ sym (get_or_past old k None (omega (arith, read)))
    ]

-- what is left is what the places past the first 160 hold
pub left_places : (old : List (Option ℤ)) (n i : ℕ) → n ≡ min 160 (length old) → get_or (drop n old) i None ≡ get_or old (160 + i) None
left_places old n i read = elim (cases_lt (length old) 160) [
  | inl short ↦
      get_or-drop n old i None ∙ get_or_past old (n + i) None (omega (arith, read)) ∙ sym (get_or_past old (160 + i) None (omega arith))
  | inr long ↦ get_or-drop n old i None ∙ ap (λ (m : ℕ). get_or old (m + i) None) (omega (arith, read))
]
