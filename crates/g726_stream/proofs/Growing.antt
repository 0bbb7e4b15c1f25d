-- What an output holds after one piece and another, and fronts of them.
use Rattle.std.proofs.Common.{◌≡◌, ◌∙◌, ℕ, List, [], ◌++◌, length, take, drop, Option, Some, None, IfSome, ◌+◌, refl, sym, ap, arith, append_assoc, take-append-drop}
use Rattle.std.proofs.lemmas.List.{take_all, take_at, append-nil}
use Rattle.std.proofs.Math.Seq.{take-append-add}
use Rattle.edge_io.specs.Told.{Grows, GrowsByFront}

pub grows_then : (old mid new : Option (List ℕ)) (p q : List ℕ) → Grows old mid p → Grows mid new q →
    Grows old new (p ++ q)
grows_then None mid new p q first more = rw first at more
grows_then (Some held) mid new p q first more =
    let there : new ≡ Some ((held ++ p) ++ q) = rw first at more in
    there ∙ ap (λ (all : List ℕ). Some all) (append_assoc held p q)

pub front_then : (old mid new : Option (List ℕ)) (p q : List ℕ) → Grows old mid p → GrowsByFront mid new q →
    GrowsByFront old new (p ++ q)
front_then None mid new p q first more = rw first at more
front_then (Some held) mid new p q first more =
    let there : (n : ℕ) × (new ≡ Some ((held ++ p) ++ take n q)) = rw first at more in (
      length p + there.0,
      there.1 ∙ ap (λ (all : List ℕ). Some all) (append_assoc held p (take there.0 q)
          ∙ ap (λ (part : List ℕ). held ++ part) (sym (take-append-add p q there.0))),
    )

-- a front of a piece is one of a longer piece
front_is : (n : ℕ) (p q : List ℕ) → take (length (take n p)) (p ++ q) ≡ take n p
front_is n p q =
    ap (λ (all : List ℕ). take (length (take n p)) (all ++ q)) (sym (take-append-drop n p))
    ∙ ap (take (length (take n p))) (append_assoc (take n p) (drop n p) q)
    ∙ take_at (take n p) (drop n p ++ q) (length (take n p)) refl

pub front_more : (old new : Option (List ℕ)) (p q : List ℕ) → GrowsByFront old new p → GrowsByFront old new (p ++ q)
front_more None new p q grown = grown
front_more (Some held) new p q (n, is) =
    (length (take n p), is ∙ ap (λ (part : List ℕ). Some (held ++ part)) (sym (front_is n p q)))

pub front_of_whole : (old new : Option (List ℕ)) (piece : List ℕ) → Grows old new piece → GrowsByFront old new piece
front_of_whole None new piece grown = grown
front_of_whole (Some held) new piece grown = (
  length piece,
  grown ∙ ap (λ (part : List ℕ). Some (held ++ part))
      (sym (take_all (length piece) piece (omega arith))),
)

pub front_none : (old : Option (List ℕ)) (piece : List ℕ) → GrowsByFront old old piece
front_none None piece = refl
front_none (Some held) piece = (0, ap (λ (all : List ℕ). Some all) (sym (append-nil held)))

pub grows_none : (old : Option (List ℕ)) → Grows old old []
grows_none None = refl
grows_none (Some held) = ap (λ (all : List ℕ). Some all) (sym (append-nil held))

-- the same where the octets are told
pub fronts_of_whole : {X : Type 0} (all : Option X) (old new : Option (List ℕ)) (E : X → Type 0) (made : X → List ℕ)
    (R : Type 0) → IfSome all (λ x. E x × Grows old new (made x) × R) → IfSome all (λ x. GrowsByFront old new (made x))
fronts_of_whole None old new E made R grown = tt
fronts_of_whole (Some x) old new E made R grown = front_of_whole old new (made x) grown.1
