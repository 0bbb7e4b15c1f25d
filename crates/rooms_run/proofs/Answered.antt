-- Answers that are put one after the other, each to an output of its own.
use Rattle.std.proofs.Common.{◌≡◌, ◌≢◌, ℕ, zero, suc, ◌+◌, ◌<◌, ◌≤◌, ◌⊎◌, inl, inr, List, [], ◌∷◌, length, get_or, All, Option, Some, refl, sym, ap, ◌∙◌, subst, arith}
use Rattle.std.specs.List.{AllZip, slice_get}
use Rattle.std.proofs.lemmas.Bool.{cases_lt}
use Rattle.std.proofs.lemmas.Option.{get_or_from_slice_get}
use Rattle.edge_io.specs.Told.{Grows, GrowsByFront}
use Rattle.room_pool.specs.Listed.{Apart}
use Rattle.room_pool.specs.Named.{Named}
use Rattle.rooms_run.specs.declared.closing.Outcome.{Outcome}
use Rattle.rooms_run.proofs.Ending.{front-whole, front-none}
use Rattle.rooms_run.proofs.Zips.{zip_from_each}

-- the first i answers were put
pub record Put (before now : List ℕ → Option (List ℕ)) (list : List Named) (os : List Outcome) (i : ℕ) : Type 0 where
  pub grown : (k : ℕ) (d : Named) (e : Outcome) → k < i → Grows (before (get_or list k d).out) (now (get_or list k d).out) (get_or os k e).out.octets
  pub kept : (k : ℕ) (d : Named) → i ≤ k → k < length list → now (get_or list k d).out ≡ before (get_or list k d).out
  pub others : (name : List ℕ) → All (λ (n : Named). n.out ≢ name) list → now name ≡ before name

pub none-put : (held : List ℕ → Option (List ℕ)) (list : List Named) (os : List Outcome) → Put held held list os 0
none-put held list os = record { grown = λ k d e lt. absurd (omega arith); kept = λ k d low high. refl; others = λ name apart. refl }

-- outputs at two places are two
pub apart-at : (list : List Named) (i k : ℕ) (d e : Named) → Apart list → i < k → k < length list → (get_or list k d).out ≢ (get_or list i e).out
apart-at [] i k d e apart lt within = absurd (omega arith)
apart-at (n ∷ list) zero zero d e apart lt within = absurd (omega arith)
apart-at (n ∷ list) zero (suc k) d e apart lt within = apart.0 k d (omega arith)
apart-at (n ∷ list) (suc i) zero d e apart lt within = absurd (omega arith)
apart-at (n ∷ list) (suc i) (suc k) d e apart lt within = apart-at list i k d e apart.1 (omega arith) (omega arith)

turned : (a b : List ℕ) → a ≢ b → b ≢ a
turned a b not e = not (sym e)

all-other : (list : List Named) (i : ℕ) (d : Named) (name : List ℕ) → All (λ (n : Named). n.out ≢ name) list → i < length list → name ≢ (get_or list i d).out
all-other list i d name apart within = turned (get_or list i d).out name (apart i d within)

-- one more
pub one-put : (before mid now : List ℕ → Option (List ℕ)) (list : List Named) (os : List Outcome) (i : ℕ) (n : Named) (o : Outcome) → Apart list → i < length list
    → get_or list i n ≡ n → i < length os → get_or os i o ≡ o → Put before mid list os i
    → Grows (mid n.out) (now n.out) o.out.octets → ((other : List ℕ) → other ≢ n.out → now other ≡ mid other) → Put before now list os (i + 1)
one-put before mid now list os i n o apart within here inside there put grows stay =
    let at : (d : Named) → get_or list i d ≡ n = λ d. get-same list i d n within ∙ here in
    record {
      grown = λ k d e lt. grown-at k d e lt (cases_lt k i);
      kept = λ k d low high.
          stay (get_or list k d).out (λ e. apart-at list i k d n apart (omega arith) high (e ∙ ap (λ (m : Named). m.out) (sym here)))
          ∙ put.kept k d (omega arith) high;
      others = λ name all.
          stay name (λ e. all-other list i n name all within (e ∙ ap (λ (m : Named). m.out) (sym here))) ∙ put.others name all;
    }
  where
    get-same : {X : Type 0} (xs : List X) (j : ℕ) (d e : X) → j < length xs → get_or xs j d ≡ get_or xs j e
    get-same [] j d e lt = absurd (omega arith)
    get-same (x ∷ xs) zero d e lt = refl
    get-same (x ∷ xs) (suc j) d e lt = get-same xs j d e (omega arith)

    grown-here : (d : Named) (e : Outcome) → Grows (before (get_or list i d).out) (now (get_or list i d).out) (get_or os i e).out.octets
    grown-here d e =
        let is : get_or list i d ≡ n = get-same list i d n within ∙ here in
        let was : mid n.out ≡ before n.out = ap (λ (m : Named). mid m.out) (sym here) ∙ put.kept i n (omega arith) within ∙ ap (λ (m : Named). before m.out) here in
        subst (λ (m : Named). Grows (before m.out) (now m.out) (get_or os i e).out.octets) (sym is)
        (subst (λ (p : Outcome). Grows (before n.out) (now n.out) p.out.octets) (sym (get-same os i e o inside ∙ there))
        (subst (λ (h : Option (List ℕ)). Grows h (now n.out) o.out.octets) was grows))

    grown-at : (k : ℕ) (d : Named) (e : Outcome) → k < i + 1 → (k < i) ⊎ (i ≤ k) → Grows (before (get_or list k d).out) (now (get_or list k d).out) (get_or os k e).out.octets
    grown-at k d e lt (inl low) =
        let other : (get_or list k d).out ≢ n.out = λ q. turned (get_or list i n).out (get_or list k d).out (apart-at list k i n d apart low within) (q ∙ ap (λ (m : Named). m.out) (sym here)) in
        subst (λ (h : Option (List ℕ)). Grows (before (get_or list k d).out) h (get_or os k e).out.octets) (sym (stay (get_or list k d).out other)) (put.grown k d e low)
    grown-at k d e lt (inr high) =
        let is : i ≡ k = omega arith in
        subst (λ (j : ℕ). Grows (before (get_or list j d).out) (now (get_or list j d).out) (get_or os j e).out.octets) is (grown-here d e)

-- all were put
pub all-put : (before now : List ℕ → Option (List ℕ)) (list : List Named) (os : List Outcome) (i : ℕ) → length os ≡ length list → length list ≤ i → Put before now list os i
    → AllZip (λ (n : Named) (o : Outcome). Grows (before n.out) (now n.out) o.out.octets) list os
all-put before now list os i even all put =
    zip_from_each (λ (n : Named) (o : Outcome). Grows (before n.out) (now n.out) o.out.octets) list os even (λ k d e lt. put.grown k d e (omega arith))

-- the first i were put, and a front of the next
pub front-put : (before mid now : List ℕ → Option (List ℕ)) (list : List Named) (os : List Outcome) (i : ℕ) (n : Named) (o : Outcome) → Apart list → length os ≡ length list → i < length list
    → get_or list i n ≡ n → get_or os i o ≡ o → Put before mid list os i
    → GrowsByFront (mid n.out) (now n.out) o.out.octets → ((other : List ℕ) → other ≢ n.out → now other ≡ mid other)
    → AllZip (λ (n : Named) (o : Outcome). GrowsByFront (before n.out) (now n.out) o.out.octets) list os
front-put before mid now list os i n o apart even within here there put front stay =
    zip_from_each (λ (n : Named) (o : Outcome). GrowsByFront (before n.out) (now n.out) o.out.octets) list os even (λ k d e lt. at k d e lt (cases_lt k i) (cases_lt i k))
  where
    get-same : {X : Type 0} (xs : List X) (j : ℕ) (d e : X) → j < length xs → get_or xs j d ≡ get_or xs j e
    get-same [] j d e lt = absurd (omega arith)
    get-same (x ∷ xs) zero d e lt = refl
    get-same (x ∷ xs) (suc j) d e lt = get-same xs j d e (omega arith)

    low-at : (k : ℕ) (d : Named) (e : Outcome) → k < i → GrowsByFront (before (get_or list k d).out) (now (get_or list k d).out) (get_or os k e).out.octets
    low-at k d e low =
        let other : (get_or list k d).out ≢ n.out = λ q. turned (get_or list i n).out (get_or list k d).out (apart-at list k i n d apart low within) (q ∙ ap (λ (m : Named). m.out) (sym here)) in
        subst (λ (h : Option (List ℕ)). GrowsByFront (before (get_or list k d).out) h (get_or os k e).out.octets) (sym (stay (get_or list k d).out other))
        (front-whole (before (get_or list k d).out) (mid (get_or list k d).out) (get_or os k e).out.octets (put.grown k d e low))

    here-at : (d : Named) (e : Outcome) → GrowsByFront (before (get_or list i d).out) (now (get_or list i d).out) (get_or os i e).out.octets
    here-at d e =
        let is : get_or list i d ≡ n = get-same list i d n within ∙ here in
        let inside : i < length os = omega arith in
        let was : mid n.out ≡ before n.out = ap (λ (m : Named). mid m.out) (sym here) ∙ put.kept i n (omega arith) within ∙ ap (λ (m : Named). before m.out) here in
        subst (λ (m : Named). GrowsByFront (before m.out) (now m.out) (get_or os i e).out.octets) (sym is)
        (subst (λ (p : Outcome). GrowsByFront (before n.out) (now n.out) p.out.octets) (sym (get-same os i e o inside ∙ there))
        (subst (λ (h : Option (List ℕ)). GrowsByFront h (now n.out) o.out.octets) was front))

    high-at : (k : ℕ) (d : Named) (e : Outcome) → i < k → k < length list → GrowsByFront (before (get_or list k d).out) (now (get_or list k d).out) (get_or os k e).out.octets
    high-at k d e high lt =
        let other : (get_or list k d).out ≢ n.out = λ q. apart-at list i k d n apart high lt (q ∙ ap (λ (m : Named). m.out) (sym here)) in
        subst (λ (h : Option (List ℕ)). GrowsByFront (before (get_or list k d).out) h (get_or os k e).out.octets)
        (sym (stay (get_or list k d).out other ∙ put.kept k d (omega arith) lt)) (front-none (before (get_or list k d).out) (get_or os k e).out.octets)

    at : (k : ℕ) (d : Named) (e : Outcome) → k < length list → (k < i) ⊎ (i ≤ k) → (i < k) ⊎ (k ≤ i)
        → GrowsByFront (before (get_or list k d).out) (now (get_or list k d).out) (get_or os k e).out.octets
    at k d e lt (inl low) above = low-at k d e low
    at k d e lt (inr up) (inl high) = high-at k d e high lt
    at k d e lt (inr up) (inr down) =
        let same : i ≡ k = omega arith in
        subst (λ (j : ℕ). GrowsByFront (before (get_or list j d).out) (now (get_or list j d).out) (get_or os j e).out.octets) same (here-at d e)

-- what other names hold after a call that changed but one
pub others-put : (before mid now : List ℕ → Option (List ℕ)) (list : List Named) (os : List Outcome) (i : ℕ) (n : Named) → i < length list → get_or list i n ≡ n → Put before mid list os i
    → ((other : List ℕ) → other ≢ n.out → now other ≡ mid other) → (name : List ℕ) → All (λ (m : Named). m.out ≢ name) list → now name ≡ before name
others-put before mid now list os i n within here put stay name all =
    stay name (λ e. all-other list i n name all within (e ∙ ap (λ (m : Named). m.out) (sym here))) ∙ put.others name all
