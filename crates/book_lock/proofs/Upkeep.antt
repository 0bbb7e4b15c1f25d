-- What a change of one view, or of two, leaves true of all views.
use Rattle.std.proofs.Common.{◌≡◌, ◌≢◌, ℕ, zero, suc, ◌+◌, ◌<◌, ◌≤◌, ⊎_elim, List, [], ◌∷◌, ◌++◌, length, set, Some, None, true, false, refl, sym, ap, ◌∙◌, subst, append_assoc, append-nil, arith, length-append}
use mathlib.Core.Option.{some, some-injective, some-ne-none}
use mathlib.Core.Logic.{dite}
use native.Mathlib.Decide.{ℕ_discrete}
use lib.ListN.{get_elem?}
use Rattle.atomic_table.proofs.Lists.{at_set, set_else}
use Rattle.book_lock.specs.declared.view.View.{View}
use Rattle.book_lock.specs.Histories.{GoesOn}
use Rattle.book_lock.specs.Rule.{one, workers, Fits, Each, Apart, Waiting, Desk, Nobody}

module _ {A : Type 0} where
  -- a changed place has the new value
  pub here : (l : List A) (i : ℕ) (a b : A) → get_elem? l i ≡ some a → get_elem? (set l i b) i ≡ some b
  here [] i a b e = absurd (some-ne-none a (sym e))
  here (x ∷ xs) zero a b e = refl
  here (x ∷ xs) (suc i) a b e = here xs i a b e

  -- a place has one value
  pub same_at : (l : List A) (i j : ℕ) (a b : A) → i ≡ j → get_elem? l i ≡ some a → get_elem? l j ≡ some b → a ≡ b
  same_at l i j a b e p q = some-injective a b (sym p ∙ (ap (get_elem? l) e ∙ q))

  -- the only value of a list
  pub only_one : (a b : A) (i : ℕ) → get_elem? (a ∷ []) i ≡ some b → b ≡ a
  only_one a b zero e = sym (some-injective a b e)
  only_one a b (suc i) e = absurd (some-ne-none b (sym e))

  -- the only value of a list, changed
  pub only_set : (l : List A) (a b c : A) (i : ℕ) → l ≡ a ∷ [] → get_elem? l i ≡ some b → set l i c ≡ c ∷ []
  only_set l a b c i e at = ap (λ (k : List A). set k i c) e ∙ at_first i (sym (ap (λ (k : List A). get_elem? k i) e) ∙ at)
    where
      at_first : (j : ℕ) → get_elem? (a ∷ []) j ≡ some b → set (a ∷ []) j c ≡ c ∷ []
      at_first zero p = refl
      at_first (suc j) p = absurd (some-ne-none b (sym p))

  pub goes_same : (h : List A) → GoesOn h h
  goes_same h = record { since = []; grown = refl }

  pub goes_nil : (h : List A) → GoesOn [] h
  goes_nil h = record { since = h; grown = sym (append-nil h) }

  pub goes_on : {a b c : List A} → GoesOn a b → GoesOn b c → GoesOn a c
  goes_on {a} p q = record { since = q.since ++ p.since; grown = q.grown ∙ (ap (λ t. q.since ++ t) p.grown ∙ sym (append_assoc q.since p.since a)) }

  pub goes_longer : {a b : List A} → GoesOn a b → length a ≤ length b
  goes_longer {a} p = omega (arith, ap length p.grown, length-append p.since a)

module _ {E S : Type 0} where
  pub workers_set : (l : List (View E S)) (i : ℕ) (v w : View E S) → get_elem? l i ≡ some v → workers (set l i w) + one v.worker ≡ workers l + one w.worker
  workers_set [] i v w e = absurd (some-ne-none v (sym e))
  workers_set (x ∷ xs) zero v w e = let same : one x.worker ≡ one v.worker = ap (λ (u : View E S). one u.worker) (some-injective x v e) in omega arith
  workers_set (x ∷ xs) (suc i) v w e = let rest = workers_set xs i v w e in omega (arith, rest)

  pub workers_kept : (l : List (View E S)) (i : ℕ) (v w : View E S) → get_elem? l i ≡ some v → w.worker ≡ v.worker → workers (set l i w) ≡ workers l
  workers_kept l i v w e same = let sum = workers_set l i v w e in let ones = ap one same in omega (arith, sum, ones)

  pub workers_snoc : (l : List (View E S)) (v : View E S) → workers (l ++ v ∷ []) ≡ workers l + one v.worker
  workers_snoc [] v = omega arith
  workers_snoc (x ∷ xs) v = let rest = workers_snoc xs v in omega (arith, rest)

  pub workers_some : (l : List (View E S)) (i : ℕ) (v : View E S) → get_elem? l i ≡ some v → v.worker ≡ true → 0 < workers l
  workers_some [] i v e y = absurd (some-ne-none v (sym e))
  workers_some (x ∷ xs) zero v e y = let same : one x.worker ≡ 1 = ap (λ (u : View E S). one u.worker) (some-injective x v e) ∙ ap one y in omega (arith, same)
  workers_some (x ∷ xs) (suc i) v e y = let rest = workers_some xs i v e y in omega (arith, rest)

  pub each_set : (views : List (View E S)) (id : ℕ) (w : View E S) (n s : ℕ) (h : List E)
      → ((seat : ℕ) (u : View E S) → seat ≢ id → get_elem? views seat ≡ some u → Fits n s h u) → Fits n s h w → Each (set views id w) n s h
  each_set views id w n s h others mine seat u e =
      ⊎_elim (λ (x : (seat ≡ id) × (w ≡ u)). subst (λ (y : View E S). Fits n s h y) x.1 mine) (λ (x : (seat ≢ id) × (get_elem? views seat ≡ some u)). others seat u x.0 x.1)
      (at_set views id seat w u e)

  pub apart_set : (views : List (View E S)) (id : ℕ) (w : View E S) → Apart views
      → ((seat : ℕ) (u : View E S) (t : ℕ) → seat ≢ id → get_elem? views seat ≡ some u → u.ticket ≡ Some t → w.ticket ≡ Some t → ⊥) → Apart (set views id w)
  apart_set views id w apart mine a b x y t ea eb ta tb =
      ⊎_elim
      (λ (p : (a ≡ id) × (w ≡ x)). ⊎_elim
      (λ (q : (b ≡ id) × (w ≡ y)). p.0 ∙ sym q.0)
      (λ (q : (b ≢ id) × (get_elem? views b ≡ some y)). absurd (mine b y t q.0 q.1 tb (ap (λ (u : View E S). u.ticket) p.1 ∙ ta)))
      (at_set views id b w y eb))
      (λ (p : (a ≢ id) × (get_elem? views a ≡ some x)). ⊎_elim
      (λ (q : (b ≡ id) × (w ≡ y)). absurd (mine a x t p.0 p.1 ta (ap (λ (u : View E S). u.ticket) q.1 ∙ tb)))
      (λ (q : (b ≢ id) × (get_elem? views b ≡ some y)). apart a b x y t p.1 q.1 ta tb)
      (at_set views id b w y eb))
      (at_set views id a w x ea)

  -- a view keeps its ticket, or gives it up
  pub apart_kept : (views : List (View E S)) (id : ℕ) (v w : View E S) → get_elem? views id ≡ some v → ((t : ℕ) → w.ticket ≡ Some t → v.ticket ≡ Some t) → Apart views → Apart (set views id w)
  apart_kept views id v w at same apart = apart_set views id w apart (λ seat u t ne e tu tw. ne (apart seat id u v t e at tu (same t tw)))

  pub waiting_kept : (views : List (View E S)) (id n s : ℕ) (v w : View E S) → get_elem? views id ≡ some v → w.ticket ≡ v.ticket → Waiting views n s → Waiting (set views id w) n s
  waiting_kept views id n s v w at same waiting t low high =
      let p = waiting t low high in
      dite (ℕ_discrete p.0 id)
      (λ e. (id, w, here views id v w at, same ∙ (ap (λ (u : View E S). u.ticket) (sym (same_at views p.0 id p.1 v e p.2 at)) ∙ p.3)))
      (λ ne. (p.0, p.1, set_else views id p.0 w ne ∙ p.2, p.3))

  pub waiting_drawn : (views : List (View E S)) (id n s : ℕ) (v w : View E S) → get_elem? views id ≡ some v → v.ticket ≡ None → w.ticket ≡ Some n → Waiting views n s → Waiting (set views id w) (n + 1) s
  waiting_drawn views id n s v w at free mine waiting t low high =
      dite (ℕ_discrete t n)
      (λ e. (id, w, here views id v w at, mine ∙ ap Some (sym e)))
      (λ ne. let less : t < n = omega arith in
      let p = waiting t low less in
      (p.0, p.1, set_else views id p.0 w (λ e. absurd (no_ticket p.1 t (same_at views p.0 id p.1 v e p.2 at) p.3)) ∙ p.2, p.3))
    where
      no_ticket : (u : View E S) (k : ℕ) → u ≡ v → u.ticket ≡ Some k → ⊥
      no_ticket u k same tu = let e : Some k ≡ None = sym tu ∙ (ap (λ (y : View E S). y.ticket) same ∙ free) in cc

  pub waiting_passed : (views : List (View E S)) (id n s : ℕ) (v w : View E S) → get_elem? views id ≡ some v → v.ticket ≡ Some s → Waiting views n s → Waiting (set views id w) n (s + 1)
  waiting_passed views id n s v w at mine waiting t low high =
      let less : s ≤ t = omega arith in
      let p = waiting t less high in
      (p.0, p.1, set_else views id p.0 w (λ e. later p.1 (same_at views p.0 id p.1 v e p.2 at) p.3) ∙ p.2, p.3)
    where
      later : (u : View E S) → u ≡ v → u.ticket ≡ Some t → ⊥
      later u same tu = let e : Some t ≡ Some s = sym tu ∙ (ap (λ (y : View E S). y.ticket) same ∙ mine) in let k : t ≡ s = cc in omega (arith, k, low)

  pub nobody_set : (views : List (View E S)) (id : ℕ) (w : View E S) → ((seat : ℕ) (u : View E S) → seat ≢ id → get_elem? views seat ≡ some u → u.holds ≡ false) → w.holds ≡ false → Nobody (set views id w)
  nobody_set views id w others mine seat u e =
      ⊎_elim (λ (x : (seat ≡ id) × (w ≡ u)). ap (λ (y : View E S). y.holds) (sym x.1) ∙ mine) (λ (x : (seat ≢ id) × (get_elem? views seat ≡ some u)). others seat u x.0 x.1)
      (at_set views id seat w u e)

  -- the desk's view is the one of the rule
  pub desk_at : (views : List (View E S)) (id : ℕ) (v : View E S) (h : List E) → get_elem? views id ≡ some v → v.desk ≡ true → (d : Desk views h) → d.view ≡ v
  desk_at views id v h at so d = same_at views d.seat id d.view v (sym (d.only id v at so)) d.there at

  pub desk_seen : (views : List (View E S)) (id : ℕ) (v : View E S) (h : List E) → get_elem? views id ≡ some v → Desk views h → v.desk ≡ true → h ≡ v.seen
  desk_seen views id v h at d so = sym d.seen ∙ ap (λ (u : View E S). u.seen) (desk_at views id v h at so d)

  -- the desk's view, where a view changes that keeps whose it is
  pub desk_set : (views : List (View E S)) (id : ℕ) (v w : View E S) (h k : List E) → get_elem? views id ≡ some v → w.desk ≡ v.desk → w.worker ≡ v.worker → w.out ≡ v.out
      → (v.desk ≡ true → w.seen ≡ k) → ((v.desk ≡ true → ⊥) → k ≡ h) → Desk views h → Desk (set views id w) k
  desk_set views id v w h k at desk worker out mine others d =
      dite (ℕ_discrete id d.seat)
      (λ e. let same = same_at views id d.seat v d.view e at d.there in
      let so : v.desk ≡ true = ap (λ (u : View E S). u.desk) same ∙ d.desk in
      record {
        seat = id;
        view = w;
        there = here views id v w at;
        desk = desk ∙ so;
        only = λ other u p q. only_set other u p q ∙ sym e;
        seen = mine so;
        out = out ∙ (ap (λ (u : View E S). u.out) same ∙ (d.out ∙ sym (workers_kept views id v w at worker)));
      })
      (λ ne. record {
        seat = d.seat;
        view = d.view;
        there = set_else views id d.seat w (λ e. ne (sym e)) ∙ d.there;
        desk = d.desk;
        only = only_set;
        seen = d.seen ∙ sym (others (λ so. ne (d.only id v at so)));
        out = d.out ∙ sym (workers_kept views id v w at worker);
      })
    where
      only_set : (other : ℕ) (u : View E S) → get_elem? (set views id w) other ≡ some u → u.desk ≡ true → other ≡ d.seat
      only_set other u p q =
          ⊎_elim (λ (x : (other ≡ id) × (w ≡ u)). x.0 ∙ d.only id v at (sym desk ∙ (ap (λ (y : View E S). y.desk) x.1 ∙ q))) (λ (x : (other ≢ id) × (get_elem? views other ≡ some u)). d.only other u x.1 q)
          (at_set views id other w u p)
