-- Passes are split off and put back, and the lock is closed.
use Rattle.std.proofs.Common.{◌≡◌, ◌≢◌, ℕ, inl, inr, ⊎_elim, List, [], ◌∷◌, ◌++◌, set, Option, Some, None, true, false, refl, sym, ap, ◌∙◌, subst, arith}
use mathlib.Core.Option.{some, none, some-injective, some-ne-none}
use lib.ListN.{get_elem?}
use Rattle.atomic_table.specs.Table.{State, Splits, Joins, Final, Seen}
use Rattle.atomic_table.proofs.Lists.{at_set, set_else, at_snoc, at_longer}
use Rattle.book_lock.specs.declared.view.View.{View}
use Rattle.book_lock.specs.Views.{spent, lending, hired, returned, Idle}
use Rattle.book_lock.specs.Rule.{one, Fits, Each, Apart, Waiting, Desk, Nobody, Place, Keeps, Rule}
use Rattle.book_lock.proofs.Upkeep.{here, same_at, goes_nil, workers_set, workers_snoc, workers_some, each_set, apart_kept, waiting_kept, desk_at, desk_seen}
use Rattle.book_lock.proofs.Turning.{not_true, not_both, no_some, kept, place_kept}

module _ {E S : Type 0} where
  -- what a view without a ticket and without the turn leaves true, put behind the others
  each_more : (views : List (View E S)) (w : View E S) (n s : ℕ) (h : List E) → Each views n s h → Fits n s h w → Each (views ++ w ∷ []) n s h
  each_more views w n s h each mine seat u e = ⊎_elim (λ p. each seat u p) (λ (p : w ≡ u). subst (λ (y : View E S). Fits n s h y) p mine) (at_snoc views w u seat e)

  apart_more : (views : List (View E S)) (w : View E S) → w.ticket ≡ None → Apart views → Apart (views ++ w ∷ [])
  apart_more views w free apart a b x y t ea eb ta tb =
      ⊎_elim
      (λ p. ⊎_elim (λ q. apart a b x y t p q ta tb) (λ (q : w ≡ y). absurd (none y q tb)) (at_snoc views w y b eb))
      (λ (p : w ≡ x). absurd (none x p ta))
      (at_snoc views w x a ea)
    where
      none : (u : View E S) → w ≡ u → u.ticket ≡ Some t → ⊥
      none u same tu = no_some (sym free ∙ (ap (λ (y : View E S). y.ticket) same ∙ tu))

  waiting_more : (views : List (View E S)) (w : View E S) (n s : ℕ) → Waiting views n s → Waiting (views ++ w ∷ []) n s
  waiting_more views w n s waiting t low high = let p = waiting t low high in (p.0, p.1, at_longer views (w ∷ []) p.0 p.1 p.2, p.3)

  nobody_more : (views : List (View E S)) (w : View E S) → w.holds ≡ false → Nobody views → Nobody (views ++ w ∷ [])
  nobody_more views w idle nobody seat u e = ⊎_elim (λ p. nobody seat u p) (λ (p : w ≡ u). ap (λ (y : View E S). y.holds) (sym p) ∙ idle) (at_snoc views w u seat e)

  -- one more is out
  desk_more : (views : List (View E S)) (id : ℕ) (v : View E S) (h : List E) → get_elem? views id ≡ some v → v.desk ≡ true → Desk views h → Desk (set views id (lending v) ++ hired v ∷ []) h
  desk_more views id v h at so d = record {
    seat = id;
    view = lending v;
    there = at_longer (set views id (lending v)) (hired v ∷ []) id (lending v) (here views id v (lending v) at);
    desk = so;
    only = λ other u e p. ⊎_elim
        (λ q. ⊎_elim (λ (r : (other ≡ id) × (lending v ≡ u)). r.0) (λ (r : (other ≢ id) × (get_elem? views other ≡ some u)). d.only other u r.1 p ∙ sym (d.only id v at so)) (at_set views id other (lending v) u q))
        (λ (q : hired v ≡ u). absurd (not_both p (ap (λ (y : View E S). y.desk) (sym q))))
        (at_snoc (set views id (lending v)) (hired v) u other e);
    seen = sym (desk_seen views id v h at d so);
    out = let a = workers_set views id v (lending v) at in let b = workers_snoc (set views id (lending v)) (hired v) in
        let c = d.out in let same : d.view.out ≡ v.out = ap (λ (u : View E S). u.out) (desk_at views id v h at so d) in omega (arith, a, b, c, same);
  }

  -- one less is out
  desk_less : (views : List (View E S)) (id other : ℕ) (v u : View E S) (h : List E) → get_elem? views id ≡ some v → v.desk ≡ true → other ≢ id → get_elem? views other ≡ some u → u.worker ≡ true
      → Desk views h → Desk (set (set views id (returned v)) other spent) h
  desk_less views id other v u h at so ne there works d = record {
    seat = id;
    view = returned v;
    there = set_else (set views id (returned v)) other id spent (λ e. ne (sym e)) ∙ here views id v (returned v) at;
    desk = so;
    only = λ seat y e p. ⊎_elim
        (λ (q : (seat ≡ other) × (spent ≡ y)). absurd (not_both p (ap (λ (z : View E S). z.desk) (sym q.1))))
        (λ (q : (seat ≢ other) × (get_elem? (set views id (returned v)) seat ≡ some y)). ⊎_elim
        (λ (r : (seat ≡ id) × (returned v ≡ y)). r.0)
        (λ (r : (seat ≢ id) × (get_elem? views seat ≡ some y)). d.only seat y r.1 p ∙ sym (d.only id v at so))
        (at_set views id seat (returned v) y q.1))
        (at_set (set views id (returned v)) other seat spent y e);
    seen = sym (desk_seen views id v h at d so);
    out = let a = workers_set views id v (returned v) at in let b = workers_set (set views id (returned v)) other u spent (set_else views id other (returned v) ne ∙ there) in
        let c = d.out in let same : d.view.out ≡ v.out = ap (λ (y : View E S). y.out) (desk_at views id v h at so d) in let counted : one u.worker ≡ 1 = ap one works in
        let some_out = workers_some views other u there works in omega (arith, a, b, c, same, counted, some_out);
  }

module _ {T E S : Type 0} (stands : T → List E → S → Type 0) where
  place_more : (homes : List (mathlib.Core.Option.Option (Option T))) (views : List (View E S)) (w : View E S) (h : List E) → w.holds ≡ false → Place stands homes views h → Place stands homes (views ++ w ∷ []) h
  place_more homes views w h idle (inl p) = inl (p.0, p.1, at_longer views (w ∷ []) p.0 p.1 p.2, p.3, p.4)
  place_more homes views w h idle (inr p) = inr (nobody_more views w idle p.0, p.1)

  -- a worker's pass is split off the desk's
  pub splits : (id : ℕ) (v : View E S) → Idle v → v.desk ≡ true → Splits (Rule stands) id v (lending v) (hired v)
  splits id v idle so s holds at = inr (record {
    next = k.next;
    serving = k.serving;
    history = k.history;
    words = k.words;
    ordered = k.ordered;
    small = k.small;
    each = each_more (set s.views id (lending v)) (hired v) k.next k.serving k.history
        (each_set s.views id (lending v) k.next k.serving k.history (λ seat u _ at'. k.each seat u at') (record { seen = own.seen; ticket = own.ticket; turn = own.turn; live = own.live }))
        (record { seen = own.seen; ticket = λ t e. absurd (no_some e); turn = λ p. absurd (not_both p refl); live = λ _ _. refl });
    apart = apart_more (set s.views id (lending v)) (hired v) refl (apart_kept s.views id v (lending v) at (λ a b. b) k.apart);
    waiting = waiting_more (set s.views id (lending v)) (hired v) k.next k.serving (waiting_kept s.views id k.next k.serving v (lending v) at refl k.waiting);
    desk = desk_more s.views id v k.history at so k.desk;
    place = place_more s.homes (set s.views id (lending v)) (hired v) k.history refl (place_kept stands s id v (lending v) at refl k.history k.place);
  })
    where
      k : Keeps stands s
      k = kept stands s id v holds at (λ p _. not_both p idle.holds)

      own : Fits k.next k.serving k.history v
      own = k.each id v at

  -- a worker's pass is put back
  pub joins : (id other : ℕ) (v u : View E S) → Idle v → v.desk ≡ true → Idle u → u.worker ≡ true → Joins (Rule stands) id v other u (returned v) spent
  joins id other v u idle so still works s holds at ne there = inr (record {
    next = k.next;
    serving = k.serving;
    history = k.history;
    words = k.words;
    ordered = k.ordered;
    small = k.small;
    each = each_set first other spent k.next k.serving k.history
        (λ seat y _ at'. each_first seat y at')
        (record { seen = goes_nil k.history; ticket = λ t e. absurd (no_some e); turn = λ p. absurd (not_both p refl); live = λ _ _. refl });
    apart = apart_kept first other u spent there (λ a b. absurd (no_some b)) (apart_kept s.views id v (returned v) at (λ a b. b) k.apart);
    waiting = waiting_kept first other k.next k.serving u spent there (sym still.ticket) (waiting_kept s.views id k.next k.serving v (returned v) at refl k.waiting);
    desk = desk_less s.views id other v u k.history at so ne (sym (set_else s.views id other (returned v) ne) ∙ there) works k.desk;
    place = place_kept stands (record { words = s.words; homes = s.homes; views = first }) other u spent there (sym still.holds) k.history (place_kept stands s id v (returned v) at refl k.history k.place);
  })
    where
      k : Keeps stands s
      k = kept stands s id v holds at (λ p _. not_both p idle.holds)

      first : List (View E S)
      first = set s.views id (returned v)

      own : Fits k.next k.serving k.history v
      own = k.each id v at

      each_first : Each first k.next k.serving k.history
      each_first = each_set s.views id (returned v) k.next k.serving k.history (λ seat y _ at'. k.each seat y at') (record { seen = own.seen; ticket = own.ticket; turn = own.turn; live = own.live })

  -- with none out and the desk's pass idle nobody has the turn
  nobody_left : (s : State (Option T) (View E S)) (k : Keeps stands s) (id : ℕ) (v : View E S) → get_elem? s.views id ≡ some v → Idle v → v.desk ≡ true → v.out ≡ 0 → Nobody s.views
  nobody_left s k id v at idle so alone seat u e = not_true u.holds (λ holds.
      let mine = ((k.each seat u e).turn holds).0 in
      no_some (sym ((k.each seat u e).live
      (not_true u.desk (λ is. not_both holds (ap (λ (y : View E S). y.holds) (same_at s.views seat id u v (k.desk.only seat u e is ∙ sym (k.desk.only id v at so)) e at) ∙ idle.holds)))
      (not_true u.worker (λ is. let some_out = workers_some s.views seat u e is in let out = k.desk.out in
      let same : k.desk.view.out ≡ v.out = ap (λ (y : View E S). y.out) (desk_at s.views id v k.history at so k.desk) in omega (arith, some_out, out, same, alone)))) ∙ mine))

  -- a closed lock has a value, which stands for what the desk's pass has seen
  pub closes : (id : ℕ) (v : View E S) (words : List ℕ) (slots : List (Option T)) (found : Option T) → Idle v → v.desk ≡ true → v.out ≡ 0 → Final (Seen (Rule stands) id v) words slots → get_elem? slots 0 ≡ some found
      → (x : T) × (state : S) × (found ≡ Some x) × stands x v.seen state
  closes id v words slots found idle so alone final there =
      ⊎_elim
      (λ p. absurd (not_both p.3 (nobody_left s k id v at idle so alone p.0 p.1 p.2)))
      (λ p. let x = p.1.0 in (
        x,
        p.1.1,
        some-injective found (Some x) (sym there ∙ final.4 0 (Some x) (ap (λ (hs : List (mathlib.Core.Option.Option (Option T))). get_elem? hs 0) p.1.2)),
        subst (λ (h : List E). stands x h p.1.1) (desk_seen s.views id v k.history at k.desk so) p.1.3,
      ))
      k.place
    where
      s : State (Option T) (View E S)
      s = final.0

      at : get_elem? s.views id ≡ some v
      at = final.1.1

      k : Keeps stands s
      k = kept stands s id v final.1.0 at (λ p _. not_both p idle.holds)
