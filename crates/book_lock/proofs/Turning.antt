-- Each step of a turn keeps the rule.
use Rattle.std.proofs.Common.{◌≡◌, ◌≢◌, ℕ, ◌+◌, ◌%◌, ◌<◌, ◌≤◌, inl, inr, ⊎_elim, List, [], ◌∷◌, length, set, get_or, Option, Some, None, Bool, true, false, true≢false, refl, sym, ap, ◌∙◌, subst, eqb, eq-eqb, ne_eqb, arith}
use mathlib.Core.Option.{some, none, some-injective, some-ne-none}
use mathlib.Core.Logic.{dite}
use native.Mathlib.Decide.{ℕ_discrete}
use prog.Atomic.{either}
use lib.ListN.{get_elem?}
use Rattle.atomic_table.specs.Table.{State, Me, rest, step, Act, keeps, takes, gives, stepped, Allows, Valid, carried_after}
use Rattle.atomic_table.proofs.Lists.{set_else, set_again}
use Rattle.book_lock.specs.declared.view.Standing.{Standing}
use Rattle.book_lock.specs.declared.view.View.{View}
use Rattle.book_lock.specs.Histories.{GoesOn}
use Rattle.book_lock.specs.Views.{opening, filling, waits, enters, grows, leaves, standing, turn_from, Idle}
use Rattle.book_lock.specs.Rule.{Fits, Place, Keeps, Rule}
use Rattle.book_lock.specs.Told.{Carries, Drawn, Entered, Looked, Grown, Passed}
use Rattle.book_lock.proofs.Upkeep.{here, same_at, only_one, goes_same, goes_on, each_set, apart_set, apart_kept, waiting_kept, waiting_drawn, waiting_passed, nobody_set, desk_seen, desk_set}

pub not_true : (b : Bool) → (b ≡ true → ⊥) → b ≡ false
not_true true never = absurd (never refl)
not_true false never = refl

pub not_false : (b : Bool) → (b ≡ false → ⊥) → b ≡ true
not_false true never = refl
not_false false never = absurd (never refl)

pub not_both : {b : Bool} → b ≡ true → b ≡ false → ⊥
not_both so never = true≢false (sym so ∙ never)

pub some_is : {A : Type 0} {a b : A} → Some a ≡ Some b → a ≡ b
some_is e = cc

pub no_some : {A : Type 0} {a : A} → None ≡ Some a → ⊥
no_some e = cc

module _ {T E S : Type 0} (stands : T → List E → S → Type 0) where
  -- a pass that has no turn, or has it by a ticket, is of a lock that holds a value
  pub kept : (s : State (Option T) (View E S)) (id : ℕ) (v : View E S) → Rule stands s → get_elem? s.views id ≡ some v → (v.holds ≡ true → v.ticket ≡ None → ⊥) → Keeps stands s
  kept s id v (inr k) at by = k
  kept s id v (inl e) at by = absurd (⊎_elim
      (λ x. new opening (subst (λ (l : List (View E S)). get_elem? l id ≡ some v) x.0 at) refl refl)
      (λ x. new filling (subst (λ (l : List (View E S)). get_elem? l id ≡ some v) x.0 at) refl refl)
      e.1)
    where
      new : (u : View E S) → get_elem? (u ∷ []) id ≡ some v → u.holds ≡ true → u.ticket ≡ None → ⊥
      new u p holds free = let same = only_one u v id p in by (ap (λ (y : View E S). y.holds) same ∙ holds) (ap (λ (y : View E S). y.ticket) same ∙ free)

  module _ (s : State (Option T) (View E S)) where
    -- a step that changes nothing
    pub unchanged : (i n id : ℕ) (v : View E S) (c : List (ℕ × Option T)) → get_elem? s.words i ≡ some n → get_elem? s.views id ≡ some v → Rule stands s → Rule stands (stepped s i n id c v keeps)
    unchanged i n id v c word at holds =
        subst (Rule stands) (λ j. record { words = sym (set_again s.words i n word) j; homes = s.homes; views = sym (set_again s.views id v at) j }) holds

    -- a view that keeps its turn changes
    pub place_kept : (id : ℕ) (v w : View E S) → get_elem? s.views id ≡ some v → w.holds ≡ v.holds → (h : List E) → Place stands s.homes s.views h → Place stands s.homes (set s.views id w) h
    place_kept id v w at same h (inr p) = inr (nobody_set s.views id w (λ seat u _ e. p.0 seat u e) (same ∙ p.0 id v at), p.1)
    place_kept id v w at same h (inl p) =
        dite (ℕ_discrete p.0 id)
        (λ e. inl (id, w, here s.views id v w at, same ∙ (ap (λ (u : View E S). u.holds) (sym (same_at s.views p.0 id p.1 v e p.2 at)) ∙ p.3), p.4))
        (λ ne. inl (p.0, p.1, set_else s.views id p.0 w ne ∙ p.2, p.3, p.4))

    -- who has the turn has the slot
    pub away : (k : Keeps stands s) (id : ℕ) (v : View E S) → get_elem? s.views id ≡ some v → v.holds ≡ true → s.homes ≡ none ∷ []
    away k id v at holds = ⊎_elim (λ p. p.4) (λ p. absurd (not_both holds (p.0 id v at))) k.place

    -- only one has the turn
    pub no_other : (k : Keeps stands s) (id : ℕ) (v : View E S) → get_elem? s.views id ≡ some v → v.ticket ≡ Some k.serving
        → (seat : ℕ) (u : View E S) → seat ≢ id → get_elem? s.views seat ≡ some u → u.holds ≡ false
    no_other k id v at mine seat u ne e = not_true u.holds (λ holds. ne (k.apart seat id u v k.serving e at ((k.each seat u e).turn holds).0 mine))

  -- a ticket is drawn
  pub draws : (slots id t : ℕ) (v : View E S) → Idle v → t < 18446744073709551615
      → Allows (Rule stands) slots id (v, []) 0 (λ n. either (eqb n t) (t + 1) n) (Drawn stands (step slots 0 t (t + 1) none) (v, []))
  draws slots id t v idle small s holds count at fits =
      dite (ℕ_discrete m t)
      (λ e. subst P (sym (eq-eqb m t e)) (waits v m, keeps, tt, inr (drawn e), ((λ _. refl), (λ ne. absurd (ne e)))))
      (λ ne. subst P (sym (ne_eqb m t ne)) (v, keeps, tt, unchanged s 0 m id v [] word at holds, ((λ e. absurd (ne e)), (λ _. refl))))
    where
      m : ℕ
      m = get_or s.words 0 0

      P : Bool → Type 0
      P b = (w : View E S) × (a : Act (Option T)) × Valid s.homes [] a × Rule stands (stepped s 0 (either b (t + 1) m) id [] w a) × Drawn stands (step slots 0 t (t + 1) none) (v, []) m (w, carried_after [] a)

      k : Keeps stands s
      k = kept s id v holds at (λ so _. absurd (not_both so idle.holds))

      n : m ≡ k.next
      n = ap (λ (ws : List ℕ). get_or ws 0 0) k.words

      word : get_elem? s.words 0 ≡ some m
      word = ap (λ (ws : List ℕ). get_elem? ws 0) k.words ∙ ap some (sym n)

      w : View E S
      w = waits v m

      more : {u : View E S} → Fits k.next k.serving k.history u → Fits (k.next + 1) k.serving k.history u
      more f = record { seen = f.seen; ticket = λ a b. let c = f.ticket a b in (c.0, omega arith); turn = f.turn; live = f.live }

      mine : Fits (k.next + 1) k.serving k.history w
      mine = record {
        seen = (k.each id v at).seen;
        ticket = λ a b. let c : m ≡ a = some_is b in let o = k.ordered in (omega (arith, n), omega (arith, n));
        turn = λ so. absurd (not_both so idle.holds);
        live = λ d f. absurd (not_both (idle.live d) f);
      }

      drawn : m ≡ t → Keeps stands (stepped s 0 (t + 1) id [] w keeps)
      drawn e = record {
        next = k.next + 1;
        serving = k.serving;
        history = k.history;
        words = ap (λ (ws : List ℕ). set ws 0 (t + 1)) k.words ∙ ap (λ (x : ℕ). (x + 1) ∷ k.serving ∷ length k.history ∷ []) (sym e ∙ n);
        ordered = let o = k.ordered in omega arith;
        small = omega (arith, n, e, small);
        each = each_set s.views id w (k.next + 1) k.serving k.history (λ seat u ne at'. more (k.each seat u at')) mine;
        apart = apart_set s.views id w k.apart (λ seat u a ne at' tu tw. let b = (k.each seat u at').ticket a tu in let c : m ≡ a = some_is tw in omega (arith, n));
        waiting = waiting_drawn s.views id k.next k.serving v w at idle.ticket (ap Some n) k.waiting;
        desk = desk_set s.views id v w k.history k.history at refl refl refl (λ so. sym (desk_seen s.views id v k.history at k.desk so)) (λ _. refl) k.desk;
        place = place_kept s id v w at refl k.history k.place;
      }

  -- where its ticket is served, a pass has the turn
  pub looks : (slots id t : ℕ) (v : View E S) → v.ticket ≡ Some t → v.holds ≡ false
      → Allows (Rule stands) slots id (v, []) 1 (λ n. n) (Looked stands (step slots 1 0 0 none) (v, []))
  looks slots id t v mine idle s holds count at fits =
      dite (ℕ_discrete m t)
      (λ e. ⊎_elim
      (λ p. absurd (not_both (sym (ap (λ (u : View E S). u.holds) (same_at s.views p.0 id p.1 v (k.apart p.0 id p.1 v k.serving p.2 at ((k.each p.0 p.1 p.2).turn p.3).0 (served e)) p.2 at)) ∙ p.3) idle))
      (λ p. entered e p.1.0 p.1.1 p.1.2 p.1.3)
      k.place)
      (λ ne. (v, keeps, tt, unchanged s 1 m id v [] word at holds, ((λ e. absurd (ne (some_is (sym e ∙ mine)))), (λ _. refl))))
    where
      m : ℕ
      m = get_or s.words 1 0

      k : Keeps stands s
      k = kept s id v holds at (λ so _. absurd (not_both so idle))

      n : m ≡ k.serving
      n = ap (λ (ws : List ℕ). get_or ws 1 0) k.words

      word : get_elem? s.words 1 ≡ some m
      word = ap (λ (ws : List ℕ). get_elem? ws 1) k.words ∙ ap some (sym n)

      served : m ≡ t → v.ticket ≡ Some k.serving
      served e = mine ∙ ap Some (sym e ∙ n)

      R : Type 0
      R = (w : View E S) × (a : Act (Option T)) × Valid s.homes [] a × Rule stands (stepped s 1 m id [] w a) × Looked stands (step slots 1 0 0 none) (v, []) m (w, carried_after [] a)

      entered : m ≡ t → (x : T) (state : S) → s.homes ≡ some (Some x) ∷ [] → stands x k.history state → R
      entered e x state home st = (
        w,
        takes 0 (Some x),
        ap (λ (hs : List (mathlib.Core.Option.Option (Option T))). get_elem? hs 0) home,
        inr (record {
          next = k.next;
          serving = k.serving;
          history = k.history;
          words = ap (λ (ws : List ℕ). set ws 1 m) k.words ∙ ap (λ (x : ℕ). k.next ∷ x ∷ length k.history ∷ []) n;
          ordered = k.ordered;
          small = k.small;
          each = each_set s.views id w k.next k.serving k.history (λ seat u _ at'. k.each seat u at') (record {
            seen = goes_same k.history;
            ticket = (k.each id v at).ticket;
            turn = λ _. (served e, refl);
            live = (k.each id v at).live;
          });
          apart = apart_kept s.views id v w at (λ a b. b) k.apart;
          waiting = waiting_kept s.views id k.next k.serving v w at refl k.waiting;
          desk = desk_set s.views id v w k.history k.history at refl refl refl (λ _. refl) (λ _. refl) k.desk;
          place = inl (id, w, here s.views id v w at, refl, ap (λ (hs : List (mathlib.Core.Option.Option (Option T))). set hs 0 none) home);
        }),
        ((λ _. (k.history, state, x, st, ((k.each id v at).seen, desk_seen s.views id v k.history at k.desk), refl)), (λ ne. absurd (ne (mine ∙ ap Some (sym e))))),
      )
        where
          w : View E S
          w = enters v (standing k.history state)

  -- the desk's pass counts what was appended
  pub counts : (slots id c t : ℕ) (v : View E S) (out : List (ℕ × Option T)) (left : List E) (state : S)
      → v.ticket ≡ Some t → v.holds ≡ true → v.desk ≡ true → Carries stands out left state → GoesOn v.seen left → length left ≡ length v.seen + c → length left < 18446744073709551616
      → Allows (Rule stands) slots id (v, out) 2 (λ n. (n + c) % 18446744073709551616) (Grown stands (step slots 2 c 0 none) (v, out))
  counts slots id c t v out left state mine turn desk st on longer fit s holds count at fits =
      (w, keeps, tt, inr grown, (left, state, st, on, refl))
    where
      m : ℕ
      m = get_or s.words 2 0

      k : Keeps stands s
      k = kept s id v holds at (λ _ free. no_some (sym free ∙ mine))

      n : m ≡ length k.history
      n = ap (λ (ws : List ℕ). get_or ws 2 0) k.words

      own : (v.ticket ≡ Some k.serving) × (v.seen ≡ k.history)
      own = (k.each id v at).turn turn

      whole : GoesOn k.history left
      whole = subst (λ (h : List E). GoesOn h left) own.1 on

      sum : (m + c) % 18446744073709551616 ≡ length left
      sum = omega (arith, n, longer, fit, ap length own.1)

      w : View E S
      w = grows v left

      grown : Keeps stands (stepped s 2 ((m + c) % 18446744073709551616) id out w keeps)
      grown = record {
        next = k.next;
        serving = k.serving;
        history = left;
        words = ap (λ (ws : List ℕ). set ws 2 ((m + c) % 18446744073709551616)) k.words ∙ ap (λ (x : ℕ). k.next ∷ k.serving ∷ x ∷ []) sum;
        ordered = k.ordered;
        small = k.small;
        each = each_set s.views id w k.next k.serving left
            (λ seat u ne at'. let f = k.each seat u at' in record {
              seen = goes_on f.seen whole;
              ticket = f.ticket;
              turn = λ so. absurd (not_both so (no_other s k id v at own.0 seat u ne at'));
              live = f.live;
            })
            (let f = k.each id v at in record { seen = goes_same left; ticket = f.ticket; turn = λ _. (own.0, refl); live = f.live });
        apart = apart_kept s.views id v w at (λ a b. b) k.apart;
        waiting = waiting_kept s.views id k.next k.serving v w at refl k.waiting;
        desk = desk_set s.views id v w k.history left at refl refl refl (λ _. refl) (λ never. absurd (never desk)) k.desk;
        place = inl (id, w, here s.views id v w at, turn, away s k id v at turn);
      }

  -- the turn is passed on
  pub passes : (slots id t : ℕ) (v : View E S) (x : T) (state : S) (was : Standing E S)
      → v.ticket ≡ Some t → v.holds ≡ true → v.found ≡ Some was → stands x v.seen state
      → Allows (Rule stands) slots id (v, (0, Some x) ∷ []) 1 (λ n. (n + 1) % 18446744073709551616) (Passed stands (step slots 1 1 0 none) (v, (0, Some x) ∷ []))
  passes slots id t v x state was mine turn found st s holds count at fits =
      (w, gives, tt, inr passed, (state, st, λ was' e. let same : was ≡ was' = some_is (sym found ∙ e) in ap (λ (y : Standing E S). (leaves v (turn_from y (standing v.seen state)), [])) same))
    where
      m : ℕ
      m = get_or s.words 1 0

      k : Keeps stands s
      k = kept s id v holds at (λ _ free. no_some (sym free ∙ mine))

      n : m ≡ k.serving
      n = ap (λ (ws : List ℕ). get_or ws 1 0) k.words

      own : (v.ticket ≡ Some k.serving) × (v.seen ≡ k.history)
      own = (k.each id v at).turn turn

      below : k.serving < k.next
      below = ((k.each id v at).ticket k.serving own.0).1

      sum : (m + 1) % 18446744073709551616 ≡ k.serving + 1
      sum = omega (arith, n, below, k.small)

      w : View E S
      w = leaves v (turn_from was (standing v.seen state))

      passed : Keeps stands (stepped s 1 ((m + 1) % 18446744073709551616) id ((0, Some x) ∷ []) w gives)
      passed = record {
        next = k.next;
        serving = k.serving + 1;
        history = k.history;
        words = ap (λ (ws : List ℕ). set ws 1 ((m + 1) % 18446744073709551616)) k.words ∙ ap (λ (x : ℕ). k.next ∷ x ∷ length k.history ∷ []) sum;
        ordered = omega (arith, below);
        small = k.small;
        each = each_set s.views id w k.next (k.serving + 1) k.history
            (λ seat u ne at'. let f = k.each seat u at' in record {
              seen = f.seen;
              ticket = λ a b. let c = f.ticket a b in (later a (λ e. ne (k.apart seat id u v k.serving at' at (b ∙ ap Some e) own.0)) c.0, c.1);
              turn = λ so. absurd (not_both so (no_other s k id v at own.0 seat u ne at'));
              live = f.live;
            })
            (record { seen = (k.each id v at).seen; ticket = λ a b. absurd (no_some b); turn = λ so. absurd (not_both so refl); live = λ _ _. refl });
        apart = apart_kept s.views id v w at (λ a b. absurd (no_some b)) k.apart;
        waiting = waiting_passed s.views id k.next k.serving v w at own.0 k.waiting;
        desk = desk_set s.views id v w k.history k.history at refl refl refl (λ _. own.1) (λ _. refl) k.desk;
        place = inr (
          nobody_set s.views id w (λ seat u ne at'. no_other s k id v at own.0 seat u ne at') refl,
          (x, state, ap (λ (hs : List (mathlib.Core.Option.Option (Option T))). set hs 0 (some (Some x))) (away s k id v at turn), subst (λ (h : List E). stands x h state) own.1 st),
        );
      }
        where
          later : (a : ℕ) → a ≢ k.serving → k.serving ≤ a → k.serving + 1 ≤ a
          later a ne le = omega arith

  -- the same of a seat, whose view and slot are known by an equation
  pub draws_at : (slots id t : ℕ) (me was : Me (Option T) (View E S)) → me ≡ was → Idle was.0 → was.1 ≡ [] → t < 18446744073709551615
      → Allows (Rule stands) slots id me 0 (λ n. either (eqb n t) (t + 1) n) (Drawn stands (step slots 0 t (t + 1) none) me)
  draws_at slots id t me was e idle out small =
      let is : me ≡ (was.0, []) = e ∙ ap (λ (l : List (ℕ × Option T)). (was.0, l)) out in
      subst (λ (m : Me (Option T) (View E S)). Allows (Rule stands) slots id m 0 (λ n. either (eqb n t) (t + 1) n) (Drawn stands (step slots 0 t (t + 1) none) m)) (sym is) (draws slots id t was.0 idle small)

  pub looks_at : (slots id t : ℕ) (me was : Me (Option T) (View E S)) → me ≡ was → was.0.ticket ≡ Some t → was.0.holds ≡ false → was.1 ≡ []
      → Allows (Rule stands) slots id me 1 (λ n. n) (Looked stands (step slots 1 0 0 none) me)
  looks_at slots id t me was e mine idle out =
      let is : me ≡ (was.0, []) = e ∙ ap (λ (l : List (ℕ × Option T)). (was.0, l)) out in
      subst (λ (m : Me (Option T) (View E S)). Allows (Rule stands) slots id m 1 (λ n. n) (Looked stands (step slots 1 0 0 none) m)) (sym is) (looks slots id t was.0 mine idle)

  pub entered_at : (t found : ℕ) (me was new : Me (Option T) (View E S)) → me ≡ was → was.0.ticket ≡ Some t → found ≡ t → (me.0.ticket ≡ Some found → Entered stands me new) → Entered stands was new
  entered_at t found me was new e mine is told =
      subst (λ (m : Me (Option T) (View E S)). Entered stands m new) e (told (ap (λ (m : Me (Option T) (View E S)). m.0.ticket) e ∙ (mine ∙ ap Some (sym is))))

  pub passes_at : (slots id t : ℕ) (me : Me (Option T) (View E S)) (x : T) (state : S) (was : Standing E S) → me.1 ≡ (0, Some x) ∷ []
      → me.0.ticket ≡ Some t → me.0.holds ≡ true → me.0.found ≡ Some was → stands x me.0.seen state
      → Allows (Rule stands) slots id me 1 (λ n. (n + 1) % 18446744073709551616) (Passed stands (step slots 1 1 0 none) me)
  passes_at slots id t me x state was e mine turn found st =
      let is : me ≡ (me.0, (0, Some x) ∷ []) = ap (λ (l : List (ℕ × Option T)). (me.0, l)) e in
      subst (λ (m : Me (Option T) (View E S)). Allows (Rule stands) slots id m 1 (λ n. (n + 1) % 18446744073709551616) (Passed stands (step slots 1 1 0 none) m)) (sym is) (passes slots id t me.0 x state was mine turn found st)

module _ {T : Type 0} where
  -- the slot is out alone
  pub alone : (l : List (ℕ × Option T)) (a : Option T) → l ≡ (0, a) ∷ [] → l ≡ (0, a) ∷ rest l
  alone l a e = e ∙ ap (λ (k : List (ℕ × Option T)). (0, a) ∷ rest k) (sym e)

module _ {T V : Type 0} where
  -- what the slot holds is exchanged
  pub replaced : (me new : Me (Option T) V) (v : V) (a b : Option T) → me ≡ (v, (0, a) ∷ []) → new ≡ (me.0, (0, b) ∷ rest me.1) → new ≡ (v, (0, b) ∷ [])
  replaced me new v a b p q = q ∙ ap (λ (m : Me (Option T) V). (m.0, (0, b) ∷ rest m.1)) p
