-- A new lock: the first pass takes the empty slot, and puts it home with the value.
use Rattle.std.proofs.Common.{◌≡◌, ℕ, zero, suc, ◌+◌, ◌%◌, ◌<◌, inl, inr, ⊎_elim, List, [], ◌∷◌, length, set, get_or, Option, Some, None, true, refl, sym, ap, ◌∙◌, subst, arith}
use mathlib.Core.Option.{some, none, some-injective, some-ne-none}
use lib.ListN.{get_elem?}
use Rattle.atomic_table.specs.Table.{State, Me, step, takes, gives, stepped, Allows}
use Rattle.book_lock.specs.declared.view.View.{View}
use Rattle.book_lock.specs.Views.{opening, filling, first_desk}
use Rattle.book_lock.specs.Rule.{workers, Fits, Keeps, Empty, Rule}
use Rattle.book_lock.specs.Told.{Opened, Filled}
use Rattle.book_lock.proofs.Upkeep.{only_one, only_set, goes_same}
use Rattle.book_lock.proofs.Turning.{not_both, no_some}

module _ {T E S : Type 0} (stands : T → List E → S → Type 0) where
  -- a view that has the turn without a ticket is that of a new lock
  new : (s : State (Option T) (View E S)) (id : ℕ) (v : View E S) → Rule stands s → get_elem? s.views id ≡ some v → v.holds ≡ true → v.ticket ≡ None → Empty s
  new s id v (inl e) at turn free = e
  new s id v (inr k) at turn free = absurd (no_some (sym free ∙ ((k.each id v at).turn turn).0))

  pub opens : (slots id : ℕ) → Allows (Rule stands) slots id (opening, []) 0 (λ n. n) (Opened stands (step slots 0 0 0 none) (opening, []))
  opens slots id s holds count at fits =
      ⊎_elim
      (λ p. (
        filling,
        takes 0 None,
        ap (λ (hs : List (mathlib.Core.Option.Option (Option T))). get_elem? hs 0) p.1,
        inl (
          ap (λ (ws : List ℕ). set ws 0 (get_or ws 0 0)) e.0,
          inr (only_set s.views opening opening filling id p.0 at, ap (λ (hs : List (mathlib.Core.Option.Option (Option T))). set hs 0 none) p.1),
        ),
        refl,
      ))
      (λ p. absurd (not_both refl (ap (λ (u : View E S). u.desk) (sym (only_one filling opening id (subst (λ (l : List (View E S)). get_elem? l id ≡ some opening) p.0 at))))))
      e.1
    where
      e : Empty s
      e = new s id opening holds at refl refl

  -- a lock whose only pass is the desk's
  pub filled : (x : T) (feed : List E) (state : S) → stands x feed state → length feed < 18446744073709551616 → (s : State (Option T) (View E S)) → s.words ≡ 0 ∷ 0 ∷ length feed ∷ [] → s.views ≡ first_desk feed ∷ [] → s.homes ≡ some (Some x) ∷ [] → Keeps stands s
  filled x feed state st fit s words views homes = record {
    next = 0;
    serving = 0;
    history = feed;
    words = words;
    ordered = omega arith;
    small = omega arith;
    each = λ seat v at. subst (λ (u : View E S). Fits 0 0 feed u) (sym (the_desk seat v at)) fits;
    apart = λ a b v w t p q tv tw. absurd (no_some (sym (ap (λ (u : View E S). u.ticket) (the_desk a v p)) ∙ tv));
    waiting = λ t low high. absurd (omega arith);
    desk = record {
      seat = 0;
      view = first_desk feed;
      there = ap (λ (l : List (View E S)). get_elem? l 0) views;
      desk = refl;
      only = λ other v at is. first_seat other v (subst (λ (l : List (View E S)). get_elem? l other ≡ some v) views at);
      seen = refl;
      out = sym (ap workers views);
    };
    place = inr ((λ seat v at. ap (λ (u : View E S). u.holds) (the_desk seat v at)), (x, state, homes, st));
  }
    where
      the_desk : (seat : ℕ) (v : View E S) → get_elem? s.views seat ≡ some v → v ≡ first_desk feed
      the_desk seat v at = only_one (first_desk feed) v seat (subst (λ (l : List (View E S)). get_elem? l seat ≡ some v) views at)

      first_seat : (seat : ℕ) (v : View E S) → get_elem? (first_desk feed ∷ []) seat ≡ some v → seat ≡ 0
      first_seat zero v p = refl
      first_seat (suc seat) v p = absurd (some-ne-none v (sym p))

      fits : Fits {E = E} {S = S} 0 0 feed (first_desk feed)
      fits = record { seen = goes_same feed; ticket = λ t e. absurd (no_some e); turn = λ so. absurd (not_both so refl); live = λ _ _. refl }

  pub fills : (slots id c : ℕ) (x : T) (feed : List E) (state : S) → stands x feed state → c ≡ length feed → c < 18446744073709551616
      → Allows (Rule stands) slots id (filling, (0, Some x) ∷ []) 2 (λ n. (n + c) % 18446744073709551616) (Filled stands (step slots 2 c 0 none) (filling, (0, Some x) ∷ []))
  fills slots id c x feed state st long fit s holds count at fits =
      ⊎_elim
      (λ p. absurd (not_both refl (ap (λ (u : View E S). u.desk) (only_one opening filling id (subst (λ (l : List (View E S)). get_elem? l id ≡ some filling) p.0 at)))))
      (λ p. (
        first_desk feed,
        gives,
        tt,
        inr (filled x feed state st (omega (arith, long, fit)) (stepped s 2 ((get_or s.words 2 0 + c) % 18446744073709551616) id ((0, Some x) ∷ []) (first_desk feed) gives)
            (ap (λ (ws : List ℕ). set ws 2 ((get_or ws 2 0 + c) % 18446744073709551616)) e.0 ∙ ap (λ (n : ℕ). 0 ∷ 0 ∷ n ∷ []) sum)
            (only_set s.views filling filling (first_desk feed) id p.0 at)
            (ap (λ (hs : List (mathlib.Core.Option.Option (Option T))). set hs 0 (some (Some x))) p.1)),
        (feed, state, st, refl),
      ))
      e.1
    where
      e : Empty s
      e = new s id filling holds at refl refl

      sum : (0 + c) % 18446744073709551616 ≡ length feed
      sum = omega (arith, long, fit)

  -- the same of a seat, whose view and slot are known by an equation
  pub opens_at : (slots id : ℕ) (me : Me (Option T) (View E S)) → me ≡ (opening, []) → Allows (Rule stands) slots id me 0 (λ n. n) (Opened stands (step slots 0 0 0 none) me)
  opens_at slots id me e = subst (λ (m : Me (Option T) (View E S)). Allows (Rule stands) slots id m 0 (λ n. n) (Opened stands (step slots 0 0 0 none) m)) (sym e) (opens slots id)

  pub fills_at : (slots id c : ℕ) (x : T) (me : Me (Option T) (View E S)) → me ≡ (filling, (0, Some x) ∷ []) → (feed : List E) (state : S) → stands x feed state → c ≡ length feed → c < 18446744073709551616
      → Allows (Rule stands) slots id me 2 (λ n. (n + c) % 18446744073709551616) (Filled stands (step slots 2 c 0 none) me)
  fills_at slots id c x me e feed state st long fit =
      subst (λ (m : Me (Option T) (View E S)). Allows (Rule stands) slots id m 2 (λ n. (n + c) % 18446744073709551616) (Filled stands (step slots 2 c 0 none) m)) (sym e) (fills slots id c x feed state st long fit)
