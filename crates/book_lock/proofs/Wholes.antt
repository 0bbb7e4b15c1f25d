-- A turn from its first step to its last. The seat is known by an equation after each step.
use Rattle.std.proofs.Common.{◌≡◌, ℕ, ◌+◌, ◌<◌, List, [], ◌∷◌, length, Option, Some, None, true, false, refl, sym, ap, ◌∙◌, subst}
use Rattle.atomic_table.specs.Table.{Me}
use Rattle.book_lock.specs.declared.view.Standing.{Standing}
use Rattle.book_lock.specs.declared.view.View.{View}
use Rattle.book_lock.specs.Histories.{GoesOn}
use Rattle.book_lock.specs.Boxed.{Boxed}
use Rattle.book_lock.specs.Views.{waits, enters, grows, leaves, standing, turn_from}
use Rattle.book_lock.specs.Turns.{MayFind, OnlyAppends, Turns}
use Rattle.book_lock.specs.Told.{Entered, Appended, Settled, Left}
use Rattle.book_lock.proofs.Turning.{some_is}

module _ {E S : Type 0} where
  -- the view of a pass in its turn, which found this
  abbrev pub inside : View E S → ℕ → List E → S → View E S
  inside v t feed state = enters (waits v t) (standing feed state)

module _ {T E S : Type 0} (stands : T → List E → S → Type 0) where
  -- what the turn begins with
  abbrev pub Begun : View E S → ℕ → T → Me (Option T) (View E S) → Type 0
  Begun v t value me = (feed : List E) × (state : S) × stands value feed state × MayFind v feed × (me ≡ (inside v t feed state, (0, None) ∷ []))

  pub begun : (v : View E S) (t : ℕ) (value : T) (drawn entered taken : Me (Option T) (View E S))
      → drawn ≡ (waits v t, []) → Entered stands drawn entered → entered.1 ≡ (0, Some value) ∷ [] → taken ≡ (entered.0, (0, None) ∷ []) → Begun v t value taken
  begun v t value drawn entered taken d e out back =
      let p = subst (λ (m : Me (Option T) (View E S)). Entered stands m entered) d e in
      let same : p.2 ≡ value = is_value p.2 (sym (ap (λ (m : Me (Option T) (View E S)). m.1) p.5) ∙ out) in
      (p.0, p.1, subst (λ (x : T). stands x p.0 p.1) same p.3, p.4, back ∙ ap (λ (m : Me (Option T) (View E S)). (m.0, (0, None) ∷ [])) p.5)
    where
      first : List (ℕ × Option T) → Option T
      first [] = None
      first (y ∷ ys) = y.1

      is_value : (x : T) → ◌≡◌ {A = List (ℕ × Option T)} ((0, Some x) ∷ []) ((0, Some value) ∷ []) → x ≡ value
      is_value x q = some_is (ap first q)

  -- the value is in the slot again
  pub put : (v : View E S) (y : T) (me new : Me (Option T) (View E S)) → me ≡ (v, (0, None) ∷ []) → new ≡ (me.0, (0, Some y) ∷ []) → new ≡ (v, (0, Some y) ∷ [])
  put v y me new e p = p ∙ ap (λ (m : Me (Option T) (View E S)). (m.0, (0, Some y) ∷ [])) e

  pub settles : (v : View E S) (t : ℕ) (feed : List E) (state : S) (value : T) (me : Me (Option T) (View E S)) (count : ℕ) → me ≡ (inside v t feed state, (0, Some value) ∷ [])
      → (left : List E) (after : S) → stands value left after → GoesOn feed left → length left ≡ length feed + count → length left < 18446744073709551616 → (v.desk ≡ false → left ≡ feed) → Appended stands me count
  settles v t feed state value me count e left after st on long fit read = subst (λ (m : Me (Option T) (View E S)). Appended stands m count) (sym e) (left, after, st, on, long, fit, read)

  abbrev pub Ended : View E S → ℕ → List E → S → T → Me (Option T) (View E S) → Type 0
  Ended v t feed state value me = (left : List E) × (after : S) × stands value left after × GoesOn feed left × (v.desk ≡ false → left ≡ feed) × (me ≡ (grows (inside v t feed state) left, (0, Some value) ∷ []))

  pub ended : (v : View E S) (t : ℕ) (feed : List E) (state : S) (value : T) (me new : Me (Option T) (View E S)) → me ≡ (inside v t feed state, (0, Some value) ∷ []) → Settled stands me new → Ended v t feed state value new
  ended v t feed state value me new e p = subst (λ (m : Me (Option T) (View E S)). Settled stands m new) e p

  -- what leaving needs
  abbrev pub Leaves : Me (Option T) (View E S) → Type 0
  Leaves me = ((me.0.holds ≡ true) × ((t : ℕ) × (me.0.ticket ≡ Some t)) × ((was : Standing E S) × (me.0.found ≡ Some was))) × ((x : T) × (state : S) × (me.1 ≡ (0, Some x) ∷ []) × stands x me.0.seen state)

  pub leaves_now : (v : View E S) (t : ℕ) (feed : List E) (state : S) (value : T) (me : Me (Option T) (View E S)) → Ended v t feed state value me → Leaves me
  leaves_now v t feed state value me p = subst Leaves (sym p.5) ((refl, (t, refl), (standing feed state, refl)), (value, p.1, refl, p.2))

  -- the pass after its turn
  abbrev pub Over : View E S → ℕ → List E → S → T → Me (Option T) (View E S) → Type 0
  Over v t feed state value new = (left : List E) × (after : S) × stands value left after × GoesOn feed left × (v.desk ≡ false → left ≡ feed)
      × (new ≡ (leaves (grows (inside v t feed state) left) (turn_from (standing feed state) (standing left after)), []))

  pub over : (v : View E S) (t : ℕ) (feed : List E) (state : S) (value : T) (me new : Me (Option T) (View E S)) → Ended v t feed state value me → Left stands me new → Over v t feed state value new
  over v t feed state value me new p q =
      let r = subst (λ (m : Me (Option T) (View E S)). Left stands m new) p.5 q in
      (p.0, r.0, r.1, p.3, p.4, r.2 (standing feed state) refl)

  pub whole_turn : (done : T → T → Type 0) (v known : View E S) (t : ℕ) (feed : List E) (state : S) (x y : T) (new : Me (Option T) (View E S))
      → v ≡ known → stands x feed state → MayFind v feed → done x y → Over v t feed state y new → Turns stands done known new.0
  whole_turn done v known t feed state x y new is st may did p =
      subst (λ (u : View E S). Turns stands done u new.0) is
      (subst (λ (m : Me (Option T) (View E S)). Turns stands done v m.0) (sym p.5)
      (record {
        found = standing feed state;
        left = standing p.0 p.1;
        last = refl;
        did = (x, y, st, did, p.2);
        may = may;
        appended = p.3;
        read = p.4;
        seen = refl;
        turns = refl;
        desk = refl;
        worker = refl;
        out = refl;
      }))

  -- what was done appended to what was found
  pub appends_to : (done : T → T → Type 0) (v known : View E S) (feed : List E) (state : S) (x y : T) → v ≡ known → OnlyAppends stands known done → stands x feed state → MayFind v feed → done x y
      → (left : List E) × (after : S) × stands y left after × GoesOn feed left × (v.desk ≡ false → left ≡ feed)
  appends_to done v known feed state x y is only st may did = subst (λ (u : View E S). OnlyAppends stands u done) (sym is) only x y feed state st may did

  -- a turn of a lock round a box is one of its value
  pub unboxed : (done : T → T → Type 0) (v w : View E S) → Turns (Boxed stands) (λ b d. done b.value d.value) v w → Turns stands done v w
  unboxed done v w t = record {
    found = t.found;
    left = t.left;
    last = t.last;
    did = (t.did.0.value, t.did.1.value, t.did.2, t.did.3, t.did.4);
    may = t.may;
    appended = t.appended;
    read = t.read;
    seen = t.seen;
    turns = t.turns;
    desk = t.desk;
    worker = t.worker;
    out = t.out;
  }
