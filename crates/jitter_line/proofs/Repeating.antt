-- A packet that was taken and comes again.
use Rattle.std.proofs.Common.{◌≡◌, ◌<◌, ◌≤◌, ◌+◌, ◌-◌, ◌*◌, ◌%◌, ◌^◌, ℕ, zero, suc, ℤ, true, false, nat_lt, nat_le, cond, refl, sym, ◌∙◌, ap, subst}
use Rattle.std.proofs.Common.{arith, List, [], ◌∷◌, ◌++◌, length, Option, None, Some, is_some, get_or, pos, inl, inr}
use Rattle.std.proofs.lemmas.Bool.{cases_lt}
use Rattle.std.proofs.lemmas.Option.{slice_get-get_or}
use Rattle.std.proofs.lemmas.Bool.Decides.{nat_tests}
use Rattle.jitter_line.specs.declared.line.Put.TheVariants.{Took}
use Rattle.jitter_line.specs.Histories.{Packet, Puts, Pulls, History, Fate, First, Taken, TooLate, TooEarly, Restarts, Gauge, position_of}
use Rattle.jitter_line.specs.Histories.{offset_from, fate_in, fate_by, fate_of, gauge, gauge_after, gauge_pulled, cover, or_else, offset_at}
use Rattle.jitter_line.specs.Histories.{offset_of, held, held_after, ahead, is_late, is_early, new_at, new_of, one_if_none}
use Rattle.jitter_line.specs.Standing.{answer, answer_by}
use Rattle.jitter_line.specs.Laws.{ComesAgain, IsTaken, IsNoStart, NoneStarts, pulls_in}
use Rattle.jitter_line.proofs.Laying.{or_else-None, reached, not_yet}
use Rattle.jitter_line.proofs.Ordering.{in_window, taken_in}

-- ---- where the packet stands once it is taken

-- it stands in the window of a started line, and each place that it covers is filled
record Placed (p : Packet) (g : Gauge) (at : ℕ → Option ℤ) (origin : ℕ) : Type 0 where
  started : g.origin ≡ Some origin
  past : 2 ^ 31 < offset_from ((origin + 160 * g.pulls) % 2 ^ 32) p.stamp + length p.samples
  within : offset_from ((origin + 160 * g.pulls) % 2 ^ 32) p.stamp + length p.samples ≤ 2 ^ 31 + 3200
  filled : (i : ℕ) (x : ℤ) → cover (offset_from ((origin + 160 * g.pulls) % 2 ^ 32) p.stamp) p.samples i ≡ Some x → is_some (at (160 * g.pulls + i)) ≡ true

start_offset : (stamp : ℕ) → stamp < 2 ^ 32 → offset_from (((stamp + 2 ^ 32 - 480) % 2 ^ 32 + 160 * 0) % 2 ^ 32) stamp ≡ 2 ^ 31 + 480
start_offset stamp fits = omega arith

offset_moves : (origin pulls more stamp : ℕ) → stamp < 2 ^ 32 → 160 * more ≤ offset_from ((origin + 160 * pulls) % 2 ^ 32) stamp →
    offset_from ((origin + 160 * (pulls + more)) % 2 ^ 32) stamp + 160 * more ≡ offset_from ((origin + 160 * pulls) % 2 ^ 32) stamp
offset_moves origin pulls more stamp fits enough = omega arith

late_false : (offset count : ℕ) → is_late offset count ≡ false → 2 ^ 31 < offset + count
late_false offset count test = grind (arith, nat_tests, test)

early_false : (offset count : ℕ) → is_early offset count ≡ false → offset + count ≤ 2 ^ 31 + 3200
early_false offset count test = grind (arith, nat_tests, test)

not_late : (offset count : ℕ) → 2 ^ 31 < offset + count → is_late offset count ≡ false
not_late offset count past = grind (arith, nat_tests)

not_early : (offset count : ℕ) → offset + count ≤ 2 ^ 31 + 3200 → is_early offset count ≡ false
not_early offset count within = grind (arith, nat_tests)

-- a packet that sets the position
placed_first : (p : Packet) (at : ℕ → Option ℤ) → p.stamp < 2 ^ 32 → length p.samples ≤ 1600 →
    ((place : ℕ) → at place ≡ cover (2 ^ 31 + 480) p.samples place) →
    Placed p (record { origin = Some ((p.stamp + 2 ^ 32 - 480) % 2 ^ 32); pulls = 0; refusals = 0 }) at ((p.stamp + 2 ^ 32 - 480) % 2 ^ 32)
placed_first p at fits few is =
    let offset = start_offset p.stamp fits in
    record {
      started = refl;
      past = omega (arith, offset);
      within = omega (arith, offset);
      filled = λ i x covered.
          let here : cover (2 ^ 31 + 480) p.samples i ≡ Some x = rw offset at covered in
          let same : 160 * 0 + i ≡ i = omega arith in
          rw (same, is i, here) refl;
    }

-- a packet that a started line takes
placed_taken : (p : Packet) (g : Gauge) (old : ℕ → Option ℤ) (origin : ℕ) → g.origin ≡ Some origin →
    fate_by (position_of (Some origin) g.pulls) g.refusals p.stamp (length p.samples) ≡ Taken →
    Placed p (record g { refusals = 0 }) (λ place. held_after Taken g p (old place) place) origin
placed_taken p g old origin started taken =
    let offset : ℕ = offset_from ((origin + 160 * g.pulls) % 2 ^ 32) p.stamp in
    let window = in_window g.refusals (offset_from ((origin + 160 * g.pulls) % 2 ^ 32) p.stamp) (length p.samples) taken in
    record {
      started = started;
      past = late_false _ _ window.0;
      within = early_false _ _ window.1;
      filled = λ i x covered.
          let ahead_of : nat_lt (160 * g.pulls + i) (160 * g.pulls) ≡ false = not_before (160 * g.pulls) i in
          let index : 160 * g.pulls + i - 160 * g.pulls ≡ i = omega arith in
          let here : offset_of g p ≡ offset_from ((origin + 160 * g.pulls) % 2 ^ 32) p.stamp =
          ap (λ (o : Option ℕ). offset_at (position_of o g.pulls) p.stamp) started in
          rw (ahead_of, index, here, covered) (or_else_some (old (160 * g.pulls + i)) x);
    }
  where
    not_before : (n i : ℕ) → nat_lt (n + i) n ≡ false
    not_before n i = grind (arith, nat_tests)

    or_else_some : (o : Option ℤ) (x : ℤ) → is_some (or_else o (Some x)) ≡ true
    or_else_some None x = refl
    or_else_some (Some y) x = refl

placed_by : (p : Packet) (h : History) (f : Fate) → fate_of (gauge h) p ≡ f → IsTaken f → p.stamp < 2 ^ 32 → length p.samples ≤ 1600 →
    (origin : ℕ) × Placed p (gauge_after f (gauge h) p) (λ place. held_after f (gauge h) p (held h place) place) origin
placed_by p h First is taken fits few = (_, placed_first p _ fits few (λ place. refl))
placed_by p h Restarts is taken fits few = (_, placed_first p _ fits few (λ place. refl))
placed_by p h Taken is taken fits few = started (gauge h).origin refl is
  where
    started : (o : Option ℕ) → (gauge h).origin ≡ o → fate_by (position_of o (gauge h).pulls) (gauge h).refusals p.stamp (length p.samples) ≡ Taken →
        (origin : ℕ) × Placed p (record (gauge h) { refusals = 0 }) (λ place. held_after Taken (gauge h) p (held h place) place) origin
    started None e is = cc
    started (Some origin) e is = (origin, placed_taken p (gauge h) (held h) origin e is)
placed_by p h TooLate is taken fits few = absurd taken
placed_by p h TooEarly is taken fits few = absurd taken

placed : (p : Packet) (h : History) → IsTaken (fate_of (gauge h) p) → p.stamp < 2 ^ 32 → length p.samples ≤ 1600 →
    (origin : ℕ) × Placed p (gauge (Puts p ∷ h)) (held (Puts p ∷ h)) origin
placed p h taken fits few = placed_by p h (fate_of (gauge h) p) refl taken fits few

-- ---- what came since keeps it there

-- the line goes on from the same place 0, and what was held is held
record GoesOn (origin pulls : ℕ) (before at : ℕ → Option ℤ) (g : Gauge) : Type 0 where
  started : g.origin ≡ Some origin
  pulls_are : g.pulls ≡ pulls
  kept : (place : ℕ) → is_some (before place) ≡ true → at place ≡ before place

or_else_kept : (o later : Option ℤ) → is_some o ≡ true → or_else o later ≡ o
or_else_kept None later some = cc
or_else_kept (Some x) later some = refl

goes_on_after : (p : Packet) (f : Fate) (g : Gauge) (origin pulls : ℕ) (before at : ℕ → Option ℤ) → IsNoStart f → GoesOn origin pulls before at g →
    GoesOn origin pulls before (λ place. held_after f g p (at place) place) (gauge_after f g p)
goes_on_after p First g origin pulls before at no_start so = absurd no_start
goes_on_after p Restarts g origin pulls before at no_start so = absurd no_start
goes_on_after p Taken g origin pulls before at no_start so = record {
  started = so.started;
  pulls_are = so.pulls_are;
  kept = λ place some.
      let still : is_some (at place) ≡ true = ap is_some (so.kept place some) ∙ some in
      (elim (nat_lt place (160 * g.pulls)) as (λ b. cond b (at place) (or_else (at place) (cover (offset_of g p) p.samples (place - 160 * g.pulls))) ≡ at place) [
        | true ↦ refl
        | false ↦ or_else_kept (at place) _ still
      ]) ∙ so.kept place some;
}
goes_on_after p TooLate g origin pulls before at no_start so = record { started = so.started; pulls_are = so.pulls_are; kept = so.kept }
goes_on_after p TooEarly g origin pulls before at no_start so = record { started = so.started; pulls_are = so.pulls_are; kept = so.kept }

goes_on_pulled : (o : Option ℕ) (g : Gauge) (origin pulls : ℕ) (before at : ℕ → Option ℤ) → g.origin ≡ o → GoesOn origin pulls before at g →
    GoesOn origin (suc pulls) before at (gauge_pulled o g)
goes_on_pulled None g origin pulls before at e so = let never : None ≡ Some origin = sym e ∙ so.started in cc
goes_on_pulled (Some x) g origin pulls before at e so = record { started = so.started; pulls_are = omega (arith, so.pulls_are); kept = so.kept }

goes_on : (since h : History) (origin pulls : ℕ) → NoneStarts since h → (gauge h).origin ≡ Some origin → (gauge h).pulls ≡ pulls →
    GoesOn origin (pulls + pulls_in since) (held h) (held (since ++ h)) (gauge (since ++ h))
goes_on [] h origin pulls none started are = record { started = started; pulls_are = omega (arith, are); kept = λ place some. refl }
goes_on (Puts p ∷ since) h origin pulls none started are =
    goes_on_after p (fate_of (gauge (since ++ h)) p) (gauge (since ++ h)) origin (pulls + pulls_in since) (held h) (held (since ++ h))
    none.0 (goes_on since h origin pulls none.1 started are)
goes_on (Pulls ∷ since) h origin pulls none started are =
    let more : suc (pulls + pulls_in since) ≡ pulls + suc (pulls_in since) = omega arith in
    subst (λ (n : ℕ). GoesOn origin n (held h) (held (since ++ h)) (gauge (Pulls ∷ since ++ h))) more
    (goes_on_pulled (gauge (since ++ h)).origin (gauge (since ++ h)) origin (pulls + pulls_in since) (held h) (held (since ++ h)) refl
    (goes_on since h origin pulls none started are))

-- ---- nothing is new

none_new : (o : Option ℤ) → is_some o ≡ true → one_if_none o ≡ 0
none_new None some = cc
none_new (Some x) some = refl

new_none : (places : ℕ → Option ℤ) (offset n : ℕ) → ((j : ℕ) → j < n → 2 ^ 31 ≤ offset + j → is_some (places (offset + j - 2 ^ 31)) ≡ true) →
    new_of places offset n ≡ 0
new_none places offset zero filled = refl
new_none places offset (suc n) filled =
    let before : new_of places offset n ≡ 0 = new_none places offset n (λ j h. filled j (omega arith)) in
    let last : new_at places (offset + n) ≡ 0 = elim (cases_lt (offset + n) (2 ^ 31)) [
      | inl early ↦ rw (not_yet (2 ^ 31) (offset + n) early) refl
      | inr from ↦ rw (reached (2 ^ 31) (offset + n) from) (none_new (places (offset + n - 2 ^ 31)) (filled n (omega arith) from))
    ] in
    omega arith

cover_moves : (samples : List ℤ) (offset more far i : ℕ) → offset + more ≡ far → cover far samples (i + more) ≡ cover offset samples i
cover_moves samples offset more far i is =
    let test : nat_le far (i + more + 2 ^ 31) ≡ nat_le offset (i + 2 ^ 31) = same_test offset more far i is in
    let index : i + more + 2 ^ 31 - far ≡ i + 2 ^ 31 - offset = omega arith in
    rw (test, index) refl
  where
    same_test : (a b c d : ℕ) → a + b ≡ c → nat_le c (d + b + 2 ^ 31) ≡ nat_le a (d + 2 ^ 31)
    same_test a b c d is = grind (arith, nat_tests)

cover_here : (samples : List ℤ) (offset j : ℕ) → j < length samples → 2 ^ 31 ≤ offset + j →
    cover offset samples (offset + j - 2 ^ 31) ≡ Some (get_or samples j (pos 0))
cover_here samples offset j within from =
    let test : nat_le offset (offset + j - 2 ^ 31 + 2 ^ 31) ≡ true = reached offset (offset + j - 2 ^ 31 + 2 ^ 31) (omega arith) in
    let index : offset + j - 2 ^ 31 + 2 ^ 31 - offset ≡ j = omega arith in
    rw (test, index) (slice_get-get_or samples j (pos 0) within)

-- the packet is taken again, and each place that it covers is filled
record Again (p : Packet) (now : History) : Type 0 where
  taken : fate_of (gauge now) p ≡ Taken
  filled : (i : ℕ) (x : ℤ) → cover (offset_of (gauge now) p) p.samples i ≡ Some x → is_some (held now (160 * (gauge now).pulls + i)) ≡ true

again_from : (p : Packet) (since h : History) (origin : ℕ) → ComesAgain p since h → Placed p (gauge (Puts p ∷ h)) (held (Puts p ∷ h)) origin →
    Again p (since ++ Puts p ∷ h)
again_from p since h origin comes at =
    let n : ℕ = (gauge (Puts p ∷ h)).pulls in
    let m : ℕ = pulls_in since in
    let now : Gauge = gauge (since ++ Puts p ∷ h) in
    let on : GoesOn origin ((gauge (Puts p ∷ h)).pulls + pulls_in since) (held (Puts p ∷ h)) (held (since ++ Puts p ∷ h)) (gauge (since ++ Puts p ∷ h)) =
    goes_on since (Puts p ∷ h) origin (gauge (Puts p ∷ h)).pulls comes.none_starts at.started refl in
    let far : ℕ = offset_from ((origin + 160 * (gauge (Puts p ∷ h)).pulls) % 2 ^ 32) p.stamp in
    let near : ℕ = offset_from ((origin + 160 * ((gauge (Puts p ∷ h)).pulls + pulls_in since)) % 2 ^ 32) p.stamp in
    let moves : near + 160 * m ≡ far = offset_moves origin n m p.stamp comes.stamp (omega (arith, at.past, comes.soon, comes.count)) in
    let offset : offset_of now p ≡ near =
    ap (λ (o : Option ℕ). offset_at (position_of o now.pulls) p.stamp) on.started
    ∙ ap (λ (k : ℕ). offset_from ((origin + 160 * k) % 2 ^ 32) p.stamp) on.pulls_are in
    let in_time : is_late near (length p.samples) ≡ false = subst (λ (k : ℕ). is_late k (length p.samples) ≡ false) offset comes.in_time in
    record {
      taken =
          ap (λ (o : Option ℕ). fate_by (position_of o now.pulls) now.refusals p.stamp (length p.samples)) on.started
          ∙ ap (λ (k : ℕ). fate_in now.refusals (offset_from ((origin + 160 * k) % 2 ^ 32) p.stamp) (length p.samples)) on.pulls_are
          ∙ taken_in now.refusals near (length p.samples) in_time (not_early near (length p.samples) (omega (arith, at.within)));
      filled = λ i x covered.
          let there : cover far p.samples (i + 160 * m) ≡ Some x =
          cover_moves p.samples near (160 * m) far i moves ∙ ap (λ (k : ℕ). cover k p.samples i) (sym offset) ∙ covered in
          let some : is_some (held (Puts p ∷ h) (160 * n + (i + 160 * m))) ≡ true = at.filled (i + 160 * m) x there in
          let place : 160 * n + (i + 160 * m) ≡ 160 * now.pulls + i = omega (arith, on.pulls_are) in
          subst (λ (k : ℕ). is_some (held (since ++ Puts p ∷ h) k) ≡ true) place (ap is_some (on.kept (160 * n + (i + 160 * m)) some) ∙ some);
    }

again : (p : Packet) (since h : History) → ComesAgain p since h → Again p (since ++ Puts p ∷ h)
again p since h comes =
    let at = placed p h comes.taken comes.stamp comes.count in
    again_from p since h at.0 comes at.1

pub nothing_new : (p : Packet) (since h : History) → ComesAgain p since h → answer (since ++ Puts p ∷ h) p ≡ Took 0
nothing_new p since h comes = from_again p (since ++ Puts p ∷ h) (again p since h comes)
  where
    from_again : (p : Packet) (now : History) → Again p now → answer now p ≡ Took 0
    from_again p now so =
        ap (λ (f : Fate). answer_by f now p) so.taken
        ∙ ap Took (new_none (ahead now) (offset_of (gauge now) p) (length p.samples)
        (λ j within from. so.filled _ _ (cover_here p.samples (offset_of (gauge now) p) j within from)))

pub no_place_changed : (p : Packet) (since h : History) → ComesAgain p since h → (place : ℕ) →
    held (Puts p ∷ since ++ Puts p ∷ h) place ≡ held (since ++ Puts p ∷ h) place
no_place_changed p since h comes place = from_again p (since ++ Puts p ∷ h) place (again p since h comes)
  where
    covered : (old c : Option ℤ) → ((x : ℤ) → c ≡ Some x → is_some old ≡ true) → or_else old c ≡ old
    covered old None filled = or_else-None old
    covered old (Some x) filled = or_else_kept old (Some x) (filled x refl)

    below : (a b : ℕ) → a < b → nat_lt a b ≡ true
    below a b h = grind (arith, nat_tests)

    not_below : (a b : ℕ) → b ≤ a → nat_lt a b ≡ false
    not_below a b h = grind (arith, nat_tests)

    by_place : (p : Packet) (now : History) (place : ℕ) → Again p now → held_after Taken (gauge now) p (held now place) place ≡ held now place
    by_place p now place so =
        elim (cases_lt place (160 * (gauge now).pulls)) [
          | inl pulled ↦ rw (below place (160 * (gauge now).pulls) pulled) refl
          | inr ahead_of ↦
              let there : 160 * (gauge now).pulls + (place - 160 * (gauge now).pulls) ≡ place = omega arith in
              rw (not_below place (160 * (gauge now).pulls) ahead_of) (covered (held now place) _ (λ x is.
              subst (λ (k : ℕ). is_some (held now k) ≡ true) there (so.filled (place - 160 * (gauge now).pulls) x is)))
        ]

    from_again : (p : Packet) (now : History) (place : ℕ) → Again p now → held (Puts p ∷ now) place ≡ held now place
    from_again p now place so =
        ap (λ (f : Fate). held_after f (gauge now) p (held now place) place) so.taken ∙ by_place p now place so
