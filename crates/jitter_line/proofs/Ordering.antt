-- Two packets that share no place, in either order.
use Rattle.std.proofs.Common.{◌≡◌, ◌-◌, ◌*◌, ◌⊎◌, ◌==◌, ℕ, ℤ, Bool, true, false, nat_lt, cond, refl, sym, ◌∙◌, ap, ◌∷◌, length, Option, None, Some, inl, inr}
use Rattle.std.proofs.lemmas.Bool.{cases_Bool}
use Rattle.jitter_line.specs.Histories.{Packet, Puts, History, Fate, Taken, TooLate, TooEarly, Restarts, Gauge, position_of, offset_from, outside}
use Rattle.jitter_line.specs.Histories.{fate_in, fate_by, fate_of, gauge, gauge_after, or_else, held, held_after, is_late, is_early}
use Rattle.jitter_line.specs.Laws.{TakesEither}
use Rattle.jitter_line.proofs.Laying.{or_else-None}

outside_not_taken : (refusals : ℕ) (refused : Fate) → (refused ≡ Taken → ⊥) → outside refusals refused ≡ Taken → ⊥
outside_not_taken refusals refused other =
    elim (refusals == 24) as (λ b. cond b Restarts refused ≡ Taken → ⊥) [
      | true ↦ λ e. cc
      | false ↦ other
    ]

-- a packet is taken in the window alone
pub in_window : (refusals offset count : ℕ) → fate_in refusals offset count ≡ Taken → (is_late offset count ≡ false) × (is_early offset count ≡ false)
in_window refusals offset count taken =
    elim (cases_Bool (is_late offset count)) [
      | inl late ↦ absurd (outside_not_taken refusals TooLate (λ e. cc) (rw late at taken))
      | inr not_late ↦ elim (cases_Bool (is_early offset count)) [
        | inl early ↦ absurd (outside_not_taken refusals TooEarly (λ e. cc) (rw (not_late, early) at taken))
        | inr not_early ↦ (not_late, not_early)
      ]
    ]

pub taken_in : (refusals offset count : ℕ) → is_late offset count ≡ false → is_early offset count ≡ false → fate_in refusals offset count ≡ Taken
taken_in refusals offset count not_late not_early = rw (not_late, not_early) refl

-- whatever the count of refusals is
taken_still : (position : Option ℕ) (refusals others stamp count : ℕ) → fate_by position refusals stamp count ≡ Taken →
    fate_by position others stamp count ≡ Taken
taken_still None refusals others stamp count taken = cc
taken_still (Some position) refusals others stamp count taken =
    let window = in_window refusals (offset_from position stamp) count taken in
    taken_in others (offset_from position stamp) count window.0 window.1

-- a packet that is taken leaves the gauge, but for the refusals
gauge_taken : (h : History) (p : Packet) → fate_of (gauge h) p ≡ Taken → gauge (Puts p ∷ h) ≡ record (gauge h) { refusals = 0 }
gauge_taken h p taken = ap (λ (f : Fate). gauge_after f (gauge h) p) taken

still_taken : (h : History) (p q : Packet) → fate_of (gauge h) p ≡ Taken → fate_of (gauge h) q ≡ Taken → fate_of (gauge (Puts q ∷ h)) p ≡ Taken
still_taken h p q first second =
    ap (λ (g : Gauge). fate_of g p) (gauge_taken h q second)
    ∙ taken_still (position_of (gauge h).origin (gauge h).pulls) (gauge h).refusals 0 p.stamp (length p.samples) first

gauge_twice : (h : History) (p q : Packet) → fate_of (gauge h) p ≡ Taken → fate_of (gauge h) q ≡ Taken →
    gauge (Puts p ∷ Puts q ∷ h) ≡ record (gauge h) { refusals = 0 }
gauge_twice h p q first second =
    gauge_taken (Puts q ∷ h) p (still_taken h p q first second) ∙ ap (λ (g : Gauge). record g { refusals = 0 }) (gauge_taken h q second)

pub same_gauge : (h : History) (p q : Packet) → TakesEither h p q → gauge (Puts p ∷ Puts q ∷ h) ≡ gauge (Puts q ∷ Puts p ∷ h)
same_gauge h p q takes = gauge_twice h p q takes.first takes.second ∙ sym (gauge_twice h q p takes.second takes.first)

-- what a place holds after both
held_twice : (h : History) (p q : Packet) (place : ℕ) → fate_of (gauge h) p ≡ Taken → fate_of (gauge h) q ≡ Taken →
    held (Puts p ∷ Puts q ∷ h) place ≡ held_after Taken (gauge h) p (held_after Taken (gauge h) q (held h place) place) place
held_twice h p q place first second =
    ap (λ (f : Fate). held_after f (gauge (Puts q ∷ h)) p (held (Puts q ∷ h) place) place) (still_taken h p q first second)
    ∙ ap (λ (g : Gauge). held_after Taken g p (held (Puts q ∷ h) place) place) (gauge_taken h q second)
    ∙ ap (λ (f : Fate). held_after Taken (gauge h) p (held_after f (gauge h) q (held h place) place) place) second

either_way : (old c d : Option ℤ) → (c ≡ None) ⊎ (d ≡ None) → or_else (or_else old d) c ≡ or_else (or_else old c) d
either_way (Some x) c d apart = refl
either_way None c d (inl none) = rw none (or_else-None d)
either_way None c d (inr none) = rw none (sym (or_else-None c))

pub same_places : (h : History) (p q : Packet) → TakesEither h p q → (place : ℕ) → held (Puts p ∷ Puts q ∷ h) place ≡ held (Puts q ∷ Puts p ∷ h) place
same_places h p q takes place =
    held_twice h p q place takes.first takes.second
    ∙ both (nat_lt place (160 * (gauge h).pulls)) (held h place) _ _ (takes.apart (place - 160 * (gauge h).pulls))
    ∙ sym (held_twice h q p place takes.second takes.first)
  where
    both : (pulled : Bool) (old c d : Option ℤ) → (c ≡ None) ⊎ (d ≡ None) →
        cond pulled (cond pulled old (or_else old d)) (or_else (cond pulled old (or_else old d)) c)
        ≡ cond pulled (cond pulled old (or_else old c)) (or_else (cond pulled old (or_else old c)) d)
    both true old c d apart = refl
    both false old c d apart = either_way old c d apart
