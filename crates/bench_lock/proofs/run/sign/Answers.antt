use Rattle.std.proofs.Common.{◌≡◌, ◌+◌, ◌<◌, ◌∷◌, [], true≢false, min, ℕ, List, length, sym, ap, ◌∙◌, refl, rules, arith}
use mathlib.Core.Logic.{dite}
use native.Mathlib.Decide.{dec_lt}
use Rattle.book_lock.specs.Histories.{GoesOn}
use Rattle.bench_lock.proofs.run.sign.Goals as goal

-- a feed with one entry more, where there is room for it
one_more : (x y : ℕ) (feed : List (Unit {0})) → length feed ≡ x → x < 18446744073709551616 → y ≡ min (x + 1) 18446744073709551615 → (left : List (Unit {0})) × (length left ≡ y) × GoesOn feed left
one_more x y feed long fit more =
    dite (dec_lt x 18446744073709551615)
    (λ (less : x < 18446744073709551615). (tt ∷ feed, omega arith, record { since = tt ∷ []; grown = refl }))
    (λ full. (feed, omega arith, record { since = []; grown = refl }))

pub turn-requires-clause-appends : goal.turn-requires-clause-appends
turn-requires-clause-appends g c r x y feed state st may done =
    let more : done.left.now.entries ≡ min (done.shown.now.entries + 1) 18446744073709551615 = search rules in
    let was = ap (λ z. z.entries) done.shows in
    let now = ap (λ z. z.entries) done.leaves in
    let p = one_more done.shown.now.entries done.left.now.entries feed (st.0 ∙ sym was) (omega (arith, st.1, was)) more in
    (p.0, y.turns, (p.1 ∙ now, omega (arith, st.1, was, more, now), refl), p.2, λ reads. absurd (true≢false (sym c.requires.desk ∙ reads)))
