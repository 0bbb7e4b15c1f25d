use Rattle.std.proofs.Common.{◌≡◌, ◌++◌, ◌∷◌, [], reverse, OnOk, OnErr, Result, Ok, Err, ℕ, List, sym, ap, ◌∙◌, refl, rules}
use Rattle.std.proofs.lemmas.List.{reverse-append}
use Rattle.book_lock.specs.Histories.{GoesOn}
use Rattle.book_lock.proofs.Turning.{not_both}
use Rattle.book_lock.proofs.Upkeep.{goes_same}
use Rattle.book_lock.proofs.tests.append.Goals as goal

-- a list at whose end a number was put, or that is the same
one_more : {A B : Type 0} (r : Result A B) (x y feed : List ℕ) (n : ℕ) → feed ≡ reverse x → OnOk r (y ≡ x ++ n ∷ []) → OnErr r (y ≡ x) → (left : List ℕ) × (left ≡ reverse y) × GoesOn feed left
one_more (Ok a) x y feed n is ok err = (n ∷ feed, ap (λ l. n ∷ l) is ∙ (sym (reverse-append x (n ∷ [])) ∙ ap reverse (sym ok)), record { since = n ∷ []; grown = refl })
one_more (Err e) x y feed n is ok err = (feed, is ∙ ap reverse (sym err), goes_same feed)

pub turn-requires-clause-appends : goal.turn-requires-clause-appends
turn-requires-clause-appends g c r x y feed state st may done =
    let ok : OnOk r (done.left.now.items.items ≡ done.shown.now.items.items ++ c.args.number ∷ []) = search rules in
    let err : OnErr r (done.left.now.items.items ≡ done.shown.now.items.items) = search rules in
    let p = one_more r done.shown.now.items.items done.left.now.items.items feed c.args.number (st ∙ ap (λ z. reverse z.items.items) (sym done.shows)) ok err in
    (p.0, tt, p.1 ∙ ap (λ z. reverse z.items.items) done.leaves, p.2, λ reads. absurd (not_both c.requires.desk reads))
