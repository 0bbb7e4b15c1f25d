-- Talkers by their places.
use Rattle.std.proofs.Common.{◌≡◌, ◌∙◌, ℕ, zero, suc, ◌+◌, Bool, true, false, List, [], ◌∷◌, ◌++◌, append_assoc, append-nil, take, refl, sym, ap, arith}
use Rattle.std.specs.Prelude.{◌==◌, ◌||◌, Some, slice_get}
use Rattle.std.specs.List.{list_any}
use Rattle.std.proofs.lemmas.Bool.Decides.{nat_tests}
use Rattle.roster_text.specs.declared.commands.Timed.{Timed}
use Rattle.talk_mix.specs.Voices.{Voice}
use Rattle.session_account.specs.declared.voices.Talker.{Talker}
use Rattle.session_account.specs.Speaking.{seated, seated_by}
use Rattle.session_account.proofs.Rows.{front-more}

seated-append : (cs ds : List Timed) → seated (cs ++ ds) ≡ seated cs ++ seated ds
seated-append [] ds = refl
seated-append (c ∷ cs) ds = ap (λ ts. seated_by c.command ++ ts) (seated-append cs ds) ∙ sym (append_assoc (seated_by c.command) (seated cs) (seated ds))

-- one more command
pub seated-more : (i : ℕ) (plan : List Timed) (c : Timed) (old new : List Talker) → slice_get plan i ≡ Some c → old ≡ seated (take i plan)
    → new ≡ old ++ seated_by c.command → new ≡ seated (take (i + 1) plan)
seated-more i plan c old new at before added =
    added ∙ ap (λ ts. ts ++ seated_by c.command) before
    ∙ sym (ap seated (front-more i plan c at) ∙ seated-append (take i plan) (c ∷ [])
    ∙ ap (λ ts. seated (take i plan) ++ ts) (append-nil (seated_by c.command)))

same-number : (n : ℕ) → (n == n) ≡ true
same-number n = grind (arith, nat_tests)

or-true : (b : Bool) → (b || true) ≡ true
or-true true = refl
or-true false = refl

-- the member of a voice speaks
pub speaks-at : (i : ℕ) (vs : List Voice) (v : Voice) (member : ℕ) → slice_get vs i ≡ Some v → v.0 ≡ member → list_any (λ (w : Voice). w.0 == member) vs ≡ true
speaks-at i [] v member at is = absurd (cc)
speaks-at zero (w ∷ vs) v member at is =
    let same : w ≡ v = cc in
    let here : (w.0 == member) ≡ true = ap (λ (x : Voice). x.0 == member) same ∙ ap (λ n. n == member) is ∙ same-number member in
    rw here refl
speaks-at (suc i) (w ∷ vs) v member at is = rw (speaks-at i vs v member at is) (or-true (w.0 == member))
