-- Which accounts are open after a leave and after a tick.
use Rattle.std.proofs.Common.{◌≡◌, ◌∙◌, ℕ, ◌+◌, Bool, true, false, not, ◌&&◌, List, [], ◌∷◌, map, refl, sym, ap, arith, Option, Some, None, inl, inr}
use Rattle.std.specs.Prelude.{◌==◌, nat_le, unwrap_or, is_none, if◌then◌else◌}
use Rattle.std.specs.List.{filter, list_any}
use Rattle.std.proofs.lemmas.Bool.{cases_Bool, cond-true, cond-false, or_parts}
use Rattle.std.proofs.lemmas.Bool.Decides.{nat_tests}
use Rattle.talk_mix.specs.declared.ticks.Tick.{Tick}
use Rattle.conference_spec.specs.declared.Entry.TheVariants.{Leave, Close, Collect}
use Rattle.conference_spec.specs.Coding.{Coder}
use Rattle.conference_spec.specs.Feed.{Feed, Guest, Listener, goes, stays, guests, listeners, closes}
use Rattle.conference_spec.proofs.Sends.{listeners-present}
use Rattle.live_tally.specs.declared.account.Account.{Account}
use Rattle.live_tally.specs.Accounts.{leaves, has_left}
use Rattle.live_tally.specs.Kept.{account_of, open_accounts}
use Rattle.live_tally.proofs.Picking.{changed, narrowed}

abbrev still : ℕ → Guest → Bool
still k g = nat_le k (unwrap_or g.left k)

le-self : (k : ℕ) → nat_le k k ≡ true
le-self k = grind (arith, nat_tests)

-- ---- a leave ----

leave-still : (m k : ℕ) (g : Guest) → still k (goes m k g) ≡ still k g
leave-still m k g = by g.left refl
  where
    by : (o : Option ℕ) → g.left ≡ o → still k (goes m k g) ≡ still k g
    by None e = test (is_none g.left && (g.listener.spec.member == m))
      where
        test : (b : Bool) → nat_le k (unwrap_or (if b then record { listener = g.listener; left = Some k } else g).left k) ≡ nat_le k (unwrap_or g.left k)
        test true = rw e refl
        test false = refl
    by (Some j) e = rw e refl

leave-account : (m k : ℕ) (g : Guest) → account_of (goes m k g) ≡ leaves m k (account_of g)
leave-account m k g = test (is_none g.left && (g.listener.spec.member == m))
  where
    test : (b : Bool) → account_of (if b then record { listener = g.listener; left = Some k } else g)
        ≡ (if b then record { spec = g.listener.spec; from = g.listener.from; left = Some k } else account_of g)
    test true = refl
    test false = refl

pub leave-opens : (coder : Coder) (m : ℕ) (h : Feed) → map (leaves m (closes h)) (open_accounts coder h) ≡ open_accounts coder (Leave m ∷ h)
leave-opens coder m h =
    sym (changed (goes m (closes h)) (still (closes h)) account_of (leaves m (closes h)) (leave-still m (closes h)) (leave-account m (closes h)) (guests coder h))

-- nobody of these is present and has this number: the leave changes none of them
same-guests : (m k : ℕ) (gs : List Guest) → list_any (λ l. l.spec.member == m) (map (λ g. g.listener) (filter (λ g. is_none g.left) gs)) ≡ false → map (goes m k) gs ≡ gs
same-guests m k [] none = refl
same-guests m k (g ∷ gs) none =
    let others = map (λ (x : Guest). x.listener) (filter (λ (x : Guest). is_none x.left) gs) in
    let p : Listener → Bool = λ l. l.spec.member == m in
    elim (cases_Bool (is_none g.left)) [
      | inl here ↦
          let shown : list_any p (g.listener ∷ others) ≡ false =
          sym (ap (λ xs. list_any p (map (λ (x : Guest). x.listener) xs)) (cond-true {A = List Guest} (is_none g.left) (g ∷ filter (λ (x : Guest). is_none x.left) gs) (filter (λ (x : Guest). is_none x.left) gs) here)) ∙ none in
          let parts = or_parts (p g.listener) (list_any p others) shown in
          let test : (is_none g.left && p g.listener) ≡ false = ap (λ b. b && p g.listener) here ∙ parts.0 in
          ap (λ x. x ∷ map (goes m k) gs) (cond-false {A = Guest} (is_none g.left && p g.listener) (record { listener = g.listener; left = Some k }) g test)
          ∙ ap (λ xs. g ∷ xs) (same-guests m k gs parts.1)
      | inr gone ↦
          let shown : list_any p others ≡ false =
          sym (ap (λ xs. list_any p (map (λ (x : Guest). x.listener) xs)) (cond-false {A = List Guest} (is_none g.left) (g ∷ filter (λ (x : Guest). is_none x.left) gs) (filter (λ (x : Guest). is_none x.left) gs) gone)) ∙ none in
          let test : (is_none g.left && p g.listener) ≡ false = ap (λ b. b && p g.listener) gone in
          ap (λ x. x ∷ map (goes m k) gs) (cond-false {A = Guest} (is_none g.left && p g.listener) (record { listener = g.listener; left = Some k }) g test)
          ∙ ap (λ xs. g ∷ xs) (same-guests m k gs shown)
    ]

-- the leave of one who doesn't listen opens and closes no account
pub nobody-opens : (coder : Coder) (m : ℕ) (h : Feed) → list_any (λ l. l.spec.member == m) (listeners coder h) ≡ false →
    open_accounts coder (Leave m ∷ h) ≡ open_accounts coder h
nobody-opens coder m h none =
    ap (λ gs. map account_of (filter (still (closes h)) gs))
    (same-guests m (closes h) (guests coder h) (sym (ap (list_any (λ l. l.spec.member == m)) (listeners-present coder h)) ∙ none))

-- ---- a tick ----

le-next : (k j : ℕ) → nat_le (k + 1) j ≡ nat_le k j && not (j == k)
le-next k j = grind (arith, nat_tests)

tick-still : (tick : Tick) (k : ℕ) (g : Guest) → still (k + 1) (stays tick g) ≡ still k g && not (has_left k (account_of g).left)
tick-still tick k g = by g.left refl
  where
    by : (o : Option ℕ) → g.left ≡ o → still (k + 1) (stays tick g) ≡ still k g && not (has_left k (account_of g).left)
    by None e = rw (e, le-self k, le-self (k + 1)) refl
    by (Some j) e = rw e (le-next k j)

tick-account : (tick : Tick) (g : Guest) → account_of (stays tick g) ≡ account_of g
tick-account tick g = by g.left refl
  where
    by : (o : Option ℕ) → g.left ≡ o → account_of (stays tick g) ≡ account_of g
    by None e = rw e refl
    by (Some j) e = rw e refl

pub tick-opens : (coder : Coder) (tick : Tick) (h : Feed) →
    filter (λ (a : Account). not (has_left (closes h) a.left)) (open_accounts coder h) ≡ open_accounts coder (Collect ∷ Close tick ∷ h)
tick-opens coder tick h =
    sym (narrowed (stays tick) (still (closes h + 1)) (still (closes h)) account_of (λ (a : Account). not (has_left (closes h) a.left))
    (tick-still tick (closes h)) (tick-account tick) (guests coder h))
