-- A search for a group's listener.
use Rattle.std.proofs.Common.{◌≡◌, ℕ, zero, suc, ◌+◌, ◌-◌, ◌<◌, Bool, true, false, List, [], ◌∷◌, map, filter, length, get_or, drop, refl, sym, ap, ◌∙◌, add-one, drop-cons, arith, subst}
use Rattle.std.specs.Prelude.{slice_get}
use Rattle.std.proofs.lemmas.Bool.{eq-eqb, ne_eqb}
use Rattle.std.proofs.lemmas.List.{get_or_default}
use Rattle.enc_group.specs.declared.Seat.{Seat}
use Rattle.enc_group.specs.Groups.{sits}

abbrev pub listed : ℕ → List Seat → List ℕ
listed key seats = map (λ s. s.listener) (filter (sits key) seats)

-- the listener is still ahead, at this place
pub record IsAhead (seats : List Seat) (key i at before : ℕ) : Type 0 where
  pub ahead : before < length (listed key (drop at seats))
  pub there : slice_get (listed key seats) i ≡ slice_get (listed key (drop at seats)) before

pub drop-seat : (seats : List Seat) (at : ℕ) (s : Seat) → at < length seats → s ≡ get_or seats at s → drop at seats ≡ s ∷ drop (at + 1) seats
drop-seat seats at s within is = rw add-one (drop-cons seats at s within ∙ ap (λ z. z ∷ drop (suc at) seats) (sym is))

pub listed-skip : (seats : List Seat) (key at : ℕ) (s : Seat) → at < length seats → s ≡ get_or seats at s → sits key s ≡ false → listed key (drop at seats) ≡ listed key (drop (at + 1) seats)
listed-skip seats key at s within is f = ap (listed key) (drop-seat seats at s within is) ∙ rw f refl

pub listed-pass : (seats : List Seat) (key at : ℕ) (s : Seat) → at < length seats → s ≡ get_or seats at s → sits key s ≡ true
    → listed key (drop at seats) ≡ s.listener ∷ listed key (drop (at + 1) seats)
listed-pass seats key at s within is t = ap (listed key) (drop-seat seats at s within is) ∙ rw t refl

pass-on : (xs : List ℕ) (x n n' : ℕ) → (n ≡ 0 → ⊥) → n' ≡ n - 1 → slice_get (x ∷ xs) n ≡ slice_get xs n'
pass-on xs x zero n' some e = absurd (some refl)
pass-on xs x (suc m) n' some e = let same : m ≡ n' = omega arith in ap (slice_get xs) same

-- a seat elsewhere is passed over
pub ahead-skip : (seats : List Seat) (key i at n n' : ℕ) (d : Seat) → at < length seats → ((get_or seats at d).key ≡ key → ⊥) → n' ≡ n → IsAhead seats key i at n → IsAhead seats key i (at + 1) n'
ahead-skip seats key i at n n' d within other same a =
    let s : Seat = get_or seats at d in
    let e = listed-skip seats key at s within (get_or_default seats at d s within) (ne_eqb s.key key other) in
    let long = ap length e in
    record {
      ahead = omega (arith, a.ahead, long);
      there = a.there ∙ ap (λ xs. slice_get xs n) e ∙ ap (slice_get (listed key (drop (at + 1) seats))) (sym same);
    }

-- and a seat of the group is counted
pub ahead-pass : (seats : List Seat) (key i at n n' : ℕ) (d : Seat) → at < length seats → (get_or seats at d).key ≡ key → (n ≡ 0 → ⊥) → n' ≡ n - 1
    → IsAhead seats key i at n → IsAhead seats key i (at + 1) n'
ahead-pass seats key i at n n' d within own some less a =
    let s : Seat = get_or seats at d in
    let e = listed-pass seats key at s within (get_or_default seats at d s within) (eq-eqb s.key key own) in
    let long = ap length e in
    record {
      ahead = omega (arith, a.ahead, long);
      there = a.there ∙ ap (λ xs. slice_get xs n) e ∙ pass-on (listed key (drop (at + 1) seats)) s.listener n n' some less;
    }
