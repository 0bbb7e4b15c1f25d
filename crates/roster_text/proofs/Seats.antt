-- What the seats of the present members have, and what is left when one leaves.
use Rattle.std.proofs.Common.{◌≡◌, ◌+◌, ℕ, Bool, true, false, not, ◌&&◌, ◌||◌, cond, nat_eq, List, [], ◌∷◌, length, Option, None, Some, refl, sym, ap, ◌∙◌, arith, add-one, inl, inr}
use Rattle.std.specs.Prelude.{is_some}
use Rattle.std.proofs.lemmas.Bool.{cases_Bool, cases_eq, cond-true, cond-false, eq-eqb, ne_eqb, eqb-true, or_parts, or_from, or_left, or_right, or_cases, true≢false, false≢true}
use Rattle.roster_text.specs.declared.commands.Command.{Command}
use Rattle.roster_text.specs.declared.commands.Command.TheVariants.{Join, Leave}
use Rattle.roster_text.specs.declared.commands.Timed.{Timed}
use Rattle.roster_text.specs.declared.seat.Seat.{Seat}
use Rattle.roster_text.specs.Places.{has, is_here, is_number, passes, without, after, present, joined, is_join_of}
use Rattle.roster_text.specs.Tables.{seat_in, AreApart}

-- a member is here where it has a seat
pub here_seat : (m : ℕ) (seats : List Seat) → is_here m seats ≡ is_some (seat_in m seats)
here_seat m [] = refl
here_seat m (s ∷ seats) =
    elim (nat_eq s.member m) as (λ t. (t || is_here m seats) ≡ is_some (cond t (Some s) (seat_in m seats))) [ true ↦ refl | false ↦ here_seat m seats ]

none_from : (o : Option Seat) → is_some o ≡ false → o ≡ None
none_from None h = refl
none_from (Some s) h = absurd (true≢false h)

pub no_seat : (m : ℕ) (seats : List Seat) → is_here m seats ≡ false → seat_in m seats ≡ None
no_seat m seats h = none_from (seat_in m seats) (sym (here_seat m seats) ∙ h)

some_from : (o : Option Seat) → is_some o ≡ true → (s : Seat) × (o ≡ Some s)
some_from None h = absurd (false≢true h)
some_from (Some s) h = (s, refl)

pub a_seat : (m : ℕ) (seats : List Seat) → is_here m seats ≡ true → (s : Seat) × (seat_in m seats ≡ Some s)
a_seat m seats h = some_from (seat_in m seats) (sym (here_seat m seats) ∙ h)

-- a number that no seat has stays so when one leaves
pub quiet : (f : Seat → Option ℕ) (q m : ℕ) (seats : List Seat) → has f q seats ≡ false → has f q (without m seats) ≡ false
quiet f q m [] h = refl
quiet f q m (s ∷ seats) h =
    let p = or_parts (is_number q (f s)) (has f q seats) h in
    elim (nat_eq s.member m) as (λ t. has f q (cond t (without m seats) (s ∷ without m seats)) ≡ false) [
      | true ↦ quiet f q m seats p.1
      | false ↦ or_from (is_number q (f s)) (has f q (without m seats)) p.0 (quiet f q m seats p.1)
    ]

quiet_at : (f : Seat → Option ℕ) (o : Option ℕ) (m : ℕ) (seats : List Seat) → passes (λ n. has f n seats) o ≡ false
    → passes (λ n. has f n (without m seats)) o ≡ false
quiet_at f None m seats h = refl
quiet_at f (Some n) m seats h = quiet f n m seats h

-- seats stay apart when one leaves
pub apart_without : (f : Seat → Option ℕ) (m : ℕ) (seats : List Seat) → AreApart f seats → AreApart f (without m seats)
apart_without f m [] apart = apart
apart_without f m (s ∷ seats) apart =
    elim (nat_eq s.member m) as (λ t. AreApart f (cond t (without m seats) (s ∷ without m seats))) [
      | true ↦ apart_without f m seats apart.1
      | false ↦ (quiet_at f (f s) m seats apart.0, apart_without f m seats apart.1)
    ]

none_without : (m : ℕ) (seats : List Seat) → is_here m seats ≡ false → without m seats ≡ seats
none_without m [] h = refl
none_without m (s ∷ seats) h =
    let p = or_parts (nat_eq s.member m) (is_here m seats) h in
    cond-false {A = List Seat} (nat_eq s.member m) (without m seats) (s ∷ without m seats) p.0
    ∙ ap (λ (l : List Seat). s ∷ l) (none_without m seats p.1)

same_seat : (t u : Bool) → u ≡ t → (x : Option Seat) (s : Seat) → cond t None x ≡ cond t None (cond u (Some s) x)
same_seat true u e x s = refl
same_seat false u e x s = sym (cond-false {A = Option Seat} u (Some s) x e)

other_seat : (t u : Bool) → (t ≡ true → u ≡ true → ⊥) → (x : Option Seat) (s : Seat) → cond u (Some s) (cond t None x) ≡ cond t None (cond u (Some s) x)
other_seat true true n x s = absurd (n refl refl)
other_seat true false n x s = refl
other_seat false u n x s = refl

nothing : (t : Bool) (x : Option Seat) → x ≡ None → x ≡ cond t None x
nothing true x e = e
nothing false x e = refl

-- who has a seat after a leave
pub seat_without : (m q : ℕ) (seats : List Seat) → seat_in q (without m seats) ≡ cond (nat_eq m q) None (seat_in q seats)
seat_without m q [] = nothing (nat_eq m q) None refl
seat_without m q (s ∷ seats) =
    let ih : seat_in q (without m seats) ≡ cond (nat_eq m q) None (seat_in q seats) = seat_without m q seats in
    elim (cases_eq s.member m) [
      | inl e ↦
          let k : without m (s ∷ seats) ≡ without m seats = cond-true {A = List Seat} (nat_eq s.member m) (without m seats) (s ∷ without m seats) (eq-eqb s.member m e) in
          ap (seat_in q) k ∙ ih ∙ same_seat (nat_eq m q) (nat_eq s.member q) (ap (λ (x : ℕ). nat_eq x q) e) (seat_in q seats) s
      | inr ne ↦
          let k : without m (s ∷ seats) ≡ s ∷ without m seats = cond-false {A = List Seat} (nat_eq s.member m) (without m seats) (s ∷ without m seats) (ne_eqb s.member m ne) in
          ap (seat_in q) k
          ∙ ap (λ (x : Option Seat). cond (nat_eq s.member q) (Some s) x) ih
          ∙ other_seat (nat_eq m q) (nat_eq s.member q) (λ a b. ne (eqb-true s.member q b ∙ sym (eqb-true m q a))) (seat_in q seats) s
    ]

-- one seat less
pub length_without : (m : ℕ) (seats : List Seat) → AreApart (λ s. Some s.member) seats → is_here m seats ≡ true → length (without m seats) + 1 ≡ length seats
length_without m [] apart h = absurd (false≢true h)
length_without m (s ∷ seats) apart h =
    elim (cases_eq s.member m) [
      | inl e ↦
          let gone : is_here m seats ≡ false = ap (λ (x : ℕ). is_here x seats) (sym e) ∙ apart.0 in
          let k : without m (s ∷ seats) ≡ seats =
          cond-true {A = List Seat} (nat_eq s.member m) (without m seats) (s ∷ without m seats) (eq-eqb s.member m e) ∙ none_without m seats gone in
          ap (λ (l : List Seat). length l + 1) k ∙ add-one (length seats)
      | inr ne ↦
          let k : without m (s ∷ seats) ≡ s ∷ without m seats = cond-false {A = List Seat} (nat_eq s.member m) (without m seats) (s ∷ without m seats) (ne_eqb s.member m ne) in
          let here : is_here m seats ≡ true = elim (or_cases (nat_eq s.member m) (is_here m seats) h) [ inl t ↦ absurd (ne (eqb-true s.member m t)) | inr t ↦ t ] in
          let ih : length (without m seats) + 1 ≡ length seats = length_without m seats apart.1 here in
          ap (λ (l : List Seat). length l + 1) k ∙ omega (arith, ih)
    ]

same_some : (s t : Seat) → Some s ≡ Some t → s ≡ t
same_some s t e = cc

-- what the seat of a member has, a seat has
seat_has : (f : Seat → Option ℕ) (m q : ℕ) (seats : List Seat) (s : Seat) → seat_in m seats ≡ Some s → is_number q (f s) ≡ true → has f q seats ≡ true
seat_has f m q [] s e h = absurd (cc)
seat_has f m q (t ∷ seats) s e h =
    elim (cases_Bool (nat_eq t.member m)) [
      | inl b ↦
          let k : t ≡ s = same_some t s (sym (cond-true {A = Option Seat} (nat_eq t.member m) (Some t) (seat_in m seats) b) ∙ e) in
          or_left (is_number q (f t)) (has f q seats) (ap (λ (x : Seat). is_number q (f x)) k ∙ h)
      | inr b ↦
          or_right (is_number q (f t)) (has f q seats)
          (seat_has f m q seats s (sym (cond-false {A = Option Seat} (nat_eq t.member m) (Some t) (seat_in m seats) b) ∙ e) h)
    ]

-- what a seat has, none of those that are apart from it has
alone : (f : Seat → Option ℕ) (q : ℕ) (seats : List Seat) (o : Option ℕ) → passes (λ n. has f n seats) o ≡ false → is_number q o ≡ true → has f q seats ≡ false
alone f q seats None p h = absurd (false≢true h)
alone f q seats (Some n) p h = ap (λ (x : ℕ). has f x seats) (sym (eqb-true n q h)) ∙ p

first_gone : (u v : Bool) → (u ≡ true → v ≡ false) → v ≡ (not u && (u || v))
first_gone true v c = c refl
first_gone false v c = refl

later_gone : (u w v : Bool) → (u ≡ true → w ≡ true → ⊥) → (u || (not w && v)) ≡ (not w && (u || v))
later_gone true true v c = absurd (c refl refl)
later_gone true false v c = refl
later_gone false w v c = refl

-- what the others have when one leaves: what all had, but for what it had
pub had_without : (f : Seat → Option ℕ) (m q : ℕ) (seats : List Seat) (s : Seat) → AreApart (λ s. Some s.member) seats → AreApart f seats → seat_in m seats ≡ Some s
    → has f q (without m seats) ≡ (not (is_number q (f s)) && has f q seats)
had_without f m q [] s members apart e = absurd (cc)
had_without f m q (t ∷ seats) s members apart e =
    elim (cases_Bool (nat_eq t.member m)) [
      | inl b ↦
          let same : t ≡ s = same_some t s (sym (cond-true {A = Option Seat} (nat_eq t.member m) (Some t) (seat_in m seats) b) ∙ e) in
          let gone : is_here m seats ≡ false = ap (λ (x : ℕ). is_here x seats) (sym (eqb-true t.member m b)) ∙ members.0 in
          let k : without m (t ∷ seats) ≡ seats =
          cond-true {A = List Seat} (nat_eq t.member m) (without m seats) (t ∷ without m seats) b ∙ none_without m seats gone in
          ap (has f q) k
          ∙ first_gone (is_number q (f t)) (has f q seats) (alone f q seats (f t) apart.0)
          ∙ ap (λ (x : Seat). not (is_number q (f x)) && (is_number q (f t) || has f q seats)) same
      | inr b ↦
          let k : without m (t ∷ seats) ≡ t ∷ without m seats = cond-false {A = List Seat} (nat_eq t.member m) (without m seats) (t ∷ without m seats) b in
          let there : seat_in m seats ≡ Some s = sym (cond-false {A = Option Seat} (nat_eq t.member m) (Some t) (seat_in m seats) b) ∙ e in
          let ih : has f q (without m seats) ≡ (not (is_number q (f s)) && has f q seats) = had_without f m q seats s members.1 apart.1 there in
          ap (has f q) k
          ∙ ap (λ (x : Bool). is_number q (f t) || x) ih
          ∙ later_gone (is_number q (f t)) (is_number q (f s)) (has f q seats)
          (λ a b. true≢false (sym (seat_has f m q seats s there b) ∙ alone f q seats (f t) apart.0 a))
    ]

not_after : (m : ℕ) (c : Command) (seats : List Seat) → is_join_of m c ≡ false → is_here m seats ≡ false → is_here m (after c seats) ≡ false
not_after m (Join k talk listen) seats p h = or_from (nat_eq k m) (is_here m seats) p h
not_after m (Leave k) seats p h = quiet (λ s. Some s.member) m k seats h

-- who never joined isn't here
pub not_here : (m : ℕ) (past : List Timed) → joined m past ≡ false → is_here m (present past) ≡ false
not_here m [] h = refl
not_here m (t ∷ past) h =
    let p = or_parts (is_join_of m t.command) (joined m past) h in
    not_after m t.command (present past) p.0 (not_here m past p.1)
