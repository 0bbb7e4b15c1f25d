-- There are no more groups than seats.
use Rattle.std.proofs.Common.{◌≡◌, ◌≢◌, ◌⊎◌, ℕ, zero, suc, ◌+◌, ◌≤◌, ◌<◌, ◌||◌, Bool, true, false, cond, List, [], ◌∷◌, length, get_or, set, Option}
use Rattle.std.proofs.Common.{Some, None, is_some, count_by, refl, sym, ap, ◌∙◌, inl, inr, arith}
use Rattle.std.specs.List.{list_any}
use Rattle.std.proofs.lemmas.Bool.{false≢true}
use Rattle.std.proofs.lemmas.Bool.Decides.{eqb_tells}
use Rattle.std.proofs.lemmas.List.{get_or-set_other}
use Rattle.std.proofs.lemmas.List.Sums.{sum_by-cons}
use Rattle.enc_group.specs.declared.Group.{Group}
use Rattle.enc_group.specs.declared.Seat.{Seat}
use Rattle.enc_group.specs.Groups.{group_in, sits}
use Rattle.enc_group.proofs.Passing.{or-rest}

none-counted : (slots : List (Option Group)) → ((key : ℕ) → is_some (group_in slots key) ≡ true → false ≡ true) → count_by is_some slots ≡ 0
none-counted [] h = refl
none-counted (None ∷ rest) h =
    let later = none-counted rest (λ key e. h (suc key) e) in
    omega (arith, later, sum_by-cons (λ (o : Option Group). cond (is_some o) 1 0) None rest)
none-counted (Some g ∷ rest) h = absurd (false≢true (h 0 refl))

head-counted : (slot : Option Group) (rest : List (Option Group)) → (count_by is_some rest ≤ count_by is_some (slot ∷ rest)) × (count_by is_some (slot ∷ rest) ≤ count_by is_some rest + 1)
head-counted None rest =
    let e = sum_by-cons (λ (o : Option Group). cond (is_some o) 1 0) None rest in
    (omega (arith, e), omega (arith, e))
head-counted (Some g) rest =
    let e = sum_by-cons (λ (o : Option Group). cond (is_some o) 1 0) (Some g) rest in
    (omega (arith, e), omega (arith, e))

one-counted : (slots : List (Option Group)) (key : ℕ) → count_by is_some slots ≤ count_by is_some (set slots key None) + 1
one-counted [] key = omega arith
one-counted (slot ∷ rest) zero =
    omega (arith, (head-counted slot rest).1, (head-counted None rest).0)
one-counted (slot ∷ rest) (suc key) =
    let later = one-counted rest key in
    let e = sum_by-cons (λ (o : Option Group). cond (is_some o) 1 0) slot rest in
    let e' = sum_by-cons (λ (o : Option Group). cond (is_some o) 1 0) slot (set rest key None) in
    omega (arith, later, e, e')

gone : (slots : List (Option Group)) (key : ℕ) → group_in (set slots key None) key ≡ None
gone [] key = refl
gone (slot ∷ rest) zero = refl
gone (slot ∷ rest) (suc key) = gone rest key

-- where each group has one of these seats, there are at most as many groups
pub count-le_seats : (seats : List Seat) (slots : List (Option Group)) → ((key : ℕ) → is_some (group_in slots key) ≡ true → list_any (sits key) seats ≡ true) → count_by is_some slots ≤ length seats
count-le_seats [] slots h = omega (arith, none-counted slots h)
count-le_seats (s ∷ ss) slots h =
    let later = count-le_seats ss (set slots s.key None) (λ key e.
    elim (eqb_tells s.key key) [
      | inl p ↦ absurd (false≢true (sym (ap is_some (ap (group_in (set slots s.key None)) (sym p.1) ∙ gone slots s.key)) ∙ e))
      | inr p ↦
          let other = get_or-set_other slots s.key key None None (λ same. p.1 (sym same)) in
          or-rest (sits key s) (list_any (sits key) ss) p.0 (h key (sym (ap is_some other) ∙ e))
    ]) in
    omega (arith, later, one-counted slots s.key)
