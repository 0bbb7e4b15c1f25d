-- Commands in the order of their times.
use Rattle.std.proofs.Common.{◌≡◌, ℕ, zero, suc, ◌≤◌, ◌<◌, List, [], ◌∷◌, ◌++◌, subst, sym, arith, length, get_or, drop}
use Rattle.std.specs.List.{AllByRecursion}
use Rattle.roster_text.specs.declared.commands.Timed.{Timed}
use Rattle.roster_text.specs.Orders.{Rises}

pub all_push : (P : Timed → Type 0) (ts : List Timed) (t : Timed) → AllByRecursion P ts → P t → AllByRecursion P (ts ++ t ∷ [])
all_push P [] t all last = (last, tt)
all_push P (u ∷ ts) t all last = (all.0, all_push P ts t all.1 last)

pub all_weaker : (P Q : Timed → Type 0) (ts : List Timed) → ((t : Timed) → P t → Q t) → AllByRecursion P ts → AllByRecursion Q ts
all_weaker P Q [] weaker all = tt
all_weaker P Q (t ∷ ts) weaker all = (weaker t all.0, all_weaker P Q ts weaker all.1)

-- what is left of a roster from a command on is at or past its time
pub all_from : (m place : ℕ) (ts : List Timed) (t : Timed) → Rises ts → place < length ts → get_or ts place t ≡ t → m ≤ t.at
    → AllByRecursion (λ u. m ≤ u.at) (drop place ts)
all_from m place [] t rises within is late = absurd (omega arith)
all_from m zero (u ∷ ts) t rises within is late =
    let here : m ≤ u.at = subst (λ (x : Timed). m ≤ x.at) (sym is) late in
    (here, all_weaker (λ w. u.at ≤ w.at) (λ w. m ≤ w.at) ts (λ w above. omega arith) rises.0)
all_from m (suc place) (u ∷ ts) t rises within is late = all_from m place ts t rises.1 (omega arith) is late
