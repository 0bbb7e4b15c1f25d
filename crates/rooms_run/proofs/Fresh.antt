-- Passes of new locks, one more and one fewer.
use Rattle.std.proofs.Math.ListN.{set, length-set}
use Rattle.std.specs.List.{AllWithin}
use Rattle.std.proofs.Common.{◌≡◌, ◌≢◌, ◌≤◌, get_or-set_other, ℕ, zero, suc, ◌+◌, ◌<◌, List, [], ◌∷◌, ◌++◌, length, get_or, refl, arith}
use Rattle.atomic_table.specs.Seated.{TableId}
use Rattle.book_lock.specs.Known.{Known}
use Rattle.conference_spec.specs.declared.Entry.{Entry}
use Rattle.tick_core.specs.Locking.{Parts}
use Rattle.rooms_run.specs.Opening.{IsFresh, AreFresh}

pub one_more : (locks : List TableId) (passes : List (Known Entry Parts)) (l : TableId) (p : Known Entry Parts) → length locks ≡ length passes
    → AreFresh locks passes → IsFresh l p → AreFresh (locks ++ l ∷ []) (passes ++ p ∷ [])
one_more [] [] l p same are is = (is, tt)
one_more [] (q ∷ passes) l p same are is = absurd (omega arith)
one_more (m ∷ locks) [] l p same are is = absurd (omega arith)
one_more (m ∷ locks) (q ∷ passes) l p same are is = (are.0, one_more locks passes l p (omega arith) are.1 is)

-- the last pass is of the lock at its place
pub record OneFewer (locks : List TableId) (passes : List (Known Entry Parts)) (p : Known Entry Parts) : Type 0 where
  pub rest : AreFresh locks passes
  pub within : length passes < length locks
  pub last : (d : TableId) → IsFresh (get_or locks (length passes) d) p

pub one_fewer : (locks : List TableId) (passes : List (Known Entry Parts)) (p : Known Entry Parts) → AreFresh locks (passes ++ p ∷ [])
    → OneFewer locks passes p
one_fewer [] [] p are = absurd are
one_fewer [] (q ∷ passes) p are = absurd are
one_fewer (l ∷ locks) [] p are = record { rest = tt; within = omega arith; last = λ d. are.0 }
one_fewer (l ∷ locks) (q ∷ passes) p are =
    let o = one_fewer locks passes p are.1 in
    record { rest = (are.0, o.rest); within = omega (arith, o.within); last = λ d. o.last d }

-- what holds from a place on holds behind it after a write there
pub rest_after : {X : Type 0} (P : X → Type 0) (xs : List X) (i : ℕ) (y : X) → AllWithin P xs i (length xs)
    → AllWithin P (set xs i y) (i + 1) (length (set xs i y))
rest_after P xs i y all = λ k d low high.
    let apart : k ≢ i = omega arith in
    let within : k < length xs = omega (arith, length-set xs i y) in
    rw get_or-set_other (all k d (omega arith) within)

pub few_passes : (locks : List TableId) (passes : List (Known Entry Parts)) → AreFresh locks passes → length passes ≤ length locks
few_passes locks [] are = omega arith
few_passes [] (p ∷ passes) are = absurd are
few_passes (l ∷ locks) (p ∷ passes) are = omega (arith, few_passes locks passes are.1)
