-- Rows at places, and their stages.
use Rattle.std.proofs.Common.{suc, zero, ◌≡◌, ◌≢◌, ℕ, ◌<◌, false, List, [], ◌∷◌, length, get_or, refl, subst, arith}
use Rattle.std.specs.Prelude.{slice_get, Option, Some, IfSome}
use Rattle.conference_spec.specs.declared.Stage.{Stage}
use Rattle.conference_spec.specs.declared.Stage.TheVariants.{Waiting, Out, Finished}
use Rattle.conference_spec.specs.Machine.{is_finished}
use Rattle.triple_table.specs.Rows.{Row}

-- there is a row below the length
pub row-at : (rows : List Row) (at : ℕ) → at < length rows → (r : Row) × (slice_get rows at ≡ Some r) × (get_or rows at r ≡ r)
row-at [] at lt = absurd (omega arith)
row-at (r ∷ rows) at lt =
    let go : (at : ℕ) → at < length (r ∷ rows) → (q : Row) × (slice_get (r ∷ rows) at ≡ Some q) × (get_or (r ∷ rows) at q ≡ q) = elim [
      | zero ↦ λ lt. (r, refl, refl)
      | suc at ↦ λ lt. row-at rows at (omega arith)
    ] in
    go at lt

-- what is said of the row at a place
pub some-row_stage : (rows : List Row) (at : ℕ) (r : Row) (stage : Stage) → slice_get rows at ≡ Some r
    → IfSome (slice_get rows at) (λ r. stage ≡ r.stage) → stage ≡ r.stage
some-row_stage rows at r stage e s = subst (λ (o : Option Row). IfSome o (λ r. stage ≡ r.stage)) e s

pub not-finished : (s : Stage) → s ≢ Finished → is_finished s ≡ false
not-finished Waiting other = refl
not-finished Out other = refl
not-finished Finished other = absurd (other refl)

pub some-row_number : (rows : List Row) (at : ℕ) (r : Row) (number : ℕ) → slice_get rows at ≡ Some r
    → IfSome (slice_get rows at) (λ r. number ≡ r.number) → number ≡ r.number
some-row_number rows at r number e s = subst (λ (o : Option Row). IfSome o (λ r. number ≡ r.number)) e s
