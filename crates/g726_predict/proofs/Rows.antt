-- One difference more in a frame's row, and one step more along it.
use Rattle.std.proofs.Common.{◌≡◌, ◌≢◌, ℕ, Bool, List, length, get_or, slice_set, ◌+◌, ◌<◌, sym, ◌∙◌, ap, arith}
use Rattle.std.proofs.lemmas.List.{get_or-set_other}
use Rattle.std.proofs.lemmas.Grind.{get_or-set_at}
use Rattle.g726_bits.specs.declared.Rate.{Rate}
use Rattle.g726_bits.specs.Floats.{ShortFloat, float_zero}
use Rattle.g726_bits.specs.State.{PredictorState}
use Rattle.g726_bits.specs.Step.{predictor_after}
use Rattle.g726_predict.specs.declared.Predictor.TheInside as Whole
use Rattle.g726_predict.specs.declared.frame.FramePredictor.TheInside as OnRow
use Rattle.g726_predict.specs.Shown.{shown}
use Rattle.g726_predict.specs.Rows.{shown_in}

-- a place before the new one reads as it did, also where it is named from the next step
as_before : (row : List ShortFloat) (new : ShortFloat) (at place same : ℕ) → place ≡ same → place < at → get_or (slice_set row at new) place float_zero ≡ get_or row same float_zero
as_before row new at place same e h =
    let other : place ≢ at = omega arith in
    get_or-set_other row at place new float_zero other ∙ ap (λ k. get_or row k float_zero) e

-- the fields of the next predictor, and its newest difference in the row
abbrev pub moved : OnRow.Inside → Whole.Inside → OnRow.Inside
moved p next = record {
  poles = next.poles;
  zeros = next.zeros;
  row = slice_set p.row (p.steps + 6) next.past.dq1;
  steps = p.steps + 1;
}

pub moved_on : (rate : Rate) (p : OnRow.Inside) (next : Whole.Inside) (s : PredictorState) (neg : Bool) (g : ℕ) (tr : Bool) →
    p.steps + 6 < length p.row → shown_in p ≡ s → shown next ≡ predictor_after rate s neg g tr →
    shown_in (moved p next) ≡ predictor_after rate s neg g tr
unfolding predictor_after
moved_on rate p next s neg g tr h is e =
    let new = next.past.dq1 in
    let at = p.steps + 6 in
    let d1 : get_or (slice_set p.row at new) (p.steps + 1 + 5) float_zero ≡ next.past.dq1 =
    get_or-set_at p.row at (p.steps + 1 + 5) new float_zero (omega arith) h in
    let d2 : get_or (slice_set p.row at new) (p.steps + 1 + 4) float_zero ≡ next.past.dq2 =
    as_before p.row new at (p.steps + 1 + 4) (p.steps + 5) (omega arith) (omega arith) ∙ (ap (λ q. q.dq1) is ∙ sym (ap (λ q. q.dq2) e)) in
    let d3 : get_or (slice_set p.row at new) (p.steps + 1 + 3) float_zero ≡ next.past.dq3 =
    as_before p.row new at (p.steps + 1 + 3) (p.steps + 4) (omega arith) (omega arith) ∙ (ap (λ q. q.dq2) is ∙ sym (ap (λ q. q.dq3) e)) in
    let d4 : get_or (slice_set p.row at new) (p.steps + 1 + 2) float_zero ≡ next.past.dq4 =
    as_before p.row new at (p.steps + 1 + 2) (p.steps + 3) (omega arith) (omega arith) ∙ (ap (λ q. q.dq3) is ∙ sym (ap (λ q. q.dq4) e)) in
    let d5 : get_or (slice_set p.row at new) (p.steps + 1 + 1) float_zero ≡ next.past.dq5 =
    as_before p.row new at (p.steps + 1 + 1) (p.steps + 2) (omega arith) (omega arith) ∙ (ap (λ q. q.dq4) is ∙ sym (ap (λ q. q.dq5) e)) in
    let d6 : get_or (slice_set p.row at new) (p.steps + 1) float_zero ≡ next.past.dq6 =
    as_before p.row new at (p.steps + 1) (p.steps + 1) (omega arith) (omega arith) ∙ (ap (λ q. q.dq5) is ∙ sym (ap (λ q. q.dq6) e)) in
    rw (d1, d2, d3, d4, d5, d6) e
