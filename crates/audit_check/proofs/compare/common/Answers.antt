use Rattle.std.proofs.Common.{◌≡◌, ◌<◌, ◌≤◌, inl, inr, length, sym, arith}
use Rattle.std.proofs.lemmas.Bool.{cases_lt}
use Rattle.audit_check.specs.Difference.{common}
use Rattle.audit_check.proofs.Fronts.{step-none, step-end, step-over}
use Rattle.audit_check.proofs.compare.common.Goals as goal

pub returns-then-one-i-clause-value : goal.returns-then-one-i-clause-value
returns-then-one-i-clause-value c =
    sym (step-none c.args.one.now c.args.other.now c.loop-i.i (common c.args.one.now c.args.other.now) (omega arith) (omega arith) c.if-one-i.true c.loop-i.invariant)

pub returns-clause-value : goal.returns-clause-value
returns-clause-value c =
    let one = c.args.one.now in
    let other = c.args.other.now in
    let i = c.loop-i.i in
    let at : i ≡ c.min-len.result = omega arith in
    elim (cases_lt (length other) (length one)) [
      | inl lt ↦
          let is : common one other ≡ i = step-over one other i (common one other) (omega arith) c.loop-i.invariant in
          omega arith
      | inr le ↦
          let is : common one other ≡ i = step-end one other i (common one other) (omega arith) c.loop-i.invariant in
          omega arith
    ]
