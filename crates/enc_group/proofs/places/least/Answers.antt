use Rattle.std.proofs.Common.{◌≡◌, ◌≤◌, ◌<◌, ℕ, false, None, ap, sym, ◌∙◌, arith, inl, inr, subst}
use Rattle.std.proofs.lemmas.List.{get_or_past}
use Rattle.std.proofs.lemmas.Bool.{cases_lt}
use Rattle.std.proofs.lemmas.Bool.Decides.{eqb_tells}
use Rattle.enc_group.specs.Groups.{passes, group_in}
use Rattle.enc_group.specs.Wanted.{test_of}
use Rattle.enc_group.proofs.places.least.Goals as goal

pub loop-key-preserved : goal.loop-key-preserved
loop-key-preserved c = λ k low high.
    elim (eqb_tells k c.loop-key.key) [
      | inl q ↦ ap (λ z. passes (test_of c.args.wanted) (group_in c.args.groups.now.slots z)) q.1 ∙ sym c.meets.ensures ∙ c.if-meets.false
      | inr q ↦ (let ne = q.1 in c.loop-key.invariant k low (omega arith))
    ]

pub returns : goal.returns
returns c = λ k low.
    let slots = c.args.groups.now.slots in
    elim (cases_lt k c.loop-key.key) [
      | inl before ↦ c.loop-key.invariant k low before
      | inr past ↦ ap (passes (test_of c.args.wanted)) (get_or_past slots k None (omega (arith, past, c.loop-key-test.false, c.capacity-key-end.ensures.slots)))
    ]
