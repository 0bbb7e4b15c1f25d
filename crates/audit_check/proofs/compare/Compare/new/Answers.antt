use Rattle.std.proofs.Common.{◌≡◌, ◌≢◌, ◌∙◌, ℕ, List, length, ap, sym}
use Rattle.rtp_dump.specs.Writing.{output_head}
use Rattle.audit_check.specs.Difference.{common}
use Rattle.audit_check.proofs.Comparing.{opened}
use Rattle.audit_check.proofs.compare.Compare.new.Goals as goal

pub returns-clause-compared : goal.returns-clause-compared
returns-clause-compared c =
    let len = ap (λ (xs : List ℕ). length xs) c.as_slice-len.ensures in
    opened c.args.out c.common-at.result c.in_file_head.result
    (c.common-at.ensures.value ∙ ap (λ (xs : List ℕ). common xs output_head) c.as_slice.ensures)
    c.in_file_head.ensures.whole (λ e. c.in_file_head.ensures.short (e ∙ sym len)) (λ n m. c.in_file_head.ensures.differs n (λ e. m (e ∙ len)))
