use Rattle.std.proofs.Common.{◌≡◌, ◌∙◌, ℕ, ◌≤◌, List, length, ap, sym, subst, arith, rules}
use Rattle.std.specs.Prelude.{Option, Some, None}
use Rattle.audit_check.specs.declared.compare.Difference.{Difference}
use Rattle.audit_check.specs.Difference.{Judges}
use Rattle.audit_check.proofs.Comparing.{ends-any, ends-short, ends-longer, ends-whole}
use Rattle.audit_check.proofs.compare.Compare.end.Goals as goal

pub returns-then-is_some : goal.returns-then-is_some
returns-then-is_some c = record { judged = λ ss was. ends-any c.args.self.now ss was (search rules) }

pub returns-then-self-lt39 : goal.returns-then-self-lt39
returns-then-self-lt39 c = record {
  judged = λ ss was.
      let open' : c.args.self.now.found ≡ None = search rules in
      subst (λ (d : Difference). Judges c.args.self.now.out ss (Some d)) (sym c.in_no_packet.ensures)
      (ends-short c.args.self.now ss was open' c.if-self-lt39.true);
}

pub returns-then-self-as_slice : goal.returns-then-self-as_slice
returns-then-self-as_slice c = record {
  judged = λ ss was.
      let open' : c.args.self.now.found ≡ None = search rules in
      let len = ap (λ (xs : List ℕ). length xs) c.as_slice.ensures in
      subst (λ (d : Difference). Judges c.args.self.now.out ss (Some d)) (sym c.in_no_packet-then-self-as_slice.ensures)
      (ends-longer c.args.self.now ss was open' c.if-self-lt39.false (omega arith));
}
