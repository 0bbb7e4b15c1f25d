use Rattle.std.proofs.Common.{◌≡◌, drop}
use Rattle.std.specs.Prelude.{◌==◌}
use Rattle.std.specs.List.{list_any}
use Rattle.tick_core.proofs.book.is_present.Given as goal

abbrev pub invariant-loop-rest : goal.invariant-loop-rest
invariant-loop-rest l = list_any (λ r. r.spec.member == l.member) l.present ≡ list_any (λ r. r.spec.member == l.member) (drop l.rest-index l.present)
