use Rattle.std.proofs.Common.{◌≡◌, rules}
use Rattle.audit_check.proofs.Comparing.{stays-found}
use Rattle.audit_check.proofs.compare.Compare.take.Goals as goal

pub returns-else-is_none-clause-compared : goal.returns-else-is_none-clause-compared
returns-else-is_none-clause-compared c ss was = stays-found c.args.self.now ss _ (search rules) was
