use Rattle.std.proofs.Common.{refl}
use Rattle.live_spec.specs.Heard.{rounds_in}
use Rattle.live_spec.proofs.rows.sendings.Goals as goal

pub returns-clause-summary : goal.returns-clause-summary
unfolding rounds_in
returns-clause-summary c = refl
