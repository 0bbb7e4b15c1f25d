use Rattle.std.proofs.Common.{◌∙◌}
use Rattle.std.specs.Fmt.{digits}
use Rattle.demo_gen.specs.Roster.{roster}
use Rattle.demo_gen.proofs.session.Goals as goal

pub returns-clause-roster : goal.returns-clause-roster
unfolding roster digits
returns-clause-roster c = c.of.ensures ∙ c.in_ok-from_slice.ensures.items
