use Rattle.std.proofs.Common.{refl}
use Rattle.std.specs.Fmt.{digits}
use Rattle.demo_gen.specs.Roster.{roster}
use Rattle.demo_gen.specs.Commands.{told}
use Rattle.demo_gen.proofs.laws.roster_is_lawful.Goals as goal

pub returns : goal.returns
unfolding roster told digits
returns c = refl
