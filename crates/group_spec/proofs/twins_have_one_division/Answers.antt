use Rattle.group_spec.proofs.Twins.{twins-groups}
use Rattle.group_spec.proofs.twins_have_one_division.Goals as goal

pub returns : goal.returns
returns c = twins-groups
