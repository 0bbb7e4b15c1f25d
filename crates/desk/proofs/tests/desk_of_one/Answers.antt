use Rattle.std.proofs.Common.{[]}
use Rattle.desk.proofs.tests.desk_of_one.Goals as goal

pub returns : goal.returns
returns c = (_, c.in_ok-apply.ensures.stands [] c.new-desk.ensures.nobody)
