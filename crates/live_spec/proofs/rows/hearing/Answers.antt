use Rattle.std.proofs.Common.{refl}
use Rattle.live_spec.specs.Heard.{rounds_in}
use Rattle.live_spec.proofs.rows.hearing.Goals as goal

pub returns-clause-ticks : goal.returns-clause-ticks
unfolding rounds_in
returns-clause-ticks c = refl

pub returns-clause-datagrams : goal.returns-clause-datagrams
unfolding rounds_in
returns-clause-datagrams c = refl
