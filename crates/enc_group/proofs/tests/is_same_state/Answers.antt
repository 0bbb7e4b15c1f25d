use Rattle.std.proofs.Common.{sym, ◌∙◌}
use Rattle.conference_spec.proofs.Equal.{state-decides}
use Rattle.enc_group.proofs.tests.is_same_state.Goals as goal

pub returns : goal.returns
returns c same = (state-decides c.args.state.now c.args.other.now).0 (sym c.eq.ensures ∙ same)
