use Rattle.std.proofs.Common.{sym, ◌∙◌}
use Rattle.conference_spec.proofs.Equal.{rate-decides}
use Rattle.enc_group.proofs.tests.is_same_rate.Goals as goal

pub returns : goal.returns
returns c same = (rate-decides c.args.rate c.args.other).0 (sym c.eq.ensures ∙ same)
