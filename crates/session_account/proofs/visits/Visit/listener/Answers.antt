use Rattle.std.proofs.Common.{◌∙◌, ◌-◌, ap}
use Rattle.session_account.proofs.Ages.{listener-is}
use Rattle.session_account.proofs.visits.Visit.listener.Goals as goal

pub returns : goal.returns
returns c g is aged =
    listener-is c.args.self.now g c.args.closed (c.unwrap_or.result - c.args.self.now.from) c.from-bundle.result c.div_ceil.result is aged
    (ap (λ n. n - c.args.self.now.from) c.unwrap_or.ensures) (c.from-bundle.ensures ∙ c.max.ensures) c.div_ceil.ensures
