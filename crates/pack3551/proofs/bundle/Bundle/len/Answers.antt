use Rattle.std.proofs.Common.{sym}
use Rattle.pack3551.proofs.Bundles.{shown_value}
use Rattle.pack3551.proofs.bundle.Bundle.len.Goals as goal

pub returns-clause-value : goal.returns-clause-value
returns-clause-value c =
    let b = c.self.inside in
    sym (shown_value b.octets b.sizes b.count b.filled c.args.self.now c.self.invariant c.self.view_is).count
