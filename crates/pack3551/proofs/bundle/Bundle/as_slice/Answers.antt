use Rattle.std.proofs.Common.{◌∙◌, sym, ap}
use Rattle.pack3551.specs.Bundled.{joined}
use Rattle.pack3551.specs.BundledBack.{bundle_cut}
use Rattle.pack3551.proofs.bundle.Bundle.as_slice.Goals as goal

pub returns-clause-value : goal.returns-clause-value
returns-clause-value c =
    let b = c.self.inside in
    sym (bundle_cut b.octets b.sizes b.count b.filled c.self.invariant) ∙ ap joined c.self.view_is
