use Rattle.std.specs.Prelude.{◌==◌}
use lib.Pointwise.{pointwise}
use Rattle.pack3551.proofs.Bundles.{shown_value, all_four}
use Rattle.pack3551.proofs.bundle.BundlePartialEq.eq.Goals as goal

pub returns : goal.returns
returns c =
    let a = c.t1-1.inside in
    let b = c.t2-1.inside in
    let x = shown_value a.octets a.sizes a.count a.filled c.args.self.now c.t1-1.invariant c.t1-1.view_is in
    let y = shown_value b.octets b.sizes b.count b.filled c.args.other.now c.t2-1.invariant c.t2-1.view_is in
    rw (x.octets, y.octets, x.sizes, y.sizes, x.count, y.count, x.filled, y.filled)
    (all_four (pointwise ◌==◌ a.octets b.octets) (pointwise ◌==◌ a.sizes b.sizes) (a.count == b.count) (a.filled == b.filled)
    c.eq.result c.and_eq.result c.and_eq-2.result c.and_eq-3.result c.eq.ensures c.and_eq.ensures c.and_eq-2.ensures c.and_eq-3.ensures)
