use Rattle.std.proofs.Common.{◌∙◌, ◌++◌, ◌∷◌, [], ap, length, arith}
use Rattle.pack3551.proofs.Bundles.{shown_value, size_most, pushed, pushed_value}
use Rattle.pack3551.proofs.bundle.Bundle.push.Goals as goal

pub invariant_of-self : goal.invariant_of-self
invariant_of-self c =
    let b = c.self.inside in
    let payload = c.as_slice-octets.result.now in
    let count = (shown_value b.octets b.sizes b.count b.filled c.args.self.now c.self.invariant c.self.view_is).count in
    pushed b.octets b.sizes payload c.copy_from_slice.new.self b.count b.filled c.self.invariant c.copy_from_slice.ensures.after
    (size_most (length payload) c.as_slice-octets.ensures.size) (omega (arith, count, c.requires))

pub returns : goal.returns
returns c =
    let b = c.self.inside in
    let payload = c.as_slice-octets.result.now in
    let count = (shown_value b.octets b.sizes b.count b.filled c.args.self.now c.self.invariant c.self.view_is).count in
    pushed_value b.octets b.sizes payload c.copy_from_slice.new.self b.count b.filled c.self.invariant c.copy_from_slice.ensures.after
    (omega (arith, count, c.requires))
    ∙ (ap (λ ps. ps ++ payload ∷ []) c.self.view_is ∙ ap (λ p. c.args.self.now ++ p ∷ []) c.as_slice-octets.ensures.value)
