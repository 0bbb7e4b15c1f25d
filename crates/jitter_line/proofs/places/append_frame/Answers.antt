use Rattle.std.proofs.Common.{◌∙◌, refl, arith}
use Rattle.jitter_line.proofs.Laying.{framed}
use Rattle.jitter_line.proofs.places.append_frame.Goals as goal

pub returns : goal.returns
returns c =
    c.fill_from_slice.ensures.items
    ∙ framed c.args.ring.now c.loop-j.places _ c.args.samples.now _ refl c.loop-j.invariant.0 (omega arith)
    (λ k within. c.loop-j.invariant.1 k (omega arith)) c.fill_from_slice.ensures.count (omega arith) (omega arith)
