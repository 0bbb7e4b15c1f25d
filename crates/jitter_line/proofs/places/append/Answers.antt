use Rattle.std.proofs.Common.{◌∙◌, ◌++◌, ◌*◌, ℤ, List, Some, Option, ap, arith, map}
use Rattle.std.specs.List.{between}
use Rattle.circular_buffer.specs.Buffer.{Buffer, buffer}
use Rattle.jitter_line.proofs.Laying.{appended_frame}
use Rattle.jitter_line.proofs.places.append.Goals as goal

pub loop-k-preserved : goal.loop-k-preserved
loop-k-preserved c =
    c.append_frame.ensures
    ∙ ap (λ (r : Buffer (Option ℤ)). buffer (r.items ++ map Some (between (160 * c.loop-k.k) c.min-end.result c.args.samples.now)) 3200) c.loop-k.invariant
    ∙ ap (λ (xs : List (Option ℤ)). buffer xs 3200)
    (appended_frame c.args.ring.now.items c.args.samples.now c.loop-k.k c.min-end.result (omega arith) (omega arith))
