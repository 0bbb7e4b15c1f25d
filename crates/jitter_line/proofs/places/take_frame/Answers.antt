use Rattle.std.proofs.Common.{◌∙◌, ◌++◌, ℤ, pos, ap, arith, List, Option, None, drop, get_or, replicate, take, unwrap_or}
use Rattle.jitter_line.proofs.Turning.{read_places}
use Rattle.jitter_line.proofs.places.take_frame.Goals as goal

pub returns-clause-samples : goal.returns-clause-samples
returns-clause-samples c k within =
    let old = c.args.ring.now.items in
    let n = c.read_into.result in
    c.loop-k.invariant.1 k (omega arith)
    ∙ ap (λ (o : Option ℤ). unwrap_or o (pos 0))
    (ap (λ (xs : List (Option ℤ)). get_or xs k None)
    (c.read_into.ensures.read ∙ ap (λ (empty : Option ℤ). take n old ++ drop n (replicate 160 empty)) c.empty-places.ensures)
    ∙ read_places old n k c.read_into.ensures.count within)
