use Rattle.std.proofs.Common.{◌∙◌, None, arith, get_or, length}
use Rattle.std.specs.List.{between}
use Rattle.std.proofs.lemmas.Slice.{between_to_end}
use Rattle.jitter_line.proofs.Laying.{lay_places, lay_new}
use Rattle.jitter_line.proofs.places.lay.Goals as goal

pub returns-clause-places : goal.returns-clause-places
returns-clause-places c =
    lay_places c.args.ring.now.items c.args.offset c.saturating_sub-early.result c.saturating_sub-place.result c.args.samples.now
    (between c.saturating_sub-early.result (length c.args.samples.now) c.args.samples.now) (omega arith) (omega arith)
    (between_to_end c.args.samples.now c.saturating_sub-early.result (length c.args.samples.now) (omega arith)) c.lay_at.ensures.places

pub returns-clause-new : goal.returns-clause-new
returns-clause-new c =
    c.lay_at.ensures.new
    ∙ lay_new (λ i. get_or c.args.ring.now.items i None) c.args.offset c.saturating_sub-early.result c.saturating_sub-place.result c.args.samples.now
    (between c.saturating_sub-early.result (length c.args.samples.now) c.args.samples.now) (omega arith) (omega arith)
    (between_to_end c.args.samples.now c.saturating_sub-early.result (length c.args.samples.now) (omega arith)) (omega arith)
