use Rattle.std.proofs.Common.{◌+◌, ◌^◌, ◌≤◌, None, refl, arith, get_or, length, take}
use Rattle.std.specs.List.{between}
use Rattle.std.proofs.lemmas.Slice.{between_to_end}
use Rattle.jitter_line.proofs.Laying.{laying, laid_holds, new_most, new_laid}
use Rattle.jitter_line.proofs.places.lay_at.Goals as goal

pub overflow_add-result : goal.overflow_add-result
overflow_add-result c =
    let most : c.lay_over-new.result ≤ c.min-shared.result =
    new_most (λ i. get_or c.reach.new.ring.items i None) (c.args.place + 2 ^ 31) c.lay_over-new.result c.min-shared.result c.args.samples.now
    (take c.min-shared.result c.args.samples.now) c.lay_over-new.ensures.new refl (omega arith) in
    omega (arith, most)

pub returns-clause-places : goal.returns-clause-places
returns-clause-places c =
    rw c.append.ensures (laid_holds c.args.ring.now.items c.reach.new.ring.items c.lay_over-new.new.ring.items c.args.place c.args.samples.now
    (between c.min-shared.result (length c.args.samples.now) c.args.samples.now) c.min-shared.result
    (laying c.args.ring.now.items c.reach.new.ring.items c.lay_over-new.new.ring.items c.args.place c.args.samples.now _ c.min-shared.result
    c.reach.ensures.long.0 (omega arith) c.reach.ensures.same c.lay_over-new.ensures.long.0 refl c.lay_over-new.ensures.places)
    (omega arith) (omega arith) c.reach.ensures.long.0 (between_to_end c.args.samples.now c.min-shared.result (length c.args.samples.now) (omega arith)))

pub returns-clause-new : goal.returns-clause-new
returns-clause-new c =
    new_laid c.args.ring.now.items c.reach.new.ring.items c.lay_over-new.new.ring.items c.args.place c.args.samples.now
    (take c.min-shared.result c.args.samples.now) c.min-shared.result c.lay_over-new.result
    (laying c.args.ring.now.items c.reach.new.ring.items c.lay_over-new.new.ring.items c.args.place c.args.samples.now _ c.min-shared.result
    c.reach.ensures.long.0 (omega arith) c.reach.ensures.same c.lay_over-new.ensures.long.0 refl c.lay_over-new.ensures.places)
    c.lay_over-new.ensures.new refl
