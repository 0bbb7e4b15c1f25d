use Rattle.std.proofs.Common.{sym, ◌∙◌}
use Rattle.tick_core.proofs.Hearing.{mix-whole, remembers-more, placed-as, row-placed}
use Rattle.tick_core.specs.Hearing.{whole}
use Rattle.tick_core.proofs.mixes.Mixes.place_last.Goals as goal

pub returns-clause-places : goal.returns-clause-places
returns-clause-places c =
    let spec = c.args.spec.now in
    placed-as c.args.number spec.rate c.args.state.now c.whole-all.result _ c.args.table.now.rows c.args.queue.now c.place-at.new.table.rows c.place-at.new.self c.place-at.result
    (c.whole-all.ensures.mixed c.args.table.now.rows c.requires.remembers ∙ sym (mix-whole spec.member c.args.talkers.now c.requires.other))
    c.place-at.ensures.places

pub returns-clause-remembers : goal.returns-clause-remembers
returns-clause-remembers c =
    let rows = c.args.table.now.rows in
    let spec = c.args.spec.now in
    let tick = c.args.talkers.now in
    let p = c.place-at.ensures.places in
    let made = c.whole-all.ensures.mixed rows c.requires.remembers in
    let more = remembers-more tick rows p.more c.place-at.new.table.rows c.whole-all.new.self p.grown (c.whole-all.ensures.remembers rows c.requires.remembers) in
    c.put.ensures tick c.place-at.new.table.rows more
    (row-placed c.args.number spec.rate c.args.state.now (whole tick) rows c.args.queue.now c.place-at.new.table.rows c.place-at.new.self c.place-at.result
    (placed-as c.args.number spec.rate c.args.state.now c.whole-all.result (whole tick) rows c.args.queue.now c.place-at.new.table.rows c.place-at.new.self c.place-at.result made p))
