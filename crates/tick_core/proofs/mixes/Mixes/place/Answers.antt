use Rattle.std.proofs.Common.{sym}
use Rattle.tick_core.proofs.Hearing.{mix-whole, remembers-more, placed-there, placed-as}
use Rattle.tick_core.specs.Hearing.{whole}
use Rattle.tick_core.proofs.mixes.Mixes.place.Goals as goal

pub returns-then-is_heard-clause-remembers : goal.returns-then-is_heard-clause-remembers
returns-then-is_heard-clause-remembers c =
    let p = c.place_own.ensures.places in
    remembers-more c.args.talkers.now c.args.table.now.rows p.more c.place_own.new.table.rows c.args.self.now p.grown c.requires.remembers

pub returns-in-Some-clause-places : goal.returns-in-Some-clause-places
returns-in-Some-clause-places c =
    let rows = c.args.table.now.rows in
    let spec = c.args.spec.now in
    placed-as c.args.number spec.rate c.args.state.now (whole c.args.talkers.now) _ rows c.args.queue.now rows c.args.queue.now c.in-Some.at
    (sym (mix-whole spec.member c.args.talkers.now (c.is_heard.ensures c.if-is_heard.false)))
    (placed-there c.args.number _ rows c.args.queue.now c.in-Some.at (c.in-Some.ensures c.args.talkers.now c.requires.remembers))
