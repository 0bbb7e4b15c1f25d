use Rattle.std.proofs.Common.{inl}
use Rattle.desk_run.proofs.Texts.{front_all}
use Rattle.desk_run.proofs.Closed.{leaves}
use Rattle.desk_run.proofs.leftovers.sum_up.Goals as goal

pub returns-in_default-clause-fault : goal.returns-in_default-clause-fault
returns-in_default-clause-fault g c f s = front_all _ _ _ (c.in_ok-write_leftovers.ensures.whole f s)

pub returns-clause-left : goal.returns-clause-left
returns-clause-left g c h f d s same =
    leaves (λ e. g.D.DeskSide.begins c.args.desk.now e) c.args.book.now c.args.ticks c.from.result c.issued.result c.args.packets c.rests.result c.in-Ok.packets c.refused.result
    _ _ c.from.ensures c.issued.ensures c.rests.ensures c.in-Ok.ensures (λ e b. c.refused.ensures.count e (inl b)) c.in_ok-write_leftovers.ensures.whole h f d s same
