use Rattle.std.proofs.Common.{◌∙◌, ap}
use Rattle.room_pool.specs.Kept.{held_among}
use Rattle.room_pool.proofs.Filling.{grows_by_none, on_err}
use Rattle.std.proofs.lemmas.Result.{err_from_is_err_and}
use Rattle.room_pool.proofs.mem_outs.MemOutsOuts.put.Goals as goal

pub returns-in_err-add-clause-fault : goal.returns-in_err-add-clause-fault
returns-in_err-add-clause-fault c =
    let before = ap (λ o. held_among o.files c.args.name.now) c.self.view_is in
    on_err c.from_residual.result _ (grows_by_none _ _ c.args.octets.now (c.in_err-add.ensures.none ∙ before))
