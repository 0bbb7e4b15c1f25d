use Rattle.std.proofs.Common.{ap, ◌∙◌, subst, arith}
use Rattle.tick_core.specs.Sweeping.{AllFit, all_unknown}
use Rattle.tick_core.proofs.Staging.{fit-parts, unknown-parts}
use Rattle.tick_core.proofs.sweep.sweep_from.Goals as goal

pub sweep-requires-clause-fit : goal.sweep-requires-clause-fit
sweep-requires-clause-fit c =
    let parts = c.split_at_mut-newer.result in
    (fit-parts parts.0.now parts.1.now (subst AllFit c.split_at_mut-newer.ensures.value c.requires.fit)).0

pub sweep-requires-clause-room : goal.sweep-requires-clause-room
sweep-requires-clause-room c =
    let parts = c.split_at_mut-newer.result in
    let e = ap all_unknown c.split_at_mut-newer.ensures.value ∙ unknown-parts parts.0.now parts.1.now in
    let room = c.requires.room in
    omega arith

pub sweep-requires-clause-numbers : goal.sweep-requires-clause-numbers
sweep-requires-clause-numbers c =
    let parts = c.split_at_mut-newer.result in
    let e = ap all_unknown c.split_at_mut-newer.ensures.value ∙ unknown-parts parts.0.now parts.1.now in
    let numbers = c.requires.numbers in
    omega arith
