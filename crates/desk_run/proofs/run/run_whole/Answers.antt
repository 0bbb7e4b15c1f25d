use Rattle.std.proofs.Common.{refl, rules}
use Rattle.desk_run.proofs.Results.{if-err}
use Rattle.desk_run.proofs.Closed.{ran_all, stopped_all, unheaded, unopened}
use Rattle.desk_run.proofs.run.run_whole.Goals as goal

pub returns-in_err-head-clause-stopped : goal.returns-in_err-head-clause-stopped
returns-in_err-head-clause-stopped g c =
    if-err c.from_residual.result _ _ c.from_residual.ensures.1
    (unopened _ _ _ _ c.args.ticks c.in_err-head.field-0.0 _ (search rules) c.in_err-head.ensures.answer c.in_err-head.ensures.read_taken)

pub returns-in_err-head-2-clause-stopped : goal.returns-in_err-head-2-clause-stopped
returns-in_err-head-2-clause-stopped g c =
    if-err c.from_residual-in_err-head-2.result _ _ c.from_residual-in_err-head-2.ensures.1
    (unheaded (λ s. g.S.Source.rest s) c.args.reader.now c.head.new.self c.in_ok-head.ensures.taken _ c.args.ticks _ _ _ c.in_err-head-2.field-0.0 _ refl c.in_err-head-2.ensures.fault)

pub returns-clause-ran : goal.returns-clause-ran
returns-clause-ran g c =
    ran_all (λ s. g.S.Source.rest s) c.args.reader.now c.head.new.self c.in_ok-head.ensures.taken _ c.args.ticks _ _ _ _ c.in_ok-head-2.ensures.whole _ _ c.run_ticks.result c.run_ticks.ensures.ran

pub returns-clause-stopped : goal.returns-clause-stopped
returns-clause-stopped g c =
    stopped_all (λ s. g.S.Source.rest s) c.args.reader.now c.head.new.self c.in_ok-head.ensures.taken _ c.args.ticks _ _ _ _ c.in_ok-head-2.ensures.whole c.run_ticks.result c.run_ticks.ensures.stopped
