use Rattle.std.proofs.Common.{◌∙◌, sym, rules}
use Rattle.room_pool.proofs.Turning.{given_later, asked_both}
use Rattle.room_pool.proofs.asking.ask_from.Goals as goal

pub returns-in-Job-clause-asked : goal.returns-in-Job-clause-asked
returns-in-Job-clause-asked g c =
    given_later g.P.Asks.answers c.args.first c.args.passes.now c.split_at_mut-before.result.0.now c.split_at_mut-before.result.1.now _ c.in-Job.at c.in-Job.job
    c.split_at_mut-before.ensures.value c.split_at_mut-before.ensures.front_len c.in-Job.ensures.asked

pub returns-in-Nothing-clause-asked : goal.returns-in-Nothing-clause-asked
returns-in-Nothing-clause-asked g c =
    rw c.with_both.ensures
    (asked_both g.P.Asks.answers c.args.first c.args.passes.now c.split_at_mut-before.result.0.now c.split_at_mut-before.result.1.now _ _ c.in-Nothing.over
    c.ask_each-in-Nothing.result c.split_at_mut-before.ensures.value c.split_at_mut-before.ensures.front_len c.ask_each-in-Nothing.auto.passes
    c.in-Nothing.ensures.asked c.ask_each-in-Nothing.ensures.asked)
