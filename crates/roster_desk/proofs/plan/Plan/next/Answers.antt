use Rattle.std.proofs.Common.{arith}
use Rattle.roster_text.proofs.Ordering.{roster_in_order}
use Rattle.roster_desk.proofs.Leaving.{none_ended, none_late, some_next}
use Rattle.roster_desk.proofs.Talking.{applied_next}
use Rattle.roster_desk.proofs.Asking.{may_listen}
use Rattle.roster_desk.proofs.plan.Plan.next.Goals as goal

pub returns-then-self-len-clause-none : goal.returns-then-self-len-clause-none
returns-then-self-len-clause-none c cs left =
    none_ended _ _ _ c.args.tick cs c.self.view_is left (omega arith)

pub returns-then-timed-tick-clause-none : goal.returns-then-timed-tick-clause-none
returns-then-timed-tick-clause-none c cs left =
    none_late _ _ _ c.args.tick cs c.timed-timed.result c.self.view_is left (roster_in_order _ c.len.ensures.lawful).rises c.timed-timed.ensures (omega arith) c.if-timed-tick.true

pub returns-clause-some : goal.returns-clause-some
returns-clause-some c cs left =
    some_next _ _ _ c.args.tick cs c.timed-timed.result c.self.view_is left c.timed-timed.ensures (omega arith) c.if-timed-tick.false

pub returns-clause-applied : goal.returns-clause-applied
returns-clause-applied c h follows =
    let next = applied_next _ _ _ c.timed-timed.result h c.self.view_is (roster_in_order _ c.len.ensures.lawful).placed c.timed-timed.ensures (omega arith) follows in
    (next.0, may_listen _ _ _ c.timed-timed.result h c.self.view_is c.len.ensures.lawful c.timed-timed.ensures (omega arith) follows, next.1)
