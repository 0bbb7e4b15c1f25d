use Rattle.std.proofs.Common.{arith}
use Rattle.session_account.specs.Listening.{went}
use Rattle.session_account.proofs.Mapped.{front_more, front_length}
use Rattle.session_account.proofs.visits.leave_all.Goals as goal

pub loop-i-preserved : goal.loop-i-preserved
loop-i-preserved c =
    let long = front_length (went c.args.member c.args.closed) c.loop-i.i c.args.visits.now.items c.loop-i.visits.items c.loop-i.invariant in
    front_more (went c.args.member c.args.closed) c.loop-i.i c.args.visits.now.items c.loop-i.visits.items c.index_mut.result.now c.leave.new.self
    c.loop-i.invariant (omega (arith, c.len-i-end.ensures)) c.index_mut.ensures.value c.leave.ensures
