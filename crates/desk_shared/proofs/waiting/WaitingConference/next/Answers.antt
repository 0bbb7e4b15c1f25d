use Rattle.std.proofs.Common.{arith}
use Rattle.desk_shared.proofs.Handing.{in-sendable}
use Rattle.desk_shared.proofs.waiting.WaitingConference.next.Goals as goal

pub returns-then-backlog-eq0-clause-there : goal.returns-then-backlog-eq0-clause-there
returns-then-backlog-eq0-clause-there g c = λ h n s lt. let count = c.backlog.ensures.count h n s.0 in absurd (omega arith)

pub returns-then-backlog-eq0-clause-stands : goal.returns-then-backlog-eq0-clause-stands
returns-then-backlog-eq0-clause-stands g c = λ h n s lt. let count = c.backlog.ensures.count h n s.0 in absurd (omega arith)

pub wait_for_next-requires-clause-known : goal.wait_for_next-requires-clause-known
wait_for_next-requires-clause-known g c =
    let (h, n, s) = c.requires in
    (h, n, c.backlog.ensures.stands h n s.0)

pub returns-clause-none : goal.returns-clause-none
returns-clause-none g c = λ h n s le. let count = c.backlog.ensures.count h n s.0 in absurd (omega arith)

pub returns-clause-packets : goal.returns-clause-packets
returns-clause-packets g c = λ h n s. c.wait_for_next.ensures.packets h n (c.backlog.ensures.stands h n s.0)

pub returns-clause-stands : goal.returns-clause-stands
returns-clause-stands g c = λ h n s lt. ((c.wait_for_next.ensures.stands h n (c.backlog.ensures.stands h n s.0)).1, c.wait_for_next.ensures.ready)

pub returns-clause-sendable : goal.returns-clause-sendable
returns-clause-sendable g c =
    let (h, n, s) = c.requires in
    in-sendable _ h n n c.wait_for_next.result.packets (c.wait_for_next.ensures.packets h n (c.backlog.ensures.stands h n s.0)) s.0
