use Rattle.std.proofs.Common.{arith}
use Rattle.desk_shared.proofs.Handing.{same-closes}
use Rattle.desk_shared.proofs.waiting.backlog.Goals as goal

pub overflow_sub-result : goal.overflow_sub-result
overflow_sub-result g c =
    let (h, n, o) = c.requires.known in
    let closed = c.closed-closed.ensures.value o.own o.stands in
    let handed = c.collected.ensures.value o.own (c.closed-closed.ensures.stands o.own o.stands) in
    let same = same-closes o.own h o.same in
    let count = o.count in
    let behind = o.behind in
    omega arith

pub returns-clause-count : goal.returns-clause-count
returns-clause-count g c = λ h n o.
    let closed = c.closed-closed.ensures.value o.own o.stands in
    let handed = c.collected.ensures.value o.own (c.closed-closed.ensures.stands o.own o.stands) in
    let same = same-closes o.own h o.same in
    let count = o.count in
    let behind = o.behind in
    omega arith
