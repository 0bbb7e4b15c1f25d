use Rattle.std.proofs.Common.{◌+◌, length, ap, arith, ◌∙◌}
use Rattle.desk_shared.proofs.Handing.{one-more, length-more}
use Rattle.desk_shared.proofs.waiting.make_place.Goals as goal

pub returns-then-backlog-lt64-clause-taken : goal.returns-then-backlog-lt64-clause-taken
returns-then-backlog-lt64-clause-taken g c = λ h n r.
    let count = c.backlog.ensures.count h (n + length c.args.ready.now.items) r.out in
    (record { out = c.backlog.ensures.stands h (n + length c.args.ready.now.items) r.out; packets = r.packets }, omega arith)

pub wait_for_next-requires-clause-known : goal.wait_for_next-requires-clause-known
wait_for_next-requires-clause-known g c =
    let (h, n, r) = c.requires.known in
    (h, n + length c.args.ready.now.items, c.backlog.ensures.stands h (n + length c.args.ready.now.items) r.out)

pub returns-clause-taken : goal.returns-clause-taken
returns-clause-taken g c = λ h n r.
    let len = ap (λ ts. length ts) c.in_ok-push.ensures.items ∙ length-more c.args.ready.now.items c.wait_for_next.result in
    let near = r.out.near in (
      one-more _ _ h n c.args.ready.now.items _ c.wait_for_next.result c.in_ok-push.ensures.items
          (λ f k o. c.wait_for_next.ensures.packets f k o)
          (λ f k o. (c.wait_for_next.ensures.stands f k o).1)
          (record { out = c.backlog.ensures.stands h (n + length c.args.ready.now.items) r.out; packets = r.packets }),
      omega arith,
    )
