use Rattle.std.proofs.Common.{rules}
use Rattle.desk_run.proofs.BookFeed.{join-stands, not-used, not-full}
use Rattle.desk_run.proofs.book_side.BookAudience.join.Goals as goal

pub unreachable-requires : goal.unreachable-requires
unreachable-requires c =
    let (h, n, stands, may) = c.requires.stands in
    let used = not-used c.args.self.now h c.args.spec c.join.result stands.0 may c.join.ensures.used in
    let full = not-full c.args.self.now h c.args.spec c.join.result stands.0 may c.join.ensures.full in
    search (rules, used, full)

pub returns-in-Ok-clause-stands : goal.returns-in-Ok-clause-stands
returns-in-Ok-clause-stands c = λ h n s. (join-stands c.args.self.now c.join.new.self h c.args.spec c.requires.lawful c.in-Ok.ensures.ok s.0, s.1, s.2)
