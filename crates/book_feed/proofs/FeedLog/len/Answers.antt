use Rattle.std.proofs.Common.{arith}
use Rattle.book_feed.proofs.Feeds.{entries-kept, few-entries}
use Rattle.book_feed.proofs.FeedLog.len.Goals as goal

pub returns : goal.returns
returns c modest =
    let few = few-entries c.self.inside c.args.self.now c.self.invariant c.self.view_is modest in
    let all = entries-kept c.self.inside c.args.self.now c.self.invariant c.self.view_is in
    grind (arith, all, few, c.self.invariant.marks_len)
