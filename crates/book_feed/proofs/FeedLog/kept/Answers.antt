use Rattle.std.proofs.Common.{arith}
use Rattle.book_feed.proofs.Feeds.{since-kept}
use Rattle.book_feed.proofs.FeedLog.kept.Goals as goal

pub returns : goal.returns
returns c =
    let e = since-kept c.self.inside c.args.self.now c.self.invariant c.self.view_is in
    omega arith
