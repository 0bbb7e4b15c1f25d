use Rattle.book_feed.proofs.Feeds.{closed-kept}
use Rattle.book_feed.proofs.FeedLog.closed.Goals as goal

pub returns : goal.returns
returns c = closed-kept c.self.inside c.args.self.now c.self.invariant c.self.view_is
