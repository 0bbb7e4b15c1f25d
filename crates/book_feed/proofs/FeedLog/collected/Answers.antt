use Rattle.book_feed.proofs.Feeds.{collected-kept}
use Rattle.book_feed.proofs.FeedLog.collected.Goals as goal

pub returns : goal.returns
returns c = collected-kept c.self.inside c.args.self.now c.self.invariant c.self.view_is
