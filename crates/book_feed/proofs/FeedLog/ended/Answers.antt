use Rattle.book_feed.proofs.Feeds.{ended-kept}
use Rattle.book_feed.proofs.FeedLog.ended.Goals as goal

pub returns : goal.returns
returns c = ended-kept c.self.inside c.args.self.now c.self.invariant c.self.view_is
