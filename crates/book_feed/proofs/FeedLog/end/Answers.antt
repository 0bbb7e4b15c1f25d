use Rattle.book_feed.proofs.Feeds.{ended-once}
use Rattle.book_feed.proofs.FeedLog.end.Goals as goal

pub returns-clause-feed : goal.returns-clause-feed
returns-clause-feed c = ended-once c.self.inside c.args.self.now c.self.invariant c.self.view_is
