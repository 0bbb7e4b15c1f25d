use Rattle.book_feed.specs.declared.Mark.TheVariants as mark
use Rattle.book_feed.proofs.Feeds.{push-feed}
use Rattle.book_feed.proofs.FeedLog.leave.Goals as goal

pub returns-clause-feed : goal.returns-clause-feed
returns-clause-feed c =
    push-feed c.self.inside c.args.self.now c.put_mark.new.marks.items (mark.Leave c.args.member) c.self.invariant c.self.view_is
    c.requires.not_ended c.put_mark.ensures.items
