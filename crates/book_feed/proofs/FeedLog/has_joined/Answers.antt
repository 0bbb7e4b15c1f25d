use Rattle.std.proofs.Common.{◌∙◌, ap, ◌==◌}
use Rattle.std.specs.List.{list_any}
use Rattle.book_feed.proofs.Feeds.{joined-kept}
use Rattle.book_feed.proofs.FeedLog.has_joined.Goals as goal

pub returns : goal.returns
returns c =
    c.contains.ensures ∙ c.self.invariant.joined.has c.args.member
    ∙ ap (list_any (λ m. m == c.args.member)) (joined-kept c.self.inside c.args.self.now c.self.invariant c.self.view_is)
