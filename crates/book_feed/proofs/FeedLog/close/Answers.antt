use Rattle.std.proofs.Common.{◌∙◌, ap, arith}
use Rattle.talk_mix.specs.declared.ticks.Tick.{Tick}
use Rattle.conference_spec.specs.declared.Entry.TheVariants as entry
use Rattle.book_feed.specs.declared.Mark.TheVariants as mark
use Rattle.book_feed.specs.Logged.{with_entry}
use Rattle.book_feed.proofs.Feeds.{closed-kept, push-feed}
use Rattle.book_feed.proofs.FeedLog.close.Goals as goal

pub overflow_add-self : goal.overflow_add-self
overflow_add-self c =
    let e = closed-kept c.self.inside c.args.self.now c.self.invariant c.self.view_is in
    let n = c.requires.count in
    omega arith

pub returns-clause-ok : goal.returns-clause-ok
returns-clause-ok c =
    push-feed c.self.inside c.args.self.now c.put_mark.new.marks.items (mark.Close c.in_ok-kept.kept) c.self.invariant c.self.view_is
    c.requires.not_ended c.put_mark.ensures.items
    ∙ ap (λ (t : Tick). with_entry (entry.Close t) c.args.self.now.feed) c.in_ok-kept.ensures.ok
