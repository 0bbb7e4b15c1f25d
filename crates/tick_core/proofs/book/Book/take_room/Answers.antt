use Rattle.std.proofs.Common.{◌∙◌, ℕ, ap, refl, subst, arith, rules}
use Rattle.conference_spec.specs.declared.Entry.TheVariants.{Close}
use Rattle.conference_spec.specs.Feed.{ended}
use Rattle.tick_core.proofs.Follows.{ended-is}
use Rattle.book_feed.specs.Logged.{KeptFeed, with_entry, closed_in}
use Rattle.tick_core.specs.Opened.{HasRoom}
use Rattle.tick_core.proofs.Bounds.{stands-bounded}
use Rattle.tick_core.proofs.book.Book.take_room.Goals as goal

pub close-requires-clause-count : goal.close-requires-clause-count
close-requires-clause-count c =
    let small = stands-bounded c.args.self.now c.requires.before_end.0 c.requires.before_end.1 in
    let few = small.feed.closed in
    let same = ap closed_in c.reserve.ensures.feed in
    omega arith

pub returns-clause-ok : goal.returns-clause-ok
returns-clause-ok c =
    let small = stands-bounded c.args.self.now c.requires.before_end.0 c.requires.before_end.1 in
    let room = c.in_ok-reserve.ensures.ok in
    let left = c.in_ok-close.ensures.room in
    record {
      feed = c.in_ok-close.ensures.ok ∙ ap (with_entry (Close c.args.tick)) c.reserve.ensures.feed;
      entries = omega arith;
      open' = c.reserve-2.ensures.items;
      place = search rules;
      present = refl;
      queue = (c.reserve-4.ensures.tickets, c.reserve-4.ensures.issued);
      tickets = search rules;
      room = subst (λ (n : ℕ). HasRoom c.in_ok-blank.blank n) (c.len-n.ensures ∙ c.args.self.now.present.ok.0) c.in_ok-blank.ensures;
      outbox = refl;
      packets = c.in_ok-room.room;
      rooms = search rules;
      packets_none = (c.in_ok-room.ensures.items, c.in_ok-room.ensures.len);
      packets_room = search rules;
      stays = refl;
    }

pub close-requires-clause-not_ended : goal.close-requires-clause-not_ended
close-requires-clause-not_ended c =
    let before = c.requires.before_end in
    ap (λ (k : KeptFeed). ended k.since) c.reserve.ensures.feed ∙ (ended-is before.1.feed ∙ before.2)
