use Rattle.std.proofs.Common.{◌≡◌, ◌+◌, false, List, length, arith, ap, sym, ◌∙◌, subst}
use Rattle.std.specs.HashSet.{keys}
use Rattle.conference_spec.specs.Feed.{closes, collects, ended}
use Rattle.book_feed.specs.declared.Mark.{Mark}
use Rattle.book_feed.specs.Inside.{AreJoined, told, feed_of}
use Rattle.book_feed.proofs.Feeds.{closed-kept, collected-kept, ended-kept, joined-kept, joined-cut, few-entries}
use Rattle.book_feed.proofs.FeedLog.cut.Goals as goal

pub overflow_add-self : goal.overflow_add-self
overflow_add-self c =
    let few = few-entries c.self.inside c.args.self.now c.self.invariant c.self.view_is c.requires.modest in
    let n = c.len.ensures c.requires.modest in
    omega arith

pub invariant_of-self : goal.invariant_of-self
invariant_of-self c =
    let inside = c.self.inside in
    let sound = c.self.invariant in
    let none = c.clear.ensures.items in
    let len = ap length none in
    let closed = ap (λ (ms : List Mark). closes (told ms)) none in
    let collected = ap (λ (ms : List Mark). collects (told ms)) none in
    let all = closed-kept inside c.args.self.now sound c.self.view_is in
    let out = collected-kept inside c.args.self.now sound c.self.view_is in
    let same = c.requires.collected in
    let after = sound.none_after (ended-kept inside c.args.self.now sound c.self.view_is ∙ c.requires.not_ended) in
    let long = c.clear.ensures.len in
    record {
      marks_len = omega arith;
      marks_small = omega arith;
      no_end = ap (λ (ms : List Mark). ended (told ms)) none;
      none_after = sound.none_after;
      closed = omega arith;
      collected = omega arith;
      in_order = sound.in_order;
      joined = subst (λ (ms : List Mark). AreJoined (told ms) c.len-2.result (keys inside.members) inside.joined.items) (sym none)
          (joined-cut (told inside.marks.items) inside.base.joins c.len-2.result (keys inside.members) inside.joined.items sound.joined
          (c.len-2.ensures ∙ inside.joined.ok.0)).0;
    }

pub returns-clause-feed : goal.returns-clause-feed
returns-clause-feed c =
    let inside = c.self.inside in
    let sound = c.self.invariant in
    let members = (joined-cut (told inside.marks.items) inside.base.joins c.len-2.result (keys inside.members) inside.joined.items sound.joined
    (c.len-2.ensures ∙ inside.joined.ok.0)).1 ∙ joined-kept inside c.args.self.now sound c.self.view_is in
    let closed = closed-kept inside c.args.self.now sound c.self.view_is in
    let open' : inside.ended ≡ false = ended-kept inside c.args.self.now sound c.self.view_is ∙ c.requires.not_ended in
    let after = sound.none_after open' in
    λ i. record {
      entries = c.len.ensures c.requires.modest i + 1;
      closed = closed i;
      runs = c.args.runs;
      members = members i;
      since = feed_of (c.clear.ensures.items i) (open' i) (after i);
    }
