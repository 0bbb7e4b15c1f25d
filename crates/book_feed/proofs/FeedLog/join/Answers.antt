use Rattle.std.proofs.Common.{◌+◌, [], ◌∷◌, ◌++◌, ◌≡◌, ◌∙◌, List, ℕ, ap, sym, subst, rules}
use Rattle.std.specs.HashSet.{keys}
use Rattle.conference_spec.specs.Feed as feed
use Rattle.book_feed.specs.declared.Mark.TheVariants as mark
use Rattle.book_feed.specs.Inside.{AreJoined, told, feed_of, early_members}
use Rattle.book_feed.proofs.Feeds.{told-push, push-feed, joined-push, early-push}
use Rattle.book_feed.proofs.FeedLog.join.Goals as goal

pub invariant_of-self : goal.invariant_of-self
invariant_of-self c =
    let sound = c.self.invariant in
    record {
      marks_len = sound.marks_len;
      marks_small = sound.marks_small;
      no_end = sound.no_end;
      none_after = sound.none_after;
      closed = sound.closed;
      collected = sound.collected;
      in_order = sound.in_order;
      joined = subst (λ (ns : List ℕ). AreJoined (told c.self.inside.marks.items) c.self.inside.base.joins (keys c.self.inside.members) ns)
          (sym c.reserve.ensures.items) sound.joined;
    }

pub invariant_of-self-in_err-insert : goal.invariant_of-self-in_err-insert
invariant_of-self-in_err-insert c =
    let sound = c.self.invariant in
    record {
      marks_len = sound.marks_len;
      marks_small = sound.marks_small;
      no_end = sound.no_end;
      none_after = sound.none_after;
      closed = sound.closed;
      collected = sound.collected;
      in_order = sound.in_order;
      joined = subst (λ (ns : List ℕ). AreJoined (told c.self.inside.marks.items) c.self.inside.base.joins (keys c.insert.new.self) ns)
          (sym c.reserve.ensures.items)
          (subst (λ (ks : List ℕ). AreJoined (told c.self.inside.marks.items) c.self.inside.base.joins ks c.self.inside.joined.items)
          (sym c.in_err-insert.ensures.err) sound.joined);
    }

pub invariant_of-self-2 : goal.invariant_of-self-2
invariant_of-self-2 c =
    let sound = c.self.invariant in
    let put = c.put_mark.ensures.items in
    let one : c.put_number.new.numbers.items ≡ c.self.inside.joined.items ++ c.args.spec.member ∷ [] =
    c.put_number.ensures.items ∙ ap (λ (ms : List ℕ). ms ++ c.args.spec.member ∷ []) c.reserve.ensures.items in
    let new = ap told put ∙ told-push c.self.inside.marks.items (mark.Join c.args.spec) in
    record {
      marks_len = search rules;
      marks_small = search rules;
      no_end = ap feed.ended new ∙ sound.no_end;
      none_after = sound.none_after;
      closed = sound.closed ∙ ap (λ (h : feed.Feed). c.self.inside.base.closed + feed.closes h) (sym new);
      collected = sound.collected ∙ ap (λ (h : feed.Feed). c.self.inside.base.closed + feed.collects h + c.self.inside.after_end) (sym new);
      in_order = sound.in_order;
      joined = joined-push c.self.inside.marks.items c.put_mark.new.marks.items c.args.spec c.self.inside.base.joins
          (keys c.self.inside.members) (keys c.insert.new.self) c.self.inside.joined.items c.put_number.new.numbers.items
          c.put_number.ensures.small sound.joined put one (λ q. c.in_ok-insert.ensures.updates.0 q);
    }

pub returns-clause-ok : goal.returns-clause-ok
returns-clause-ok c =
    let inside = c.self.inside in
    let one : c.put_number.new.numbers.items ≡ inside.joined.items ++ c.args.spec.member ∷ [] =
    c.put_number.ensures.items ∙ ap (λ (ms : List ℕ). ms ++ c.args.spec.member ∷ []) c.reserve.ensures.items in
    let early = ap (early_members inside.base.joins) one ∙ early-push inside.base.joins inside.joined.items c.args.spec.member c.self.invariant.joined.early in
    let more = push-feed inside c.args.self.now c.put_mark.new.marks.items (mark.Join c.args.spec) c.self.invariant c.self.view_is
    c.requires.not_ended c.put_mark.ensures.items in
    (λ i. record {
      entries = inside.base.entries;
      closed = inside.base.closed;
      runs = inside.base.runs;
      members = early i;
      since = feed_of c.put_mark.new.marks.items inside.ended inside.after_end;
    })
    ∙ more
