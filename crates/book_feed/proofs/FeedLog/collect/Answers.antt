use Rattle.std.proofs.Common.{sym, ◌∙◌, arith}
use Rattle.std.proofs.lemmas.Bool.{false≢true}
use Rattle.book_feed.proofs.Feeds.{closed-kept, collected-kept}
use Rattle.book_feed.proofs.FeedLog.collect.Goals as goal

pub overflow_add-self : goal.overflow_add-self
overflow_add-self c =
    let closed = closed-kept c.self.inside c.args.self.now c.self.invariant c.self.view_is in
    let collected = collected-kept c.self.inside c.args.self.now c.self.invariant c.self.view_is in
    let fewer = c.requires.closed in
    omega arith

pub overflow_add-self-then-self : goal.overflow_add-self-then-self
overflow_add-self-then-self c =
    let closed = closed-kept c.self.inside c.args.self.now c.self.invariant c.self.view_is in
    let collected = collected-kept c.self.inside c.args.self.now c.self.invariant c.self.view_is in
    let fewer = c.requires.closed in
    let count = c.self.invariant.collected in
    omega arith

pub invariant_of-self : goal.invariant_of-self
invariant_of-self c =
    let sound = c.self.invariant in
    let closed = closed-kept c.self.inside c.args.self.now sound c.self.view_is in
    let collected = collected-kept c.self.inside c.args.self.now sound c.self.view_is in
    let fewer = c.requires.closed in
    let count = sound.collected in
    record {
      marks_len = sound.marks_len;
      marks_small = sound.marks_small;
      no_end = sound.no_end;
      none_after = λ before. absurd (false≢true (sym before ∙ c.if-self.true));
      closed = sound.closed;
      collected = omega arith;
      in_order = omega arith;
      joined = sound.joined;
    }
