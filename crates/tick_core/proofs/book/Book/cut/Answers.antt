use Rattle.std.proofs.Common.{◌≡◌, ℕ, ◌++◌, refl, ap, sym, ◌∙◌, arith}
use Rattle.conference_spec.specs.declared.Entry.TheVariants.{Cut}
use Rattle.conference_spec.specs.Codec.{g726}
use Rattle.book_feed.specs.Logged.{closed_in, cut_off}
use Rattle.book_lists.specs.Mailing.{stays_kept}
use Rattle.tick_core.specs.declared.book.Book.{Book}
use Rattle.tick_core.proofs.Bounds.{log-modest}
use Rattle.tick_core.proofs.Follows.{may-cut}
use Rattle.tick_core.proofs.Keeping.{cut-stands}
use Rattle.tick_core.proofs.Twins.{takes-all, can-cut-on, closed-all, collected-all, ended-all}
use Rattle.tick_core.proofs.book.Book.cut.Goals as goal

pub cut-requires-clause-not_ended : goal.cut-requires-clause-not_ended
cut-requires-clause-not_ended c =
    let k = c.requires.may_cut in
    ended-all c.args.self.now k.0 k.1 ∙ (may-cut g726 k.0.feed k.2).open'

pub cut-requires-clause-collected : goal.cut-requires-clause-collected
cut-requires-clause-collected c =
    let k = c.requires.may_cut in
    collected-all c.args.self.now k.0 k.1 ∙ ((may-cut g726 k.0.feed k.2).collected ∙ sym (closed-all c.args.self.now k.0 k.1))

pub cut-requires-clause-modest : goal.cut-requires-clause-modest
cut-requires-clause-modest c = let k = c.requires.may_cut in log-modest c.args.self.now k.1.on k.1.is

pub returns : goal.returns
returns c =
    let b = c.args.self.now in
    let b' : Book = record b { log = c.cut.new.self; stays = c.keep_stays.new.stays } in
    let feed : c.cut.new.self.feed ≡ cut_off b.queue.issued b.log.feed = c.cut.ensures.feed ∙ ap (λ (n : ℕ). cut_off n b.log.feed) c.issued.ensures in
    let stays : c.keep_stays.new.stays.items ≡ stays_kept (closed_in b.log.feed) b.outbox.items =
    c.keep_stays.ensures.items ∙ (λ i. c.clear.ensures.items i ++ stays_kept (c.closed.ensures i) (c.deref.ensures.value i)) in
    let spare = c.keep_stays.ensures.capacity in
    let old = c.clear.ensures.capacity in
    record {
      cut = takes-all b b' Cut (λ core st.
          let may = can-cut-on b c.requires.may_cut core st in
          (may, cut-stands b b' core may feed stays (omega arith) c.cut.ensures.room refl refl refl refl refl st));
    }
