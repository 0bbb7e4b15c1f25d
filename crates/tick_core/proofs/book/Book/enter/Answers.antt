use Rattle.std.proofs.Common.{◌≡◌, length, [], ◌++◌, ◌∷◌, ◌∙◌, refl, ap, arith}
use Rattle.conference_spec.specs.Feed.{ended}
use Rattle.tick_core.proofs.Follows.{ended-is}
use Rattle.book_feed.specs.Logged.{KeptFeed, with_entry, closed_in}
use Rattle.conference_spec.specs.declared.Entry.TheVariants.{Join}
use Rattle.g726_bits.specs.State.{start as start'}
use Rattle.book_lists.specs.Mailing.{first_mail}
use Rattle.tick_core.proofs.Keeping.{join-stands}
use Rattle.tick_core.proofs.book.Book.enter.Goals as goal

pub returns-clause-ok : goal.returns-clause-ok
returns-clause-ok c = λ core s.
    let closed : c.closed.result ≡ closed_in c.args.self.now.log.feed = c.closed.ensures ∙ (ap closed_in c.in_ok-join.ensures.ok ∙ ap closed_in c.reserve.ensures.feed) in
    let mail = c.first_mail.ensures ∙ ap (first_mail start' c.args.spec) closed in
    join-stands c.args.self.now _ core c.args.spec c.start.result c.requires.before_end c.requires.new c.requires.few c.start.ensures.value c.requires.ticks
    (c.in_ok-join.ensures.ok ∙ ap (with_entry (Join c.args.spec)) c.reserve.ensures.feed)
    (c.push_reserved.ensures.items ∙ (λ i. c.reserve-3.ensures.items i ++ mail i ∷ []))
    (let e = c.push_reserved-2.ensures.items in let d = c.reserve-2.ensures.items in cc)
    (let n = c.in_ok-reserve.ensures.ok in let r = c.in_ok-join.ensures.room in omega arith)
    (let m = ap length c.reserve-3.ensures.items in
    let n = c.len-3.ensures in
    let r = c.in_ok-reserve-4.ensures.ok in
    let t = c.reserve-3.new.self.ok.0 in
    omega arith)
    (record { open' = refl; rooms = refl; tickets = refl; issued = refl; room = omega arith; stays = c.reserve-4.ensures.items; spare = c.reserve-4.ensures.capacity }) s

pub join-requires-clause-not_ended : goal.join-requires-clause-not_ended
join-requires-clause-not_ended c =
    let before = c.requires.before_end in
    ap (λ (k : KeptFeed). ended k.since) c.reserve.ensures.feed ∙ (ended-is before.1.feed ∙ before.2)
