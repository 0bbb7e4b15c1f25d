use Rattle.std.proofs.Common.{◌≡◌, ◌≤◌, ℕ, true, length-append, List, ◌∷◌, [], length, refl, sym, ap, ◌∙◌, subst, arith, rules}
use Rattle.std.specs.Prelude.{vec_capacity}
use Rattle.std.specs.Global.{Vec}
use Rattle.std.specs.List.{filter, AllByRecursion}
use Rattle.std.proofs.lemmas.Bool.{false≢true}
use Rattle.std.proofs.lemmas.Fn.{filter_same}
use Rattle.std.proofs.lemmas.List.{with_items_is}
use Rattle.conference_spec.specs.declared.Packet.{Packet}
use Rattle.book_lists.specs.declared.seats.Rest.{Rest}
use Rattle.book_lists.specs.declared.mails.Mail.{Mail}
use Rattle.book_lists.specs.Levels.{Level, all_finished}
use Rattle.book_lists.specs.Mailing.{leaves_after, still_open}
use Rattle.tick_core.specs.Opened.{SettledAfter}
use Rattle.tick_core.specs.Posting.{IsReady, Posts, Walks, early}
use Rattle.tick_core.proofs.Follows.{closed-is, collected-is}
use Rattle.tick_core.proofs.Bounds.{stands-bounded}
use Rattle.tick_core.proofs.Postings.{posts-ready, posts-room}
use Rattle.tick_core.proofs.Handing.{IsOver, is-over, collect-stands, settled-length, walks-length, same-last}
use Rattle.tick_core.proofs.book.Book.hand_out.Goals as goal

pub unreachable-requires-in_default-pop : goal.unreachable-requires-in_default-pop
unreachable-requires-in_default-pop c =
    let b = c.args.self.now in
    let st = c.requires.known.1 in
    let small = stands-bounded b c.requires.known.0 st in
    let some = ap length c.in-Some.ensures.items ∙ length-append c.pop.new.self.items (c.in-Some.oldest ∷ []) in
    let le = small.open' in
    let many = st.posts.as_many in
    let e = closed-is st.feed in
    let f = collected-is st.feed in
    let len = b.rooms.ok.0 in
    absurd (false≢true (c.in_default-pop.ensures.variant.1 (omega arith)))

pub collect-requires-clause-closed : goal.collect-requires-clause-closed
collect-requires-clause-closed c =
    let b = c.args.self.now in
    let small = stands-bounded b c.requires.known.0 c.requires.known.1 in
    let some = ap length c.in-Some.ensures.items ∙ length-append c.pop.new.self.items (c.in-Some.oldest ∷ []) in
    let le = small.open' in
    omega arith

pub into_packets-packets-requires-clause-ready : goal.into_packets-packets-requires-clause-ready
into_packets-packets-requires-clause-ready c =
    let b = c.args.self.now in
    let core = c.requires.known.0 in
    let st = c.requires.known.1 in
    let small = (stands-bounded b core st).feed in
    let closed = small.closed in
    let collected = small.collected in
    let f = collected-is st.feed in
    subst (λ (ms : List Mail). AllByRecursion IsReady ms) (sym c.deref_mut-2.ensures.value) (posts-ready b.rooms.items b.outbox.items core.feed (omega arith) st.posts)

pub into_packets-packets-requires-clause-served : goal.into_packets-packets-requires-clause-served
into_packets-packets-requires-clause-served c =
    let b = c.args.self.now in
    let o = c.requires.over in
    let e = same-last o.front c.pop.new.self.items o.oldest c.in-Some.oldest (sym o.are ∙ c.in-Some.ensures.items) in
    (is-over b c.requires.known.0 c.pop.new.self.items c.in-Some.oldest b.present.items c.requires.known.1 c.in-Some.ensures.items (subst (λ (v : Level). all_finished v.rows ≡ true) e o.over)).served

pub into_packets-packets-requires-clause-empty : goal.into_packets-packets-requires-clause-empty
into_packets-packets-requires-clause-empty c =
    let b = c.args.self.now in
    let core = c.requires.known.0 in
    let st = c.requires.known.1 in
    let room = c.in-Some-pop.room in
    let posts = subst (λ (rs : List (Vec Packet)). Posts rs b.outbox.items core.feed) c.in-Some-pop.ensures.items st.posts in
    let is = posts-room c.pop-2.new.self.items room b.outbox.items core.feed posts in
    (is.none, is.none_len)

pub into_packets-packets-requires-clause-room : goal.into_packets-packets-requires-clause-room
into_packets-packets-requires-clause-room c =
    let b = c.args.self.now in
    let core = c.requires.known.0 in
    let st = c.requires.known.1 in
    let o = c.requires.over in
    let v = c.in-Some.oldest in
    let room = c.in-Some-pop.room in
    let e = same-last o.front c.pop.new.self.items o.oldest v (sym o.are ∙ c.in-Some.ensures.items) in
    let over : IsOver core b.present.items v = is-over b core c.pop.new.self.items v b.present.items st c.in-Some.ensures.items (subst (λ (v : Level). all_finished v.rows ≡ true) e o.over) in
    let posts = subst (λ (rs : List (Vec Packet)). Posts rs b.outbox.items core.feed) c.in-Some-pop.ensures.items st.posts in
    let is = posts-room c.pop-2.new.self.items room b.outbox.items core.feed posts in
    subst (λ (ms : List Mail). early v.number ms ≤ vec_capacity room) (sym c.deref_mut-2.ensures.value)
    (subst (λ (k : ℕ). early k b.outbox.items ≤ vec_capacity room) (sym over.number) is.room)

pub returns : goal.returns
returns c = λ core st.
    let b = c.args.self.now in
    let o = c.requires.over in
    let front = c.pop.new.self.items in
    let v = c.in-Some.oldest in
    let packets = c.into_packets-packets.result in
    let mails = c.into_packets-packets.new.outbox in
    let e = same-last o.front front o.oldest v (sym o.are ∙ c.in-Some.ensures.items) in
    let over = subst (λ (v : Level). all_finished v.rows ≡ true) e o.over in
    let after : SettledAfter front v b.present.items c.settle_after.new.present =
    subst (λ (rs : List Rest). SettledAfter front v rs c.settle_after.new.present) c.deref_mut.ensures.value
    (subst (λ (vs : List Level). SettledAfter vs v c.deref_mut.result.now c.settle_after.new.present) c.deref.ensures.value c.settle_after.ensures) in
    let long = settled-length front v b.present.items c.settle_after.new.present after ∙ sym b.present.ok.0 in
    let items = with_items_is b.present c.settle_after.new.present long in
    let walks : Walks v.number v.rows v.seats b.outbox.items [] mails packets.packets =
    subst (λ (ms : List Mail). Walks v.number v.rows v.seats ms [] mails packets.packets) c.deref_mut-2.ensures.value c.into_packets-packets.ensures.walks in
    let served = (is-over b core front v b.present.items st c.in-Some.ensures.items over).served in
    let long' = walks-length v.number v.rows v.seats b.outbox.items mails [] packets.packets served walks ∙ sym b.outbox.ok.0 in
    let mails_are = with_items_is b.outbox mails long' in
    let tick : c.tick-tick.result ≡ v.number = c.tick-tick.ensures ∙ c.into_packets-packets.ensures.tick in
    let left : c.retain.new.self.items ≡ still_open v.number mails =
    filter_same _ (λ (m : Mail). leaves_after c.tick-tick.result m.left) _ (λ x b f' k. search rules) _ _ c.retain.ensures.filtered
    ∙ (λ i. filter (λ (m : Mail). leaves_after (tick i) m.left) (mails_are i)) in
    collect-stands b _ core front v c.pop-2.new.self.items c.in-Some-pop.room packets mails st c.in-Some.ensures.items c.in-Some-pop.ensures.items over refl refl
    (subst (λ (rs : List Rest). SettledAfter front v b.present.items rs) (sym items) after)
    c.collect.ensures.feed c.collect.ensures.room refl refl c.into_packets-packets.ensures.tick walks left
