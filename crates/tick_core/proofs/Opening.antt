-- What a close leaves.
use Rattle.std.proofs.Common.{suc, ◌≡◌, ℕ, ◌+◌, ◌<◌, true, false, not, ◌&&◌, List, [], ◌∷◌, ◌++◌, length, refl, sym, ◌∙◌, ap, subst, arith}
use Rattle.std.specs.Prelude.{vec_capacity, nat_lt}
use Rattle.std.specs.List.{AllZip}
use Rattle.std.proofs.lemmas.Bool.{and_from, lt-ltb, not_from_false}
use Rattle.talk_mix.specs.declared.ticks.Tick.{Tick}
use Rattle.conference_spec.specs.declared.Entry.TheVariants.{Close}
use Rattle.conference_spec.specs.Codec.{g726}
use Rattle.conference_spec.specs.Feed.{closes, collects, kept, ended}
use Rattle.conference_spec.specs.Machine.{Core, Enters, next, accepts, entered}
use Rattle.conference_spec.proofs.Equal.{g726-tells}
use Rattle.book_lists.specs.declared.seats.Rest.{Rest}
use Rattle.book_lists.specs.Levels.{Level, BecomesSeat, tickets, rests_after, placed_rests}
use Rattle.book_lists.proofs.Closing.{close-carries}
use Rattle.tick_core.specs.declared.book.Book.{Book}
use Rattle.tick_core.specs.declared.seating.Blank.{Blank}
use Rattle.tick_core.specs.Standing.{StandsOn}
use Rattle.tick_core.specs.Steps.{IsReady, OpensTick}
use Rattle.tick_core.specs.Sweeping.{AllFit, all_seats}
use Rattle.book_feed.specs.Logged.{closed_in}
use Rattle.tick_core.proofs.Follows.{closed-is, follows-entry}
use Rattle.tick_core.proofs.Keeping.{entered-stands}
use Rattle.tick_core.proofs.Postings.{posts-same, posts-close}
use Rattle.tick_core.proofs.Seats.{length-zip}
use Rattle.tick_core.proofs.Staging.{moved-carries}

length-after : (j : ℕ) (rests : List Rest) → length (rests_after j rests) ≡ length rests
length-after j [] = refl
length-after j (r ∷ rests) = ap suc (length-after (j + 1) rests)

-- a tick can be closed
pub may-close : (c : Core) (tick : Tick) → closes c.feed < 4320000 → kept c.feed < 18000 → closes c.feed < collects c.feed + 64
    → ended c.feed ≡ false → accepts g726 c (Close tick) ≡ true
may-close c tick a k b e =
    and_from (nat_lt (closes c.feed) 4320000) (nat_lt (kept c.feed) 18000 && (nat_lt (closes c.feed) (collects c.feed + 64) && not (ended c.feed)))
    (lt-ltb (closes c.feed) 4320000 a)
    (and_from (nat_lt (kept c.feed) 18000) (nat_lt (closes c.feed) (collects c.feed + 64) && not (ended c.feed)) (lt-ltb (kept c.feed) 18000 k)
    (and_from (nat_lt (closes c.feed) (collects c.feed + 64)) (not (ended c.feed)) (lt-ltb (closes c.feed) (collects c.feed + 64) b) (not_from_false (ended c.feed) e)))

pub close-stands : (b b1 b' : Book) (c : Core) (tick : Tick) (blank : Blank) → StandsOn b c → accepts g726 c (Close tick) ≡ true
    → IsReady b tick b1 blank → OpensTick (closed_in b.log.feed) tick b1 b' → b'.log ≡ b1.log
    → StandsOn b' (next g726 c (Enters (Close tick)))
close-stands b b1 b' c tick blank st may ready o log =
    let vs = b.open_ticks.items in
    let rests = b.present.items in
    let cl = o.closes' in
    let closed = cl.closed in
    let rows = o.level.rows in
    let k : closed_in b.log.feed ≡ closes c.feed = closed-is st.feed in
    let v : Level = record { number = closes c.feed; talkers = tick; seats = o.level.seats; rows = rows } in
    let same : o.level ≡ v = (λ i. record { number = (cl.number ∙ k) i; talkers = cl.talkers i; seats = o.level.seats; rows = rows }) in
    let placing : record { rows = rows; issued = b'.queue.issued } ≡ _ = closed.placing ∙ (λ i. placed_rests g726 tick (ready.open' i) (ready.present i) (record { rows = []; issued = ready.queue.1 i })) in
    let become : AllZip (BecomesSeat g726 tick vs rows) rests o.level.seats =
    subst (λ (rs : List Rest). AllZip (BecomesSeat g726 tick vs rows) rs o.level.seats) ready.present
    (subst (λ (us : List Level). AllZip (BecomesSeat g726 tick us rows) b1.present.items o.level.seats) ready.open' closed.become) in
    let done = close-carries g726 g726-tells c vs rests b.queue.tickets b.queue.issued tick o.level.seats rows b'.queue.issued st.kept st.carries placing become in
    let more = ap length closed.numbers.grown in
    let waiting : b'.queue.tickets ≡ b.queue.tickets ++ tickets (closes c.feed) 0 b.queue.issued (length rows) =
    closed.numbers.waiting ∙ (λ i. ready.queue.0 i ++ tickets (k i) 0 (ready.queue.1 i) (sym more i)) in
    let items : b'.open_ticks.items ≡ v ∷ vs = o.open' ∙ (λ i. same i ∷ ready.open' i) in
    let present : b'.present.items ≡ rests_after 0 rests = o.present ∙ ap (rests_after 0) ready.present in
    let carries = moved-carries (v ∷ vs) b'.open_ticks.items (rests_after 0 rests) b'.present.items (b.queue.tickets ++ tickets (closes c.feed) 0 b.queue.issued (length rows)) b'.queue.tickets
    b'.queue.issued b'.queue.issued (entered g726 c (Close tick)) (sym items) (sym present) (sym waiting) refl done in
    let seats = length-zip (BecomesSeat g726 tick vs rows) rests o.level.seats become in
    let s = ap all_seats items in
    let r = closed.numbers.room in
    let t = ready.tickets in
    let l = ap length items in
    let p = ap length present ∙ length-after 0 rests in
    let e = ready.entries in
    let g = ap (λ q. q.room) log in
    let posts = posts-same (ready.packets ∷ b.rooms.items) b'.rooms.items b.outbox.items b'.outbox.items (Close tick ∷ c.feed) (Close tick ∷ c.feed)
    (sym (ap (λ q. q.items) o.rooms ∙ ready.rooms)) (ap (λ q. q.items) (sym (o.outbox ∙ ready.outbox))) refl
    (posts-close b.rooms.items b.outbox.items c.feed tick ready.packets ready.packets_none.0 ready.packets_none.1 ready.packets_room st.posts) in
    let stays = o.stays ∙ ready.stays in
    let feed = follows-entry (Close tick) b.log.feed b'.log.feed b.stays.items b'.stays.items c.feed refl refl (ap (λ q. q.feed) log ∙ ready.feed)
    (ap (λ q. q.items) stays) st.feed in
    let m = ap (λ q. length q.items) (o.outbox ∙ ready.outbox) in
    let space = ap (λ q. vec_capacity q) stays in
    let old = st.roomy.stays in
    entered-stands b' c (Close tick) may st.kept feed carries posts
    (record { fit = subst AllFit (sym items) (closed.fits, st.roomy.fit); tickets = omega arith; entries = omega arith; stays = omega arith })
