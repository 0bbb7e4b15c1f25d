-- A run's stage changes in a Book's lists.
use Rattle.std.proofs.Common.{zero, suc, ◌≡◌, ◌≢◌, ℕ, ◌+◌, ◌-◌, ◌≤◌, Bool, true, List, [], ◌∷◌, ◌++◌, length, take, drop, set, get_or, length-set, length-append, append_assoc, refl, sym, ◌∙◌, ap, subst, arith}
use Rattle.std.specs.Prelude.{vec_capacity, slice_get, Some, None, IfSome, if◌then◌else◌}
use Rattle.std.specs.Global.{Vec}
use Rattle.std.proofs.lemmas.List.{take-append-drop}
use Rattle.conference_spec.specs.declared.Stage.{Stage}
use Rattle.conference_spec.specs.declared.Stage.TheVariants.{Waiting, Out, Finished}
use Rattle.conference_spec.specs.declared.Task.{Task}
use Rattle.conference_spec.specs.Codec.{g726}
use Rattle.conference_spec.specs.Feed.{ended}
use Rattle.conference_spec.specs.Machine.{Core, Run, Publish, GiveBack, next, claimed, with_stage, with_reached, next_waiting, holds_out, is_out}
use Rattle.conference_spec.specs.Machine.{Claim as claims}
use Rattle.conference_spec.proofs.Equal.{g726-tells}
use Rattle.conference_spec.proofs.Stages.{unique}
use Rattle.conference_spec.proofs.Steps.{Kept}
use Rattle.conference_spec.proofs.Events.{next-kept}
use Rattle.triple_table.specs.Rows.{Row, staged}
use Rattle.book_lists.specs.declared.seats.Ticket.{Ticket}
use Rattle.book_lists.specs.declared.seats.Rest.{Rest}
use Rattle.book_lists.specs.Levels.{Level, Carries, IsQueue, with_rows, run_of, tickets, new_tickets}
use Rattle.book_lists.proofs.Carrying.{split-at}
use Rattle.book_lists.proofs.Closing.{same-new}
use Rattle.book_lists.proofs.Queues.{ticket-run}
use Rattle.conference_spec.proofs.Members.{In}
use Rattle.book_lists.proofs.Publishing.{publish-carries}
use Rattle.book_lists.proofs.Claiming.{next-ticket, claim-carries, none-waits, back-carries}
use Rattle.tick_core.specs.declared.book.Book.{Book}
use Rattle.tick_core.specs.Held.{Held}
use Rattle.tick_core.specs.Opened.{unknown}
use Rattle.tick_core.specs.Sweeping.{AllFit, Swept, SweptFrom, all_seats, all_unknown}
use Rattle.book_feed.specs.Logged.{closed_in}
use Rattle.tick_core.specs.Standing.{Follows, StandsOn, IsRoomy}
use Rattle.tick_core.specs.Steps.{ClaimsOn}
use Rattle.tick_core.proofs.Follows.{ended-is, follows-same}
use Rattle.tick_core.specs.Queued.{Queued, PutBack}
use Rattle.tick_core.specs.Posting.{Posts}
use Rattle.tick_core.proofs.Postings.{posts-same}
use Rattle.tick_core.specs.Steps.{TakesRunOut, IsOutThere}
use Rattle.tick_core.proofs.Places.{row-out, same-level, at-row, held-run}

-- another stage of a row changes no count
pub fit-staged : (front rest : List Level) (v : Level) (at : ℕ) (r : Row) → AllFit (front ++ v ∷ rest) → AllFit (front ++ with_rows v (set v.rows at r) ∷ rest)
fit-staged [] rest v at r fit = (let e = length-set v.rows at r in let f = fit.0 in omega arith, fit.1)
fit-staged (w ∷ front) rest v at r fit = (fit.0, fit-staged front rest v at r fit.1)

pub seats-staged : (front rest : List Level) (v : Level) (at : ℕ) (r : Row)
    → all_seats (front ++ with_rows v (set v.rows at r) ∷ rest) ≡ all_seats (front ++ v ∷ rest)
seats-staged [] rest v at r = refl
seats-staged (w ∷ front) rest v at r = ap (λ n. length w.seats + n) (seats-staged front rest v at r)

pub length-staged : (front rest : List Level) (v : Level) (at : ℕ) (r : Row)
    → length (front ++ with_rows v (set v.rows at r) ∷ rest) ≡ length (front ++ v ∷ rest)
length-staged [] rest v at r = refl
length-staged (w ∷ front) rest v at r = ap suc (length-staged front rest v at r)

-- a book whose run at a place is at another stage has room as before
pub roomy-staged : (b b' : Book) (front rest : List Level) (v : Level) (at : ℕ) (r : Row) → IsRoomy b → b.open_ticks.items ≡ front ++ v ∷ rest
    → b'.open_ticks.items ≡ front ++ with_rows v (set v.rows at r) ∷ rest → b'.present.items ≡ b.present.items → b'.log ≡ b.log
    → b'.outbox.items ≡ b.outbox.items → vec_capacity b'.stays ≡ vec_capacity b.stays → b.queue.room ≤ b'.queue.room → IsRoomy b'
roomy-staged b b' front rest v at r roomy was is present log outbox spare room = record {
  fit = subst AllFit (sym is) (fit-staged front rest v at r (subst AllFit was roomy.fit));
  tickets = (let e = ap all_seats is ∙ (seats-staged front rest v at r ∙ sym (ap all_seats was)) in let t = roomy.tickets in omega arith);
  entries =
      (let e = ap length is ∙ (length-staged front rest v at r ∙ sym (ap length was)) in
      let p = ap length present in
      let l = ap (λ q. q.room) log in
      let t = roomy.entries in
      omega arith);
  stays = (let m = ap length outbox in let t = roomy.stays in omega arith);
}

-- the same, where each list is the same
pub moved-carries : (vs vs' : List Level) (rests rests' : List Rest) (queue queue' : List Ticket) (n n' : ℕ) (c : Core) → vs ≡ vs' → rests ≡ rests'
    → queue ≡ queue' → n ≡ n'
    → Carries g726 vs rests queue n c → Carries g726 vs' rests' queue' n' c
moved-carries vs vs' rests rests' queue queue' n n' c a b d e car =
    subst (λ (m : ℕ). Carries g726 vs' rests' queue' m c) e
    (subst (λ (ts : List Ticket). Carries g726 vs' rests' ts n c) d
    (subst (λ (rs : List Rest). Carries g726 vs' rs queue n c) b
    (subst (λ (us : List Level). Carries g726 us rests queue n c) a car)))

-- a claim takes the first ticket
pub claim-stands : (b b1 b' : Book) (c : Core) (t : Ticket) (j : Held) → StandsOn b c → b1.log ≡ b.log → b1.open_ticks ≡ b.open_ticks
    → b1.present ≡ b.present → b1.rooms ≡ b.rooms → b1.outbox ≡ b.outbox
    → b.queue.tickets ≡ t ∷ b1.queue.tickets → b1.queue.issued ≡ b.queue.issued → b1.queue.room ≡ b.queue.room → b1.stays ≡ b.stays
    → TakesRunOut b1 t b' j → ClaimsOn j b' c
claim-stands b b1 b' c t j st log open_is present rooms outbox tickets issued room stays tk =
    let items = b1.open_ticks.items in
    let i = closed_in b1.log.feed - 1 - t.tick in
    let s = split-at items i tk.level tk.there in
    let was : b.open_ticks.items ≡ s.front ++ tk.level ∷ s.rest = ap (λ o. o.items) (sym open_is) ∙ s.whole in
    let ht = tk.ticket in
    let new = staged ht.row Out in
    let is : b'.open_ticks.items ≡ s.front ++ with_rows tk.level (set tk.level.rows t.at new) ∷ s.rest = tk.open' ∙ s.changed (with_rows tk.level (set tk.level.rows t.at new)) in
    let car0 : Carries g726 (s.front ++ tk.level ∷ s.rest) b.present.items b.queue.tickets b.queue.issued c =
    subst (λ (vs : List Level). Carries g726 vs b.present.items b.queue.tickets b.queue.issued c) was st.carries in
    let car : Carries g726 (s.front ++ tk.level ∷ s.rest) b.present.items (t ∷ b1.queue.tickets) b.queue.issued c =
    subst (λ (ts : List Ticket). Carries g726 (s.front ++ tk.level ∷ s.rest) b.present.items ts b.queue.issued c) tickets car0 in
    let run = run_of tk.level.number ht.row in
    let nw : next_waiting c.runs ≡ Some run = (next-ticket g726 c s.front s.rest tk.level t b1.queue.tickets ht st.kept car.runs car.queue).1 in
    let done = claim-carries g726 c s.front s.rest tk.level b.present.items t b1.queue.tickets b.queue.issued ht st.kept car in
    let c' = with_stage c ht.row.number Out in
    let e : next g726 c claims ≡ c' = ap (claimed c) nw in
    let q' = tk.queue in
    let carries : Carries g726 b'.open_ticks.items b'.present.items b'.queue.tickets b'.queue.issued c' =
    moved-carries (s.front ++ with_rows tk.level (set tk.level.rows t.at new) ∷ s.rest) b'.open_ticks.items b.present.items b'.present.items b1.queue.tickets b'.queue.tickets b.queue.issued b'.queue.issued c'
    (sym is) (sym (ap (λ p. p.items) (tk.present ∙ present))) (sym (ap (λ q. q.tickets) q')) (sym (ap (λ q. q.issued) q' ∙ issued)) done in
    let kept = next-kept g726 g726-tells c claims st.kept in
    let stands : StandsOn b' c' = record {
      feed = follows-same b.log.feed b'.log.feed b.stays.items b'.stays.items c.feed (ap (λ l. l.feed) (tk.log ∙ log))
          (ap (λ q. q.items) (tk.stays ∙ stays)) st.feed;
      carries = carries;
      posts = posts-same b.rooms.items b'.rooms.items b.outbox.items b'.outbox.items c.feed c'.feed
          (ap (λ p. p.items) (sym (tk.rooms ∙ rooms))) (ap (λ p. p.items) (sym (tk.outbox ∙ outbox))) refl st.posts;
      kept = subst (Kept g726) e kept;
      roomy = roomy-staged b b' s.front s.rest tk.level t.at new st.roomy was is (ap (λ p. p.items) (tk.present ∙ present)) (tk.log ∙ log)
          (ap (λ p. p.items) (tk.outbox ∙ outbox)) (ap (λ q. vec_capacity q) (tk.stays ∙ stays))
          (let r = ap (λ q. q.room) q' in omega arith);
    } in
    (run, nw, tk.job ∙ (λ k. record { number = sym ht.number k; task = record { tick = sym ht.tick k; triple = ht.row.triple } }), subst (StandsOn b') (sym e) stands)

-- where no run waits, a claim changes nothing
pub idle-stands : (b : Book) (q : Queued) (c : Core) → StandsOn b c → b.queue.tickets ≡ [] → b.queue.tickets ≡ q.tickets → q.issued ≡ b.queue.issued
    → q.room ≡ b.queue.room → (e : Bool) → ended b.log.feed.since ≡ e
    → (next_waiting c.runs ≡ None) × (ended c.feed ≡ e) × StandsOn (record { alloc = b.alloc; log = b.log; stays = b.stays; open_ticks = b.open_ticks; rooms = b.rooms; present = b.present; outbox = b.outbox; queue = q }) c
idle-stands b q c st empty same issued room e end =
    let p : b.queue ≡ q = (λ i. record { issued = sym issued i; tickets = same i; room = sym room i }) in (
      none-waits b.open_ticks.items c.runs (subst (λ (ts : List Ticket). IsQueue ts b.open_ticks.items c.runs) empty st.carries.queue),
      sym (ended-is st.feed) ∙ end,
      subst (λ (q : Queued). StandsOn (record { alloc = b.alloc; log = b.log; stays = b.stays; open_ticks = b.open_ticks; rooms = b.rooms; present = b.present; outbox = b.outbox; queue = q }) c) p st,
    )

-- a place splits a list, and tells how many items stand before it
pub record SplitPlace {X : Type 0} (xs : List X) (i : ℕ) (x : X) : Type 0 where
  pub front : List X
  pub rest : List X
  pub whole : xs ≡ front ++ x ∷ rest
  pub changed : (y : X) → set xs i y ≡ front ++ y ∷ rest
  pub place : length front ≡ i

pub split-place : {X : Type 0} (xs : List X) (i : ℕ) (x : X) → slice_get xs i ≡ Some x → SplitPlace xs i x
split-place [] i x e = cc
split-place {X} (y ∷ xs) i x e =
    let at : (i : ℕ) → slice_get (y ∷ xs) i ≡ Some x → SplitPlace (y ∷ xs) i x = elim [
      | zero ↦ λ e. (let q : y ≡ x = cc in record { front = []; rest = xs; whole = ap (λ z. z ∷ xs) q; changed = λ z. refl; place = refl })
      | suc i ↦ λ e. (let s = split-place xs i x e in record {
        front = y ∷ s.front;
        rest = s.rest;
        whole = ap (λ ys. y ∷ ys) s.whole;
        changed = λ z. ap (λ ys. y ∷ ys) (s.changed z);
        place = ap suc s.place;
      })
    ] in
    at i e

-- a row at a place of the open ticks, and the lists round it
pub record OutOf (b : Book) (c : Core) (d : Held) (place at : ℕ) (level : Level) (row : Row) : Type 0 where
  pub front : List Level
  pub rest : List Level
  pub was : b.open_ticks.items ≡ front ++ level ∷ rest
  pub place_is : length front ≡ place
  pub changed : (v : Level) → set b.open_ticks.items place v ≡ front ++ v ∷ rest
  pub there : slice_get level.rows at ≡ Some row
  pub out : is_out row.stage ≡ true
  pub number : row.number ≡ d.number
  pub tick : level.number ≡ d.task.tick
  pub triple : row.triple ≡ d.task.triple
  pub carries : Carries g726 (front ++ level ∷ rest) b.present.items b.queue.tickets b.queue.issued c
  pub held : holds_out g726 c.runs d.number d.task ≡ true

pub out-of : (b : Book) (c : Core) (d : Held) (place at : ℕ) → StandsOn b c → (o : IsOutThere b d place at) → OutOf b c d place at o.level o.row
out-of b c d place at st o =
    let s = split-place b.open_ticks.items place o.level o.there in
    let car : Carries g726 (s.front ++ o.level ∷ s.rest) b.present.items b.queue.tickets b.queue.issued c =
    subst (λ (vs : List Level). Carries g726 vs b.present.items b.queue.tickets b.queue.issued c) s.whole st.carries in
    let held = row-out c s.front s.rest o.level at o.row (λ q i. (car.runs q).1 i) o.run o.stage in
    let t : record { tick = o.level.number; triple = o.row.triple } ≡ d.task = (λ i. record { tick = o.tick i; triple = o.triple i }) in
    record {
      front = s.front;
      rest = s.rest;
      was = s.whole;
      place_is = s.place;
      changed = s.changed;
      there = o.run;
      out = ap is_out o.stage;
      number = o.number;
      tick = o.tick;
      triple = o.triple;
      carries = car;
      held = subst (λ (x : Task). holds_out g726 c.runs d.number x ≡ true) t (subst (λ (n : ℕ). holds_out g726 c.runs n (record { tick = o.level.number; triple = o.row.triple }) ≡ true) o.number held);
    }

-- parts of the open ticks
pub fit-parts : (a b : List Level) → AllFit (a ++ b) → AllFit a × AllFit b
fit-parts [] b fit = (tt, fit)
fit-parts (v ∷ a) b fit = let r = fit-parts a b fit.1 in ((fit.0, r.0), r.1)

pub fit-append : (a b : List Level) → AllFit a → AllFit b → AllFit (a ++ b)
fit-append [] b f g = g
fit-append (v ∷ a) b f g = (f.0, fit-append a b f.1 g)

pub unknown-parts : (a b : List Level) → all_unknown (a ++ b) ≡ all_unknown a + all_unknown b
unknown-parts [] b = omega arith
unknown-parts (v ∷ a) b = let ih = unknown-parts a b in omega arith

pub seats-parts : (a b : List Level) → all_seats (a ++ b) ≡ all_seats a + all_seats b
seats-parts [] b = omega arith
seats-parts (v ∷ a) b = let ih = seats-parts a b in omega arith

-- the items up to a place, and those behind it
pub take-middle : {X : Type 0} (front : List X) (x : X) (rest : List X) → take (length front + 1) (front ++ x ∷ rest) ≡ front ++ x ∷ []
take-middle [] x rest = refl
take-middle {X} (y ∷ front) x rest =
    let e : length (y ∷ front) + 1 ≡ suc (length front + 1) = omega arith in
    ap (λ k. take k (y ∷ (front ++ x ∷ rest))) e ∙ ap (λ (xs : List X). y ∷ xs) (take-middle front x rest)

pub drop-middle : {X : Type 0} (front : List X) (x : X) (rest : List X) → drop (length front + 1) (front ++ x ∷ rest) ≡ rest
drop-middle [] x rest = refl
drop-middle (y ∷ front) x rest =
    let e : length (y ∷ front) + 1 ≡ suc (length front + 1) = omega arith in
    ap (λ k. drop k (y ∷ (front ++ x ∷ rest))) e ∙ drop-middle front x rest

-- ticks that stay have no new tickets
pub new-behind : (a b rest : List Level) (n : ℕ) → length a ≡ length b → new_tickets (a ++ rest) (b ++ rest) n ≡ new_tickets a b n
new-behind [] [] rest n e = same-new rest n
new-behind [] (v ∷ b) rest n e = absurd (omega arith)
new-behind (v ∷ a) [] rest n e = absurd (omega arith)
new-behind (v ∷ a) (w ∷ b) rest n e =
    ap (λ (ts : List Ticket). ts ++ tickets v.number (length v.rows) (n + length ts) (length w.rows - length v.rows)) (new-behind a b rest n (omega arith))

-- a publication finishes its run and sweeps the newer ticks
pub publish-stands : (b : Book) (ticks : Vec Level) (q' : Queued) (c : Core) (d : Held) (place at : ℕ) (st : StandsOn b c) (o : IsOutThere b d place at) (v' : Level)
    → v' ≡ with_rows o.level (set o.level.rows at (staged o.row Finished)) → (ws : List Level) → ticks.items ≡ ws
    → SweptFrom place (set b.open_ticks.items place v') b.queue ws q'
    → StandsOn (record { alloc = b.alloc; log = b.log; stays = b.stays; open_ticks = ticks; rooms = b.rooms; present = b.present; outbox = b.outbox; queue = q' }) (next g726 c (Publish d.number d.task))
publish-stands b ticks q' c d place at st o v' is ws same sw =
    let x = out-of b c d place at st o in
    let w = with_rows o.level (set o.level.rows at (staged o.row Finished)) in
    let items : set b.open_ticks.items place v' ≡ x.front ++ w ∷ x.rest = ap (set b.open_ticks.items place) is ∙ x.changed w in
    let k : place + 1 ≡ length x.front + 1 = ap (λ n. n + 1) (sym x.place_is) in
    let taken : take (place + 1) (set b.open_ticks.items place v') ≡ x.front ++ w ∷ [] = (λ i. take (k i) (items i)) ∙ take-middle x.front w x.rest in
    let left : drop (place + 1) (set b.open_ticks.items place v') ≡ x.rest = (λ i. drop (k i) (items i)) ∙ drop-middle x.front w x.rest in
    let swept : Swept (x.front ++ w ∷ []) b.queue sw.front q' sw.moved = subst (λ (vs : List Level). Swept vs b.queue sw.front q' sw.moved) taken sw.swept in
    let new : ticks.items ≡ sw.front ++ x.rest = same ∙ (sw.is ∙ ap (λ (vs : List Level). sw.front ++ vs) left) in
    let done = publish-carries g726 g726-tells c x.front x.rest o.level b.present.items b.queue.tickets b.queue.issued at o.row sw.front q'.issued sw.moved st.kept x.carries x.there x.out swept.sweeps in
    let whole : (x.front ++ w ∷ []) ++ x.rest ≡ x.front ++ w ∷ x.rest = append_assoc (x.front) (with_rows o.level (set o.level.rows at (staged o.row Finished)) ∷ []) x.rest in
    let tail : new_tickets (x.front ++ w ∷ x.rest) (sw.front ++ x.rest) b.queue.issued ≡ new_tickets (x.front ++ w ∷ []) sw.front b.queue.issued =
    ap (λ (vs : List Level). new_tickets vs (sw.front ++ x.rest) b.queue.issued) (sym whole) ∙ new-behind (x.front ++ w ∷ []) sw.front x.rest b.queue.issued (sym swept.as_many) in
    let c1 = with_reached g726 (with_stage c o.row.number Finished) in
    let c' = next g726 c (Publish d.number d.task) in
    let ce : c1 ≡ c' = ap (λ (n : ℕ). with_reached g726 (with_stage c n Finished)) x.number
    ∙ sym (ap (λ b. if b then with_reached g726 (with_stage c d.number Finished) else c) x.held) in
    let carries = moved-carries (sw.front ++ x.rest) ticks.items b.present.items b.present.items
    (b.queue.tickets ++ new_tickets (x.front ++ w ∷ x.rest) (sw.front ++ x.rest) b.queue.issued) q'.tickets q'.issued q'.issued c1
    (sym new) refl (ap (λ (ts : List Ticket). b.queue.tickets ++ ts) tail ∙ sym swept.waiting) refl done in
    let fits = fit-parts (x.front ++ w ∷ []) x.rest (subst AllFit (sym whole) (fit-staged x.front x.rest o.level at (staged o.row Finished) (subst AllFit x.was st.roomy.fit))) in
    let s0 : all_seats b.open_ticks.items ≡ all_seats (x.front ++ w ∷ []) + all_seats x.rest =
    ap all_seats x.was ∙ (sym (seats-staged x.front x.rest o.level at (staged o.row Finished)) ∙ (ap all_seats (sym whole) ∙ seats-parts (x.front ++ w ∷ []) x.rest)) in
    let s1 = ap all_seats new ∙ seats-parts sw.front x.rest in
    let s2 = swept.seats in
    let l0 = ap length x.was ∙ (sym (length-staged x.front x.rest o.level at (staged o.row Finished)) ∙ (ap length (sym whole) ∙ length-append (x.front ++ w ∷ []) x.rest)) in
    let l1 = ap length new ∙ length-append sw.front x.rest in
    let l2 = swept.as_many in
    let r = swept.room in
    let t = st.roomy.tickets in
    let en = st.roomy.entries in
    record {
      feed = subst (Follows b.log.feed b.stays.items) (ap (λ (k : Core). k.feed) ce) st.feed;
      carries = subst (Carries g726 ticks.items b.present.items q'.tickets q'.issued) ce carries;
      posts = subst (Posts b.rooms.items b.outbox.items) (ap (λ (k : Core). k.feed) ce) st.posts;
      kept = next-kept g726 g726-tells c (Publish d.number d.task) st.kept;
      roomy = record {
        fit = subst AllFit (sym new) (fit-append sw.front x.rest swept.fit fits.1);
        tickets = omega arith;
        entries = omega arith;
        stays = st.roomy.stays;
      };
    }

-- a sweep keeps the number of ticks
pub swept-length : (place : ℕ) (vs vs' : List Level) (q q' : Queued) → SweptFrom place vs q vs' q' → length vs' ≡ length vs
swept-length place vs vs' q q' sw =
    ap length sw.is ∙ (length-append sw.front (drop (place + 1) vs) ∙ (ap (λ n. n + length (drop (place + 1) vs)) sw.swept.as_many
    ∙ (sym (length-append (take (place + 1) vs) (drop (place + 1) vs)) ∙ ap length (take-append-drop (place + 1) vs))))

-- a run that is at another stage leaves as much to come
pub unknown-staged : (front rest : List Level) (v : Level) (at : ℕ) (r : Row)
    → all_unknown (front ++ with_rows v (set v.rows at r) ∷ rest) ≡ all_unknown (front ++ v ∷ rest)
unknown-staged [] rest v at r = refl
unknown-staged (w ∷ front) rest v at r = ap (λ n. unknown w.seats + n) (unknown-staged front rest v at r)

-- what a finished run leaves to the sweep
pub record ToSweep (b : Book) (place : ℕ) (v' : Level) : Type 0 where
  pub fit : AllFit (set b.open_ticks.items place v')
  pub unknown_is : all_unknown (set b.open_ticks.items place v') ≡ all_unknown b.open_ticks.items

pub to-sweep : (b : Book) (c : Core) (d : Held) (place at : ℕ) (st : StandsOn b c) (o : IsOutThere b d place at) (v' : Level)
    → v' ≡ with_rows o.level (set o.level.rows at (staged o.row Finished)) → ToSweep b place v'
to-sweep b c d place at st o v' is =
    let x = out-of b c d place at st o in
    let w = with_rows o.level (set o.level.rows at (staged o.row Finished)) in
    let items : set b.open_ticks.items place v' ≡ x.front ++ w ∷ x.rest = ap (set b.open_ticks.items place) is ∙ x.changed w in
    record {
      fit = subst AllFit (sym items) (fit-staged x.front x.rest o.level at (staged o.row Finished) (subst AllFit x.was st.roomy.fit));
      unknown_is = ap all_unknown items ∙ (unknown-staged x.front x.rest o.level at (staged o.row Finished) ∙ ap all_unknown (sym x.was));
    }

-- the level at a place, with a row at another stage
pub staged-level : (vs : List Level) (place at : ℕ) (level now new : Level) (row : Row) (stage : Stage) → slice_get vs place ≡ Some level
    → slice_get level.rows at ≡ Some row
    → now ≡ get_or vs place now → IfSome (slice_get now.rows at) (λ r. new ≡ with_rows now (set now.rows at (staged r stage)))
    → new ≡ with_rows level (set level.rows at (staged row stage))
staged-level vs place at level now new row stage there run is rows =
    let e : now ≡ level = same-level vs place place level now refl there is in
    let left : new ≡ with_rows now (set now.rows at (staged row stage)) = at-row level now at row (λ (r : Row). new ≡ with_rows now (set now.rows at (staged r stage))) e run rows in
    left ∙ ap (λ (v : Level). with_rows v (set v.rows at (staged row stage))) e

-- a job that is given back waits at its place in the queue
pub give_back-stands : (b : Book) (ticks : Vec Level) (q' : Queued) (c : Core) (d : Held) (place at : ℕ) (st : StandsOn b c) (o : IsOutThere b d place at) (v' : Level)
    → v' ≡ with_rows o.level (set o.level.rows at (staged o.row Waiting)) → ticks.items ≡ set b.open_ticks.items place v'
    → PutBack b.queue.tickets (record { number = d.number; tick = d.task.tick; at = at }) q'.tickets → q'.issued ≡ b.queue.issued → b.queue.room ≤ q'.room
    → StandsOn (record { alloc = b.alloc; log = b.log; stays = b.stays; open_ticks = ticks; rooms = b.rooms; present = b.present; outbox = b.outbox; queue = q' }) (next g726 c (GiveBack d.number d.task))
give_back-stands b ticks q' c d place at st o v' is same put issued room =
    let x = out-of b c d place at st o in
    let w = with_rows o.level (set o.level.rows at (staged o.row Waiting)) in
    let t : Ticket = record { number = d.number; tick = d.task.tick; at = at } in
    let new : ticks.items ≡ x.front ++ w ∷ x.rest = same ∙ (ap (set b.open_ticks.items place) is ∙ x.changed w) in
    let car : Carries g726 (x.front ++ o.level ∷ x.rest) b.present.items (put.front ++ put.back) b.queue.issued c =
    subst (λ (ts : List Ticket). Carries g726 (x.front ++ o.level ∷ x.rest) b.present.items ts b.queue.issued c) put.was x.carries in
    let done = back-carries g726 c x.front x.rest o.level b.present.items put.front put.back t b.queue.issued o.row st.kept car x.there x.out (sym x.number) (sym x.tick) put.lower put.higher in
    let c1 = with_stage c o.row.number Waiting in
    let c' = next g726 c (GiveBack d.number d.task) in
    let ce : c1 ≡ c' = ap (λ (n : ℕ). with_stage c n Waiting) x.number ∙ sym (ap (λ b. if b then with_stage c d.number Waiting else c) x.held) in
    let carries = moved-carries (x.front ++ w ∷ x.rest) ticks.items b.present.items b.present.items (put.front ++ t ∷ put.back) q'.tickets b.queue.issued q'.issued c1
    (sym new) refl (sym put.is) (sym issued) done in
    record {
      feed = subst (Follows b.log.feed b.stays.items) (ap (λ (k : Core). k.feed) ce) st.feed;
      carries = subst (Carries g726 ticks.items b.present.items q'.tickets q'.issued) ce carries;
      posts = subst (Posts b.rooms.items b.outbox.items) (ap (λ (k : Core). k.feed) ce) st.posts;
      kept = next-kept g726 g726-tells c (GiveBack d.number d.task) st.kept;
      roomy = roomy-staged b _ x.front x.rest o.level at (staged o.row Waiting) st.roomy x.was new refl refl refl refl room;
    }

-- a run that is out has no ticket
pub out-other : (b : Book) (c : Core) (d : Held) (place at : ℕ) → StandsOn b c → IsOutThere b d place at → (s : Ticket) → In s b.queue.tickets
    → s.number ≢ d.number
out-other b c d place at st o s i e =
    let x = out-of b c d place at st o in
    let r = ticket-run b.open_ticks.items s (st.carries.queue.each s i) in
    let held = held-run c.runs d.number d.task x.held in
    let one = unique 0 c.issued c.runs st.kept.carried.numbers r.0 held.run ((st.carries.runs r.0).1 r.1) held.among (r.2 ∙ (e ∙ sym held.number)) in
    let bad : Waiting ≡ Out = sym r.3 ∙ (ap (λ (q : Run). q.stage) one ∙ held.stage) in
    absurd (waits-not_out bad)
  where
    waits-not_out : Waiting ≡ Out → ⊥
    waits-not_out q = cc
