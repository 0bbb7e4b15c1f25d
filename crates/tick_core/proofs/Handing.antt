-- What a collect hands out, and what it leaves.
use Rattle.std.proofs.Common.{zero, suc, ◌≡◌, ℕ, ◌+◌, ◌-◌, ◌≤◌, Bool, true, false, ◌&&◌, inl, inr, List, [], ◌∷◌, ◌++◌, length, refl, sym, ◌∙◌, ap, subst, arith, length-append}
use Rattle.std.specs.Prelude.{vec_capacity, slice_get, Option, Some, None, nat_lt}
use Rattle.std.specs.List.{AllZip}
use Rattle.std.proofs.lemmas.Bool.{and_from, and_parts, lt-ltb, le-ltb}
use Rattle.std.specs.List.{AllByRecursion}
use Rattle.g726_bits.specs.State.{CodecState}
use Rattle.g726_codec.specs.declared.Triple.{Triple}
use Rattle.conference_spec.specs.declared.Entry.TheVariants.{Collect}
use Rattle.conference_spec.specs.declared.Stage.{Stage}
use Rattle.conference_spec.specs.declared.Stage.TheVariants.{Waiting, Out, Finished}
use Rattle.conference_spec.specs.Codec.{g726}
use Rattle.conference_spec.specs.Feed.{Feed, Listener, closes, collects, listeners}
use Rattle.conference_spec.specs.Tasks.{task_of}
use Rattle.conference_spec.specs.Machine.{Core, accepts, entered, is_over, is_finished}
use Rattle.conference_spec.proofs.Equal.{g726-tells}
use Rattle.conference_spec.proofs.Members.{In, length-filter_parts}
use Rattle.triple_table.specs.Rows.{Row}
use Rattle.book_lists.specs.declared.seats.Seat.{Seat}
use Rattle.book_lists.specs.declared.seats.Rest.{Rest}
use Rattle.book_lists.specs.declared.seats.Origin.{Origin}
use Rattle.book_lists.specs.declared.seats.Origin.TheVariants.{Known, Earlier}
use Rattle.book_lists.specs.Levels.{Level, Carries, Opens, Knows, Rests, Settles, OriginIs, settled, all_finished, state_at}
use Rattle.book_lists.specs.declared.mails.Mail.{Mail}
use Rattle.book_lists.specs.Mailing.{IsResultOf, walked, still_open, leaves_after}
use Rattle.book_lists.proofs.Seating.{state_of}
use Rattle.book_lists.proofs.Collecting.{last-number, last-closed, over-rows, oldest, seats-run, settle-ready, rests-open, rests-settled, later-closed, collect-carries}
use Rattle.tick_core.specs.declared.book.Book.{Book}
use Rattle.tick_core.specs.Held.{Sent}
use Rattle.tick_core.specs.Opened.{IsServed, Settled, SettledAfter, settled_origin, origin_after}
use Rattle.std.specs.Global.{Vec}
use Rattle.conference_spec.specs.declared.Packet.{Packet}
use Rattle.tick_core.specs.Posting.{Posts, Walks}
use Rattle.tick_core.proofs.Postings.{posts-same, posts-collect}
use Rattle.book_lists.proofs.MailingCollect.{mails-collected}
use Rattle.book_lists.proofs.MailingSpecs.{length-walked}
use Rattle.tick_core.specs.Standing.{StandsOn}
use Rattle.tick_core.specs.Steps.{CollectsOn}
use Rattle.book_feed.specs.Logged.{with_entry}
use Rattle.tick_core.proofs.Follows.{follows-entry}
use Rattle.tick_core.specs.Sweeping.{AllFit, all_seats}
use Rattle.tick_core.proofs.Keeping.{entered-stands}
use Rattle.conference_spec.proofs.Steps.{Kept}
use Rattle.tick_core.proofs.Seats.{length-zip}
use Rattle.tick_core.proofs.Staging.{fit-parts, seats-parts, moved-carries}

-- what is known where the oldest open tick is over
pub record IsOver (c : Core) (rests : List Rest) (v : Level) : Type 0 where
  pub over : is_over g726 c.runs c.feed (collects c.feed) ≡ true
  pub may : accepts g726 c Collect ≡ true
  pub number : v.number ≡ collects c.feed
  pub served : AllByRecursion (IsServed v.rows) v.seats

finished-of : (s : Stage) → is_finished s ≡ true → s ≡ Finished
finished-of Waiting h = cc
finished-of Out h = cc
finished-of Finished h = refl

row-finished : (rows : List Row) (at : ℕ) (r : Row) → all_finished rows ≡ true → slice_get rows at ≡ Some r → is_finished r.stage ≡ true
row-finished [] at r h e = cc
row-finished (q ∷ rows) at r h e =
    let p = and_parts (is_finished q.stage) (all_finished rows) h in
    let go : (at : ℕ) → slice_get (q ∷ rows) at ≡ Some r → is_finished r.stage ≡ true = elim [
      | zero ↦ λ e. (let s : q ≡ r = cc in ap (λ (x : Row). is_finished x.stage) (sym s) ∙ p.0)
      | suc at ↦ λ e. row-finished rows at r p.1 e
    ] in
    go at e

one-served : (rows : List Row) (s : Seat) (t : Triple) → all_finished rows ≡ true → Knows true s.run rows t → IsServed rows s
one-served rows s t over k =
    let go : (o : Option ℕ) → s.run ≡ o → Knows true o rows t → IsServed rows s = elim [
      | None ↦ λ e k. absurd k
      | Some at ↦ λ e k. record { at = at; row = k.row; run = e; there = k.there; finished = finished-of k.row.stage (row-finished rows at k.row over k.there) }
    ] in
    go s.run refl k

all-served : (rows : List Row) (tr : Listener → Triple) (ss : List Seat) (ls : List Listener) → all_finished rows ≡ true
    → AllZip (λ s l. Knows true s.run rows (tr l)) ss ls → AllByRecursion (IsServed rows) ss
all-served rows tr [] [] over z = tt
all-served rows tr [] (l ∷ ls) over z = absurd z
all-served rows tr (s ∷ ss) [] over z = absurd z
all-served rows tr (s ∷ ss) (l ∷ ls) over z = (one-served rows s (tr l) over z.0, all-served rows tr ss ls over z.1)

pub is-over : (b : Book) (c : Core) (front : List Level) (v : Level) (rests : List Rest) → StandsOn b c → b.open_ticks.items ≡ front ++ v ∷ []
    → all_finished v.rows ≡ true → IsOver c rests v
is-over b c front v rests st was over =
    let gone = collects c.feed in
    let opens : Opens g726 gone c.runs (front ++ v ∷ []) c.feed = subst (λ (vs : List Level). Opens g726 gone c.runs vs c.feed) was st.carries.opens in
    let car = subst (λ (vs : List Level). Carries g726 vs b.present.items b.queue.tickets b.queue.issued c) was st.carries in
    let done : is_over g726 c.runs c.feed gone ≡ true = over-rows g726 g726-tells c front v st.kept opens car.runs car.once ∙ over in
    let lt = last-closed g726 gone c.runs front v c.feed opens in
    let old = oldest g726 gone c.runs front v c.feed opens in
    record {
      over = done;
      may = and_from _ (is_over g726 c.runs c.feed gone) (lt-ltb gone (closes c.feed) lt) done;
      number = last-number g726 gone c.runs front v c.feed opens;
      served = all-served v.rows (λ l. (task_of g726 (closes old.feed) old.tick l).triple) v.seats (listeners g726 old.feed) over
          (seats-run g726 gone c.runs v old.tick old.feed g726-tells old.at old.level);
    }

-- each is settled, since its run is finished
settles : (v : Level) (gone : ℕ) (h : Feed) (r r' : Rest) (l : Listener) → ((i : ℕ) → r.origin ≡ Earlier i → (st : _) × (state_at g726 v i ≡ Some st))
    → Settled v r r' → Settles g726 v r r'
settles v gone h r r' l ready s =
    let go : (o : Origin) → r.origin ≡ o → r'.origin ≡ origin_after v o → settled g726 v o r'.origin = elim [
      | Known q ↦ λ e t. t
      | Earlier i ↦ λ e t. (let k = ready i e in (k.0, k.1, t ∙ ap (λ (o : Option _). settled_origin o (Earlier i)) k.1))
    ] in
    record { spec = s.spec; heard = s.heard; origin = go r.origin refl s.origin }

all-settle : (v : Level) (gone : ℕ) (h : Feed) (rests rests' : List Rest) (ls : List Listener)
    → ((l : Listener) → In l ls → (r : Rest) → Rests g726 gone h r l → (i : ℕ) → r.origin ≡ Earlier i → (st : _) × (state_at g726 v i ≡ Some st))
    → AllZip (Rests g726 gone h) rests ls → AllZip (Settled v) rests rests' → AllZip (Settles g726 v) rests rests'
all-settle v gone h [] [] ls ready z t = tt
all-settle v gone h [] (r' ∷ rests') ls ready z t = absurd t
all-settle v gone h (r ∷ rests) [] ls ready z t = absurd t
all-settle v gone h (r ∷ rests) (r' ∷ rests') [] ready z t = absurd z
all-settle v gone h (r ∷ rests) (r' ∷ rests') (l ∷ ls) ready z t =
    (settles v gone h r r' l (ready l (inl refl) r z.0) t.0, all-settle v gone h rests rests' ls (λ l i. ready l (inr i)) z.1 t.1)

-- who is present afterwards
pub settled-length : (vs : List Level) (v : Level) (rests rests' : List Rest) → SettledAfter vs v rests rests' → length rests' ≡ length rests
settled-length [] v rests rests' z = length-zip (Settled v) rests rests' z
settled-length (w ∷ vs) v rests rests' e = ap length e

rests-after_collect : (c : Core) (front : List Level) (v : Level) (rests rests' : List Rest) (queue : List _) (issued : ℕ) → Kept g726 c
    → Carries g726 (front ++ v ∷ []) rests queue issued c
    → is_over g726 c.runs c.feed (collects c.feed) ≡ true → SettledAfter front v rests rests'
    → AllZip (Rests g726 (collects c.feed + 1) (Collect ∷ c.feed)) rests' (listeners g726 c.feed)
rests-after_collect c [] v rests rests' queue issued k car over z =
    rests-settled g726 g726-tells c v rests rests' k car.opens car.runs car.once over car.present
    (all-settle v (collects c.feed) c.feed rests rests' (listeners g726 c.feed)
    (λ l i r x n e.
    let here = subst (λ (o : Origin). OriginIs g726 (collects c.feed) c.feed o l) e x.origin in
    (state_of g726 l, settle-ready g726 g726-tells c v k car.opens car.runs car.once over l i n here.0))
    car.present z)
rests-after_collect c (w ∷ front) v rests rests' queue issued k car over e =
    subst (λ (rs : List Rest). AllZip (Rests g726 (collects c.feed + 1) (Collect ∷ c.feed)) rs (listeners g726 c.feed)) (sym e)
    (rests-open g726 (collects c.feed) c.feed rests (listeners g726 c.feed) (later-closed g726 (collects c.feed) c.runs w front v c.feed car.opens) car.present)

-- what the seats' runs have made
pub results-of : (rows : List Row) (ss : List Seat) → AllByRecursion (IsServed rows) ss
    → (rs : List (CodecState × List ℕ)) × AllZip (λ s r. IsResultOf g726 rows s.run r) ss rs
results-of rows [] f = ([], tt)
results-of rows (s ∷ ss) f =
    let here = f.0 in
    let ih = results-of rows ss f.1 in
    let r : CodecState × List ℕ = g726.encoded here.row.triple.rate here.row.triple.state here.row.triple.mix in
    let is : IsResultOf g726 rows s.run r = subst (λ (o : Option ℕ). IsResultOf g726 rows o r) (sym here.run) (here.row, here.there, refl) in
    (r ∷ ih.0, (is, ih.1))

-- as many mails after the walk
pub walks-length : (k : ℕ) (rows : List Row) (ss : List Seat) (ms ms' : List Mail) (ps ps' : List Packet) → AllByRecursion (IsServed rows) ss
    → Walks k rows ss ms ps ms' ps' → length ms' ≡ length ms
walks-length k rows ss ms ms' ps ps' served walks =
    let rs = results-of rows ss served in
    ap length (walks rs.0 rs.1).0 ∙ length-walked k ms rs.0

-- a collect takes the oldest tick
pub collect-stands : (b b' : Book) (c : Core) (front : List Level) (v : Level) (rooms : List (Vec Packet)) (room : Vec Packet) (p : Sent) (ms : List Mail) → StandsOn b c
    → b.open_ticks.items ≡ front ++ v ∷ [] → b.rooms.items ≡ rooms ++ room ∷ [] → all_finished v.rows ≡ true
    → b'.open_ticks.items ≡ front → b'.rooms.items ≡ rooms → SettledAfter front v b.present.items b'.present.items
    → b'.log.feed ≡ with_entry Collect b.log.feed → b.log.room ≤ b'.log.room + 1 → b'.queue ≡ b.queue → b'.stays ≡ b.stays
    → p.tick ≡ v.number → Walks v.number v.rows v.seats b.outbox.items [] ms p.packets → b'.outbox.items ≡ still_open v.number ms → CollectsOn p b' c
collect-stands b b' c front v rooms room p ms st was rooms_were over is rooms_are after feed space queue stays tick walks outbox =
    let o = is-over b c front v b.present.items st was over in
    let car : Carries g726 (front ++ v ∷ []) b.present.items b.queue.tickets b.queue.issued c =
    subst (λ (vs : List Level). Carries g726 vs b.present.items b.queue.tickets b.queue.issued c) was st.carries in
    let present = rests-after_collect c front v b.present.items b'.present.items b.queue.tickets b.queue.issued st.kept car o.over after in
    let done = collect-carries g726 g726-tells c front v b.present.items b'.present.items b.queue.tickets b.queue.issued st.kept car o.over present in
    let carries = moved-carries front b'.open_ticks.items b'.present.items b'.present.items b.queue.tickets b'.queue.tickets b.queue.issued b'.queue.issued (entered g726 c Collect)
    (sym is) refl (sym (ap (λ q. q.tickets) queue)) (sym (ap (λ q. q.issued) queue)) done in
    let gone = collects c.feed in
    let rs = results-of v.rows v.seats o.served in
    let walk = subst (λ (k : ℕ). Walks k v.rows v.seats b.outbox.items [] ms p.packets) o.number walks rs.0 rs.1 in
    let law = mails-collected g726 gone c.runs front v c.feed b.outbox.items rs.0 car.opens st.posts.mails rs.1 in
    let left : b'.outbox.items ≡ still_open gone (walked gone b.outbox.items rs.0).mails = outbox ∙ (λ i. still_open (o.number i) (walk.0 i)) in
    let posts = posts-same rooms b'.rooms.items (still_open gone (walked gone b.outbox.items rs.0).mails) b'.outbox.items (Collect ∷ c.feed) (Collect ∷ c.feed)
    (sym rooms_are) (sym left) refl
    (posts-collect rooms room b.outbox.items c.feed rs.0 (subst (λ (qs : List (Vec Packet)). Posts qs b.outbox.items c.feed) rooms_were st.posts) law.1) in
    let fits = fit-parts front (v ∷ []) (subst AllFit was st.roomy.fit) in
    let s0 = ap all_seats was ∙ seats-parts front (v ∷ []) in
    let s1 = ap all_seats is in
    let l0 = ap length was ∙ length-append front (v ∷ []) in
    let l1 = ap length is in
    let l2 = settled-length front v b.present.items b'.present.items after in
    let q = ap (λ q. q.room) queue in
    let t = st.roomy.tickets in
    let en = st.roomy.entries in
    let m0 = length-walked gone b.outbox.items rs.0 in
    let m1 = ap length left in
    let m2 = length-filter_parts (λ (m : Mail). leaves_after gone m.left) (walked gone b.outbox.items rs.0).mails in
    let cap = ap (λ q. vec_capacity q) stays in
    let old = st.roomy.stays in (
      o.may,
      tick ∙ o.number,
      walk.1 ∙ law.0,
      entered-stands b' c Collect o.may st.kept
          (follows-entry Collect b.log.feed b'.log.feed b.stays.items b'.stays.items c.feed refl refl feed (ap (λ q. q.items) stays) st.feed) carries posts
          (record { fit = subst AllFit (sym is) fits.0; tickets = omega arith; entries = omega arith; stays = omega arith }),
    )

-- the last item
abbrev last-of : List Level → Level → Level
last-of [] d = d
last-of (x ∷ xs) d = last-of xs x

last-snoc : (xs : List Level) (x d : Level) → last-of (xs ++ x ∷ []) d ≡ x
last-snoc [] x d = refl
last-snoc (y ∷ xs) x d = last-snoc xs x y

pub same-last : (xs ys : List Level) (x y : Level) → xs ++ x ∷ [] ≡ ys ++ y ∷ [] → x ≡ y
same-last xs ys x y e = sym (last-snoc xs x x) ∙ (ap (λ (zs : List Level). last-of zs x) e ∙ last-snoc ys y x)

-- the last of some ticks
pub record IsLast (vs : List Level) (v : Level) : Type 0 where
  pub front : List Level
  pub are : vs ≡ front ++ v ∷ []

pub split-last : (vs : List Level) (v : Level) → slice_get vs (length vs - 1) ≡ Some v → IsLast vs v
split-last [] v e = cc
split-last (w ∷ []) v e = (let q : w ≡ v = cc in record { front = []; are = ap (λ (x : Level). x ∷ []) q })
split-last (w ∷ (x ∷ vs)) v e =
    (let k : length (w ∷ (x ∷ vs)) - 1 ≡ suc (length (x ∷ vs) - 1) = omega arith in
    let e' : slice_get (w ∷ (x ∷ vs)) (suc (length (x ∷ vs) - 1)) ≡ Some v = subst (λ (n : ℕ). slice_get (w ∷ (x ∷ vs)) n ≡ Some v) k e in
    let r = split-last (x ∷ vs) v e' in
    record { front = w ∷ r.front; are = ap (λ (us : List Level). w ∷ us) r.are })

-- where the oldest tick isn't over, or none is open, a collect is refused
pub not-over : (b : Book) (c : Core) (front : List Level) (v : Level) → StandsOn b c → b.open_ticks.items ≡ front ++ v ∷ []
    → all_finished v.rows ≡ false → accepts g726 c Collect ≡ false
not-over b c front v st was not =
    let car = subst (λ (vs : List Level). Carries g726 vs b.present.items b.queue.tickets b.queue.issued c) was st.carries in
    let e : is_over g726 c.runs c.feed (collects c.feed) ≡ false = over-rows g726 g726-tells c front v st.kept car.opens car.runs car.once ∙ not in
    ap (λ (b : Bool). nat_lt (collects c.feed) (closes c.feed) && b) e ∙ and-none (nat_lt (collects c.feed) (closes c.feed))
  where
    and-none : (b : Bool) → (b && false) ≡ false
    and-none true = refl
    and-none false = refl

pub none-open : (b : Book) (c : Core) → StandsOn b c → b.open_ticks.items ≡ [] → accepts g726 c Collect ≡ false
none-open b c st none =
    let o : closes c.feed ≤ collects c.feed = subst (λ (vs : List Level). Opens g726 (collects c.feed) c.runs vs c.feed) none st.carries.opens in
    ap (λ (b : Bool). b && is_over g726 c.runs c.feed (collects c.feed)) (le-ltb (collects c.feed) (closes c.feed) o)
