-- What a Book stands for after an entry, and what the packets of a closed tick are.
use Rattle.std.proofs.Common.{◌≡◌, ℕ, ◌<◌, ◌≤◌, ◌+◌, Bool, true, false, ◌&&◌, List, [], ◌∷◌, length, map, refl, sym, ◌∙◌, ap, subst, arith, rules, inl, inr, Some, None, Result, Ok, Err}
use Rattle.std.specs.Prelude.{◌==◌, ◌↔◌, nat_lt, not, is_none, OnOk, OnErr, IsErr}
use Rattle.std.specs.List.{All, filter, flat_map, list_any}
use Rattle.std.proofs.lemmas.Bool.{cond-true, cond-false, cond_both, and_parts, both_ways, ltb-true}
use Rattle.std.proofs.lemmas.List.Elements.{All-append, All-filter, All-map}
use Rattle.talk_mix.specs.declared.ticks.Tick.{Tick}
use Rattle.conference_spec.specs.declared.JoinSpec.{JoinSpec}
use Rattle.conference_spec.specs.declared.Packet.{Packet}
use Rattle.conference_spec.specs.declared.Entry.{Entry}
use Rattle.conference_spec.specs.declared.Entry.TheVariants.{Join, Leave, Close, Collect, Cut}
use Rattle.conference_spec.specs.Codec.{g726}
use Rattle.conference_spec.specs.Feed.{Feed, Listener, Guest, guests, goes, stays, listeners, begins, hears, closes, collects, ended, joined, may_follow}
use Rattle.conference_spec.specs.Packets.{Sending, ith_packet, packets, packets_at, sent}
use Rattle.conference_spec.specs.Machine.{Core, begun, Enters, accepts, entered, appended, next, with_reached, is_finished}
use Rattle.conference_spec.proofs.Members.{In, in-append_cases, in-map_cases, in-filter_parts}
use Rattle.tick_core.specs.declared.book.Book.{Book}
use Rattle.tick_core.specs.declared.faults.Absent.{Absent}
use Rattle.tick_core.specs.declared.faults.JoinFault.{JoinFault}
use Rattle.tick_core.specs.declared.faults.JoinFault.TheVariants.{Used, Full}
use Rattle.tick_core.specs.Held.{Sent}
use Rattle.tick_core.specs.Standing.{Stands, CanCut, Takes, Keeps, Collects}
use Rattle.desk_run.specs.Handing.{leaving, sent_from, IsSendable}
use Rattle.desk_run.specs.BookSide.{StandsFor, HandedAll, IsWhole, HasRun}
use Rattle.desk_run.proofs.BookRuns.{all-at, all-of, all-finished}
use Rattle.desk_run.proofs.BookTurns.{close-whole, whole-over}

-- a Book to which nothing has happened stands for the empty feed
pub new-stands : (b : Book) → Stands b begun → StandsFor b []
new-stands b st = record { core = begun; stands = st; feed = refl; finished = λ k d lt. absurd (omega arith); lawful = λ k d lt. absurd (omega arith) }

-- ---- who has been here ----

pub gone-lawful : (m k : ℕ) (gs : List Guest) → All (λ g. g.listener.spec.pt ≤ 127) gs → All (λ g. (goes m k g).listener.spec.pt ≤ 127) gs
gone-lawful m k gs all = all-of (λ (g : Guest). (goes m k g).listener.spec.pt ≤ 127) gs (λ g i.
    let at = all-at (λ (g : Guest). g.listener.spec.pt ≤ 127) g gs all i in
    let P : Guest → Type 0 = λ x. x.listener.spec.pt ≤ 127 in
    cond_both (is_none g.left && (g.listener.spec.member == m)) (record { listener = g.listener; left = Some k }) g P (λ t. at) (λ t. at))

pub stayed-lawful : (tick : Tick) (gs : List Guest) → All (λ g. g.listener.spec.pt ≤ 127) gs → All (λ g. (stays tick g).listener.spec.pt ≤ 127) gs
stayed-lawful tick gs all = all-of (λ (g : Guest). (stays tick g).listener.spec.pt ≤ 127) gs (λ g i.
    let at = all-at (λ (g : Guest). g.listener.spec.pt ≤ 127) g gs all i in
    let P : Guest → Type 0 = λ x. x.listener.spec.pt ≤ 127 in
    cond_both (is_none g.left) (record { listener = hears tick g.listener; left = None }) g P (λ t. at) (λ t. at))

-- ---- entries ----

and_first : (a b : Bool) → (a && b) ≡ true → a ≡ true
and_first true b e = refl
and_first false b e = e

took : (new : Book) (c : Core) (e : Entry) → accepts g726 c e ≡ true → Stands new (next g726 c (Enters e)) → Stands new (entered g726 c e)
took new c e t st = subst (λ (x : Core). Stands new x) (cond-true (accepts g726 c e) (entered g726 c e) c t) st

-- a join by a lawful payload type
pub join-stands : (old new : Book) (h : Feed) (spec : JoinSpec) → spec.pt ≤ 127 → Takes old new (Join spec) → StandsFor old h → StandsFor new (Join spec ∷ h)
join-stands old new h spec le takes s =
    let t = takes s.core s.stands in
    record {
      core = appended s.core (Join spec);
      stands = took new s.core (Join spec) t.0 t.1;
      feed = ap (λ f. Join spec ∷ f) s.feed;
      finished = s.finished;
      lawful = All-append (λ g. g.listener.spec.pt ≤ 127) (guests g726 h) (record { listener = begins g726 spec (closes h); left = None } ∷ []) s.lawful (search rules);
    }

-- who may join is neither refused for its number nor for want of a place
pub not-used : (b : Book) (h : Feed) (spec : JoinSpec) (r : Result Unit JoinFault) → StandsFor b h → may_follow g726 h (Join spec) ≡ true
    → ((c : Core) → Stands b c → (r ≡ Err Used) ↔ (list_any (λ m. m == spec.member) (joined c.feed) ≡ true)) → r ≡ Err Used → ⊥
not-used b h spec r s may used e =
    let free = (and_parts (not (list_any (λ m. m == spec.member) (joined h))) (nat_lt (length (listeners g726 h)) 1024 && not (ended h)) may).0 in
    let there = ap (λ f. list_any (λ m. m == spec.member) (joined f)) (sym s.feed) ∙ (used s.core s.stands).0 e in
    both_ways (not (list_any (λ m. m == spec.member) (joined h))) (ap not there) free

pub not-full : (b : Book) (h : Feed) (spec : JoinSpec) (r : Result Unit JoinFault) → StandsFor b h → may_follow g726 h (Join spec) ≡ true
    → ((c : Core) → Stands b c → (r ≡ Err Full) ↔ ((list_any (λ m. m == spec.member) (joined c.feed) ≡ false) × (length (listeners g726 c.feed) ≡ 1024)))
    → r ≡ Err Full → ⊥
not-full b h spec r s may full e =
    let parts = (and_parts (not (list_any (λ m. m == spec.member) (joined h))) (nat_lt (length (listeners g726 h)) 1024 && not (ended h)) may).1 in
    let few = ltb-true (length (listeners g726 h)) 1024 (and_parts (nat_lt (length (listeners g726 h)) 1024) (not (ended h)) parts).0 in
    let there = ap (λ f. length (listeners g726 f)) (sym s.feed) ∙ ((full s.core s.stands).0 e).1 in
    omega arith

leave-stands : (old new : Book) (h : Feed) (m : ℕ) → Takes old new (Leave m) → StandsFor old h → StandsFor new (Leave m ∷ h)
leave-stands old new h m takes s =
    let t = takes s.core s.stands in
    record {
      core = appended s.core (Leave m);
      stands = took new s.core (Leave m) t.0 t.1;
      feed = ap (λ f. Leave m ∷ f) s.feed;
      finished = s.finished;
      lawful = All-map (λ (g : Guest). g.listener.spec.pt ≤ 127) (goes m (closes h)) (guests g726 h) (gone-lawful m (closes h) (guests g726 h) s.lawful);
    }

-- nobody of this number listens, or the Book took the leave
left-at : (old new : Book) (h : Feed) (m : ℕ) (r : Result Unit Absent) → OnOk r (Takes old new (Leave m)) → OnErr r (Keeps old new)
    → ((c : Core) → Stands old c → IsErr r ↔ (list_any (λ l. l.spec.member == m) (listeners g726 c.feed) ≡ false)) → StandsFor old h → StandsFor new (leaving m h)
left-at old new h m (Ok u) takes keeps absent s =
    let there = list_any (λ l. l.spec.member == m) (listeners g726 h) in
    let t = takes s.core s.stands in
    let at : accepts g726 s.core (Leave m) ≡ may_follow g726 h (Leave m) = ap (λ f. may_follow g726 f (Leave m)) s.feed in
    let here : there ≡ true = and_first there (not (ended h)) (sym at ∙ t.0) in
    subst (StandsFor new) (sym (cond-true there (Leave m ∷ h) h here)) (leave-stands old new h m takes s)
left-at old new h m (Err e) takes keeps absent s =
    let there = list_any (λ l. l.spec.member == m) (listeners g726 h) in
    let none : there ≡ false = ap (λ f. list_any (λ l. l.spec.member == m) (listeners g726 f)) (sym s.feed) ∙ (absent s.core s.stands).0 refl in
    subst (StandsFor new) (sym (cond-false there (Leave m ∷ h) h none))
    (record { core = s.core; stands = keeps s.core s.stands; feed = s.feed; finished = s.finished; lawful = s.lawful })

pub leaving-stands : (old new : Book) (h : Feed) (n m : ℕ) (r : Result Unit Absent) → OnOk r (Takes old new (Leave m)) → OnErr r (Keeps old new)
    → ((c : Core) → Stands old c → IsErr r ↔ (list_any (λ l. l.spec.member == m) (listeners g726 c.feed) ≡ false)) → HandedAll old h n → HandedAll new (leaving m h) n
leaving-stands old new h n m r takes keeps absent (s, all, even) =
    let P : Feed → Type 0 = λ f. (n ≡ closes f) × (collects f ≡ closes f) in
    let (all', even') = cond_both (list_any (λ l. l.spec.member == m) (listeners g726 h)) (Leave m ∷ h) h P (λ t. (all, even)) (λ t. (all, even)) in
    (left-at old new h m r takes keeps absent s, all', even')

-- what was collected is forgotten
pub cut-stands : (old new : Book) (h : Feed) (n : ℕ) → Takes old new Cut → HandedAll old h n → HandedAll new (Cut ∷ h) n
cut-stands old new h n takes (s, all, even) =
    let t = takes s.core s.stands in (
      record {
        core = appended s.core Cut;
        stands = took new s.core Cut t.0 t.1;
        feed = ap (λ f. Cut ∷ f) s.feed;
        finished = s.finished;
        lawful = s.lawful;
      },
      all,
      even,
    )

-- it may be
pub can-cut : (b : Book) (h : Feed) (n : ℕ) → HandedAll b h n → may_follow g726 h Cut ≡ true → CanCut b
can-cut b h n (s, all, even) may = (s.core, s.stands, ap (λ f. may_follow g726 f Cut) s.feed ∙ may)

-- ---- packets ----

in-flat_map : {X Y : Type 0} (f : X → List Y) (xs : List X) (y : Y) → In y (flat_map f xs) → (x : X) × In x xs × In y (f x)
in-flat_map f [] y i = absurd i
in-flat_map f (x ∷ xs) y i =
    elim (in-append_cases y (f x) (flat_map f xs) i) [
      | inl a ↦ (x, inl refl, a)
      | inr b ↦ let r = in-flat_map f xs y b in (r.0, inr r.1, r.2)
    ]

-- a listener's packets have the payload type that it asked for
asked-for : (k : ℕ) (l : Listener) (p : Packet) → In p (packets_at g726 k l) → p.head.pt ≡ l.spec.pt
asked-for k l p i =
    let a = in-map_cases (λ (s : Sending). s.packet) p (filter (λ (s : Sending). s.tick == k) (packets g726 l)) i in
    let b = in-filter_parts (λ (s : Sending). s.tick == k) a.0 (packets g726 l) a.1 in
    let c = in-map_cases (ith_packet g726 l) a.0 _ b.0 in
    ap (λ (q : Packet). q.head.pt) (sym a.2) ∙ ap (λ (s : Sending). s.packet.head.pt) (sym c.2)

-- so each packet of a tick may be sent
pub sent-sendable : (k : ℕ) (h : Feed) → All (λ g. g.listener.spec.pt ≤ 127) (guests g726 h) → IsSendable (sent g726 k h)
sent-sendable k h lawful = all-of (λ (p : Packet). p.head.pt ≤ 127) (sent g726 k h) (λ p i.
    let at = in-flat_map (λ (g : Guest). packets_at g726 k g.listener) (guests g726 h) p i in
    let asked : at.0.listener.spec.pt ≤ 127 = all-at (λ (g : Guest). g.listener.spec.pt ≤ 127) at.0 (guests g726 h) lawful at.1 in
    let same : p.head.pt ≡ at.0.listener.spec.pt = asked-for k at.0.listener p at.2 in
    omega arith)

-- ---- a tick ----

abbrev pub closed : Core → Tick → Core
closed c tick = with_reached g726 (appended c (Close tick))

pub closed-whole : (old new : Book) (h : Feed) (tick : Tick) → collects h ≡ closes h → Takes old new (Close tick)
    → (s : StandsFor old h) → Stands new (closed s.core tick) × IsWhole (closed s.core tick)
closed-whole old new h tick even takes s =
    let t = takes s.core s.stands in
    let st = took new s.core (Close tick) t.0 t.1 in
    let at : collects s.core.feed ≡ closes s.core.feed = subst (λ (f : Feed). collects f ≡ closes f) (sym s.feed) even in
    (st, close-whole s.core tick at s.finished)

-- once all its runs are made, the tick can be handed out
pub made-over : (old new : Book) (h : Feed) (tick : Tick) → collects h ≡ closes h → (s : StandsFor old h) → (m : HasRun 0 (closed s.core tick) new)
    → (m.core.feed ≡ Close tick ∷ h) × All (λ r. is_finished r.stage ≡ true) m.core.runs × (accepts g726 m.core Collect ≡ true)
made-over old new h tick even s m =
    let feed : m.core.feed ≡ Close tick ∷ h = m.feed ∙ ap (λ (f : Feed). Close tick ∷ f) s.feed in
    let next_is : collects (Close tick ∷ h) < closes (Close tick ∷ h) = omega arith in
    let fin = all-finished m.core.runs m.whole.none_out m.left in
    (feed, fin, whole-over m.core m.whole fin (subst (λ (f : Feed). collects f < closes f) (sym feed) next_is))

-- it is closed, its runs are made, and its packets are handed out
pub encoded : (old b b' new : Book) (h : Feed) (tick : Tick) (p : Sent) → collects h ≡ closes h → Takes old b (Close tick)
    → ((c : Core) → Stands b c → IsWhole c → HasRun 0 c b') → ((c : Core) → Stands b' c → Collects (Ok p) new c)
    → StandsFor old h → (p.packets ≡ sent g726 (closes h) (Close tick ∷ h)) × StandsFor new (Collect ∷ Close tick ∷ h)
encoded old b b' new h tick p even takes runs hands s =
    let w = closed-whole old b h tick even takes s in
    let m = runs (closed s.core tick) w.0 w.1 in
    let o = made-over old b' h tick even s m in
    let k = hands m.core m.stands in (
      k.2 ∙ ap (λ (f : Feed). sent g726 (collects f) f) o.0 ∙ ap (λ (n : ℕ). sent g726 n (Close tick ∷ h)) even,
      record {
        core = entered g726 m.core Collect;
        stands = took new m.core Collect o.2 k.3;
        feed = ap (λ (f : Feed). Collect ∷ f) o.0;
        finished = All-filter (λ r. not (r.task.tick == collects m.core.feed)) (λ r. is_finished r.stage ≡ true) m.core.runs o.1;
        lawful = All-map (λ (g : Guest). g.listener.spec.pt ≤ 127) (stays tick) (guests g726 h) (stayed-lawful tick (guests g726 h) s.lawful);
      },
    )

-- the tick is all that is handed out
pub handed : (old b b' new : Book) (h : Feed) (n : ℕ) (tick : Tick) (p : Sent) (ticks : List Sent) → Takes old b (Close tick)
    → ((c : Core) → Stands b c → IsWhole c → HasRun 0 c b') → ((c : Core) → Stands b' c → Collects (Ok p) new c) → HandedAll old h n → ticks ≡ p ∷ []
    → (map (λ (t : Sent). t.packets) ticks ≡ sent_from n (length ticks) (Close tick ∷ h))
    × (n + length ticks ≤ closes h + 1) × HandedAll new (Collect ∷ Close tick ∷ h) (n + length ticks)
handed old b b' new h n tick p ticks takes runs hands (s, all, even) one =
    let e = encoded old b b' new h tick p even takes runs hands s in
    let len : length ticks ≡ 1 = ap (λ (ts : List Sent). length ts) one in
    let at : p.packets ≡ sent g726 n (Close tick ∷ h) = e.0 ∙ ap (λ (k : ℕ). sent g726 k (Close tick ∷ h)) (sym all) in (
      subst (λ (ts : List Sent). map (λ (t : Sent). t.packets) ts ≡ sent_from n (length ts) (Close tick ∷ h)) (sym one) (ap (λ (ps : List Packet). ps ∷ []) at),
      omega arith,
      (e.1, omega arith, omega arith),
    )

-- and may be sent
pub handed-sendable : (old b b' new : Book) (h : Feed) (tick : Tick) (p : Sent) (ticks : List Sent) → collects h ≡ closes h → Takes old b (Close tick)
    → ((c : Core) → Stands b c → IsWhole c → HasRun 0 c b') → ((c : Core) → Stands b' c → Collects (Ok p) new c) → StandsFor old h → ticks ≡ p ∷ []
    → All (λ (t : Sent). IsSendable t.packets) ticks
handed-sendable old b b' new h tick p ticks even takes runs hands s one =
    let e = encoded old b b' new h tick p even takes runs hands s in
    let here : IsSendable p.packets = subst IsSendable (sym e.0) (sent-sendable (closes h) (Close tick ∷ h) e.1.lawful) in
    let P : Sent → Type 0 = λ t. IsSendable t.packets in
    subst (All P) (sym one) (all-of P (p ∷ []) (λ t i. elim i [ inl same ↦ subst P same here | inr none ↦ absurd none ]))
