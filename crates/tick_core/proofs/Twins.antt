-- What holds of the core that a Book went on as holds of each that it stands for.
use Rattle.std.proofs.Common.{◌≡◌, ℕ, Bool, true, ◌||◌, List, [], ◌∷◌, ◌++◌, length, map, refl, sym, ◌∙◌, ap, arith}
use Rattle.std.specs.Prelude.{◌==◌, Ok, None}
use Rattle.std.specs.List.{flat_map, list_any}
use Rattle.conference_spec.specs.declared.Entry.{Entry}
use Rattle.conference_spec.specs.declared.Entry.TheVariants.{Collect, Cut}
use Rattle.conference_spec.specs.declared.Task.{Task}
use Rattle.conference_spec.specs.Codec.{g726}
use Rattle.conference_spec.specs.Feed.{Listener, listeners, closes, collects, ended, kept, joined}
use Rattle.conference_spec.specs.Packets.{sent, rest}
use Rattle.conference_spec.specs.Base.{Base, IsCut, Seen, Agree, seen, added}
use Rattle.conference_spec.specs.Machine.{Core, Run, Event, Enters, accepts, begun, next, next_waiting, holds_out}
use Rattle.conference_spec.specs.Machine.{Claim as claims}
use Rattle.conference_spec.specs.Members.{Kept}
use Rattle.conference_spec.proofs.Events.{length-map}
use Rattle.conference_spec.proofs.Twins.{twins-both, twins-agree, twins-accept, twins-next, twins-kept}
use Rattle.book_lists.specs.Mailing.{last_of}
use Rattle.book_feed.specs.Logged.{closed_in, collected_in, joined_in, entries_in}
use Rattle.tick_core.specs.declared.book.Book.{Book}
use Rattle.tick_core.specs.declared.jobs.Claim.TheVariants.{Job}
use Rattle.tick_core.specs.Held.{Held, Sent}
use Rattle.tick_core.specs.Standing.{Stands, StandsOn, IsKnown, IsCollected, BeforeEnd, CanCut, Takes, Keeps, Claims, Collects}
use Rattle.tick_core.specs.Steps.{IsKnownOn, BeforeEndOn, TakesOn, KeepsOn, ClaimsOn, CollectsOn}
use Rattle.tick_core.proofs.Follows.{may-cut, may-be-cut, closed-is, collected-is, kept-is, ended-is, joined-is, entries-is}
use Rattle.tick_core.proofs.Keeping.{listeners-present, is-listener, rests-are}

-- ---- what such cores have in common ----

pub agreed : (b : Book) (c : Core) (s : Stands b c) → Agree g726 (closes s.old) s.on.feed c.feed
agreed b c s = twins-agree g726 s.old s.other s.since s.on c s.twins

pub kept-all : (b : Book) (c : Core) → Stands b c → Kept g726 c
kept-all b c s = twins-kept g726 s.old s.other s.since s.on c s.twins s.is.kept

pub closed-all : (b : Book) (c : Core) → Stands b c → closed_in b.log.feed ≡ closes c.feed
closed-all b c s = closed-is s.is.feed ∙ (agreed b c s).closed

pub collected-all : (b : Book) (c : Core) → Stands b c → collected_in b.log.feed ≡ collects c.feed
collected-all b c s = collected-is s.is.feed ∙ (agreed b c s).collected

pub since-all : (b : Book) (c : Core) → Stands b c → closes b.log.feed.since ≡ kept c.feed
since-all b c s = kept-is s.is.feed ∙ (agreed b c s).since

pub ended-all : (b : Book) (c : Core) → Stands b c → ended b.log.feed.since ≡ ended c.feed
ended-all b c s = ended-is s.is.feed ∙ (agreed b c s).over

pub joined-all : (b : Book) (c : Core) → Stands b c → joined_in b.log.feed ≡ joined c.feed
joined-all b c s = joined-is s.is.feed ∙ (agreed b c s).members

pub entries-all : (b : Book) (c : Core) → Stands b c → entries_in b.log.feed ≡ length c.feed
entries-all b c s = entries-is s.is.feed ∙ ap (λ (x : Base). x.entries) (agreed b c s).bases

pub issued-all : (b : Book) (c : Core) → Stands b c → b.queue.issued ≡ c.issued
issued-all b c s = s.is.carries.issued_is ∙ s.twins.issued

pub held-all : (b : Book) (c : Core) (s : Stands b c) (n : ℕ) (x : Task) → holds_out g726 s.on.runs n x ≡ holds_out g726 c.runs n x
held-all b c s n x = ap (λ (rs : List Run). holds_out g726 rs n x) s.twins.runs

-- who is present
pub present-all : (b : Book) (c : Core) → Stands b c → length b.present.items ≡ length (listeners g726 c.feed)
present-all b c s =
    let n = listeners-present b s.on s.is in
    let e = ap length (agreed b c s).present in
    let f = length-map (seen g726) (listeners g726 s.on.feed) in
    let g = length-map (seen g726) (listeners g726 c.feed) in
    omega arith

any-seen : (m : ℕ) (ls : List Listener) → list_any (λ x. x.spec.member == m) (map (seen g726) ls) ≡ list_any (λ l. l.spec.member == m) ls
any-seen m [] = refl
any-seen m (l ∷ ls) = ap (λ (t : Bool). (l.spec.member == m) || t) (any-seen m ls)

pub listener-all : (b : Book) (c : Core) (m : ℕ) → Stands b c
    → list_any (λ r. r.spec.member == m) b.present.items ≡ list_any (λ l. l.spec.member == m) (listeners g726 c.feed)
listener-all b c m s =
    is-listener b s.on m s.is
    ∙ sym (any-seen m (listeners g726 s.on.feed))
    ∙ ap (λ (xs : List Seen). list_any (λ x. x.spec.member == m) xs) (agreed b c s).present
    ∙ any-seen m (listeners g726 c.feed)

-- what is handed out of ticks that aren't collected
pub sent-all : (b : Book) (c : Core) (s : Stands b c) → sent g726 (collects s.on.feed) s.on.feed ≡ sent g726 (collects c.feed) c.feed
sent-all b c s =
    let both = twins-both g726 s.old s.other s.since s.on c s.twins in
    let a = agreed b c s in
    a.handed (collects s.on.feed) both.least_gone ∙ ap (λ (k : ℕ). sent g726 k c.feed) a.collected

-- ---- how a Book goes on ----

pub stands-next : (b b' : Book) (c : Core) (event : Event) (s : Stands b c) → StandsOn b' (next g726 s.on event) → Stands b' (next g726 c event)
stands-next b b' c event s is = record {
  on = next g726 s.on event;
  is = is;
  old = s.old;
  other = s.other;
  since = added g726 s.on event ++ s.since;
  twins = twins-next g726 s.old s.other s.since s.on c s.twins event;
}

nothing-cut : IsCut g726 []
nothing-cut = record { whole = refl; legal = refl }

pub begun-all : (b : Book) → StandsOn b begun → Stands b begun
begun-all b is = record {
  on = begun;
  is = is;
  old = [];
  other = [];
  since = [];
  twins = record {
    first = refl;
    second = refl;
    issued = refl;
    runs = refl;
    first_cut = nothing-cut;
    second_cut = nothing-cut;
    one_base = refl;
  };
}

pub known-on : (b : Book) → IsKnown b → IsKnownOn b
known-on b k = (k.1.on, k.1.is)

pub before-on : (b : Book) → BeforeEnd b → BeforeEndOn b
before-on b k = (k.1.on, k.1.is, (agreed b k.0 k.1).over ∙ k.2)

-- what may be cut for one core may be cut for each
pub can-cut-on : (b : Book) → CanCut b → (c : Core) → StandsOn b c → accepts g726 c Cut ≡ true
can-cut-on b k c s =
    let can = may-cut g726 k.0.feed k.2 in
    let same = can.collected in
    let more = can.some in
    let a = collected-all b k.0 k.1 in
    let d = closed-all b k.0 k.1 in
    let f = since-all b k.0 k.1 in
    let e = ended-all b k.0 k.1 in
    let x = collected-is s.feed in
    let y = closed-is s.feed in
    let z = kept-is s.feed in
    may-be-cut g726 c.feed (record { collected = omega arith; some = omega arith; open' = sym (ended-is s.feed) ∙ (e ∙ can.open') })

-- ---- each call ----

pub keeps-one : (b b' : Book) → KeepsOn b b' → Keeps b b'
keeps-one b b' k c s = record { on = s.on; is = k s.on s.is; old = s.old; other = s.other; since = s.since; twins = s.twins }

pub takes-all : (b b' : Book) (e : Entry) → TakesOn b b' e → Takes b b' e
takes-all b b' e t c s =
    let does = t s.on s.is in
    (sym (twins-accept g726 s.old s.other s.since s.on c s.twins e) ∙ does.0, stands-next b b' c (Enters e) s does.1)

pub claims-all : (b b' : Book) (j : Held) → ((c : Core) → StandsOn b c → ClaimsOn j b' c) → (c : Core) → Stands b c → Claims (Job j) b' c
claims-all b b' j t c s =
    let does = t s.on s.is in
    (does.0, ap next_waiting (sym s.twins.runs) ∙ does.1, does.2, stands-next b b' c claims s does.3)

pub idle-all : (b b' : Book) (c : Core) (s : Stands b c) (e : Bool) → (next_waiting s.on.runs ≡ None) × (ended s.on.feed ≡ e) × StandsOn b' s.on
    → (next_waiting c.runs ≡ None) × (ended c.feed ≡ e) × Stands b' c
idle-all b b' c s e k = (
  ap next_waiting (sym s.twins.runs) ∙ k.0,
  sym (agreed b c s).over ∙ k.1,
  record { on = s.on; is = k.2; old = s.old; other = s.other; since = s.since; twins = s.twins },
)

pub collects-all : (b b' : Book) (p : Sent) → ((c : Core) → StandsOn b c → CollectsOn p b' c) → (c : Core) → Stands b c → Collects (Ok p) b' c
collects-all b b' p t c s =
    let does = t s.on s.is in
    let a = agreed b c s in (
      sym (twins-accept g726 s.old s.other s.since s.on c s.twins Collect) ∙ does.0,
      does.1 ∙ a.collected,
      does.2 ∙ sent-all b c s,
      stands-next b b' c (Enters Collect) s does.3,
    )

-- where each closed tick is collected, what the outbox has left is the rest
pub rests-all : (b : Book) (c : Core) → IsCollected b → Stands b c → flat_map last_of b.outbox.items ≡ rest g726 c.feed
rests-all b c all s =
    let one = collected-all b all.0 all.1 in
    let two = closed-all b all.0 all.1 in
    let gone = collected-is s.is.feed in
    let closed = closed-is s.is.feed in
    let same = all.2 in
    rests-are b s.on (omega arith) s.is ∙ (agreed b c s).left
