-- What keeps the outbox and the rooms those of a feed.
use Rattle.std.proofs.Common.{◌≡◌, ℕ, ◌+◌, ◌≤◌, ◌<◌, inl, inr, Bool, ◌&&◌, cond, if◌then◌else◌, List, [], ◌∷◌, ◌++◌, length, map, refl, sym, ap, subst, arith, length-append}
use Rattle.std.specs.Prelude.{◌^◌, ◌==◌, nat_lt, vec_len, vec_capacity, is_none, Some}
use Rattle.std.specs.Global.{Vec}
use Rattle.std.specs.List.{filter, flat_map, All, AllByRecursion}
use Rattle.std.proofs.lemmas.List.Elements.{recursion_from_All}
use Rattle.std.proofs.lemmas.Bool.{cases_Bool, cond_both, cond-true, cond-false, lt-ltb}
use Rattle.g726_bits.specs.State.{CodecState}
use Rattle.talk_mix.specs.declared.ticks.Tick.{Tick}
use Rattle.conference_spec.specs.declared.Entry.TheVariants.{Join, Leave, Close, Collect, Cut, End}
use Rattle.conference_spec.specs.declared.JoinSpec.{JoinSpec}
use Rattle.conference_spec.specs.declared.Packet.{Packet}
use Rattle.conference_spec.specs.Codec.{g726}
use Rattle.conference_spec.specs.Packets.{payloads_a_packet, sent, rest}
use Rattle.conference_spec.specs.Feed.{Feed, closes, collects}
use Rattle.book_lists.specs.declared.mails.Mail.{Mail}
use Rattle.book_lists.specs.Mailing.{Mails, Turned, first_mail, mail_goes, last_of, fills, with_result, walked, turned, turned_there, still_open, leaves_after}
use Rattle.book_lists.proofs.MailingSteps.{mails-joined, mails-left, mails-closed, mails-short, mails-sent, rest-last}
use Rattle.tick_core.specs.Posting.{early, FewTicks, IsRoomFor, HasRooms, IsReady, Posts}

-- one mail's part of `early`
abbrev pub counts : ℕ → Mail → ℕ
counts k m = if nat_lt k m.from then 0 else 1

-- ---- how many mails were there ----

pub early-most : (k : ℕ) (ms : List Mail) → early k ms ≤ length ms
early-most k [] = omega arith
early-most k (m ∷ ms) =
    let ih = early-most k ms in
    elim (cases_Bool (nat_lt k m.from)) [
      | inl t ↦ (let e : counts k m ≡ 0 = cond-true (nat_lt k m.from) 0 1 t in omega arith)
      | inr t ↦ (let e : counts k m ≡ 1 = cond-false (nat_lt k m.from) 0 1 t in omega arith)
    ]

pub early-push : (k : ℕ) (ms : List Mail) (m : Mail) → early k (ms ++ m ∷ []) ≡ early k ms + counts k m
early-push k [] m = omega arith
early-push k (w ∷ ms) m = let ih = early-push k ms m in omega arith

pub early-map : (k : ℕ) (f : Mail → Mail) → ((m : Mail) → (f m).from ≡ m.from) → (ms : List Mail) → early k (map f ms) ≡ early k ms
early-map k f same [] = refl
early-map k f same (m ∷ ms) =
    let ih = early-map k f same ms in
    let e : counts k (f m) ≡ counts k m = ap (λ (n : ℕ). if nat_lt k n then 0 else 1) (same m) in
    omega arith

pub early-filter : (k : ℕ) (p : Mail → Bool) (ms : List Mail) → early k (filter p ms) ≤ early k ms
early-filter k p [] = omega arith
early-filter k p (m ∷ ms) =
    let ih = early-filter k p ms in
    elim (cases_Bool (p m)) [
      | inl t ↦ (let e = ap (early k) (cond-true (p m) (m ∷ filter p ms) (filter p ms) t) in omega arith)
      | inr t ↦ (let e = ap (early k) (cond-false (p m) (m ∷ filter p ms) (filter p ms) t) in omega arith)
    ]

-- ---- rooms ----

-- fewer mails need no more room
pub rooms-fewer : (k : ℕ) (ms ms' : List Mail) (rs : List (Vec Packet)) → ((j : ℕ) → j < k → early j ms' ≤ early j ms) → HasRooms k ms rs → HasRooms k ms' rs
rooms-fewer k ms ms' [] less h = tt
rooms-fewer k ms ms' (r ∷ rs) less h =
    let j = h.0 in
    let e = h.1 in
    let here = h.2 in
    let le = less j (omega arith) in
    let old = here.room in (
      j,
      e,
      record { none = here.none; none_len = here.none_len; room = omega arith },
      rooms-fewer j ms ms' rs (λ i lt. less i (omega arith)) h.3,
    )

-- the last room is that of the oldest tick
pub record LastRoom (k : ℕ) (ms : List Mail) (front : List (Vec Packet)) (r : Vec Packet) : Type 0 where
  pub room : (j : ℕ) → j + length front + 1 ≡ k → IsRoomFor j ms r
  pub others : HasRooms k ms front

pub last-room : (k : ℕ) (ms : List Mail) (front : List (Vec Packet)) (r : Vec Packet) → HasRooms k ms (front ++ r ∷ []) → LastRoom k ms front r
last-room k ms [] r h = record {
  room = λ j e. (let n : h.0 ≡ j = (let q = h.1 in omega arith) in subst (λ (i : ℕ). IsRoomFor i ms r) n h.2);
  others = tt;
}
last-room k ms (w ∷ front) r h =
    let ih = last-room h.0 ms front r h.3 in
    let q = h.1 in
    record { room = λ j e. ih.room j (omega arith); others = (h.0, q, h.2, ih.others) }

-- ---- how many ticks a packet carries ----

few-push : (ms : List Mail) (m : Mail) → m.spec.ticks ≤ 4 → FewTicks ms → FewTicks (ms ++ m ∷ [])
few-push [] m le f = (le, tt)
few-push (w ∷ ms) m le f = (f.0, few-push ms m le f.1)

few-map : (f : Mail → Mail) → ((m : Mail) → (f m).spec ≡ m.spec) → (ms : List Mail) → FewTicks ms → FewTicks (map f ms)
few-map f same [] few = tt
few-map f same (m ∷ ms) few = (subst (λ (s : JoinSpec). s.ticks ≤ 4) (sym (same m)) few.0, few-map f same ms few.1)

few-filter : (p : Mail → Bool) (ms : List Mail) → FewTicks ms → FewTicks (filter p ms)
few-filter p [] few = tt
few-filter p (m ∷ ms) few =
    elim (cases_Bool (p m)) [
      | inl t ↦ subst FewTicks (sym (cond-true (p m) (m ∷ filter p ms) (filter p ms) t)) (few.0, few-filter p ms few.1)
      | inr t ↦ subst FewTicks (sym (cond-false (p m) (m ∷ filter p ms) (filter p ms) t)) (few-filter p ms few.1)
    ]

goes-spec : (n k : ℕ) (m : Mail) → (mail_goes n k m).spec ≡ m.spec
goes-spec n k m = elim (cases_Bool (is_none m.left && (m.spec.member == n))) [
  | inl t ↦ ap (λ (w : Mail). w.spec) (cond-true (is_none m.left && (m.spec.member == n)) (record m { left = Some k }) m t)
  | inr t ↦ ap (λ (w : Mail). w.spec) (cond-false (is_none m.left && (m.spec.member == n)) (record m { left = Some k }) m t)
]

goes-from : (n k : ℕ) (m : Mail) → (mail_goes n k m).from ≡ m.from
goes-from n k m = elim (cases_Bool (is_none m.left && (m.spec.member == n))) [
  | inl t ↦ ap (λ (w : Mail). w.from) (cond-true (is_none m.left && (m.spec.member == n)) (record m { left = Some k }) m t)
  | inr t ↦ ap (λ (w : Mail). w.from) (cond-false (is_none m.left && (m.spec.member == n)) (record m { left = Some k }) m t)
]

-- ---- what a tick leaves of a mail ----

pub record IsSame (m m' : Mail) : Type 0 where
  pub spec : m'.spec ≡ m.spec
  pub from : m'.from ≡ m.from

same-result : (m : Mail) (r : CodecState × List ℕ) → IsSame m (with_result m r)
same-result m r =
    cond_both (fills m) (record m { sent = m.sent + 1; pending = []; state = r.0 }) (record m { pending = m.pending ++ r.1 ∷ []; state = r.0 }) (IsSame m)
    (λ t. record { spec = refl; from = refl }) (λ t. record { spec = refl; from = refl })

same-there : (m : Mail) (rs : List (CodecState × List ℕ)) → IsSame m (turned_there m rs).mail
same-there m [] = record { spec = refl; from = refl }
same-there m (r ∷ rs) = same-result m r

pub same-turned : (k : ℕ) (m : Mail) (rs : List (CodecState × List ℕ)) → IsSame m (turned k m rs).mail
same-turned k m rs =
    let P : Turned → Type 0 = λ t. IsSame m t.mail in
    let waits : Turned = record { mail = m; packets = []; results = rs } in
    let gone : Turned = record { mail = m; packets = last_of m; results = rs } in
    cond_both (nat_lt k m.from) waits (cond (leaves_after k m.left) (turned_there m rs) gone) P
    (λ t. record { spec = refl; from = refl })
    (λ t. cond_both (leaves_after k m.left) (turned_there m rs) gone P (λ t. same-there m rs) (λ t. record { spec = refl; from = refl }))

early-walked : (j k : ℕ) (ms : List Mail) (rs : List (CodecState × List ℕ)) → early j (walked k ms rs).mails ≡ early j ms
early-walked j k [] rs = refl
early-walked j k (m ∷ ms) rs =
    let t = turned k m rs in
    let ih = early-walked j k ms t.results in
    let e : counts j t.mail ≡ counts j m = ap (λ (n : ℕ). if nat_lt j n then 0 else 1) (same-turned k m rs).from in
    omega arith

few-walked : (k : ℕ) (ms : List Mail) (rs : List (CodecState × List ℕ)) → FewTicks ms → FewTicks (walked k ms rs).mails
few-walked k [] rs few = tt
few-walked k (m ∷ ms) rs few =
    (subst (λ (s : JoinSpec). s.ticks ≤ 4) (sym (same-turned k m rs).spec) few.0, few-walked k ms (turned k m rs).results few.1)

-- ---- each step ----

pub posts-same : (rs rs' : List (Vec Packet)) (ms ms' : List Mail) (h h' : Feed) → rs ≡ rs' → ms ≡ ms' → h ≡ h' → Posts rs ms h → Posts rs' ms' h'
posts-same rs rs' ms ms' h h' a b d p =
    subst (λ (g : Feed). Posts rs' ms' g) d (subst (λ (us : List Mail). Posts rs' us h) b (subst (λ (qs : List (Vec Packet)). Posts qs ms h) a p))

pub posts-begun : Posts [] [] []
posts-begun = record { mails = tt; few = tt; rooms_are = tt; as_many = omega arith }

pub posts-end : (rs : List (Vec Packet)) (ms : List Mail) (h : Feed) → Posts rs ms h → Posts rs ms (End ∷ h)
posts-end rs ms h p = record { mails = p.mails; few = p.few; rooms_are = p.rooms_are; as_many = p.as_many }

pub posts-cut : (rs : List (Vec Packet)) (ms : List Mail) (h : Feed) → Posts rs ms h → Posts rs ms (Cut ∷ h)
posts-cut rs ms h p = record { mails = p.mails; few = p.few; rooms_are = p.rooms_are; as_many = p.as_many }

first-late : (k : ℕ) (spec : JoinSpec) (j : ℕ) → j < k → counts j (first_mail g726.start spec k) ≡ 0
first-late k spec j lt = cond-true (nat_lt j k) 0 1 (lt-ltb j k lt)

pub posts-join : (rs : List (Vec Packet)) (ms : List Mail) (h : Feed) (spec : JoinSpec) → spec.ticks ≤ 4 → Posts rs ms h
    → Posts rs (ms ++ first_mail g726.start spec (closes h) ∷ []) (Join spec ∷ h)
posts-join rs ms h spec le p =
    let m = first_mail g726.start spec (closes h) in
    let n = p.as_many in
    record {
      mails = mails-joined g726 (collects h) h ms spec (omega arith) p.mails;
      few = few-push ms m le p.few;
      rooms_are = rooms-fewer (closes h) ms (ms ++ m ∷ []) rs (λ j lt. let e = early-push j ms m in let f = first-late (closes h) spec j lt in omega arith) p.rooms_are;
      as_many = p.as_many;
    }

pub posts-leave : (rs : List (Vec Packet)) (ms : List Mail) (h : Feed) (n : ℕ) → Posts rs ms h → Posts rs (map (mail_goes n (closes h)) ms) (Leave n ∷ h)
posts-leave rs ms h n p = record {
  mails = mails-left g726 (collects h) h ms n p.mails;
  few = few-map (mail_goes n (closes h)) (goes-spec n (closes h)) ms p.few;
  rooms_are = rooms-fewer (closes h) ms (map (mail_goes n (closes h)) ms) rs (λ j lt. let e = early-map j (mail_goes n (closes h)) (goes-from n (closes h)) ms in omega arith) p.rooms_are;
  as_many = p.as_many;
}

pub posts-close : (rs : List (Vec Packet)) (ms : List Mail) (h : Feed) (tick : Tick) (r : Vec Packet) → r.items ≡ [] → vec_len r ≡ 0
    → length ms ≤ vec_capacity r → Posts rs ms h → Posts (r ∷ rs) ms (Close tick ∷ h)
posts-close rs ms h tick r none len room p =
    let n = p.as_many in
    let most = early-most (closes h) ms in
    record {
      mails = mails-closed g726 (collects h) h ms tick (omega arith) p.mails;
      few = p.few;
      rooms_are = (closes h, refl, record { none = none; none_len = len; room = omega arith }, p.rooms_are);
      as_many = omega arith;
    }

pub posts-room : (front : List (Vec Packet)) (r : Vec Packet) (ms : List Mail) (h : Feed) → Posts (front ++ r ∷ []) ms h → IsRoomFor (collects h) ms r
posts-room front r ms h p =
    let n = p.as_many in
    let l = length-append front (r ∷ []) in
    (last-room (closes h) ms front r p.rooms_are).room (collects h) (omega arith)

pub posts-collect : (front : List (Vec Packet)) (r : Vec Packet) (ms : List Mail) (h : Feed) (rs : List (CodecState × List ℕ)) → Posts (front ++ r ∷ []) ms h
    → Mails g726 (collects h + 1) (Collect ∷ h) (still_open (collects h) (walked (collects h) ms rs).mails)
    → Posts front (still_open (collects h) (walked (collects h) ms rs).mails) (Collect ∷ h)
posts-collect front r ms h rs p mails =
    let k = collects h in
    let ws = (walked k ms rs).mails in
    let n = p.as_many in
    let l = length-append front (r ∷ []) in
    let last = last-room (closes h) ms front r p.rooms_are in
    record {
      mails = mails;
      few = few-filter (λ m. leaves_after k m.left) ws (few-walked k ms rs p.few);
      rooms_are = rooms-fewer (closes h) ms (still_open k ws) front (λ j lt. let a = early-filter j (λ m. leaves_after k m.left) ws in let b = early-walked j k ms rs in omega arith) last.others;
      as_many = omega arith;
    }

-- ---- what can be made of the outbox ----

pub each-ready : (k : ℕ) (ms : List Mail) → k < 2 ^ 62 → All (λ m. length m.pending < payloads_a_packet m.spec) ms → All (λ m. m.sent ≤ k) ms
    → FewTicks ms → AllByRecursion IsReady ms
each-ready k ms lt short sent few = ready ms (recursion_from_All (λ (m : Mail). length m.pending < payloads_a_packet m.spec) ms short) (recursion_from_All (λ (m : Mail). m.sent ≤ k) ms sent) few
  where
    most : (spec : JoinSpec) → spec.ticks ≤ 4 → payloads_a_packet spec ≤ 4
    most spec le = cond_both (spec.ticks == 0) 1 spec.ticks (λ n. n ≤ 4) (λ t. omega arith) (λ t. le)

    ready : (ms : List Mail) → AllByRecursion (λ m. length m.pending < payloads_a_packet m.spec) ms → AllByRecursion (λ m. m.sent ≤ k) ms → FewTicks ms → AllByRecursion IsReady ms
    ready [] a b f = tt
    ready (m ∷ ms) a b f =
        let x = a.0 in
        let y = b.0 in
        let z = most m.spec f.0 in
        (record { short = omega arith; sent = omega arith; ticks = f.0 }, ready ms a.1 b.1 f.1)

pub posts-ready : (rs : List (Vec Packet)) (ms : List Mail) (h : Feed) → collects h < 2 ^ 62 → Posts rs ms h → AllByRecursion IsReady ms
posts-ready rs ms h lt p =
    each-ready (collects h) ms lt (mails-short g726 (collects h) h ms p.mails) (mails-sent g726 (collects h) h ms p.mails) p.few

pub posts-rest : (rs : List (Vec Packet)) (ms : List Mail) (h : Feed) → collects h ≡ closes h → Posts rs ms h → flat_map last_of ms ≡ rest g726 h
posts-rest rs ms h e p = rest-last g726 h ms (subst (λ (k : ℕ). Mails g726 k h ms) e p.mails)
