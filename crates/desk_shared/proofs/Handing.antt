-- What becomes of a desk that hands its ticks out late, call by call.
use Rattle.std.proofs.Common.{zero, suc, ◌≡◌, ◌<◌, ◌≤◌, ◌+◌, ℕ, Bool, true, false, ◌&&◌, List, [], ◌∷◌, ◌++◌, length, map, refl, sym, ◌∙◌, ap, subst, arith, rules, inl, inr, Some, None, Result, Ok, Err, add-one, length-append}
use Rattle.std.specs.Prelude.{◌==◌, ◌↔◌, nat_lt, not, OnOk, OnErr, IsErr}
use Rattle.std.specs.List.{All, list_any}
use Rattle.std.proofs.lemmas.Bool.{cases_Bool, cond-true, cond-false, and_parts, ltb-true, not-true, false≢true}
use Rattle.std.proofs.lemmas.List.Elements.{All-append, All-cons, All-map}
use Rattle.talk_mix.specs.declared.ticks.Tick.{Tick}
use Rattle.conference_spec.specs.declared.JoinSpec.{JoinSpec}
use Rattle.conference_spec.specs.declared.Packet.{Packet}
use Rattle.conference_spec.specs.declared.Entry.TheVariants.{Join, Leave, Close, Collect, Cut, End}
use Rattle.conference_spec.specs.Codec.{g726}
use Rattle.conference_spec.specs.Feed.{Feed, Listener, Guest, closes, collects, ended, joined, kept, listeners, begins, guests, goes, stays, may_follow}
use Rattle.conference_spec.specs.Packets.{sent, rest}
use Rattle.conference_spec.specs.Tasks.{due}
use Rattle.conference_spec.proofs.Sends.{sent-stays}
use Rattle.tick_core.specs.declared.faults.Absent.{Absent}
use Rattle.tick_core.specs.Held.{Sent}
use Rattle.desk_run.specs.Handing.{leaving, sent_from, IsSendable}
use Rattle.desk_run.proofs.BookFeed.{gone-lawful, stayed-lawful, sent-sendable}
use Rattle.desk_shared.specs.Handed.{without_collects, HandedOut, Ready}
use Rattle.desk_shared.proofs.Without.{closes-without, ended-without, joined-without, kept-without, listeners-without, guests-without, sent-without, rest-without, due-without}

-- ---- two feeds that differ in their collects alone ----

module _ (own h : Feed) (same : without_collects own ≡ without_collects h) where
  pub same-closes : closes own ≡ closes h
  same-closes = sym (closes-without own) ∙ ap (λ (f : Feed). closes f) same ∙ closes-without h

  pub same-ended : ended own ≡ ended h
  same-ended = sym (ended-without own) ∙ ap (λ (f : Feed). ended f) same ∙ ended-without h

  pub same-joined : joined own ≡ joined h
  same-joined = sym (joined-without own) ∙ ap (λ (f : Feed). joined f) same ∙ joined-without h

  pub same-kept : kept own ≡ kept h
  same-kept = sym (kept-without own) ∙ ap (λ (f : Feed). kept f) same ∙ kept-without h

  pub same-listeners : listeners g726 own ≡ listeners g726 h
  same-listeners = sym (listeners-without own) ∙ ap (λ (f : Feed). listeners g726 f) same ∙ listeners-without h

  pub same-guests : guests g726 own ≡ guests g726 h
  same-guests = sym (guests-without own) ∙ ap (λ (f : Feed). guests g726 f) same ∙ guests-without h

  pub same-sent : (k : ℕ) → sent g726 k own ≡ sent g726 k h
  same-sent k = sym (sent-without k own) ∙ ap (λ (f : Feed). sent g726 k f) same ∙ sent-without k h

  pub same-rest : rest g726 own ≡ rest g726 h
  same-rest = sym (rest-without own) ∙ ap (λ (f : Feed). rest g726 f) same ∙ rest-without h

  pub same-due : due g726 own ≡ due g726 h
  same-due = sym (due-without own) ∙ ap (λ (f : Feed). due g726 f) same ∙ due-without h

-- ---- what may be asked of the desk ----

-- a join that the session's feed takes, the desk's takes
pub not-used : (own h : Feed) (spec : JoinSpec) → without_collects own ≡ without_collects h → may_follow g726 h (Join spec) ≡ true
    → list_any (λ m. m == spec.member) (joined own) ≡ false
not-used own h spec same may =
    let new = and_parts (not (list_any (λ m. m == spec.member) (joined h))) (nat_lt (length (listeners g726 h)) 1024 && not (ended h)) may in
    ap (λ ms. list_any (λ m. m == spec.member) ms) (same-joined own h same) ∙ not-true (list_any (λ m. m == spec.member) (joined h)) new.0

pub not-full : (own h : Feed) (spec : JoinSpec) → without_collects own ≡ without_collects h → may_follow g726 h (Join spec) ≡ true
    → length (listeners g726 own) < 1024
not-full own h spec same may =
    let new = and_parts (not (list_any (λ m. m == spec.member) (joined h))) (nat_lt (length (listeners g726 h)) 1024 && not (ended h)) may in
    let few = ltb-true (length (listeners g726 h)) 1024 (and_parts (nat_lt (length (listeners g726 h)) 1024) (not (ended h)) new.1).0 in
    subst (λ (ls : List Listener). length ls < 1024) (sym (same-listeners own h same)) few

-- all that was closed was handed out, so it may be forgotten
pub may-cut : (desk : Feed → Type 0) (h : Feed) (n : ℕ) → n ≡ closes h → may_follow g726 h Cut ≡ true → (o : HandedOut desk h n)
    → (closes o.own ≡ collects o.own) × (0 < kept o.own) × (ended o.own ≡ false)
may-cut desk h n all may o =
    let parts = and_parts (closes h == collects h) (nat_lt 0 (kept h) && not (ended h)) may in
    let some = ltb-true 0 (kept h) (and_parts (nat_lt 0 (kept h)) (not (ended h)) parts.1).0 in (
      same-closes o.own h o.same ∙ sym all ∙ sym o.count,
      subst (λ (k : ℕ). 0 < k) (sym (same-kept o.own h o.same)) some,
      o.open',
    )

-- ---- joins, leaves, cuts ----

module _ (old new : Feed → Type 0) where
  pub joins : (h : Feed) (n : ℕ) (spec : JoinSpec) → spec.pt ≤ 127 → ((f : Feed) → old f → new (Join spec ∷ f)) → HandedOut old h n → HandedOut new (Join spec ∷ h) n
  joins h n spec le go o = record {
    own = Join spec ∷ o.own;
    stands = go o.own o.stands;
    same = ap (λ (f : Feed). Join spec ∷ f) o.same;
    count = o.count;
    behind = o.behind;
    near = o.near;
    open' = o.open';
    lawful = All-append (λ (g : Guest). g.listener.spec.pt ≤ 127) (guests g726 h) (record { listener = begins g726 spec (closes h); left = None } ∷ []) o.lawful (search rules);
  }

  goes-on : (h : Feed) (n m : ℕ) → ((f : Feed) → old f → new (Leave m ∷ f)) → HandedOut old h n → HandedOut new (Leave m ∷ h) n
  goes-on h n m go o = record {
    own = Leave m ∷ o.own;
    stands = go o.own o.stands;
    same = ap (λ (f : Feed). Leave m ∷ f) o.same;
    count = o.count;
    behind = o.behind;
    near = o.near;
    open' = o.open';
    lawful = All-map (λ (g : Guest). g.listener.spec.pt ≤ 127) (goes m (closes h)) (guests g726 h) (gone-lawful m (closes h) (guests g726 h) o.lawful);
  }

  pub stays-so : (h : Feed) (n : ℕ) → ((f : Feed) → old f → new f) → HandedOut old h n → HandedOut new h n
  stays-so h n go o = record {
    own = o.own;
    stands = go o.own o.stands;
    same = o.same;
    count = o.count;
    behind = o.behind;
    near = o.near;
    open' = o.open';
    lawful = o.lawful;
  }

  -- a member goes where it listens
  pub goes-or-stays : (h : Feed) (n m : ℕ) (r : Result Unit Absent) → OnOk r ((f : Feed) → old f → new (Leave m ∷ f)) → OnErr r ((f : Feed) → old f → new f)
      → ((f : Feed) → old f → IsErr r ↔ (list_any (λ l. l.spec.member == m) (listeners g726 f) ≡ false)) → HandedOut old h n → HandedOut new (leaving m h) n
  goes-or-stays h n m (Ok u) go stay absent o =
      let there : Feed → Bool = λ f. list_any (λ l. l.spec.member == m) (listeners g726 f) in
      let here : there h ≡ true =
      elim (cases_Bool (there o.own)) [
        | inl t ↦ ap (λ ls. list_any (λ l. l.spec.member == m) ls) (sym (same-listeners o.own h o.same)) ∙ t
        | inr t ↦ absurd (false≢true ((absent o.own o.stands).1 t))
      ] in
      subst (λ (f : Feed). HandedOut new f n) (sym (cond-true (there h) (Leave m ∷ h) h here)) (goes-on h n m go o)
  goes-or-stays h n m (Err e) go stay absent o =
      let there : Feed → Bool = λ f. list_any (λ l. l.spec.member == m) (listeners g726 f) in
      let none : there h ≡ false = ap (λ ls. list_any (λ l. l.spec.member == m) ls) (sym (same-listeners o.own h o.same)) ∙ (absent o.own o.stands).0 refl in
      subst (λ (f : Feed). HandedOut new f n) (sym (cond-false there-h (Leave m ∷ h) h none)) (stays-so h n stay o)
    where
      there-h : Bool
      there-h = list_any (λ l. l.spec.member == m) (listeners g726 h)

  pub cuts : (h : Feed) (n : ℕ) → ((f : Feed) → old f → new (Cut ∷ f)) → HandedOut old h n → HandedOut new (Cut ∷ h) n
  cuts h n go o = record {
    own = Cut ∷ o.own;
    stands = go o.own o.stands;
    same = ap (λ (f : Feed). Cut ∷ f) o.same;
    count = o.count;
    behind = o.behind;
    near = o.near;
    open' = o.open';
    lawful = o.lawful;
  }

  -- ---- ticks are handed out ----

  pub hands : (h : Feed) (n : ℕ) → ((f : Feed) → old f → (collects f < closes f) × new (Collect ∷ f)) → HandedOut old h n
      → (n < closes h) × HandedOut new h (n + 1)
  hands h n go o =
      let went = go o.own o.stands in
      let closed = same-closes o.own h o.same in
      let lt : n < closes h = subst (λ (k : ℕ). n < k) closed (subst (λ (k : ℕ). k < closes o.own) o.count went.0) in (
        lt,
        record {
          own = Collect ∷ o.own;
          stands = went.1;
          same = o.same;
          count = ap (λ (k : ℕ). k + 1) o.count;
          behind = omega (lt, arith);
          near = let near = o.near in omega arith;
          open' = o.open';
          lawful = o.lawful;
        },
      )

pub hands-packets : (old : Feed → Type 0) (h : Feed) (n : ℕ) (packets : List Packet) → ((f : Feed) → old f → packets ≡ sent g726 (collects f) f) → HandedOut old h n
    → packets ≡ sent g726 n h
hands-packets old h n packets are o =
    are o.own o.stands ∙ ap (λ (k : ℕ). sent g726 k o.own) o.count ∙ same-sent o.own h o.same n

-- one tick more
from-more : (n c : ℕ) (h : Feed) → sent_from n (suc c) h ≡ sent_from n c h ++ sent g726 (n + c) h ∷ []
from-more n zero h =
    let e : n ≡ n + 0 = omega arith in
    ap (λ (k : ℕ). sent g726 k h ∷ []) e
from-more n (suc c) h =
    let ih = from-more (suc n) c h in
    let e : suc n + c ≡ n + suc c = omega arith in
    ap (λ (ps : List (List Packet)). sent g726 n h ∷ ps) (ih ∙ ap (λ (k : ℕ). sent_from (suc n) c h ++ sent g726 k h ∷ []) e)

pub none-ready : (desk : Feed → Type 0) (h : Feed) (n : ℕ) (ticks : List Sent) → ticks ≡ [] → HandedOut desk h n → Ready desk h n ticks
none-ready desk h n ticks none o =
    let e : n ≡ n + length ticks = subst (λ (ts : List Sent). n ≡ n + length ts) (sym none) (omega arith) in
    record {
      out = subst (λ (k : ℕ). HandedOut desk h k) e o;
      packets = subst (λ (ts : List Sent). map (λ (t : Sent). t.packets) ts ≡ sent_from n (length ts) h) (sym none) refl;
    }

pub length-more : (ticks : List Sent) (p : Sent) → length (ticks ++ p ∷ []) ≡ length ticks + 1
length-more ticks p = length-append ticks (p ∷ [])

map-more : (ticks : List Sent) (p : Sent) → map (λ (t : Sent). t.packets) (ticks ++ p ∷ []) ≡ map (λ (t : Sent). t.packets) ticks ++ p.packets ∷ []
map-more [] p = refl
map-more (t ∷ ts) p = ap (λ (ps : List (List Packet)). t.packets ∷ ps) (map-more ts p)

pub one-more : (old new : Feed → Type 0) (h : Feed) (n : ℕ) (ticks now : List Sent) (p : Sent) → now ≡ ticks ++ p ∷ []
    → ((h : Feed) (n : ℕ) → HandedOut old h n → p.packets ≡ sent g726 n h) → ((h : Feed) (n : ℕ) → HandedOut old h n → HandedOut new h (n + 1))
    → Ready old h n ticks → Ready new h n now
one-more old new h n ticks now p is are goes r =
    let len : length now ≡ suc (length ticks) = ap (λ (ts : List Sent). length ts) is ∙ length-more ticks p ∙ add-one (length ticks) in
    let e : (n + length ticks) + 1 ≡ n + length now = omega arith in
    record {
      out = subst (λ (k : ℕ). HandedOut new h k) e (goes h (n + length ticks) r.out);
      packets =
          ap (λ (ts : List Sent). map (λ (t : Sent). t.packets) ts) is ∙ map-more ticks p
          ∙ ap (λ (ps : List (List Packet)). ps ++ p.packets ∷ []) r.packets
          ∙ ap (λ (ps : List Packet). sent_from n (length ticks) h ++ ps ∷ []) (are h (n + length ticks) r.out)
          ∙ sym (from-more n (length ticks) h)
          ∙ ap (λ (c : ℕ). sent_from n c h) (sym len);
    }

-- ---- a tick is closed ----

from-stays : (n c : ℕ) (h : Feed) (tick : Tick) → n + c ≤ closes h → sent_from n c h ≡ sent_from n c (Close tick ∷ h)
from-stays n zero h tick le = refl
from-stays n (suc c) h tick le =
    let one : sent g726 n h ≡ sent g726 n (Close tick ∷ h) = sym (sent-stays g726 n (Close tick ∷ []) h (omega arith)) in
    let ih = from-stays (suc n) c h tick (omega arith) in
    ap (λ (ps : List Packet). ps ∷ sent_from (suc n) c h) one ∙ ap (λ (ps : List (List Packet)). sent g726 n (Close tick ∷ h) ∷ ps) ih

pub from-collect : (n c : ℕ) (f : Feed) → sent_from n c f ≡ sent_from n c (Collect ∷ f)
from-collect n zero f = refl
from-collect n (suc c) f = ap (λ (ps : List (List Packet)). sent g726 n f ∷ ps) (from-collect (suc n) c f)

pub closes-on : (old new : Feed → Type 0) (h : Feed) (n : ℕ) (tick : Tick) (ticks : List Sent) → closes h < n + length ticks + 64
    → ((f : Feed) → old f → new (Close tick ∷ f)) → Ready old h n ticks → Ready new (Collect ∷ Close tick ∷ h) n ticks
closes-on old new h n tick ticks room go r =
    let o = r.out in
    let behind = o.behind in
    record {
      out = record {
        own = Close tick ∷ o.own;
        stands = go o.own o.stands;
        same = ap (λ (f : Feed). Close tick ∷ f) o.same;
        count = o.count;
        behind = omega arith;
        near = omega arith;
        open' = o.open';
        lawful = All-map (λ (g : Guest). g.listener.spec.pt ≤ 127) (stays tick) (guests g726 h) (stayed-lawful tick (guests g726 h) o.lawful);
      };
      packets = r.packets ∙ from-stays n (length ticks) h tick behind ∙ from-collect n (length ticks) (Close tick ∷ h);
    }

-- ---- what is handed out may be sent ----

pub in-sendable : (desk : Feed → Type 0) (h : Feed) (n k : ℕ) (packets : List Packet) → packets ≡ sent g726 k h → HandedOut desk h n → IsSendable packets
in-sendable desk h n k packets are o = subst IsSendable (sym are) (sent-sendable k h o.lawful)

abbrev first-of : List (List Packet) → List Packet
first-of [] = []
first-of (ps ∷ more) = ps

abbrev others-of : List (List Packet) → List (List Packet)
others-of [] = []
others-of (ps ∷ more) = more

from-sendable : (n : ℕ) (h : Feed) → All (λ (g : Guest). g.listener.spec.pt ≤ 127) (guests g726 h) → (ticks : List Sent)
    → map (λ (t : Sent). t.packets) ticks ≡ sent_from n (length ticks) h → All (λ (t : Sent). IsSendable t.packets) ticks
from-sendable n h lawful [] are = λ k d lt. absurd (omega arith)
from-sendable n h lawful (t ∷ ts) are =
    let here : t.packets ≡ sent g726 n h = ap first-of are in
    let there : map (λ (t : Sent). t.packets) ts ≡ sent_from (suc n) (length ts) h = ap others-of are in
    All-cons (λ (t : Sent). IsSendable t.packets) t ts (subst IsSendable (sym here) (sent-sendable n h lawful)) (from-sendable (suc n) h lawful ts there)

pub ready-sendable : (desk : Feed → Type 0) (h : Feed) (n : ℕ) (ticks : List Sent) → Ready desk h n ticks → All (λ (t : Sent). IsSendable t.packets) ticks
ready-sendable desk h n ticks r = from-sendable n h r.out.lawful ticks r.packets
