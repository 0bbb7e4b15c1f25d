-- What the calls of a Book say of feeds alone.
use Rattle.std.proofs.Common.{◌≡◌, ◌<◌, inl, inr, ◌∷◌, refl, sym, ◌∙◌, ap, arith}
use Rattle.std.specs.Prelude.{Result, Ok, Err, OnOk, OnErr, IfOk, nat_lt, if◌then◌else◌}
use Rattle.std.proofs.lemmas.Bool.{cases_Bool, and_parts, cond-true, cond-false, ltb-true, not_from_false, not_from_true}
use Rattle.conference_spec.specs.declared.Entry.{Entry}
use Rattle.conference_spec.specs.declared.Entry.TheVariants.{Collect, End}
use Rattle.conference_spec.specs.Codec.{g726}
use Rattle.conference_spec.specs.Feed.{Feed, closes, collects, ended}
use Rattle.conference_spec.specs.Packets.{sent}
use Rattle.conference_spec.specs.Machine.{Core, Enters, accepts, appended, entered, next, is_over}
use Rattle.tick_core.specs.declared.book.Book.{Book}
use Rattle.tick_core.specs.declared.faults.NotYet.{NotYet}
use Rattle.tick_core.specs.Held.{Sent}
use Rattle.tick_core.specs.Standing.{Stands, WentThrough, Takes, Keeps, Collects}

-- an entry that was taken stands in the feed
pub went-on : (b b' : Book) (e : Entry) → ((c : Core) → (entered g726 c e).feed ≡ e ∷ c.feed) → Takes b b' e
    → (h : Feed) → WentThrough b h → WentThrough b' (e ∷ h)
went-on b b' e grows t h w =
    let c = w.core in
    let does = t c w.stands in
    record {
      core = next g726 c (Enters e);
      stands = does.1;
      feed = ap (λ (d : Core). d.feed) (cond-true (accepts g726 c e) (entered g726 c e) c does.0) ∙ (grows c ∙ ap (λ (x : Feed). e ∷ x) w.feed);
    }

pub stayed : (b b' : Book) → Keeps b b' → (h : Feed) → WentThrough b h → WentThrough b' h
stayed b b' k h w = record { core = w.core; stands = k w.core w.stands; feed = w.feed }

pub on-ok : {A E P Q : Type 0} (r : Result A E) → (P → Q) → OnOk r P → OnOk r Q
on-ok (Ok x) f p = f p
on-ok (Err e) f p = tt

pub on-err : {A E P Q : Type 0} (r : Result A E) → (P → Q) → OnErr r P → OnErr r Q
on-err (Ok x) f p = tt
on-err (Err e) f p = f p

pub any-err : {A E P : Type 0} (r : Result A E) → P → OnErr r P
any-err (Ok x) p = tt
any-err (Err e) p = p

pub ended-once : (b b' : Book) → ((c : Core) → Stands b c → Stands b' (next g726 c (Enters End)))
    → (h : Feed) → WentThrough b h → WentThrough b' (if ended h then h else End ∷ h)
ended-once b b' t h w =
    let c = w.core in
    let same = ap ended w.feed in
    let is : (next g726 c (Enters End)).feed ≡ (if ended h then h else End ∷ h) =
    elim (cases_Bool (ended h)) [
      | inl e ↦ ap (λ (d : Core). d.feed) (cond-false (accepts g726 c End) (appended c End) c (not_from_true (ended c.feed) (same ∙ e)))
          ∙ (w.feed ∙ sym (cond-true (ended h) h (End ∷ h) e))
      | inr e ↦ ap (λ (d : Core). d.feed) (cond-true (accepts g726 c End) (appended c End) c (not_from_false (ended c.feed) (same ∙ e)))
          ∙ (ap (λ (x : Feed). End ∷ x) w.feed ∙ sym (cond-false (ended h) h (End ∷ h) e))
    ] in
    record { core = next g726 c (Enters End); stands = t c w.stands; feed = is }

-- ---- what a collect says ----

abbrev pub Collecting : Result Sent NotYet → Book → Book → Type 0
Collecting r b b' = (c : Core) → Stands b c → Collects r b' c

pub collect-tick : (r : Result Sent NotYet) (b b' : Book) → Collecting r b b' → IfOk r (λ p. (h : Feed) → WentThrough b h → p.tick ≡ collects h)
collect-tick (Ok p) b b' f = λ h w. (f w.core w.stands).1 ∙ ap collects w.feed
collect-tick (Err e) b b' f = tt

pub collect-packets : (r : Result Sent NotYet) (b b' : Book) → Collecting r b b'
    → IfOk r (λ p. (h : Feed) → WentThrough b h → p.packets ≡ sent g726 (collects h) h)
collect-packets (Ok p) b b' f = λ h w. (f w.core w.stands).2 ∙ ap (λ (x : Feed). sent g726 (collects x) x) w.feed
collect-packets (Err e) b b' f = tt

pub collect-ok : (r : Result Sent NotYet) (b b' : Book) → Collecting r b b'
    → OnOk r ((h : Feed) → WentThrough b h → (collects h < closes h) × WentThrough b' (Collect ∷ h))
collect-ok (Ok p) b b' f = λ h w.
    let c = w.core in
    let does = f c w.stands in
    let some = ltb-true (collects c.feed) (closes c.feed) (and_parts (nat_lt (collects c.feed) (closes c.feed)) (is_over g726 c.runs c.feed (collects c.feed)) does.0).0 in
    let x = ap collects w.feed in
    let y = ap closes w.feed in
    let lt : collects h < closes h = omega arith in (
      lt,
      went-on b b' Collect (λ d. refl) (λ d s. let k = f d s in (k.0, k.3)) h w,
    )
collect-ok (Err e) b b' f = tt

pub collect-err : (r : Result Sent NotYet) (b b' : Book) → Collecting r b b' → OnErr r ((h : Feed) → WentThrough b h → WentThrough b' h)
collect-err (Ok p) b b' f = tt
collect-err (Err e) b b' f = λ h w. record { core = w.core; stands = (f w.core w.stands).1; feed = w.feed }
