-- What joins, runs and whole ticks do to the core that a Book stands for.
use Rattle.std.proofs.Common.{◌≡◌, ℕ, ◌+◌, ◌*◌, ◌≤◌, true, [], ◌∷◌, length, refl, sym, ◌∙◌, ap, subst, arith, length-append}
use Rattle.std.specs.Prelude.{◌==◌, Option, Some, None, Result, Ok, Err, IfOk}
use Rattle.std.proofs.lemmas.Bool.{cond_both, cond-true, eq-eqb}
use Rattle.talk_mix.specs.declared.ticks.Tick.{Tick}
use Rattle.conference_spec.specs.declared.Entry.TheVariants.{Join, Close, Collect, Cut}
use Rattle.conference_spec.specs.declared.JoinSpec.{JoinSpec}
use Rattle.conference_spec.specs.declared.Task.{Task}
use Rattle.conference_spec.specs.declared.Stage.TheVariants.{Finished}
use Rattle.conference_spec.specs.Codec.{g726}
use Rattle.conference_spec.specs.Feed.{Feed, listeners, begins, hears, closes, collects, ended}
use Rattle.conference_spec.specs.Packets.{sent}
use Rattle.conference_spec.specs.Machine.{Run, Core, Enters, Publish, Claim, accepts, appended, entered, next, claimed, with_stage, with_reached, holds_out, next_waiting}
use Rattle.conference_spec.proofs.Events.{length-map}
use Rattle.tick_core.specs.declared.book.Book.{Book}
use Rattle.tick_core.specs.Held.{Held, Sent}
use Rattle.conference_spec.specs.Kept.{Holds}
use Rattle.tick_core.specs.declared.jobs.Claim.TheVariants.{Job}
use Rattle.tick_core.specs.Standing.{Stands, Takes, Collects, IsKnown, Claims, Publishes}
use Rattle.tick_core.proofs.Bounds.{few-listeners}
use Rattle.bench_book.proofs.Crowds.{sent-newest}
use Rattle.bench_book.specs.Ticks.{IsCrowd, IsSettled, StandsSettled, crowd, Grows, GoesOn, KeepsFeed}

-- ---- runs ----

pub record IsLike (c c' : Core) : Type 0 where
  pub feed : c'.feed ≡ c.feed
  pub issued : c.issued ≤ c'.issued

claimed-like : (c : Core) (r : Option Run) → IsLike c (claimed c r)
claimed-like c None = record { feed = refl; issued = omega arith }
claimed-like c (Some r) = record { feed = refl; issued = omega arith }

pub claim-like : (c : Core) → IsLike c (next g726 c Claim)
claim-like c = claimed-like c (next_waiting c.runs)

pub publish-like : (c : Core) (n : ℕ) (x : Task) → IsLike c (next g726 c (Publish n x))
publish-like c n x =
    cond_both (holds_out g726 c.runs n x) (with_reached g726 (with_stage c n Finished)) c (IsLike c)
    (λ t. record { feed = refl; issued = omega arith })
    (λ t. record { feed = refl; issued = omega arith })

pub keeps-refl : (b : Book) → KeepsFeed b b
keeps-refl b = λ c s. (c, s, refl, omega arith)

pub keeps-on : (b b' b'' : Book) → KeepsFeed b b' → KeepsFeed b' b'' → KeepsFeed b b''
keeps-on b b' b'' k l = λ c s.
    let p = k c s in
    let q = l p.0 p.1 in
    let i = p.3 in
    let j = q.3 in
    (q.0, q.1, q.2 ∙ p.2, omega arith)

pub keeps-known : (b b' : Book) → IsKnown b → KeepsFeed b b' → IsKnown b'
keeps-known b b' k f = let p = f k.0 k.1 in (p.0, p.1)

-- ---- joins ----

pub join-goes : (b b' : Book) (spec : JoinSpec) → spec.ticks ≡ 1 → Takes b b' (Join spec) → GoesOn 1 0 b b'
join-goes b b' spec one takes = λ c s u.
    let t = takes c s in
    let e = cond-true (accepts g726 c (Join spec)) (entered g726 c (Join spec)) c t.0 in
    let feed : (next g726 c (Enters (Join spec))).feed ≡ Join spec ∷ c.feed = ap (λ (d : Core). d.feed) e in
    let issued : (next g726 c (Enters (Join spec))).issued ≡ c.issued = ap (λ (d : Core). d.issued) e in
    let k : closes (next g726 c (Enters (Join spec))).feed ≡ closes c.feed = ap closes feed in
    let g : collects (next g726 c (Enters (Join spec))).feed ≡ collects c.feed = ap collects feed in
    let n = length-append (listeners g726 c.feed) (begins g726 spec (closes c.feed) ∷ []) in (
      next g726 c (Enters (Join spec)),
      t.1,
      record {
        settled = record { open' = ap ended feed ∙ u.open'; collected = g ∙ u.collected ∙ sym k; all = subst IsCrowd (sym feed) (one, u.all) };
        crowd' = ap (λ (h : Feed). length (listeners g726 h)) feed ∙ n;
        ticks = omega arith;
        issued = omega arith;
      },
    )

-- ---- ticks ----

pub record TickDone (n : ℕ) (b' : Book) (c : Core) : Type 0 where
  pub packets : n ≡ crowd c
  pub core : Core
  pub stands : Stands b' core
  pub grows : Grows 0 1 c core

pub tick-done : (b b' b'' b''' : Book) (tick : Tick) (p : Sent) → Takes b b' (Close tick) → KeepsFeed b' b''
    → ((c : Core) → Stands b'' c → Collects (Ok p) b''' c) → (c : Core) → Stands b c → IsSettled c → TickDone (length p.packets) b''' c
tick-done b b' b'' b''' tick p takes keeps collects' c s u =
    let t = takes c s in
    let c' = next g726 c (Enters (Close tick)) in
    let e = cond-true (accepts g726 c (Close tick)) (entered g726 c (Close tick)) c t.0 in
    let feed : c'.feed ≡ Close tick ∷ c.feed = ap (λ (d : Core). d.feed) e in
    let issued : c.issued ≤ c'.issued = let i = ap (λ (d : Core). d.issued) e in omega (arith, i) in
    let k = keeps c' t.1 in
    let c'' = k.0 in
    let feed' : c''.feed ≡ Close tick ∷ c.feed = k.2 ∙ feed in
    let l = collects' c'' k.1 in
    let c''' = next g726 c'' (Enters Collect) in
    let e' = cond-true (accepts g726 c'' Collect) (entered g726 c'' Collect) c'' l.0 in
    let feed'' : c'''.feed ≡ Collect ∷ Close tick ∷ c.feed = ap (λ (d : Core). d.feed) e' ∙ ap (λ (h : Feed). Collect ∷ h) feed' in
    let issued' : c'''.issued ≡ c''.issued = ap (λ (d : Core). d.issued) e' in
    let i = k.3 in
    let closed : closes c'''.feed ≡ closes c.feed + 1 = ap closes feed'' in
    let collected : collects c'''.feed ≡ collects c.feed + 1 = ap collects feed'' in
    let sent' : p.packets ≡ sent g726 (collects c.feed) (Close tick ∷ c.feed) = l.2 ∙ ap (λ (h : Feed). sent g726 (collects h) h) feed' in
    let was = u.collected in
    record {
      packets = ap length sent' ∙ sent-newest tick c.feed (collects c.feed) u.collected u.all;
      core = c''';
      stands = l.3;
      grows = record {
        settled = record { open' = ap ended feed'' ∙ u.open'; collected = omega (arith, closed, collected, was); all = subst IsCrowd (sym feed'') u.all };
        crowd' = let n = ap (λ (h : Feed). length (listeners g726 h)) feed'' ∙ length-map (hears tick) (listeners g726 c.feed) in omega (arith, n);
        ticks = closed;
        issued = omega (arith, issued, i, issued');
      };
    }

-- ---- one after another ----

pub goes-join : (n k : ℕ) (b b' b'' : Book) → GoesOn n k b b' → GoesOn 1 0 b' b'' → GoesOn (n + 1) k b b''
goes-join n k b b' b'' f g = λ c s u.
    let p = f c s u in
    let q = g p.0 p.1 p.2.settled in (
      q.0,
      q.1,
      record {
        settled = q.2.settled;
        crowd' = omega (arith, p.2.crowd', q.2.crowd');
        ticks = omega (arith, p.2.ticks, q.2.ticks);
        issued = omega (arith, p.2.issued, q.2.issued);
      },
    )

pub goes-tick : (n k : ℕ) (b b' b'' : Book) → GoesOn n k b b' → GoesOn 0 1 b' b'' → GoesOn n (k + 1) b b''
goes-tick n k b b' b'' f g = λ c s u.
    let p = f c s u in
    let q = g p.0 p.1 p.2.settled in (
      q.0,
      q.1,
      record {
        settled = q.2.settled;
        crowd' = omega (arith, p.2.crowd', q.2.crowd');
        ticks = omega (arith, p.2.ticks, q.2.ticks);
        issued = omega (arith, p.2.issued, q.2.issued);
      },
    )

-- a cut leaves who listens and how many ticks were closed
pub goes-cut : (b b' : Book) → Takes b b' Cut → GoesOn 0 0 b b'
goes-cut b b' t = λ c s u.
    let k = t c s in
    let e : appended c Cut ≡ next g726 c (Enters Cut) = sym (cond-true (accepts g726 c Cut) (appended c Cut) c k.0) in (
      appended c Cut,
      subst (Stands b') (sym e) k.1,
      record {
        settled = record { open' = u.open'; collected = u.collected; all = u.all };
        crowd' = omega arith;
        ticks = omega arith;
        issued = omega arith;
      },
    )

pub goes-still : (n k : ℕ) (b b' b'' : Book) → GoesOn n k b b' → GoesOn 0 0 b' b'' → GoesOn n k b b''
goes-still n k b b' b'' f g = λ c s u.
    let p = f c s u in
    let q = g p.0 p.1 p.2.settled in (
      q.0,
      q.1,
      record {
        settled = q.2.settled;
        crowd' = omega (arith, p.2.crowd', q.2.crowd');
        ticks = omega (arith, p.2.ticks, q.2.ticks);
        issued = omega (arith, p.2.issued, q.2.issued);
      },
    )

pub goes-refl : (b : Book) → GoesOn 0 0 b b
goes-refl b = λ c s u. (c, s, record { settled = u; crowd' = omega arith; ticks = omega arith; issued = omega arith })

pub goes-settled : (n k : ℕ) (b b' : Book) → StandsSettled b → GoesOn n k b b' → StandsSettled b'
goes-settled n k b b' s f = let p = f s.0 s.1 s.2 in (p.0, p.1, p.2.settled)

-- ---- a claim and its result ----

pub claimed-known : (b b' : Book) (j : Held) → IsKnown b → ((c : Core) → Stands b c → Claims (Job j) b' c) → IsKnown b'
claimed-known b b' j s f = let p = f s.0 s.1 in (next g726 s.0 Claim, p.3)

pub run-keeps : (b b' b'' : Book) (j : Held) → ((c : Core) → Stands b c → Claims (Job j) b' c)
    → ((c : Core) → Stands b' c → Publishes j (Ok tt) b'' c) → KeepsFeed b b''
run-keeps b b' b'' j claims publishes = λ c s.
    let p = claims c s in
    let a = claim-like c in
    let q = publishes (next g726 c Claim) p.3 in
    let d = publish-like (next g726 c Claim) j.number j.task in
    let i = a.issued in
    let k = d.issued in
    (next g726 (next g726 c Claim) (Publish j.number j.task), q.1, d.feed ∙ a.feed, omega (arith, i, k))

pub few-listen : (c : Core) → Holds g726 c → crowd c ≤ 1024
few-listen c h = few-listeners g726 c.feed h.legal

pub one-more : (p q k n : ℕ) → p ≡ k * n → q ≡ n → p + q ≡ (k + 1) * n
one-more p q k n a b = omega (arith, a, b)

pub if-ok : {X Y : Type 0} (P Q : X → Type 0) (r : Result X Y) → ((x : X) → P x → Q x) → IfOk r P → IfOk r Q
if-ok P Q (Ok x) f h = f x h
if-ok P Q (Err e) f h = tt
