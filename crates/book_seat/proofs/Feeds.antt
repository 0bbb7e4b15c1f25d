-- What each step does to the feed.
use Rattle.std.proofs.Common.{◌≡◌, ℕ, ◌+◌, ◌≤◌, inl, inr, true, false, [], ◌∷◌, length, true≢false, refl, sym, ◌∙◌, ap, arith}
use Rattle.std.specs.Prelude.{Result, Ok, Err, Option, Some, None}
use Rattle.std.proofs.lemmas.Bool.{cases_Bool, cond-true, cond-false}
use Rattle.talk_mix.specs.declared.ticks.Tick.{Tick}
use Rattle.conference_spec.specs.declared.JoinSpec.{JoinSpec}
use Rattle.conference_spec.specs.declared.Entry.{Entry}
use Rattle.conference_spec.specs.declared.Entry.TheVariants.{Join, Leave, Close, Collect, Cut, End}
use Rattle.conference_spec.specs.declared.Stage.TheVariants.{Waiting, Finished}
use Rattle.conference_spec.specs.Codec.{g726}
use Rattle.conference_spec.specs.Feed.{Feed}
use Rattle.conference_spec.specs.Machine.{Core, Run, Enters, next, accepts, entered, claimed, next_waiting, holds_out, with_stage, with_reached}
use Rattle.book_lock.specs.declared.view.View.{View}
use Rattle.book_lock.specs.Histories.{GoesOn}
use Rattle.tick_core.specs.declared.jobs.Claim.{Claim}
use Rattle.tick_core.specs.declared.jobs.Claim.TheVariants.{Job, Idle, Over}
use Rattle.tick_core.specs.declared.faults.JoinFault.{JoinFault}
use Rattle.tick_core.specs.declared.faults.CloseFault.{CloseFault}
use Rattle.tick_core.specs.declared.faults.Absent.{Absent}
use Rattle.tick_core.specs.declared.faults.NotYet.{NotYet}
use Rattle.tick_core.specs.Held.{Held, Sent}
use Rattle.tick_core.specs.Locking.{Parts}
use Rattle.book_seat.specs.Steps.{TakesOr, JoinGives, LeaveGives, CloseGives, CollectGives, CutGives, EndGives, ClosedGives, CollectedGives, KeptGives, IssuedGives, ClaimGives, PublishGives, BackGives}

-- a feed is what it was, or has one entry more where the pass is the desk's
pub record Adds (v : View Entry Parts) (h h' : Feed) : Type 0 where
  pub goes : GoesOn h h'
  pub few : length h' ≤ length h + 1
  pub read : v.desk ≡ false → h' ≡ h

pub same-adds : (v : View Entry Parts) (h h' : Feed) → h' ≡ h → Adds v h h'
same-adds v h h' e = record { goes = record { since = []; grown = e }; few = (let l = ap length e in omega arith); read = λ r. e }

pub one-adds : (v : View Entry Parts) (h h' : Feed) (e : Entry) → v.desk ≡ true → h' ≡ e ∷ h → Adds v h h'
one-adds v h h' e desk is = record {
  goes = record { since = e ∷ []; grown = is };
  few = (let l = ap length is in omega arith);
  read = λ r. absurd (true≢false (sym desk ∙ r));
}

-- a step adds so much to the feed
abbrev pub Appends : View Entry Parts → (Core → Core → Type 0) → Type 0
Appends v step = (c d : Core) → step c d → Adds v c.feed d.feed

-- ---- entries ----

entered-feed : (c : Core) (e : Entry) → (entered g726 c e).feed ≡ e ∷ c.feed
entered-feed c (Join spec) = refl
entered-feed c (Leave member) = refl
entered-feed c (Close tick) = refl
entered-feed c Collect = refl
entered-feed c Cut = refl
entered-feed c End = refl

pub took-feed : (c d : Core) (e : Entry) → accepts g726 c e ≡ true → d ≡ next g726 c (Enters e) → d.feed ≡ e ∷ c.feed
took-feed c d e taken is =
    ap (λ (x : Core). x.feed) (is ∙ cond-true (accepts g726 c e) (entered g726 c e) c taken) ∙ entered-feed c e

pub refused-feed : (c d : Core) (e : Entry) → accepts g726 c e ≡ false → d ≡ next g726 c (Enters e) → d.feed ≡ c.feed
refused-feed c d e refused is = ap (λ (x : Core). x.feed) (is ∙ cond-false (accepts g726 c e) (entered g726 c e) c refused)

takes-adds : {F : Type 0} (v : View Entry Parts) (e : Entry) (r : Result (Unit {0}) F) (c d : Core) → v.desk ≡ true → TakesOr e r c d → Adds v c.feed d.feed
takes-adds v e (Ok u) c d desk t = one-adds v c.feed d.feed e desk (took-feed c d e t.0 t.1)
takes-adds v e (Err f) c d desk t = same-adds v c.feed d.feed (ap (λ (x : Core). x.feed) t)

pub join-appends : (v : View Entry Parts) (spec : JoinSpec) (r : Result (Unit {0}) JoinFault) → v.desk ≡ true → Appends v (JoinGives spec r)
join-appends v spec r desk c d s = takes-adds v (Join spec) r c d desk s.takes

pub leave-appends : (v : View Entry Parts) (member : ℕ) (r : Result (Unit {0}) Absent) → v.desk ≡ true → Appends v (LeaveGives member r)
leave-appends v member r desk c d s = takes-adds v (Leave member) r c d desk s.takes

pub close-appends : (v : View Entry Parts) (tick : Tick) (r : Result (Unit {0}) CloseFault) → v.desk ≡ true → Appends v (CloseGives tick r)
close-appends v tick r desk c d s = takes-adds v (Close tick) r c d desk s.takes

pub collect-appends : (v : View Entry Parts) (r : Result Sent NotYet) → v.desk ≡ true → Appends v (CollectGives r)
collect-appends v (Ok p) desk c d s = one-adds v c.feed d.feed Collect desk (took-feed c d Collect s.0 s.3)
collect-appends v (Err e) desk c d s = same-adds v c.feed d.feed (ap (λ (x : Core). x.feed) s.1)

pub cut-appends : (v : View Entry Parts) → v.desk ≡ true → Appends v CutGives
cut-appends v desk c d s = one-adds v c.feed d.feed Cut desk (took-feed c d Cut s.0 s.1)

pub end-appends : (v : View Entry Parts) → v.desk ≡ true → Appends v EndGives
end-appends v desk c d s = elim (cases_Bool (accepts g726 c End)) [
  | inl taken ↦ one-adds v c.feed d.feed End desk (took-feed c d End taken s)
  | inr refused ↦ same-adds v c.feed d.feed (refused-feed c d End refused s)
]

pub closed-appends : (v : View Entry Parts) (n : ℕ) → Appends v (ClosedGives n)
closed-appends v n c d s = same-adds v c.feed d.feed (ap (λ (x : Core). x.feed) s.1)

pub collected-appends : (v : View Entry Parts) (n : ℕ) → Appends v (CollectedGives n)
collected-appends v n c d s = same-adds v c.feed d.feed (ap (λ (x : Core). x.feed) s.1)

pub kept-appends : (v : View Entry Parts) (n : ℕ) → Appends v (KeptGives n)
kept-appends v n c d s = same-adds v c.feed d.feed (ap (λ (x : Core). x.feed) s.1)

pub issued-appends : (v : View Entry Parts) (n : ℕ) → Appends v (IssuedGives n)
issued-appends v n c d s = same-adds v c.feed d.feed (ap (λ (x : Core). x.feed) s.1)

-- ---- runs ----

claimed-feed : (c : Core) (o : Option Run) → (claimed c o).feed ≡ c.feed
claimed-feed c None = refl
claimed-feed c (Some r) = refl

-- a worker's step leaves the feed as it was
pub claim-feed : (j : Claim) (c d : Core) → ClaimGives j c d → d.feed ≡ c.feed
claim-feed (Job j) c d s = ap (λ (x : Core). x.feed) s.3 ∙ claimed-feed c (next_waiting c.runs)
claim-feed Idle c d s = ap (λ (x : Core). x.feed) s.2
claim-feed Over c d s = ap (λ (x : Core). x.feed) s.2

pub publish-feed : (h : Held) (r : Result (Unit {0}) Held) (c d : Core) → PublishGives h r c d → d.feed ≡ c.feed
publish-feed h (Ok u) c d s =
    let new = with_reached g726 (with_stage c h.number Finished) in
    ap (λ (x : Core). x.feed) (s.1 ∙ cond-true (holds_out g726 c.runs h.number h.task) new c s.0)
publish-feed h (Err e) c d s = ap (λ (x : Core). x.feed) s.2

pub back-feed : (h : Held) (r : Result (Unit {0}) Held) (c d : Core) → BackGives h r c d → d.feed ≡ c.feed
back-feed h (Ok u) c d s =
    ap (λ (x : Core). x.feed) (s.1 ∙ cond-true (holds_out g726 c.runs h.number h.task) (with_stage c h.number Waiting) c s.0)
back-feed h (Err e) c d s = ap (λ (x : Core). x.feed) s.2

pub claim-appends : (v : View Entry Parts) (j : Claim) → Appends v (ClaimGives j)
claim-appends v j c d s = same-adds v c.feed d.feed (claim-feed j c d s)

pub publish-appends : (v : View Entry Parts) (h : Held) (r : Result (Unit {0}) Held) → Appends v (PublishGives h r)
publish-appends v h r c d s = same-adds v c.feed d.feed (publish-feed h r c d s)

pub back-appends : (v : View Entry Parts) (h : Held) (r : Result (Unit {0}) Held) → Appends v (BackGives h r)
back-appends v h r c d s = same-adds v c.feed d.feed (back-feed h r c d s)
