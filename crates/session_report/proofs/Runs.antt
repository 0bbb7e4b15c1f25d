-- How the run of a session that is reported on ends.
use Rattle.std.proofs.Common.{◌≡◌, ◌∙◌, ◌<◌, ℕ, List, refl, sym, ap, subst}
use Rattle.std.specs.Prelude.{Option, Some, None, Result, Ok, Err, IfSome, IfOk, IfErr}
use Rattle.roster_text.specs.declared.commands.Timed.{Timed}
use Rattle.roster_text.specs.Roster.{Told, ticks_of}
use Rattle.conference_spec.specs.Feed.{Feed}
use Rattle.session_spec.specs.Talkers.{Events}
use Rattle.session_spec.specs.Events.{feed_of}
use Rattle.desk_run.specs.Whole.{Given, Traces, HasRun, Finished, events_to}
use Rattle.desk_run.proofs.Closed.{finished_all}
use Rattle.session_account.specs.Account.{Account}
use Rattle.session_account.specs.Speaking.{Spoken, spoken, silent}
use Rattle.session_report.specs.declared.status.ReportStatus.{ReportStatus}
use Rattle.session_report.specs.declared.status.ReportStatus.TheVariants.{Memory}
use Rattle.session_report.specs.Accounting.{account_of}
use Rattle.session_report.specs.Ending.{SumsUp}
use Rattle.session_report.specs.Given.{given_by}
use Rattle.session_report.specs.Ends.{Finds}

abbrev pub given : List Timed → ℕ → List ℕ → Given
given plan ticks bytes = record { plan = plan; ticks = ticks; bytes = bytes }

-- said of the roster
pub told : (o : Option (List ℕ)) (roster : Told) (plan : List Timed) (ticks : ℕ) (left : Option (List ℕ)) (r : Result Account ReportStatus)
    → plan ≡ roster.timed → ticks ≡ ticks_of roster.end → IfSome o (λ bytes. Finds (given plan ticks bytes) left r)
    → IfSome o (λ bytes. Finds (given_by roster bytes) left r)
told o roster plan ticks left r p t h =
    subst (λ (n : ℕ). IfSome o (λ bytes. Finds (given roster.timed n bytes) left r)) t
    (subst (λ (cs : List Timed). IfSome o (λ bytes. Finds (given cs ticks bytes) left r)) p h)

module _ (plan : List Timed) (start : Spoken) (from : start ≡ silent plan) (ticks packets : ℕ) (short : ticks < 4320001) (D : Events → Type 0) (B : Feed → Type 0) (a : Account)
    (sums : (h : Events) → D h → B (feed_of h) → SumsUp ticks packets start h a) where
  -- what the account says of a session is what its definitions give
  same : (bytes : List ℕ) → D (events_to (given plan ticks bytes) ticks) → B (feed_of (events_to (given plan ticks bytes) ticks))
      → {t : Traces} → Finished (given plan ticks bytes) t B a.summary → a ≡ account_of (given plan ticks bytes)
  same bytes d b f =
      let h : Events = events_to (given plan ticks bytes) ticks in
      let s = sums h d b in
      let given_is : Account = account_of (given plan ticks bytes) in
      ap (λ x. record { summary = x; arrived = a.arrived; spoken = a.spoken; listeners = a.listeners; runs = a.runs }) f.summary_is
      ∙ ap (λ x. record { summary = given_is.summary; arrived = x; spoken = a.spoken; listeners = a.listeners; runs = a.runs }) s.arrived_are
      ∙ ap (λ x. record { summary = given_is.summary; arrived = given_is.arrived; spoken = x; listeners = a.listeners; runs = a.runs }) (s.spoken_are ∙ ap (λ t. spoken t (feed_of h)) from)
      ∙ ap (λ x. record { summary = given_is.summary; arrived = given_is.arrived; spoken = given_is.spoken; listeners = x; runs = a.runs }) s.listeners_are
      ∙ ap (λ x. record { summary = given_is.summary; arrived = given_is.arrived; spoken = given_is.spoken; listeners = given_is.listeners; runs = x }) s.runs_are

  -- all ticks were run
  ran : (o left : Option (List ℕ)) → IfSome o (λ bytes. HasRun (record { plan = plan; ticks = ticks; bytes = bytes }) (record { left = left; old = None; new = None }) D B packets)
      → IfSome o (λ bytes. Finds (given plan ticks bytes) left (Ok a))
  ran o left r = by-told o r (finished_all o plan ticks left None None None D B B packets a.summary short (λ h d b. b) (λ h d b. (sums h d b).leaves) r)
    where
      by-told : (o : Option (List ℕ)) → IfSome o (λ bytes. HasRun (record { plan = plan; ticks = ticks; bytes = bytes }) (record { left = left; old = None; new = None }) D B packets)
          → IfSome o (λ bytes. Finished (record { plan = plan; ticks = ticks; bytes = bytes }) (record { left = left; old = None; new = None }) B a.summary)
          → IfSome o (λ bytes. Finds (given plan ticks bytes) left (Ok a))
      by-told None r f = tt
      by-told (Some bytes) r f = (rw (r.head, r.faultless) refl, r.taken, same bytes r.desk_stands r.conference_stands f)

-- what a session that was run comes to
pub ran-finds : (o left : Option (List ℕ)) (roster : Told) (plan : List Timed) (start : Spoken) (ticks packets : ℕ) (D : Events → Type 0) (B : Feed → Type 0)
    (result : Result Account ReportStatus) → plan ≡ roster.timed → start ≡ silent roster.timed → ticks ≡ ticks_of roster.end → ticks < 4320001
    → IfErr result (λ status. status ≡ Memory)
    → IfOk result (λ a. (h : Events) → D h → B (feed_of h) → SumsUp ticks packets start h a)
    → IfSome o (λ bytes. HasRun (record { plan = plan; ticks = ticks; bytes = bytes }) (record { left = left; old = None; new = None }) D B packets)
    → IfSome o (λ bytes. Finds (given_by roster bytes) left result)
ran-finds o left roster plan start ticks packets D B (Ok a) p v t short memory sums r =
    told o roster plan ticks left (Ok a) p t (ran plan start (v ∙ ap silent (sym p)) ticks packets short D B a sums o left r)
ran-finds o left roster plan start ticks packets D B (Err status) p v t short memory sums r = none o memory
  where
    none : (o : Option (List ℕ)) → status ≡ Memory → IfSome o (λ bytes. Finds (given_by roster bytes) left (Err status))
    none None e = tt
    none (Some bytes) e = subst (λ (s : ReportStatus). Finds (given_by roster bytes) left (Err s)) (sym e) tt
