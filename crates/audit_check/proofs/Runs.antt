-- How the run of an audit's session ends.
use Rattle.std.proofs.Common.{◌≡◌, ◌∙◌, ℕ, ◌++◌, inl, inr, List, refl, sym, ap, subst}
use Rattle.std.specs.Prelude.{Option, Some, None, Result, Ok, Err, IfSome, IfOk, IfErr}
use Rattle.roster_text.specs.declared.commands.Timed.{Timed}
use Rattle.roster_text.specs.Roster.{Told, ticks_of}
use Rattle.rtp_dump.specs.declared.faults.DumpKind.{DumpKind}
use Rattle.conference_spec.specs.Codec.{g726}
use Rattle.conference_spec.specs.Feed.{Feed}
use Rattle.conference_spec.specs.Packets.{rest}
use Rattle.session_spec.specs.Talkers.{Events}
use Rattle.desk_run.specs.declared.stops.Stop.{Stop}
use Rattle.desk_run.specs.declared.stops.Stop.TheVariants as stop
use Rattle.desk_run.specs.Whole.{Given, Traces, HasRun, HasStopped, MeetsFault, feed_to}
use Rattle.audit_check.specs.declared.status.AuditStatus.{AuditStatus}
use Rattle.audit_check.specs.declared.status.AuditStatus.TheVariants.{DumpFault}
use Rattle.audit_check.specs.declared.compare.Difference.{Difference}
use Rattle.audit_check.specs.declared.checking.Checking.{Checking}
use Rattle.audit_check.specs.Sendings.{sendings_to, sent_in}
use Rattle.audit_check.specs.Difference.{Judges}
use Rattle.audit_check.specs.Comparing.{Checks}
use Rattle.audit_check.specs.Given.{given_by}
use Rattle.audit_check.specs.Ends.{Finds, fault_met}

abbrev pub given : List Timed → ℕ → List ℕ → Given
given plan ticks bytes = record { plan = plan; ticks = ticks; bytes = bytes }

-- said of the roster
told : (o : Option (List ℕ)) (roster : Told) (plan : List Timed) (ticks : ℕ) (out : List ℕ) (left : Option (List ℕ)) (r : Result (Option Difference) AuditStatus)
    → plan ≡ roster.timed → ticks ≡ ticks_of roster.end → IfSome o (λ bytes. Finds (given plan ticks bytes) out left r)
    → IfSome o (λ bytes. Finds (given_by roster bytes) out left r)
told o roster plan ticks out left r p t h =
    subst (λ (n : ℕ). IfSome o (λ bytes. Finds (given roster.timed n bytes) out left r)) t
    (subst (λ (cs : List Timed). IfSome o (λ bytes. Finds (given cs ticks bytes) out left r)) p h)

-- all ticks were run, and the octets were judged
pub ran-finds : (o : Option (List ℕ)) (roster : Told) (plan : List Timed) (ticks : ℕ) (out held : List ℕ) (left old new : Option (List ℕ)) (D : Events → Type 0)
    (c : Checking) (packets : ℕ) (d : Option Difference) → plan ≡ roster.timed → ticks ≡ ticks_of roster.end → held ≡ out
    → ((h : Feed) → Checks c h ticks → Judges held (sendings_to ticks h ++ sent_in ticks (rest g726 h)) d)
    → IfSome o (λ bytes. HasRun (record { plan = plan; ticks = ticks; bytes = bytes }) (record { left = left; old = old; new = new }) D (λ f. Checks c f ticks) packets)
    → IfSome o (λ bytes. Finds (given_by roster bytes) out left (Ok d))
ran-finds o roster plan ticks out held left old new D c packets d p t same judged ran = told o roster plan ticks out left (Ok d) p t (by-told o ran)
  where
    by-told : (o : Option (List ℕ))
        → IfSome o (λ bytes. HasRun (given plan ticks bytes) (record { left = left; old = old; new = new }) D (λ f. Checks c f ticks) packets)
        → IfSome o (λ bytes. Finds (given plan ticks bytes) out left (Ok d))
    by-told None ran = tt
    by-told (Some bytes) r =
        let h = feed_to (given plan ticks bytes) ticks in (
          rw (r.head, r.faultless) refl,
          r.taken,
          subst (λ (xs : List ℕ). Judges xs (sendings_to ticks h ++ sent_in ticks (rest g726 h)) d) same (judged h r.conference_stands),
        )

-- the fault that a run ended at is the one that is met
that-fault : (g : Given) (t : Traces) (at : ℕ) (kind : DumpKind) → MeetsFault g t at kind → fault_met g ≡ Some (record { at = at; kind = kind })
that-fault g t at kind (inl h) = rw h.0 refl
that-fault g t at kind (inr h) = rw (h.0, h.2) refl

pub dump-finds : (o : Option (List ℕ)) (roster : Told) (plan : List Timed) (ticks : ℕ) (out : List ℕ) (left old new : Option (List ℕ)) (at : ℕ) (kind : DumpKind)
    → plan ≡ roster.timed → ticks ≡ ticks_of roster.end
    → IfSome o (λ bytes. HasStopped (record { plan = plan; ticks = ticks; bytes = bytes }) (record { left = left; old = old; new = new }) (stop.Dump at kind))
    → IfSome o (λ bytes. Finds (given_by roster bytes) out left (Err (DumpFault at kind)))
dump-finds o roster plan ticks out left old new at kind p t stopped = told o roster plan ticks out left (Err (DumpFault at kind)) p t (by-told o stopped)
  where
    by-told : (o : Option (List ℕ)) → IfSome o (λ bytes. HasStopped (given plan ticks bytes) (record { left = left; old = old; new = new }) (stop.Dump at kind))
        → IfSome o (λ bytes. Finds (given plan ticks bytes) out left (Err (DumpFault at kind)))
    by-told None h = tt
    by-told (Some bytes) h = that-fault (given plan ticks bytes) (record { left = left; old = old; new = new }) at kind h
