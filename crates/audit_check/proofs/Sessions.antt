-- What an audit is given, and how its call ends.
use Rattle.std.proofs.Common.{◌≡◌, ◌≢◌, ◌∙◌, ℕ, ◌≤◌, ◌⊎◌, ⊎_elim, inl, inr, List, length, refl, sym, ap, subst}
use Rattle.std.specs.Prelude.{Option, Some, None, Result, Ok, Err, IfOk, IfSome}
use Rattle.edge_io.specs.File.{File, untold, missing, content}
use Rattle.roster_text.specs.Roster.{Told, Fault, roster}
use Rattle.desk_run.specs.Whole.{Given, TakesPart}
use Rattle.audit_check.specs.declared.status.AuditStatus.{AuditStatus}
use Rattle.audit_check.specs.declared.status.AuditStatus.TheVariants.{Yes, No, Usage, RosterFault, RosterLong, OutLong, DumpFault, ReadFault, WriteFault, Memory}
use Rattle.audit_check.specs.declared.compare.Difference.{Difference}
use Rattle.session_edge.specs.Given.{IfContent, IfRoster as IfFile}
use Rattle.audit_check.specs.Given.{IfRead, IfAudit, given_by}
use Rattle.audit_check.specs.Sendings.{sendings, answer_of}
use Rattle.audit_check.specs.Difference.{Judges, first_difference}
use Rattle.audit_check.specs.Causes.{IsVerdict, IsOutputEnd, verdict_of}
use Rattle.audit_check.specs.Ends.{Finds, CallFinds, IsRight, answer, fault_met}
use Rattle.audit_check.proofs.Whole.{whole-answer}

-- what follows for each session and octets that are told
file-with : (name : Option (List ℕ)) (file : List ℕ → File) (P Q : List ℕ → Type 0) → ((text : List ℕ) → P text → Q text) → IfFile name file P → IfFile name file Q
file-with None file P Q f h = tt
file-with (Some n) file P Q f h = by-file (file n) h
  where
    by-file : (c : File) → IfContent c P → IfContent c Q
    by-file untold h = tt
    by-file missing h = tt
    by-file (content text) h = f text h

some-with : (o : Option (List ℕ)) (P Q : List ℕ → Type 0) → ((x : List ℕ) → P x → Q x) → IfSome o P → IfSome o Q
some-with None P Q f h = tt
some-with (Some x) P Q f h = f x h

ok-of : (r : Result Told Fault) (P Q : Told → Type 0) → ((told : Told) → P told → Q told) → IfOk r P → IfOk r Q
ok-of (Ok told) P Q f h = f told h
ok-of (Err fault) P Q f h = tt

pub audit-with : (name other : Option (List ℕ)) (file : List ℕ → File) (dump : Option (List ℕ)) (P Q : Given → List ℕ → Type 0)
    → ((given : Given) (out : List ℕ) → P given out → Q given out) → IfAudit name other file dump P → IfAudit name other file dump Q
audit-with name other file dump P Q f h =
    let told-P : Told → Type 0 = λ told. IfFile other file (λ out. length out ≤ 1073741824 → IfSome dump (λ bytes. P (given_by told bytes) out)) in
    let told-Q : Told → Type 0 = λ told. IfFile other file (λ out. length out ≤ 1073741824 → IfSome dump (λ bytes. Q (given_by told bytes) out)) in
    file-with name file (λ text. length text ≤ 1048576 → IfOk (roster text) told-P) (λ text. length text ≤ 1048576 → IfOk (roster text) told-Q)
    (λ text p short. ok-of (roster text) told-P told-Q (λ told q. file-with other file
    (λ out. length out ≤ 1073741824 → IfSome dump (λ bytes. P (given_by told bytes) out)) (λ out. length out ≤ 1073741824 → IfSome dump (λ bytes. Q (given_by told bytes) out))
    (λ out r few. some-with dump (λ bytes. P (given_by told bytes) out) (λ bytes. Q (given_by told bytes) out) (λ bytes. f (given_by told bytes) out) (r few)) q) (p short)) h

-- a verdict that was found
module _ (given : Given) (out : List ℕ) (left : Option (List ℕ)) where
  right : (d : Option Difference) → Finds given out left (Ok d) → IsRight given out (verdict_of d)
  right None (none, part, judged) = judged ∙ whole-answer given none
  right (Some d) (none, part, (other, is)) = (λ e. other (e ∙ sym (whole-answer given none)), is)

  said : (d : Option Difference) → Finds given out left (Ok d) → CallFinds given out left (verdict_of d)
  said None h = (h.0, h.1, right None h)
  said (Some d) h = (h.0, h.1, right (Some d) h)

  module _ (d : Option Difference) (verdict result : AuditStatus) (is : verdict ≡ verdict_of d) (same : IsVerdict result → result ≡ verdict)
      (ends : IsVerdict result ⊎ IsOutputEnd result) (found : Finds given out left (Ok d)) where
    of-output : (r : AuditStatus) → IsOutputEnd r → CallFinds given out left r
    of-output WriteFault h = tt
    of-output Memory h = tt
    of-output Yes h = absurd h
    of-output (No at part place) h = absurd h
    of-output Usage h = absurd h
    of-output (RosterFault line kind) h = absurd h
    of-output RosterLong h = absurd h
    of-output OutLong h = absurd h
    of-output (DumpFault at kind) h = absurd h
    of-output ReadFault h = absurd h

    -- the call ends with it, or as writing its line ended
    pub call-finds : CallFinds given out left result
    call-finds = ⊎_elim
        (λ v. subst (λ (r : AuditStatus). CallFinds given out left r) (sym (same v ∙ is)) (said d found))
        (λ o. of-output result o) ends

    -- it is right, or couldn't be written
    pub call-right : {A B C : Type 0} → (result ≡ WriteFault → C) → IsRight given out result ⊎ (result ≡ Memory) ⊎ A ⊎ B ⊎ C
    call-right {A} {B} {C} write = ⊎_elim
        (λ v. inl (subst (λ (r : AuditStatus). IsRight given out r) (sym (same v ∙ is)) (right d found)))
        (λ o. by-end result refl o) ends
      where
        by-end : (r : AuditStatus) → result ≡ r → IsOutputEnd r → IsRight given out result ⊎ (result ≡ Memory) ⊎ A ⊎ B ⊎ C
        by-end WriteFault e h = inr (inr (inr (inr (write e))))
        by-end Memory e h = inr (inl e)
        by-end Yes e h = absurd h
        by-end (No at part place) e h = absurd h
        by-end Usage e h = absurd h
        by-end (RosterFault line kind) e h = absurd h
        by-end RosterLong e h = absurd h
        by-end OutLong e h = absurd h
        by-end (DumpFault at kind) e h = absurd h
        by-end ReadFault e h = absurd h
