-- What the Book's own calls say, as steps of the core.
use Rattle.std.proofs.Common.{refl}
use Rattle.std.specs.Prelude.{Result, Ok, Err, OnOk, OnErr}
use Rattle.conference_spec.specs.declared.Entry.{Entry}
use Rattle.conference_spec.specs.declared.Entry.TheVariants.{Collect}
use Rattle.conference_spec.specs.Codec.{g726}
use Rattle.conference_spec.specs.Machine.{Core, Enters, Publish, GiveBack, next}
use Rattle.conference_spec.specs.Machine.{Claim as claims}
use Rattle.tick_core.specs.declared.book.Book.{Book}
use Rattle.tick_core.specs.declared.jobs.Claim.{Claim}
use Rattle.tick_core.specs.declared.jobs.Claim.TheVariants.{Job, Idle, Over}
use Rattle.tick_core.specs.declared.faults.NotYet.{NotYet}
use Rattle.tick_core.specs.Held.{Held, Sent}
use Rattle.tick_core.specs.Standing.{Stands, Takes, Keeps, Claims, Publishes, GivesBack, Collects}
use Rattle.book_seat.specs.Steps.{TakesOr, CollectGives, ClaimGives, PublishGives, BackGives}
use Rattle.book_seat.specs.Taken.{Steps}

-- an entry that was taken, or refused
pub takes-step : {F : Type 0} (e : Entry) (r : Result (Unit {0}) F) (b b' : Book) (c : Core) → OnOk r (Takes b b' e) → OnErr r (Keeps b b')
    → Stands b c → (d : Core) × Stands b' d × TakesOr e r c d
takes-step e (Ok u) b b' c ok err st = let t = ok c st in (next g726 c (Enters e), t.1, (t.0, refl))
takes-step e (Err f) b b' c ok err st = (c, err c st, refl)

collect-step : (r : Result Sent NotYet) (b : Book) (c : Core) → Collects r b c → (d : Core) × Stands b d × CollectGives r c d
collect-step (Ok p) b c t = (next g726 c (Enters Collect), t.3, (t.0, t.1, t.2, refl))
collect-step (Err e) b c t = (c, t.1, (t.0, refl))

pub collect-steps : (r : Result Sent NotYet) (b b' : Book) → ((c : Core) → Stands b c → Collects r b' c) → Steps (CollectGives r) b b'
collect-steps r b b' does = record { each = λ c st. collect-step r b' c (does c st) }

claim-step : (j : Claim) (b : Book) (c : Core) → Claims j b c → (d : Core) × Stands b d × ClaimGives j c d
claim-step (Job j) b c t = (next g726 c claims, t.3, (t.0, t.1, t.2, refl))
claim-step Idle b c t = (c, t.2, (t.0, t.1, refl))
claim-step Over b c t = (c, t.2, (t.0, t.1, refl))

pub claim-steps : (j : Claim) (b b' : Book) → ((c : Core) → Stands b c → Claims j b' c) → Steps (ClaimGives j) b b'
claim-steps j b b' does = record { each = λ c st. claim-step j b' c (does c st) }

publish-step : (h : Held) (r : Result (Unit {0}) Held) (b : Book) (c : Core) → Publishes h r b c → (d : Core) × Stands b d × PublishGives h r c d
publish-step h (Ok u) b c t = (next g726 c (Publish h.number h.task), t.1, (t.0, refl))
publish-step h (Err h') b c t = (c, t.2, (t.0, t.1, refl))

pub publish-steps : (h : Held) (r : Result (Unit {0}) Held) (b b' : Book) → ((c : Core) → Stands b c → Publishes h r b' c) → Steps (PublishGives h r) b b'
publish-steps h r b b' does = record { each = λ c st. publish-step h r b' c (does c st) }

back-step : (h : Held) (r : Result (Unit {0}) Held) (b : Book) (c : Core) → GivesBack h r b c → (d : Core) × Stands b d × BackGives h r c d
back-step h (Ok u) b c t = (next g726 c (GiveBack h.number h.task), t.1, (t.0, refl))
back-step h (Err h') b c t = (c, t.2, (t.0, t.1, refl))

pub back-steps : (h : Held) (r : Result (Unit {0}) Held) (b b' : Book) → ((c : Core) → Stands b c → GivesBack h r b' c) → Steps (BackGives h r) b b'
back-steps h r b b' does = record { each = λ c st. back-step h r b' c (does c st) }
