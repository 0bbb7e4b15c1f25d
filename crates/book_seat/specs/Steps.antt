-- What each call gives, as a step from the core that it finds to the core that it leaves.
use Rattle.std.specs.Prelude.{◌≡◌, ◌↔◌, ◌+◌, ◌<◌, ◌==◌, ℕ, true, false, length, Result, Ok, Err, IsErr, Some, None}
use Rattle.std.specs.List.{list_any}
use Rattle.talk_mix.specs.declared.ticks.Tick.{Tick}
use Rattle.conference_spec.specs.declared.JoinSpec.{JoinSpec}
use Rattle.conference_spec.specs.declared.Entry.{Entry}
use Rattle.conference_spec.specs.declared.Entry.TheVariants.{Join, Leave, Close, Collect, Cut, End}
use Rattle.conference_spec.specs.Codec.{g726}
use Rattle.conference_spec.specs.Feed.{Feed, closes, collects, ended, joined, kept, listeners}
use Rattle.conference_spec.specs.Packets.{sent}
use Rattle.conference_spec.specs.Tasks.{triples}
use Rattle.conference_spec.specs.Members.{In}
use Rattle.conference_spec.specs.Machine.{Core, Run, Enters, Publish, GiveBack, next, accepts, next_waiting, holds_out}
use Rattle.conference_spec.specs.Machine.{Claim as claims}
use Rattle.tick_core.specs.declared.jobs.Claim.{Claim}
use Rattle.tick_core.specs.declared.jobs.Claim.TheVariants.{Job, Idle, Over}
use Rattle.tick_core.specs.declared.faults.JoinFault.{JoinFault}
use Rattle.tick_core.specs.declared.faults.JoinFault.TheVariants as join_fault
use Rattle.tick_core.specs.declared.faults.CloseFault.{CloseFault}
use Rattle.tick_core.specs.declared.faults.CloseFault.TheVariants as close_fault
use Rattle.tick_core.specs.declared.faults.Absent.{Absent}
use Rattle.tick_core.specs.declared.faults.NotYet.{NotYet}
use Rattle.tick_core.specs.Held.{Held, Sent}

-- ---- the desk's ----

-- the core takes the entry where the call answers Ok; else nothing changes
abbrev pub TakesOr : {F : Type 0} → Entry → Result (Unit {0}) F → Core → Core → Type 0
TakesOr e (Ok u) c d = (accepts g726 c e ≡ true) × (d ≡ next g726 c (Enters e))
TakesOr e (Err f) c d = d ≡ c

pub record JoinGives (spec : JoinSpec) (r : Result (Unit {0}) JoinFault) (c d : Core) : Type 0 where
  pub takes : TakesOr (Join spec) r c d
  pub used : (r ≡ Err join_fault.Used) ↔ (list_any (λ m. m == spec.member) (joined c.feed) ≡ true)
  pub full : (r ≡ Err join_fault.Full) ↔ ((list_any (λ m. m == spec.member) (joined c.feed) ≡ false) × (length (listeners g726 c.feed) ≡ 1024))

pub record LeaveGives (member : ℕ) (r : Result (Unit {0}) Absent) (c d : Core) : Type 0 where
  pub takes : TakesOr (Leave member) r c d
  pub absent : IsErr r ↔ (list_any (λ l. l.spec.member == member) (listeners g726 c.feed) ≡ false)

pub record CloseGives (tick : Tick) (r : Result (Unit {0}) CloseFault) (c d : Core) : Type 0 where
  pub takes : TakesOr (Close tick) r c d
  pub ticks_over : (r ≡ Err close_fault.TicksOver) ↔ (closes c.feed ≡ 4320000)
  pub long : (r ≡ Err close_fault.Long) ↔ ((closes c.feed < 4320000) × (kept c.feed ≡ 18000))
  pub backlog : (r ≡ Err close_fault.Backlog) ↔ ((closes c.feed < 4320000) × (kept c.feed < 18000) × (closes c.feed ≡ collects c.feed + 64))

-- the packets of the next tick, just where each of its listeners has its payload
abbrev pub CollectGives : Result Sent NotYet → Core → Core → Type 0
CollectGives (Ok p) c d =
    (accepts g726 c Collect ≡ true) × (p.tick ≡ collects c.feed) × (p.packets ≡ sent g726 (collects c.feed) c.feed) × (d ≡ next g726 c (Enters Collect))
CollectGives (Err e) c d = (accepts g726 c Collect ≡ false) × (d ≡ c)

-- what was done is cut off
abbrev pub CutGives : Core → Core → Type 0
CutGives c d = (accepts g726 c Cut ≡ true) × (d ≡ next g726 c (Enters Cut))

-- the end comes, if it hasn't come before
abbrev pub EndGives : Core → Core → Type 0
EndGives c d = d ≡ next g726 c (Enters End)

-- what is only read
abbrev pub ClosedGives : ℕ → Core → Core → Type 0
ClosedGives n c d = (n ≡ closes c.feed) × (d ≡ c)

abbrev pub CollectedGives : ℕ → Core → Core → Type 0
CollectedGives n c d = (n ≡ collects c.feed) × (d ≡ c)

abbrev pub KeptGives : ℕ → Core → Core → Type 0
KeptGives n c d = (n ≡ kept c.feed) × (d ≡ c)

abbrev pub IssuedGives : ℕ → Core → Core → Type 0
IssuedGives n c d = (n ≡ c.issued) × (d ≡ c)

-- ---- the workers' ----

-- the waiting run of the least number, or that none waits
abbrev pub ClaimGives : Claim → Core → Core → Type 0
ClaimGives (Job j) c d = (r : Run) × (next_waiting c.runs ≡ Some r) × (j ≡ record { number = r.number; task = r.task }) × (d ≡ next g726 c claims)
ClaimGives Idle c d = (next_waiting c.runs ≡ None) × (ended c.feed ≡ false) × (d ≡ c)
ClaimGives Over c d = (next_waiting c.runs ≡ None) × (ended c.feed ≡ true) × (d ≡ c)

-- a result is taken just where its run is out; where it isn't, it comes back
abbrev pub PublishGives : Held → Result (Unit {0}) Held → Core → Core → Type 0
PublishGives h (Ok u) c d = (holds_out g726 c.runs h.number h.task ≡ true) × (d ≡ next g726 c (Publish h.number h.task))
PublishGives h (Err h') c d = (holds_out g726 c.runs h.number h.task ≡ false) × (h' ≡ h) × (d ≡ c)

-- and so is a job that wasn't run
abbrev pub BackGives : Held → Result (Unit {0}) Held → Core → Core → Type 0
BackGives h (Ok u) c d = (holds_out g726 c.runs h.number h.task ≡ true) × (d ≡ next g726 c (GiveBack h.number h.task))
BackGives h (Err h') c d = (holds_out g726 c.runs h.number h.task ≡ false) × (h' ≡ h) × (d ≡ c)

-- a job is of a tick that was closed, and of one of the triples of that tick
abbrev pub IsWanted : Claim → Feed → Type 0
IsWanted (Job j) h = (j.task.tick < closes h) × In j.task (triples g726 j.task.tick h)
IsWanted Idle h = Unit {0}
IsWanted Over h = Unit {0}
