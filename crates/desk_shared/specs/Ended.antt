-- How a session beside its workers ends.
use Rattle.std.specs.Prelude.{◌≡◌, ◌≤◌, ℕ, List, Option, Result, IfOk, IfErr, IfSome, OnOk, IsErrOf, All, length}
use Rattle.edge_io.specs.Told.{Counts, Rose}
use Rattle.roster_text.specs.declared.commands.Timed.{Timed}
use Rattle.conference_spec.specs.Feed.{Feed, closes}
use Rattle.session_spec.specs.Talkers.{Events}
use Rattle.session_spec.specs.Events.{feed_of}
use Rattle.desk_run.specs.declared.stops.Stop.{Stop}
use Rattle.desk_run.specs.declared.stops.Stop.TheVariants as stop
use Rattle.desk_run.specs.Stops.{write_failed}
use Rattle.desk_run.specs.Whole.{HasRun, HasStopped}

-- what a session was given, and what its source and its sink tell before it and after it
pub record Sides : Type 0 where
  pub plan : List Timed
  pub ticks : ℕ
  pub bytes : Option (List ℕ)
  pub left : Option (List ℕ)
  pub old : Option (List ℕ)
  pub new : Option (List ℕ)
  pub reads : ℕ × ℕ
  pub writes : ℕ × ℕ

-- a session ended so: all that is said of a run over any conference, and of what its feed then is
pub record HasEnded (s : Sides) (desk : Events → Type 0) (conference : Feed → Type 0) (result : Result ℕ Stop) : Type 0 where
  pub ran : IfOk result (λ packets. IfSome s.bytes (λ bytes.
      HasRun (record { plan = s.plan; ticks = s.ticks; bytes = bytes }) (record { left = s.left; old = s.old; new = s.new })
      desk conference packets))
  pub stands : OnOk result ((h : Events) × desk h × conference (feed_of h) × (closes (feed_of h) ≡ s.ticks))
  pub stopped : IfErr result (λ why. IfSome s.bytes (λ bytes.
      HasStopped (record { plan = s.plan; ticks = s.ticks; bytes = bytes }) (record { left = s.left; old = s.old; new = s.new }) why))
  pub read : IsErrOf result stop.Read → Rose s.reads.0 s.reads.1
  pub never_falls : s.reads.0 ≤ s.reads.1
  pub counts : Counts s.writes.0 (write_failed result) s.writes.1

-- as many, and if all were of one home they still are
pub record StayAt {T L : Type 0} (home : T → List L) (old new : List T) : Type 0 where
  pub each : (at : List L) → All (λ w. home w ≡ at) old → All (λ w. home w ≡ at) new
  pub count : length new ≡ length old
