-- What a worker's passes of several rooms are seen as, and what asking them does.
use Rattle.std.specs.Prelude.{◌≡◌, ◌⊎◌, ◌<◌, ◌+◌, ℕ, zero, suc, Bool, true, false, List, [], ◌∷◌, ◌++◌, length, take, drop, Option, None, Some, MatchOption}
use Rattle.std.specs.List.{AllZip, slice_get, slice_set}
use Rattle.conference_spec.specs.Machine.{Core}
use Rattle.tick_core.specs.Held.{Held}
use Rattle.tick_core.specs.declared.jobs.Claim.{Claim}
use Rattle.tick_core.specs.declared.jobs.Claim.TheVariants as claim
use Rattle.room_pool.specs.declared.asking.Asked.{Asked}
use Rattle.room_pool.specs.declared.asking.Asked.TheVariants.{Job, Nothing}
use Rattle.book_seat.specs.Seated.{Working}
use Rattle.book_seat.specs.Steps.{ClaimGives}
use Rattle.book_seat.specs.Taken.{TookTurn}

-- the passes in the order in which they were added, the room of the last job that was claimed, and how many results were taken
pub record Turning : Type 0 where
  pub passes : List Working
  pub last : Option ℕ
  pub taken : ℕ

-- the room of the last job is one of these
abbrev pub IsWithin : Option ℕ → List Working → Type 0
IsWithin None passes = Unit {0}
IsWithin (Some at) passes = at < length passes

-- one turn of a pass, in which the core took this step
pub record Turned (v w : Working) (step : Core → Core → Type 0) : Type 0 where
  pub turn : TookTurn v.pass.view w.pass.view step
  pub home : w.pass.home ≡ v.pass.home

-- a pass was asked, in one turn, and answered so
abbrev pub Answers : Claim → Working → Working → Type 0
Answers answer v w = Turned v w (ClaimGives answer)

module _ {P : Type 0} (answers : Claim → P → P → Type 0) where
  -- a pass was asked once and had no job
  abbrev pub HasNone : P → P → Type 0
  HasNone v w = answers claim.Over v w ⊎ answers claim.Idle v w

  -- one of them answered that it is idle
  abbrev pub OneIdles : List P → List P → Type 0
  OneIdles [] ws = ⊥
  OneIdles (v ∷ vs) [] = ⊥
  OneIdles (v ∷ vs) (w ∷ ws) = answers claim.Idle v w ⊎ OneIdles vs ws

  -- each was asked once and had no job; whether each is over
  abbrev pub NoneHas : List P → List P → (over : Bool) → Type 0
  NoneHas vs ws true = AllZip (answers claim.Over) vs ws
  NoneHas vs ws false = AllZip HasNone vs ws × OneIdles vs ws

  -- those before this place were asked once and had no job, the one at it had this job, and those behind it weren't asked
  abbrev pub Gives : List P → List P → ℕ → Held → Type 0
  Gives [] ws at job = ⊥
  Gives (v ∷ vs) [] at job = ⊥
  Gives (v ∷ vs) (w ∷ ws) zero job = answers (claim.Job job) v w × (ws ≡ vs)
  Gives (v ∷ vs) (w ∷ ws) (suc at) job = HasNone v w × Gives vs ws at job

  -- what passes answer that are asked one after the other
  abbrev pub AskedEach : List P → List P → Asked → Type 0
  AskedEach vs ws (Job at job) = Gives vs ws at job
  AskedEach vs ws (Nothing over) = NoneHas vs ws over

  -- the pass at this place gave the job: those from the first on were asked up to it, or all of them and then those before the first
  abbrev pub GivesFrom : ℕ → List P → List P → ℕ → Held → Type 0
  GivesFrom first vs ws at job =
      ((k : ℕ) × (at ≡ first + k) × Gives (drop first vs) (drop first ws) k job × (take first ws ≡ take first vs))
      ⊎ (AllZip HasNone (drop first vs) (drop first ws) × Gives (take first vs) (take first ws) at job)

  -- passes are asked from this place on, and then those before it
  abbrev pub AskedFrom : ℕ → List P → List P → Asked → Type 0
  AskedFrom first vs ws (Job at job) = GivesFrom first vs ws at job
  AskedFrom first vs ws (Nothing over) = NoneHas vs ws over

-- the room that is asked first: the one after the last that gave a job
abbrev pub first_of : Option ℕ → ℕ
first_of None = 0
first_of (Some at) = at + 1

-- the rooms were asked in turn, each at most once; where none had a job, each was
abbrev pub AskedInTurn : Turning → Turning → Claim → Type 0
AskedInTurn old new (claim.Job job) = (at : ℕ) × (new.last ≡ Some at) × GivesFrom Answers (first_of old.last) old.passes new.passes at job
AskedInTurn old new claim.Idle = NoneHas Answers old.passes new.passes false × (new.last ≡ old.last)
AskedInTurn old new claim.Over = NoneHas Answers old.passes new.passes true × (new.last ≡ old.last)

-- the room of the last job took one turn, in which its core took this step; the others took none
pub record TurnedLast (old new : Turning) (step : Core → Core → Type 0) : Type 0 where
  pub at : ℕ
  pub last : old.last ≡ Some at
  pub pass : Working
  pub was : slice_get old.passes at ≡ Some pass
  pub after : Working
  pub is : new.passes ≡ slice_set old.passes at after
  pub turned : Turned pass after step

-- what came to the room of the last job: one turn of it, or nothing where no job counts as claimed
abbrev pub ComesToLast : Turning → Turning → (Core → Core → Type 0) → (back : Type 0) → Type 0
ComesToLast old new step back = MatchOption old.last ((new.passes ≡ old.passes) × back) (λ at. TurnedLast old new step)
