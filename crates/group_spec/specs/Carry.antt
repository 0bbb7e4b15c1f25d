-- What groups have to do with the listeners, runs and states of a core.
use Rattle.std.specs.Prelude.{◌≡◌, ℕ, true, false, ◌<◌, List, length, map, Some, None, is_some, Contains, AllPairs, MatchBool}
use Rattle.std.specs.List.{list_all}
use Rattle.conference_spec.specs.Coding.{Coder, after}
use Rattle.conference_spec.specs.Feed.{Listener, Guest, guests, listeners, closes, collects}
use Rattle.conference_spec.specs.Machine.{Core, Run, is_finished, has_passed}
use Rattle.conference_spec.specs.Kept.{WaitsAt}
use Rattle.group_spec.specs.Groups.{Group, rate_of, tick_of, has_member, groups_with, is_carried}

-- Just one run, which isn't finished, is the listener's own at the first tick that it hasn't passed; the group is at that
-- tick, and its state is out with the run.
pub record IsUnderWay (coder : Coder) (c : Core) (l : Listener) (k : Group) : Type 0 where
  pub run : Run
  pub waits : WaitsAt coder c l run
  pub alone : (r : Run) → WaitsAt coder c l r → r ≡ run
  pub shares : k.place ≡ run.task
  pub vacant : k.state ≡ None

-- the group is at the next tick to be closed, in the state that its listener's mixes so far have left
pub record IsAtRest (coder : Coder) (c : Core) (l : Listener) (k : Group) : Type 0 where
  pub tick : tick_of k ≡ closes c.feed
  pub state : k.state ≡ Some (after coder l.spec.rate l.first l.heard)

-- the group is its listener's: of one rate with it, and where the listener is
pub record IsGroupOf (coder : Coder) (c : Core) (l : Listener) (k : Group) : Type 0 where
  pub rate : rate_of k ≡ l.spec.rate
  pub stands : MatchBool (has_passed coder (collects c.feed) c.runs l) (IsAtRest coder c l k) (IsUnderWay coder c l k)

-- one run has listeners in both
pub record ShareRun (coder : Coder) (c : Core) (a b : Group) : Type 0 where
  pub run : Run
  pub one : Guest
  pub one_there : Contains (guests coder c.feed) one
  pub one_in : has_member one.listener.spec.member a ≡ true
  pub one_waits : WaitsAt coder c one.listener run
  pub other : Guest
  pub other_there : Contains (guests coder c.feed) other
  pub other_in : has_member other.listener.spec.member b ≡ true
  pub other_waits : WaitsAt coder c other.listener run

-- The groups carry the core.
pub record Carry (coder : Coder) (c : Core) (ks : List Group) : Type 0 where
  -- whoever is present, or hasn't passed all its ticks, is in just one group
  pub in_one : (g : Guest) → Contains (guests coder c.feed) g → is_carried coder c g ≡ true → groups_with g.listener.spec.member ks ≡ 1
  -- and nobody else is in any
  pub in_none : (g : Guest) → Contains (guests coder c.feed) g → is_carried coder c g ≡ false → groups_with g.listener.spec.member ks ≡ 0
  -- no group is empty, and all that are in groups are guests
  pub peopled : (k : Group) → Contains ks k → 0 < length k.members
  pub known : (k : Group) (m : ℕ) → Contains ks k → has_member m k ≡ true → Contains (map (λ g. g.listener.spec.member) (guests coder c.feed)) m
  -- each group is that of each of its listeners
  pub own : (k : Group) (g : Guest) → Contains ks k → Contains (guests coder c.feed) g → has_member g.listener.spec.member k ≡ true → IsGroupOf coder c g.listener k
  -- different groups at closed ticks have different runs, and different groups at rest of one rate have different states
  pub runs_differ : AllPairs (λ a b. ShareRun coder c a b → ⊥) ks
  pub states_differ : AllPairs (λ a b. rate_of a ≡ rate_of b → a.state ≡ b.state → is_some a.state ≡ true → ⊥) ks

-- The groups carry those who are present, where each run is finished.
pub record CarryAtRest (coder : Coder) (c : Core) (ks : List Group) : Type 0 where
  pub in_one : (l : Listener) → Contains (listeners coder c.feed) l → groups_with l.spec.member ks ≡ 1
  pub own : (k : Group) (l : Listener) → Contains ks k → Contains (listeners coder c.feed) l → has_member l.spec.member k ≡ true →
      (rate_of k ≡ l.spec.rate) × (k.state ≡ Some (after coder l.spec.rate l.first l.heard))
  pub states_differ : AllPairs (λ a b. rate_of a ≡ rate_of b → a.state ≡ b.state → ⊥) ks

-- nothing waits, and nothing is out
abbrev pub IsIdle : Core → Type 0
IsIdle c = list_all (λ r. is_finished r.stage) c.runs ≡ true
