-- Encoder groups: the listeners that wait for one run, and those that rest in one state.
use Rattle.std.specs.Prelude.{if◌then◌else◌, ℕ, Bool, true, false, not, ◌||◌, List, [], ◌∷◌, map, filter, ◌==◌, nat_lt, Option, Some, None, is_none, pos, replicate}
use Rattle.std.specs.List.{list_any, filter_map, count_by}
use Rattle.std.specs.Option.{option_or, option_map}
use Rattle.g726_bits.specs.declared.Rate.{Rate}
use Rattle.g726_bits.specs.State.{CodecState}
use Rattle.conference_spec.specs.declared.Task.{Task}
use Rattle.conference_spec.specs.Coding.{Coder, after}
use Rattle.conference_spec.specs.Feed.{Listener, Guest, guests, closes, collects}
use Rattle.conference_spec.specs.Tasks.{tasks_of, is_same_task, each_once}
use Rattle.conference_spec.specs.Machine.{Core, is_done, has_passed}

-- A group: what its listeners share, its state, or none while their run waits or is out, and the listeners' numbers in the
-- order of their joins. What they share is the task that they wait for; or, at rest, the next tick to be closed, with their
-- rate and state, and silence for a mix.
pub record Group : Type 0 where
  pub place : Task
  pub state : Option CodecState
  pub members : List ℕ

abbrev pub rate_of : Group → Rate
rate_of k = k.place.triple.rate

-- the tick that the group encodes next
abbrev pub tick_of : Group → ℕ
tick_of k = k.place.tick

abbrev pub has_member : ℕ → Group → Bool
has_member member k = list_any (λ m. m == member) k.members

-- how many of these groups have the member
abbrev pub groups_with : ℕ → List Group → ℕ
groups_with member ks = count_by (has_member member) ks

-- ---- who shares with whom ----

-- of tasks with the newest first, the oldest that isn't done
abbrev pub oldest_open : (Task → Bool) → List Task → Option Task
oldest_open done [] = None
oldest_open done (x ∷ xs) = option_or (oldest_open done xs) (if done x then None else Some x)

-- the task that a listener waits for: that of the first of its ticks that it hasn't passed
abbrev pub awaited : Coder → Core → Listener → Option Task
awaited coder c l = oldest_open (is_done coder (collects c.feed) c.runs) (tasks_of coder l)

-- the place of those who rest in a state
abbrev pub rest_at : ℕ → Rate → CodecState → Task
rest_at closed rate s = record { tick = closed; triple = record { rate = rate; state = s; mix = replicate 160 (pos 0) } }

-- the place of a listener that has passed all its ticks
abbrev pub rest_of : Coder → Core → Listener → Task
rest_of coder c l = rest_at (closes c.feed) l.spec.rate (after coder l.spec.rate l.first l.heard)

abbrev pub place_after : Task → Bool → Option Task → Option Task
place_after rest here (Some x) = Some x
place_after rest true None = Some rest
place_after rest false None = None

-- what a guest shares: the task that it waits for, or, where it is present and waits for none, its rate and state
abbrev pub place_of : Coder → Core → Guest → Option Task
place_of coder c g = place_after (rest_of coder c g.listener) (is_none g.left) (awaited coder c g.listener)

-- a listener by its number, with what it shares
pub record Placed : Type 0 where
  pub member : ℕ
  pub place : Task

abbrev pub placed_of : Coder → Core → Guest → Option Placed
placed_of coder c g = option_map (λ x. record { member = g.listener.spec.member; place = x }) (place_of coder c g)

-- all who share something, in the order of their joins
abbrev pub placed : Coder → Core → List Placed
placed coder c = filter_map (placed_of coder c) (guests coder c.feed)

-- the group of those at one place, where so many ticks are closed
abbrev pub group_at : Coder → ℕ → List Placed → Task → Group
group_at coder closed ps x = record {
  place = x;
  state = if nat_lt x.tick closed then None else Some x.triple.state;
  members = map (λ p. p.member) (filter (λ p. is_same_task coder x p.place) ps);
}

-- a group for each different place, by the joins of their first listeners
abbrev pub grouped : Coder → ℕ → List Placed → List Group
grouped coder closed ps = map (group_at coder closed ps) (each_once coder (map (λ p. p.place) ps))

abbrev pub groups : Coder → Core → List Group
groups coder c = grouped coder (closes c.feed) (placed coder c)

-- present, or with a tick that it hasn't passed
abbrev pub is_carried : Coder → Core → Guest → Bool
is_carried coder c g = is_none g.left || not (has_passed coder (collects c.feed) c.runs g.listener)
