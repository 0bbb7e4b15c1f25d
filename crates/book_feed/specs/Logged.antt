-- What a log is seen as.
use Rattle.std.specs.Prelude.{ℕ, ◌+◌, ◌*◌, ◌^◌, ◌≤◌, List, [], ◌∷◌, ◌++◌, length}
use Rattle.conference_spec.specs.declared.Entry.{Entry}
use Rattle.conference_spec.specs.Feed.{Feed, closes, collects, joined}
use Rattle.conference_spec.specs.Members.{Once}

-- A feed as it is kept: of all up to and with the last cut, how many entries there were, how many ticks were closed, how many
-- runs that took, and who joined, the newest first; and the entries since, the newest first.
pub record KeptFeed : Type 0 where
  pub entries : ℕ
  pub closed : ℕ
  pub runs : ℕ
  pub members : List ℕ
  pub since : Feed

-- the kept feed, and how many entries it can take without memory for its list
pub record Logged : Type 0 where
  pub feed : KeptFeed
  pub room : ℕ

-- nothing was done
abbrev pub blank : KeptFeed
blank = record { entries = 0; closed = 0; runs = 0; members = []; since = [] }

-- one entry more
abbrev pub with_entry : Entry → KeptFeed → KeptFeed
with_entry e k = record { entries = k.entries; closed = k.closed; runs = k.runs; members = k.members; since = e ∷ k.since }

-- how many ticks of the whole feed were closed; all up to the cut were handed out
abbrev pub closed_in : KeptFeed → ℕ
closed_in k = k.closed + closes k.since

abbrev pub collected_in : KeptFeed → ℕ
collected_in k = k.closed + collects k.since

-- the numbers of all that ever joined
abbrev pub joined_in : KeptFeed → List ℕ
joined_in k = joined k.since ++ k.members

-- how many entries the whole feed has
abbrev pub entries_in : KeptFeed → ℕ
entries_in k = k.entries + length k.since

-- a cut more: what was done is forgotten but for its counts
abbrev pub cut_off : ℕ → KeptFeed → KeptFeed
cut_off runs k = record { entries = entries_in k + 1; closed = closed_in k; runs = runs; members = joined_in k; since = [] }

-- nobody joined twice, and there are few entries beside joins and leaves
pub record IsModest (k : KeptFeed) : Type 0 where
  pub once : Once (joined_in k)
  pub entries : entries_in k ≤ 2 * length (joined_in k) + 2 ^ 40
