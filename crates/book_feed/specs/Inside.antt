-- What a log keeps, and the feed that it stands for.
use Rattle.std.specs.Prelude.{◌≡◌, ℕ, ◌+◌, ◌-◌, ◌^◌, ◌<◌, ◌≤◌, ◌==◌, Bool, true, false, nat_eq, List, ◌∷◌, ◌++◌, length, map, reverse, replicate, take, vec_len, vec_capacity}
use Rattle.std.specs.List.{list_any}
use Rattle.std.specs.HashSet.{keys}
use Rattle.conference_spec.specs.declared.Entry.{Entry}
use Rattle.conference_spec.specs.declared.Entry.TheVariants as entry
use Rattle.conference_spec.specs.Feed as feed
use Rattle.conference_spec.specs.Members.{In}
use Rattle.book_feed.specs.declared.Mark.{Mark}
use Rattle.book_feed.specs.declared.Mark.TheVariants as mark
use Rattle.book_feed.specs.declared.FeedLog.TheInside.{Inside}
use Rattle.book_feed.specs.Logged.{Logged}

-- the entry that a mark stands for
abbrev pub entry_of : Mark → Entry
entry_of (mark.Join spec) = entry.Join spec
entry_of (mark.Leave member) = entry.Leave member
entry_of (mark.Close tick) = entry.Close tick.value
entry_of mark.Collect = entry.Collect

-- the entries of marks that stand oldest first
abbrev pub told : List Mark → feed.Feed
told marks = reverse (map entry_of marks)

-- the same, with the feed's end
abbrev pub ended_by : Bool → feed.Feed → feed.Feed
ended_by true h = entry.End ∷ h
ended_by false h = h

-- the same, with the collects after its end
abbrev pub feed_of : List Mark → Bool → ℕ → feed.Feed
feed_of marks is_ended after_end = replicate after_end entry.Collect ++ ended_by is_ended (told marks)

-- who joined up to the last cut, the newest first
abbrev pub early_members : ℕ → List ℕ → List ℕ
early_members joins members = reverse (take joins members)

-- what contracts see of a log
abbrev pub logged : Inside → Logged
logged log = record {
  feed = record {
    entries = log.base.entries;
    closed = log.base.closed;
    runs = log.base.runs;
    members = early_members log.base.joins log.joined.items;
    since = feed_of log.marks.items log.ended log.after_end;
  };
  room = vec_capacity log.marks - vec_len log.marks;
}

-- list and set have just the numbers that joined, as the marks and those before the last cut tell
pub record AreJoined (h : feed.Feed) (joins : ℕ) (keys numbers : List ℕ) : Type 0 where
  pub early : joins ≤ length numbers
  pub told : feed.joined h ++ early_members joins numbers ≡ reverse numbers
  pub small : (q : ℕ) → In q (reverse numbers) → q < 2 ^ 32
  pub has : (q : ℕ) → list_any (nat_eq q) keys ≡ list_any (λ m. m == q) (reverse numbers)

-- no mark is an end, nothing is counted after an end that isn't there, the counts are the feed's, and no more ticks were
-- handed out than closed
pub record IsSound (log : Inside) : Type 0 where
  pub marks_len : vec_len log.marks ≡ length log.marks.items
  pub marks_small : length log.marks.items < 2 ^ 63
  pub no_end : feed.ended (told log.marks.items) ≡ false
  pub none_after : log.ended ≡ false → log.after_end ≡ 0
  pub closed : log.closed ≡ log.base.closed + feed.closes (told log.marks.items)
  pub collected : log.collected ≡ log.base.closed + feed.collects (told log.marks.items) + log.after_end
  pub in_order : log.collected ≤ log.closed
  pub joined : AreJoined (told log.marks.items) log.base.joins (keys log.members) log.joined.items
