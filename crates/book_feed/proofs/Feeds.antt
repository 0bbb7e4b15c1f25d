-- The counts of a feed by its marks, and what one more mark does.
use Rattle.std.proofs.Common.{zero, suc, ◌≡◌, ℕ, ◌+◌, ◌^◌, ◌<◌, ◌≤◌, ◌==◌, inl, inr, Bool, true, false, cond, nat_eq, if◌then◌else◌, List, [], ◌∷◌, ◌++◌, length, map, replicate, refl, sym, ◌∙◌, ap, subst, arith}
use Rattle.std.specs.Prelude.{◌||◌, reverse, take}
use Rattle.std.specs.List.{list_any, range_with_len}
use Rattle.std.proofs.lemmas.Bool.Decides.{Decides-eqb, eqb_tells}
use Rattle.std.proofs.lemmas.List.{map-append, length-map, reverse-append, length-reverse, length-append, take-append-le}
use Rattle.std.proofs.Math.Seq.{take-length}
use Rattle.std.proofs.lemmas.List.FromFn.{length-range_with_len}
use Rattle.conference_spec.specs.declared.JoinSpec.{JoinSpec}
use Rattle.conference_spec.specs.declared.Entry.TheVariants as entry
use Rattle.conference_spec.specs.Feed as feed
use Rattle.conference_spec.proofs.Members.{In, Once, fewer}
use Rattle.book_feed.specs.declared.Mark.{Mark}
use Rattle.book_feed.specs.declared.Mark.TheVariants as mark
use Rattle.book_feed.specs.declared.FeedLog.TheInside.{Inside}
use Rattle.book_feed.specs.Logged.{Logged, KeptFeed, IsModest, with_entry, closed_in, collected_in, joined_in, entries_in}
use Rattle.book_feed.specs.Inside.{entry_of, told, ended_by, feed_of, early_members, logged, AreJoined, IsSound}

-- one more mark is one more entry
pub told-push : (marks : List Mark) (m : Mark) → told (marks ++ m ∷ []) ≡ entry_of m ∷ told marks
told-push marks m =
    ap (λ (h : feed.Feed). reverse h) (map-append entry_of marks (m ∷ []))
    ∙ reverse-append (map entry_of marks) (entry_of m ∷ [])

pub length-told : (marks : List Mark) → length (told marks) ≡ length marks
length-told marks = length-reverse (map entry_of marks) ∙ length-map marks entry_of

-- no more ticks were closed than there are entries
pub closes-le-length : (h : feed.Feed) → feed.closes h ≤ length h
closes-le-length [] = omega arith
closes-le-length (entry.Join spec ∷ h) = let ih = closes-le-length h in omega arith
closes-le-length (entry.Leave member ∷ h) = let ih = closes-le-length h in omega arith
closes-le-length (entry.Close tick ∷ h) = let ih = closes-le-length h in omega arith
closes-le-length (entry.Cut ∷ h) = let ih = closes-le-length h in omega arith
closes-le-length (entry.Collect ∷ h) = let ih = closes-le-length h in omega arith
closes-le-length (entry.End ∷ h) = let ih = closes-le-length h in omega arith

-- what an end and the collects after it leave as it was
pub closes-onto : (n : ℕ) (e : Bool) (h : feed.Feed)
    → feed.closes (replicate n entry.Collect ++ ended_by e h) ≡ feed.closes h
closes-onto zero true h = refl
closes-onto zero false h = refl
closes-onto (suc n) e h = closes-onto n e h

pub joined-onto : (n : ℕ) (e : Bool) (h : feed.Feed)
    → feed.joined (replicate n entry.Collect ++ ended_by e h) ≡ feed.joined h
joined-onto zero true h = refl
joined-onto zero false h = refl
joined-onto (suc n) e h = joined-onto n e h

pub collects-onto : (n : ℕ) (e : Bool) (h : feed.Feed)
    → feed.collects (replicate n entry.Collect ++ ended_by e h) ≡ feed.collects h + n
collects-onto zero true h = omega arith
collects-onto zero false h = omega arith
collects-onto (suc n) e h = let ih = collects-onto n e h in omega arith

pub ended-onto : (n : ℕ) (e : Bool) (h : feed.Feed) → feed.ended h ≡ false
    → feed.ended (replicate n entry.Collect ++ ended_by e h) ≡ e
ended-onto zero true h plain = refl
ended-onto zero false h plain = plain
ended-onto (suc n) e h plain = ended-onto n e h plain

pub length-onto : (n : ℕ) (e : Bool) (h : feed.Feed)
    → length (replicate n entry.Collect ++ ended_by e h) ≡ length h + (if e then 1 else 0) + n
length-onto zero true h = omega arith
length-onto zero false h = omega arith
length-onto (suc n) e h = let ih = length-onto n e h in omega arith

-- a log that hasn't ended tells just its marks
pub before-end : (marks : List Mark) (e : Bool) (n : ℕ) → feed.ended (told marks) ≡ false → (e ≡ false → n ≡ 0)
    → feed.ended (feed_of marks e n) ≡ false
    → (e ≡ false) × (n ≡ 0)
before-end marks e n plain none not_ended =
    let here : e ≡ false = sym (ended-onto n e (told marks) plain) ∙ not_ended in
    (here, none here)

-- what one more mark makes of the feed before the end
pub push-open : (old new : List Mark) (m : Mark) (e : Bool) (n : ℕ) → new ≡ old ++ m ∷ [] → (e ≡ false) × (n ≡ 0)
    → feed_of new e n ≡ entry_of m ∷ feed_of old e n
push-open old new m e n more unended =
    rw (unended.0, unended.1) (ap (λ (ms : List Mark). told ms) more ∙ told-push old m)

-- the same, where the kept feed is what the log tells
pub push : (log : Inside) (whole : Logged) (new : List Mark) (m : Mark) → IsSound log → logged log ≡ whole
    → feed.ended whole.feed.since ≡ false → new ≡ log.marks.items ++ m ∷ []
    → feed_of new log.ended log.after_end ≡ entry_of m ∷ whole.feed.since
push log whole new m sound is not_ended more =
    let here : feed_of log.marks.items log.ended log.after_end ≡ whole.feed.since = ap (λ (v : Logged). v.feed.since) is in
    push-open log.marks.items new m log.ended log.after_end more
    (before-end log.marks.items log.ended log.after_end sound.no_end sound.none_after (ap feed.ended here ∙ not_ended))
    ∙ ap (λ (g : feed.Feed). entry_of m ∷ g) here

-- an entry more after the same base
pub push-feed : (log : Inside) (whole : Logged) (new : List Mark) (m : Mark) → IsSound log → logged log ≡ whole
    → feed.ended whole.feed.since ≡ false → new ≡ log.marks.items ++ m ∷ []
    → record { entries = log.base.entries; closed = log.base.closed; runs = log.base.runs; members = early_members log.base.joins log.joined.items; since = feed_of new log.ended log.after_end }
    ≡ with_entry (entry_of m) whole.feed
push-feed log whole new m sound is not_ended more =
    let since = push log whole new m sound is not_ended more in
    λ i. record {
      entries = (is i).feed.entries;
      closed = (is i).feed.closed;
      runs = (is i).feed.runs;
      members = (is i).feed.members;
      since = since i;
    }

-- an end comes once
end-here : (marks : List Mark) (e : Bool) (n : ℕ) → feed.ended (told marks) ≡ false → (e ≡ false → n ≡ 0)
    → feed_of marks true n ≡ (if feed.ended (feed_of marks e n) then feed_of marks e n else entry.End ∷ feed_of marks e n)
end-here marks true n plain none = rw (ended-onto n true (told marks) plain) refl
end-here marks false n plain none = rw (none refl, plain) refl

pub ended-once : (log : Inside) (whole : Logged) → IsSound log → logged log ≡ whole
    → record { entries = log.base.entries; closed = log.base.closed; runs = log.base.runs; members = early_members log.base.joins log.joined.items; since = feed_of log.marks.items true log.after_end }
    ≡ (if feed.ended whole.feed.since then whole.feed else with_entry entry.End whole.feed)
ended-once log whole sound is =
    let k : KeptFeed = (logged log).feed in
    let since = end-here log.marks.items log.ended log.after_end sound.no_end sound.none_after in
    let with_since : feed.Feed → KeptFeed = λ h. record { entries = k.entries; closed = k.closed; runs = k.runs; members = k.members; since = h } in
    ap with_since since
    ∙ cond-apart (feed.ended k.since) k.since (entry.End ∷ k.since) with_since
    ∙ ap (λ (v : Logged). if feed.ended v.feed.since then v.feed else with_entry entry.End v.feed) is
  where
    cond-apart : (b : Bool) (x y : feed.Feed) (f : feed.Feed → KeptFeed) → f (if b then x else y) ≡ (if b then f x else f y)
    cond-apart true x y f = refl
    cond-apart false x y f = refl

-- ---- the counts that a log keeps ----

pub closed-kept : (log : Inside) (whole : Logged) → IsSound log → logged log ≡ whole → log.closed ≡ closed_in whole.feed
closed-kept log whole sound is =
    let a = closes-onto log.after_end log.ended (told log.marks.items) in
    let d = ap (λ (v : Logged). closed_in v.feed) is in
    let m = sound.closed in
    omega arith

pub collected-kept : (log : Inside) (whole : Logged) → IsSound log → logged log ≡ whole → log.collected ≡ collected_in whole.feed
collected-kept log whole sound is =
    let a = collects-onto log.after_end log.ended (told log.marks.items) in
    let d = ap (λ (v : Logged). collected_in v.feed) is in
    let m = sound.collected in
    omega arith

-- the ticks since the cut
pub since-kept : (log : Inside) (whole : Logged) → IsSound log → logged log ≡ whole → log.closed ≡ log.base.closed + feed.closes whole.feed.since
since-kept log whole sound is =
    let a = closes-onto log.after_end log.ended (told log.marks.items) in
    let d = ap (λ (v : Logged). feed.closes v.feed.since) is in
    let m = sound.closed in
    omega arith

pub ended-kept : (log : Inside) (whole : Logged) → IsSound log → logged log ≡ whole → log.ended ≡ feed.ended whole.feed.since
ended-kept log whole sound is =
    sym (ended-onto log.after_end log.ended (told log.marks.items) sound.no_end) ∙ ap (λ (v : Logged). feed.ended v.feed.since) is

pub joined-kept : (log : Inside) (whole : Logged) → IsSound log → logged log ≡ whole → reverse log.joined.items ≡ joined_in whole.feed
joined-kept log whole sound is =
    sym sound.joined.told
    ∙ ap (λ (ms : List ℕ). ms ++ early_members log.base.joins log.joined.items) (sym (joined-onto log.after_end log.ended (told log.marks.items)))
    ∙ ap (λ (v : Logged). joined_in v.feed) is

-- ---- how many entries there can be ----

in-range : (a n q : ℕ) → a ≤ q → q < a + n → In q (range_with_len a n)
in-range a zero q le lt = absurd (omega arith)
in-range a (suc n) q le lt =
    elim (eqb_tells a q) [
      | inl p ↦ inl p.1
      | inr p ↦ (let apart = p.1 in inr (in-range (a + 1) n q (omega arith) (omega arith)))
    ]

-- numbers below n that are told apart are at most n
few-below : (n : ℕ) (xs : List ℕ) → Once xs → ((q : ℕ) → In q xs → q < n) → length xs ≤ n
few-below n xs once below =
    let e = length-range_with_len 0 n in
    let le = fewer (λ a b. a == b) Decides-eqb xs (range_with_len 0 n) once (λ q i. let lt = below q i in in-range 0 n q (omega arith) (omega arith)) in
    omega arith

-- nobody joins under a number of 2 ^ 32 and more, so there are few entries
pub few-entries : (log : Inside) (whole : Logged) → IsSound log → logged log ≡ whole → IsModest whole.feed → entries_in whole.feed < 2 ^ 41
few-entries log whole sound is modest =
    let same = joined-kept log whole sound is in
    let few = few-below (2 ^ 32) (joined_in whole.feed) modest.once (λ q i. sound.joined.small q (subst (λ (ms : List ℕ). In q ms) (sym same) i)) in
    let le = modest.entries in
    omega arith

-- how many entries the log counts
pub entries-kept : (log : Inside) (whole : Logged) → IsSound log → logged log ≡ whole
    → log.base.entries + length log.marks.items + (if log.ended then 1 else 0) + log.after_end ≡ entries_in whole.feed
entries-kept log whole sound is =
    let v = ap (λ (v : Logged). entries_in v.feed) is in
    let b = length-onto log.after_end log.ended (told log.marks.items) in
    let d = length-told log.marks.items in
    omega arith

-- ---- who joined ----

or-is : (a b : Bool) → cond a true b ≡ (a || b)
or-is true b = refl
or-is false b = refl

-- a join more is one number more
pub joined-push : (marks new : List Mark) (spec : JoinSpec) (joins : ℕ) (keys keys' numbers numbers' : List ℕ) → spec.member < 2 ^ 32
    → AreJoined (told marks) joins keys numbers → new ≡ marks ++ mark.Join spec ∷ [] → numbers' ≡ numbers ++ spec.member ∷ []
    → ((q : ℕ) → list_any (nat_eq q) keys' ≡ cond (nat_eq spec.member q) true (list_any (nat_eq q) keys))
    → AreJoined (told new) joins keys' numbers'
joined-push marks new spec joins keys keys' numbers numbers' small are more one updates =
    let m = spec.member in
    let a : feed.joined (told new) ≡ m ∷ feed.joined (told marks) =
    ap (λ (ms : List Mark). feed.joined (told ms)) more ∙ ap feed.joined (told-push marks (mark.Join spec)) in
    let b : early_members joins numbers' ≡ early_members joins numbers =
    ap reverse (ap (take joins) one ∙ take-append-le joins numbers (m ∷ []) are.early) in
    let d : reverse numbers' ≡ m ∷ reverse numbers = ap reverse one ∙ reverse-append numbers (m ∷ []) in
    let len = ap length one ∙ length-append numbers (m ∷ []) in
    let early = are.early in
    record {
      early = omega arith;
      told = (λ i. a i ++ b i) ∙ ap (λ (ms : List ℕ). m ∷ ms) are.told ∙ sym d;
      small = λ q i. elim (subst (λ (ms : List ℕ). In q ms) d i) [
        | inl e ↦ omega arith
        | inr k ↦ are.small q k
      ];
      has = λ q. updates q ∙ ap (λ (b : Bool). cond (nat_eq m q) true b) (are.has q)
          ∙ or-is (nat_eq m q) (list_any (λ x. x == q) (reverse numbers)) ∙ ap (list_any (λ x. x == q)) (sym d);
    }

-- what a cut makes of them
pub joined-cut : (h : feed.Feed) (joins all : ℕ) (keys numbers : List ℕ) → AreJoined h joins keys numbers → all ≡ length numbers
    → AreJoined [] all keys numbers × (early_members all numbers ≡ reverse numbers)
joined-cut h joins all keys numbers are len =
    let e : early_members all numbers ≡ reverse numbers = ap reverse (ap (λ (n : ℕ). take n numbers) len ∙ take-length numbers) in (
      record { early = omega arith; told = e; small = are.small; has = are.has },
      e,
    )

pub early-push : (joins : ℕ) (numbers : List ℕ) (m : ℕ) → joins ≤ length numbers → early_members joins (numbers ++ m ∷ []) ≡ early_members joins numbers
early-push joins numbers m le = ap reverse (take-append-le joins numbers (m ∷ []) le)
