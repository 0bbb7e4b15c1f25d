-- Joins, leaves, cuts and the end.
use Rattle.std.proofs.Common.{ℕ, not, List, [], ◌∷◌, ◌++◌, refl, ap, arith}
use Rattle.std.specs.Prelude.{◌==◌}
use Rattle.std.specs.List.{filter}
use Rattle.conference_spec.specs.declared.Entry.TheVariants.{Join, Leave, Cut, End}
use Rattle.conference_spec.specs.Coding.{Coder}
use Rattle.conference_spec.specs.Feed.{Feed, listeners, closes}
use Rattle.conference_spec.specs.Machine.{Run}
use Rattle.book_lists.specs.Levels.{Level, Opens}
use Rattle.book_lists.proofs.Seating.{zip-map}
pub use Rattle.conference_spec.proofs.Zips.{zip-push, zip-filter}
use Rattle.conference_spec.specs.Feed.{collects}
use Rattle.conference_spec.specs.Machine.{begun}
use Rattle.conference_spec.specs.declared.JoinSpec.{JoinSpec}
use Rattle.conference_spec.specs.Machine.{Core}
use Rattle.book_lists.specs.declared.seats.Ticket.{Ticket}
use Rattle.book_lists.specs.Levels.{Carries, Rests}
use Rattle.book_lists.specs.declared.seats.Rest.{Rest}
use Rattle.conference_spec.specs.Feed.{begins}
use Rattle.conference_spec.specs.Machine.{appended}
use Rattle.book_lists.specs.declared.seats.Origin.{Origin}
use Rattle.book_lists.specs.declared.seats.Origin.TheVariants.{Known, Earlier}
use Rattle.book_lists.specs.Levels.{OriginIs}

-- what no close and no collect is leaves the open ticks
pub opens-quiet : (coder : Coder) (gone : ℕ) (runs : List Run) (vs : List Level) (h : Feed) (spec : JoinSpec) → Opens coder gone runs vs h
    → Opens coder gone runs vs (Join spec ∷ h)
opens-quiet coder gone runs [] h spec o = o
opens-quiet coder gone runs (v ∷ vs) h spec o = o

pub opens-left : (coder : Coder) (gone : ℕ) (runs : List Run) (vs : List Level) (h : Feed) (m : ℕ) → Opens coder gone runs vs h
    → Opens coder gone runs vs (Leave m ∷ h)
opens-left coder gone runs [] h m o = o
opens-left coder gone runs (v ∷ vs) h m o = o

pub opens-ended : (coder : Coder) (gone : ℕ) (runs : List Run) (vs : List Level) (h : Feed) → Opens coder gone runs vs h → Opens coder gone runs vs (End ∷ h)
opens-ended coder gone runs [] h o = o
opens-ended coder gone runs (v ∷ vs) h o = o

pub opens-cut : (coder : Coder) (gone : ℕ) (runs : List Run) (vs : List Level) (h : Feed) → Opens coder gone runs vs h → Opens coder gone runs vs (Cut ∷ h)
opens-cut coder gone runs [] h o = o
opens-cut coder gone runs (v ∷ vs) h o = o

-- a join carries the core's step: the new listener stands last, in the start state
pub join-carries : (coder : Coder) (c : Core) (vs : List Level) (rests : List Rest) (queue : List Ticket) (issued : ℕ) (spec : JoinSpec)
    → Carries coder vs rests queue issued c
    → Carries coder vs (rests ++ record { spec = spec; heard = 0; origin = Known coder.start } ∷ []) queue issued (appended c (Join spec))
join-carries coder c vs rests queue issued spec car =
    let h = c.feed in
    let gone = collects h in
    record {
      opens = opens-quiet coder gone c.runs vs h spec car.opens;
      present = zip-push (Rests coder gone (Join spec ∷ h)) rests (listeners coder h) (record { spec = spec; heard = 0; origin = Known coder.start }) (begins coder spec (closes h))
          (zip-map (Rests coder gone h) (Rests coder gone (Join spec ∷ h)) rests (listeners coder h)
          (λ r l i z. let by : (og : Origin) → OriginIs coder gone h og l → OriginIs coder gone (Join spec ∷ h) og l = elim [ Known s ↦ λ q. q | Earlier j ↦ λ q. q ] in
          record { spec = z.spec; heard = z.heard; origin = by r.origin z.origin }) car.present)
          (record { spec = refl; heard = omega arith; origin = ((λ x i. absurd i), refl) });
      runs = car.runs;
      once = car.once;
      queue = car.queue;
      issued_is = car.issued_is;
    }

-- a leave carries the core's step: the leaver's seats at closed ticks stay
pub leave-carries : (coder : Coder) (c : Core) (vs : List Level) (rests : List Rest) (queue : List Ticket) (issued m : ℕ)
    → Carries coder vs rests queue issued c
    → Carries coder vs (filter (λ r. not (r.spec.member == m)) rests) queue issued (appended c (Leave m))
leave-carries coder c vs rests queue issued m car =
    let h = c.feed in
    let gone = collects h in
    record {
      opens = opens-left coder gone c.runs vs h m car.opens;
      present = zip-filter (Rests coder gone (Leave m ∷ h)) (λ r. not (r.spec.member == m)) (λ l. not (l.spec.member == m)) rests (listeners coder h)
          (λ r l z. ap (λ s. not (s.member == m)) z.spec)
          (zip-map (Rests coder gone h) (Rests coder gone (Leave m ∷ h)) rests (listeners coder h)
          (λ r l i z. let by : (og : Origin) → OriginIs coder gone h og l → OriginIs coder gone (Leave m ∷ h) og l = elim [ Known s ↦ λ q. q | Earlier j ↦ λ q. q ] in
          record { spec = z.spec; heard = z.heard; origin = by r.origin z.origin }) car.present);
      runs = car.runs;
      once = car.once;
      queue = car.queue;
      issued_is = car.issued_is;
    }

pub end-carries : (coder : Coder) (c : Core) (vs : List Level) (rests : List Rest) (queue : List Ticket) (issued : ℕ)
    → Carries coder vs rests queue issued c → Carries coder vs rests queue issued (appended c End)
end-carries coder c vs rests queue issued car =
    let h = c.feed in
    let gone = collects h in
    record {
      opens = opens-ended coder gone c.runs vs h car.opens;
      present = zip-map (Rests coder gone h) (Rests coder gone (End ∷ h)) rests (listeners coder h)
          (λ r l i z. let by : (og : Origin) → OriginIs coder gone h og l → OriginIs coder gone (End ∷ h) og l = elim [ Known s ↦ λ q. q | Earlier j ↦ λ q. q ] in
          record { spec = z.spec; heard = z.heard; origin = by r.origin z.origin }) car.present;
      runs = car.runs;
      once = car.once;
      queue = car.queue;
      issued_is = car.issued_is;
    }

pub cut-carries : (coder : Coder) (c : Core) (vs : List Level) (rests : List Rest) (queue : List Ticket) (issued : ℕ)
    → Carries coder vs rests queue issued c → Carries coder vs rests queue issued (appended c Cut)
cut-carries coder c vs rests queue issued car =
    let h = c.feed in
    let gone = collects h in
    record {
      opens = opens-cut coder gone c.runs vs h car.opens;
      present = zip-map (Rests coder gone h) (Rests coder gone (Cut ∷ h)) rests (listeners coder h)
          (λ r l i z. let by : (og : Origin) → OriginIs coder gone h og l → OriginIs coder gone (Cut ∷ h) og l = elim [ Known s ↦ λ q. q | Earlier j ↦ λ q. q ] in
          record { spec = z.spec; heard = z.heard; origin = by r.origin z.origin }) car.present;
      runs = car.runs;
      once = car.once;
      queue = car.queue;
      issued_is = car.issued_is;
    }

-- nothing carries the start
pub begun-carries : (coder : Coder) → Carries coder [] [] [] 0 begun
begun-carries coder = record {
  opens = omega arith;
  present = tt;
  runs = λ r. ((λ i. i), (λ i. i));
  once = tt;
  queue = record { rise = tt; each = λ t i. absurd i; all = λ r i w. absurd i };
  issued_is = refl;
}
