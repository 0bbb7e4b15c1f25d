use Rattle.std.proofs.Common.{◌<◌, ◌≡◌, ◌≤◌, [], ◌∷◌, ℕ, refl, arith, false}
use Rattle.std.specs.Prelude.{true}
use Rattle.g726_bits.specs.declared.Rate.TheVariants.{R32}
use Rattle.talk_mix.specs.declared.ticks.Tick.{Tick}
use Rattle.conference_spec.specs.declared.JoinSpec.{JoinSpec}
use Rattle.conference_spec.specs.declared.Entry.TheVariants.{Join, Leave, Close, Collect, Cut}
use Rattle.conference_spec.specs.Codec.{g726}
use Rattle.conference_spec.specs.Feed.{Feed, closes, collects, ended, kept, may_follow}
use Rattle.tick_core.specs.declared.book.Book.{Book}
use Rattle.desk_run.specs.BookSide.{HandedAll}
use Rattle.desk_run.proofs.BookFeed.{new-stands}
use Rattle.desk_run.proofs.tests.packets_over_two_cuts.Goals as goal

abbrev spec : JoinSpec
spec = record { member = 7; rate = R32; pt = 96; ssrc = 11; first_seq = 65535; first_stamp = 3; ticks = 2 }

abbrev joined : Feed
joined = Join spec ∷ []

abbrev heard : Tick → Feed → Feed
heard tick f = Collect ∷ Close tick ∷ f

-- as many ticks were handed out as were closed
at : (b : Book) (f : Feed) (n : ℕ) → HandedAll b f n → HandedAll b f (closes f)
at b f n (s, all, even) = (s, refl, even)

-- a Book may be asked for the next of a few ticks
few : (b : Book) (f : Feed) → HandedAll b f (closes f) → ended f ≡ false → closes f < 4320000 → kept f < 18000
    → (h : Feed) × (n : ℕ) × HandedAll b h n × (ended h ≡ false) × (closes h < 4320000) × (kept h < 18000) × (collects h ≡ closes h) × (n ≤ closes h)
few b f s going early short = (f, closes f, s, going, early, short, s.2, omega arith)

-- and to forget them
over : (b : Book) (f : Feed) → HandedAll b f (closes f) → may_follow g726 f Cut ≡ true
    → (h : Feed) × (n : ℕ) × HandedAll b h n × (n ≡ closes h) × (may_follow g726 h Cut ≡ true)
over b f s may = (f, closes f, s, refl, may)

pub join-requires-clause-stands : goal.join-requires-clause-stands
join-requires-clause-stands g c = ([], 0, (new-stands c.new-book.result c.new-book.ensures.begun, refl, refl), refl)

pub encode-requires : goal.encode-requires
encode-requires g c =
    let s = new-stands c.new-book.result c.new-book.ensures.begun in
    few _ joined (c.in_ok-join.ensures.stands [] 0 (s, refl, refl)) refl (omega arith) (omega arith)

pub cut-requires : goal.cut-requires
cut-requires g c =
    let s = new-stands c.new-book.result c.new-book.ensures.begun in
    let one = c.in_ok-first.ensures.stands joined 0 (c.in_ok-join.ensures.stands [] 0 (s, refl, refl)) in
    over _ (heard c.empty.result joined) (at _ (heard c.empty.result joined) _ one.1) refl

pub encode-requires-2 : goal.encode-requires-2
encode-requires-2 g c =
    let s = new-stands c.new-book.result c.new-book.ensures.begun in
    let f = heard c.empty.result joined in
    let one = c.in_ok-first.ensures.stands joined 0 (c.in_ok-join.ensures.stands [] 0 (s, refl, refl)) in
    few _ (Cut ∷ f) (c.cut.ensures.stands f 1 (at _ f _ one.1) refl) refl (omega arith) (omega arith)

pub cut-requires-2 : goal.cut-requires-2
cut-requires-2 g c =
    let s = new-stands c.new-book.result c.new-book.ensures.begun in
    let f = heard c.empty.result joined in
    let h = heard c.empty-2.result (Cut ∷ f) in
    let one = c.in_ok-first.ensures.stands joined 0 (c.in_ok-join.ensures.stands [] 0 (s, refl, refl)) in
    let two = c.in_ok-second.ensures.stands (Cut ∷ f) 1 (c.cut.ensures.stands f 1 (at _ f _ one.1) refl) in
    over _ h (at _ h _ two.1) refl

pub encode-requires-3 : goal.encode-requires-3
encode-requires-3 g c =
    let s = new-stands c.new-book.result c.new-book.ensures.begun in
    let f = heard c.empty.result joined in
    let h = heard c.empty-2.result (Cut ∷ f) in
    let one = c.in_ok-first.ensures.stands joined 0 (c.in_ok-join.ensures.stands [] 0 (s, refl, refl)) in
    let two = c.in_ok-second.ensures.stands (Cut ∷ f) 1 (c.cut.ensures.stands f 1 (at _ f _ one.1) refl) in
    few _ (Cut ∷ h) (c.cut-2.ensures.stands h 2 (at _ h _ two.1) refl) refl (omega arith) (omega arith)

pub leave-requires : goal.leave-requires
leave-requires g c =
    let s = new-stands c.new-book.result c.new-book.ensures.begun in
    let f = heard c.empty.result joined in
    let h = heard c.empty-2.result (Cut ∷ f) in
    let one = c.in_ok-first.ensures.stands joined 0 (c.in_ok-join.ensures.stands [] 0 (s, refl, refl)) in
    let two = c.in_ok-second.ensures.stands (Cut ∷ f) 1 (c.cut.ensures.stands f 1 (at _ f _ one.1) refl) in
    let three = c.in_ok-third.ensures.stands (Cut ∷ h) 2 (c.cut-2.ensures.stands h 2 (at _ h _ two.1) refl) in
    (heard c.empty-3.result (Cut ∷ h), _, three.1, refl)

pub encode-requires-4 : goal.encode-requires-4
encode-requires-4 g c =
    let s = new-stands c.new-book.result c.new-book.ensures.begun in
    let f = heard c.empty.result joined in
    let h = heard c.empty-2.result (Cut ∷ f) in
    let j = heard c.empty-3.result (Cut ∷ h) in
    let one = c.in_ok-first.ensures.stands joined 0 (c.in_ok-join.ensures.stands [] 0 (s, refl, refl)) in
    let two = c.in_ok-second.ensures.stands (Cut ∷ f) 1 (c.cut.ensures.stands f 1 (at _ f _ one.1) refl) in
    let three = c.in_ok-third.ensures.stands (Cut ∷ h) 2 (c.cut-2.ensures.stands h 2 (at _ h _ two.1) refl) in
    few _ (Leave 7 ∷ j) (c.leave.ensures.stands j 3 (at _ j _ three.1)) refl (omega arith) (omega arith)
