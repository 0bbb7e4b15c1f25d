-- A turn at the lock, as a step of the core.
use Rattle.std.proofs.Common.{◌≡◌, false, [], ◌∙◌, ap, subst}
use Rattle.conference_spec.specs.Feed.{Feed}
use Rattle.conference_spec.specs.Machine.{Core, begun}
use Rattle.book_lock.specs.declared.view.View.{View}
use Rattle.book_lock.specs.Histories.{GoesOn}
use Rattle.book_lock.specs.Views.{first_desk}
use Rattle.book_lock.specs.Turns.{Turns}
use Rattle.conference_spec.specs.declared.Entry.{Entry}
use Rattle.tick_core.specs.declared.book.Book.{Book}
use Rattle.tick_core.specs.Standing.{Stands}
use Rattle.tick_core.specs.Locking.{Parts, StandsWith, core_of, parts_of}
use Rattle.tick_core.proofs.Locking.{one_core, fresh_feed}
use Rattle.book_seat.specs.Taken.{Steps, TookTurn}
use Rattle.book_seat.proofs.Feeds.{Appends}

-- a Book of which a step is known is the one that a closure was shown, and leaves
pub at_mut : (step : Core → Core → Type 0) (x y shown left : Book) → shown ≡ x → left ≡ y → Steps step shown left → Steps step x y
at_mut step x y shown left shows leaves steps =
    subst (λ (b : Book). Steps step b y) shows (subst (λ (b : Book). Steps step shown b) leaves steps)

-- a step that adds to the feed is one that a turn may take
pub may_append : (v : View Entry Parts) (step : Core → Core → Type 0) → Appends v step → (x y : Book) (feed : Feed) (parts : Parts) → Steps step x y
    → StandsWith x feed parts → (after : Feed) × (state : Parts) × StandsWith y after state × GoesOn feed after × (v.desk ≡ false → after ≡ feed)
may_append v step appends x y feed parts steps st =
    let s = steps.each (core_of feed parts) st in
    let a = appends (core_of feed parts) s.0 s.2 in
    (s.0.feed, parts_of s.0, s.1, a.goes, a.read)

-- what the lock says of such a turn
pub took_turn : (v w : View Entry Parts) (step : Core → Core → Type 0) (done : Book → Book → Type 0) → Appends v step
    → ((x y : Book) → done x y → Steps step x y) → Turns StandsWith done v w → TookTurn v w step
took_turn v w step done appends steps t =
    let c = core_of t.found.feed t.found.state in
    let d = core_of t.left.feed t.left.state in
    let x = t.did.0 in
    let y = t.did.1 in
    let s = (steps x y t.did.3).each c t.did.2 in
    let a = appends c s.0 s.2 in
    let same = one_core y c.feed s.0 d s.1 t.did.4 a.goes t.appended a.few in
    record {
      found = c;
      left = d;
      last = t.last;
      did = subst (step c) same s.2;
      was = (x, t.did.2);
      is = (y, t.did.4);
      may = t.may;
      seen = t.seen;
      turns = t.turns;
      desk = t.desk;
      worker = t.worker;
      out = t.out;
    }

-- the desk's pass of a lock round a new Book has seen nothing
pub fresh_desk : (b : Book) (v : View Entry Parts) → Stands b begun → v ≡ first_desk v.seen → (parts : Parts) → StandsWith b v.seen parts → v ≡ first_desk []
fresh_desk b v s is parts t = is ∙ ap first_desk (fresh_feed b v.seen parts s t)
