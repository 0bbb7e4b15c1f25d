use Rattle.std.proofs.Common.{◌≡◌, ℕ, ◌-◌, subst, arith}
use Rattle.desk_run.specs.BookSide.{HasRun, waiting}
use Rattle.desk_run.proofs.book_side.run_all.Goals as goal

pub run_next-requires : goal.run_next-requires
run_next-requires c =
    let r = c.requires in
    let (all, made) = c.loop.invariant r.0 r.1 r.2 in
    let more = c.loop-test.true in
    let left = made.left in
    let end = c.waiting-end.ensures r.0 r.1 in
    (made.core, made.stands, made.whole, omega arith)

pub returns : goal.returns
returns c = λ c' st w.
    let (all, made) = c.loop.invariant c' st w in
    let over = c.loop-test.false in
    let none : waiting c' - c.loop.counter ≡ 0 = omega arith in
    subst (λ (n : ℕ). HasRun n c' c.loop.book) none made
