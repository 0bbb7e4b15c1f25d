use Rattle.std.proofs.Common.{◌≡◌, ◌∙◌, ℕ, ◌-◌, ◌+◌, cond, subst, ap, refl, arith}
use Rattle.session_account.specs.Encoding.{is_rate, count_at}
use Rattle.session_account.proofs.Rates.{ran-counts}
use Rattle.desk_run.specs.BookSide.{HasRun, waiting}
use Rattle.session_report.proofs.Counting.{none-at}
use Rattle.session_report.proofs.encoding.run_all.Goals as goal

pub loop-init : goal.loop-init
loop-init c = λ c' st w. (
  c.waiting-end.ensures c' st,
  record {
    made = record { core = c'; stands = st; feed = refl; whole = w; left = omega arith };
    counts = λ q. refl;
  },
)

pub run_next-rate-requires : goal.run_next-rate-requires
run_next-rate-requires c =
    let r = c.requires in
    let (all, counted) = c.loop.invariant r.0 r.1 r.2 in
    let more = c.loop-test.true in
    let left = counted.made.left in
    (counted.made.core, counted.made.stands, counted.made.whole, omega arith)

pub loop-preserved : goal.loop-preserved
loop-preserved c = λ c' st w.
    let (all, counted) = c.loop.invariant c' st w in
    let one = c.run_next-rate.ensures counted.made.core counted.made.stands counted.made.whole in
    let left = counted.made.left in
    let left' = one.made.left in (
      all,
      record {
        made = record {
          core = one.made.core;
          stands = one.made.stands;
          feed = one.made.feed ∙ counted.made.feed;
          whole = one.made.whole;
          left = omega arith;
        };
        counts = λ q.
            let more : ℕ = cond (is_rate q c.run_next-rate.result) 1 0 in
            let noted : count_at q c.note.new.self ≡ count_at q c.loop.runs + more =
            ap (count_at q) c.in_ok-note.ensures ∙ ran-counts q c.run_next-rate.result c.loop.runs in
            omega (arith, noted, one.counts q, counted.counts q);
      },
    )

pub returns-clause-made : goal.returns-clause-made
returns-clause-made c = λ c' st w.
    let (all, counted) = c.loop.invariant c' st w in
    let over = c.loop-test.false in
    let none : waiting c' - c.loop.counter ≡ 0 = omega arith in
    subst (λ (n : ℕ). HasRun n c' c.loop.book) none counted.made

pub returns-clause-counted : goal.returns-clause-counted
returns-clause-counted c = λ c' st w q.
    let (all, counted) = c.loop.invariant c' st w in
    let over = c.loop-test.false in
    let none : waiting counted.made.core ≡ 0 = counted.made.left ∙ omega arith in
    omega (arith, counted.counts q, none-at q counted.made.core none)
