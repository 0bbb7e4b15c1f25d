use Rattle.bench_book.proofs.Steps.{keeps-known, keeps-on}
use Rattle.bench_book.proofs.run.run_waiting.Goals as goal

pub loop-preserved : goal.loop-preserved
loop-preserved c =
    let k = c.in_ok-run_next.ensures.runs in
    (keeps-known c.loop.book c.run_next.new.book c.loop.invariant.0 k, keeps-on c.args.book.now c.loop.book c.run_next.new.book c.loop.invariant.1 k)
