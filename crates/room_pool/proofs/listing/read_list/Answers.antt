use Rattle.std.proofs.Common.{◌≡◌, Some, arith}
use Rattle.roster_text.specs.Lines.{lines_of, words_of}
use Rattle.room_pool.specs.Listed.{line_step, room_list}
use Rattle.room_pool.proofs.Lines.{next_line, step_kept}
use Rattle.room_pool.proofs.listing.read_list.Goals as goal

pub loop-text-preserved : goal.loop-text-preserved
loop-text-preserved c =
    let was = c.loop-text.invariant in
    let step : line_step c.loop-text.list (words_of c.in-Some.text.now) ≡ Some c.step.new.self = rw c.if-not-branch.false at c.in_ok-step.ensures in
    record {
      same = next_line (lines_of c.loop-text.rest.now) (lines_of c.in-Some.after.now) c.in-Some.text.now c.loop-text.line c.loop-text.list c.step.new.self
          (room_list c.args.bytes.now) c.in-Some.ensures.lines was.same step;
      kept = step_kept c.loop-text.list c.step.new.self (words_of c.in-Some.text.now) step was.kept;
      short = omega (arith, was.short, c.in-Some.ensures.shorter);
    }
