use Rattle.std.proofs.Common.{◌<◌, sym, ap, ◌∙◌, length, arith}
use Rattle.conference_spec.specs.Machine.{is_finished}
use Rattle.triple_table.specs.Rows.{Row}
use Rattle.tick_core.proofs.Zips.{all-take, one-fails}
use Rattle.tick_core.proofs.Runs.{row-at, not-finished, some-row_stage}
use Rattle.tick_core.proofs.open.all_over.Goals.{in-Finished, in_default}
use Rattle.tick_core.proofs.open.all_over.Goals as goal

pub returns-then-not-matches : goal.returns-then-not-matches
returns-then-not-matches c =
    let lt : c.loop-at.at < length c.args.table.now.rows = (let e = c.len-at-end.ensures in let l = c.loop-at-test.true in omega arith) in
    let r = row-at c.args.table.now.rows c.loop-at.at lt in
    let stage = some-row_stage c.args.table.now.rows c.loop-at.at r.0 c.stage.result r.1 c.stage.ensures in
    let no = c.if-not-matches.true in
    sym (one-fails (λ (r : Row). is_finished r.stage) c.args.table.now.rows c.loop-at.at r.0 r.1
    (ap is_finished (sym stage) ∙ elim c.match-matches.branch [
      | in-Finished w ↦ (let m = w.matches-is in cc)
      | in_default w ↦ not-finished c.stage.result w.in_default.not-Finished
    ]))

pub loop-at-preserved : goal.loop-at-preserved
loop-at-preserved c =
    let lt : c.loop-at.at < length c.args.table.now.rows = (let e = c.len-at-end.ensures in let l = c.loop-at-test.true in omega arith) in
    let r = row-at c.args.table.now.rows c.loop-at.at lt in
    let stage = some-row_stage c.args.table.now.rows c.loop-at.at r.0 c.stage.result r.1 c.stage.ensures in
    let yes = c.if-not-matches.false in
    all-take (λ (r : Row). is_finished r.stage) c.args.table.now.rows c.loop-at.at r.0 lt c.loop-at.invariant
    (ap (λ (r : Row). is_finished r.stage) r.2 ∙ (ap is_finished (sym stage) ∙ elim c.match-matches.branch [
      | in-Finished w ↦ ap is_finished w.in-Finished.is
      | in_default w ↦ (let m = w.matches-is in cc)
    ]))
