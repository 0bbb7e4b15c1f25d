use Rattle.std.proofs.Common.{◌<◌, length, set, ap, ◌∙◌, arith}
use Rattle.std.proofs.lemmas.List.{get_or_default}
use Rattle.std.proofs.lemmas.List.Edits.{map_over_more}
use Rattle.live_tally.specs.Accounts.{leaves}
use Rattle.live_tally.proofs.account.mark_leaves.Goals as goal

pub loop-account-preserved : goal.loop-account-preserved
loop-account-preserved c =
    let now = c.loop-account.accounts in
    let i = c.loop-account.account-index in
    let goes = leaves c.args.member c.args.closed in
    let within : i < length now = omega (arith, c.loop-account.auto.accounts, c.loop-account-test.true) in
    ap (set now i) c.mark_leave.ensures
    ∙ map_over_more goes c.args.accounts.now now i _ c.loop-account-test.true c.loop-account.invariant (get_or_default now i _ _ within)
