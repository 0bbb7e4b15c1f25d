use Rattle.std.proofs.Common.{◌≡◌, ◌++◌, map, take, drop}
use Rattle.live_tally.specs.Accounts.{leaves}
use Rattle.live_tally.proofs.account.mark_leaves.Given as goal

-- the first ones were looked at, and the others are as they were
abbrev pub invariant-loop-account : goal.invariant-loop-account
invariant-loop-account l = l.accounts ≡ map (leaves l.member l.closed) (take l.account-index l.fn.accounts) ++ drop l.account-index l.fn.accounts
