use Rattle.std.proofs.Common.{◌≡◌, ◌++◌, nat_eq, take}
use Rattle.std.specs.HashMap.{get}
use Rattle.std.specs.List.{flat_map}
use Rattle.live_tally.specs.Accounts.{last_of}
use Rattle.live_tally.proofs.due.add_last.Given as goal

abbrev pub invariant-loop-account : goal.invariant-loop-account
invariant-loop-account l = l.reports.items ≡ l.fn.reports.items ++ flat_map (last_of (get nat_eq l.totals) l.tick) (take l.account-index l.accounts)
