use Rattle.std.proofs.Common.{◌≡◌, ◌++◌, nat_eq, take}
use Rattle.std.specs.HashMap.{get}
use Rattle.std.specs.List.{flat_map}
use Rattle.live_tally.specs.Accounts.{regular_of}
use Rattle.live_tally.proofs.due.add_regular.Given as goal

abbrev pub invariant-loop-account : goal.invariant-loop-account
invariant-loop-account l = l.reports.items ≡ l.fn.reports.items ++ flat_map (regular_of (get nat_eq l.totals) l.tick) (take l.account-index l.accounts)
