use Rattle.std.proofs.Common.{◌≡◌, ◌≤◌, ◌<◌, ℕ, false}
use Rattle.enc_group.specs.Groups.{passes, group_in}
use Rattle.enc_group.specs.Wanted.{test_of}
use Rattle.enc_group.proofs.places.least.Given as goal

-- no key so far is looked for
abbrev pub invariant-loop-key : goal.invariant-loop-key
invariant-loop-key l = (k : ℕ) → l.from ≤ k → k < l.key → passes (test_of l.wanted) (group_in l.groups.slots k) ≡ false
