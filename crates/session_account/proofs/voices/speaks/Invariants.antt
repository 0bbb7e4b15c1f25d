use Rattle.std.proofs.Common.{◌≡◌, false, take}
use Rattle.session_account.specs.Speaking.{speaks}
use Rattle.session_account.proofs.voices.speaks.Given as goal

abbrev pub invariant-loop-i : goal.invariant-loop-i
invariant-loop-i l = speaks l.member (take l.i l.tick) ≡ false
