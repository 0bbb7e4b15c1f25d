use Rattle.std.proofs.Common.{◌≡◌, take}
use Rattle.session_account.specs.Speaking.{seated}
use Rattle.session_account.proofs.voices.Voices.new.Given as goal

abbrev pub invariant-loop-i : goal.invariant-loop-i
invariant-loop-i l = l.talkers.items ≡ seated (take l.i l.roster.timed)
