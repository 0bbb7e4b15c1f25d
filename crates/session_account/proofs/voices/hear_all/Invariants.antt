use Rattle.std.proofs.Common.{◌≡◌, map}
use Rattle.session_account.specs.Speaking.{hears, unheard}
use Rattle.session_account.proofs.Mapped.{Front}
use Rattle.session_account.proofs.voices.hear_all.Given as goal

abbrev pub invariant-loop-i : goal.invariant-loop-i
invariant-loop-i l = record {
  front : Front (hears l.tick) l.i l.fn.talkers.items l.talkers.items;
  same : map unheard l.talkers.items ≡ map unheard l.fn.talkers.items;
}
