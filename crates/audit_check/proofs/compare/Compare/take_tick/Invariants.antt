use Rattle.std.proofs.Common.{◌≡◌, ◌++◌, List, take}
use Rattle.conference_spec.specs.Packets.{Sending}
use Rattle.audit_check.specs.Sendings.{sent_in}
use Rattle.audit_check.specs.Comparing.{Compared}
use Rattle.audit_check.proofs.compare.Compare.take_tick.Given as goal

abbrev pub invariant-loop-i : goal.invariant-loop-i
invariant-loop-i l = record {
  out : l.self.out ≡ l.fn.self.out;
  ticks : l.self.ticks ≡ l.fn.self.ticks;
  compared : (ss : List Sending) → Compared l.fn.self ss → Compared l.self (ss ++ sent_in l.fn.self.ticks (take l.i l.packets.packets));
}
