use Rattle.std.proofs.Common.{◌≡◌, ◌+◌, ℕ, List, map, length}
use Rattle.conference_spec.specs.Feed.{Feed}
use Rattle.tick_core.specs.Held.{Sent}
use Rattle.desk_run.specs.Handing.{sent_from}
use Rattle.audit_check.specs.Sendings.{sendings_to}
use Rattle.audit_check.specs.Comparing.{Compared, HasCompared}
use Rattle.audit_check.proofs.checking.take_ticks.Given as goal

abbrev pub invariant-loop-packets : goal.invariant-loop-packets
invariant-loop-packets l = record {
  out : l.compare.out ≡ l.fn.compare.out;
  so_far : l.compare.ticks ≡ l.fn.compare.ticks + l.packets-index;
  begun : HasCompared l.compare;
  compared : (h : Feed) → map (λ (t : Sent). t.packets) l.ticks ≡ sent_from l.fn.compare.ticks (length l.ticks) h
      → Compared l.fn.compare (sendings_to l.fn.compare.ticks h) → Compared l.compare (sendings_to l.compare.ticks h);
}
