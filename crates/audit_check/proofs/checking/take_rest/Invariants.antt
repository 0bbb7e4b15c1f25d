use Rattle.std.proofs.Common.{◌≡◌, ◌++◌, ℕ, List, take, length}
use Rattle.conference_spec.specs.Codec.{g726}
use Rattle.conference_spec.specs.Feed.{Feed}
use Rattle.conference_spec.specs.Packets.{Sending, rest}
use Rattle.desk_run.specs.BookSide.{StandsFor}
use Rattle.audit_check.specs.Sendings.{sent_in}
use Rattle.audit_check.specs.Comparing.{Compared}
use Rattle.audit_check.proofs.checking.take_rest.Given as goal

abbrev pub invariant-loop-i : goal.invariant-loop-i
invariant-loop-i l = record {
  out : l.compare.out ≡ l.fn.compare.out;
  ticks : l.compare.ticks ≡ l.fn.compare.ticks;
  compared : (h : Feed) (ss : List Sending) → StandsFor l.book h → Compared l.fn.compare ss
      → Compared l.compare (ss ++ sent_in l.fn.compare.ticks (take l.i (rest g726 h)));
  many : (h : Feed) → StandsFor l.book h → l.i-end ≡ length (rest g726 h);
}
