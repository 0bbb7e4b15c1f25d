use Rattle.std.proofs.Common.{◌≡◌, ◌<◌, ℕ, None, pos, length, get_or, unwrap_or}
use Rattle.jitter_line.proofs.places.take_frame.Given as goal

abbrev pub invariant-loop-k : goal.invariant-loop-k
invariant-loop-k l = (length l.samples ≡ 160) × ((i : ℕ) → i < l.k → get_or l.samples i (pos 0) ≡ unwrap_or (get_or l.places i None) (pos 0))
