use Rattle.std.proofs.Common.{◌≡◌, ◌<◌, ℕ, None, length, get_or, slice_get}
use Rattle.jitter_line.proofs.places.append_frame.Given as goal

abbrev pub invariant-loop-j : goal.invariant-loop-j
invariant-loop-j l = (length l.places ≡ 160) × ((k : ℕ) → k < l.j → get_or l.places k None ≡ slice_get l.samples k)
