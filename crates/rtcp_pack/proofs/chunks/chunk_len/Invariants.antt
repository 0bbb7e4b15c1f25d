use Rattle.std.proofs.Common.{◌≡◌, ◌+◌, ◌-◌, length, drop}
use Rattle.std.specs.Option.{option_map}
use Rattle.rtcp_pack.specs.Chunks.{ended_len}
use Rattle.rtcp_pack.proofs.chunks.chunk_len.Given as goal

abbrev pub invariant-loop-place : goal.invariant-loop-place
invariant-loop-place l = option_map (λ len. l.place + len) (ended_len 0 (drop l.place l.body)) ≡ ended_len 4 l.body

abbrev pub decreases-loop-place : goal.decreases-loop-place
decreases-loop-place l = length l.body - l.place
