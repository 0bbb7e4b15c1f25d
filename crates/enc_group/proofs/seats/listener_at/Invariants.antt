use Rattle.std.proofs.Common.{◌≡◌, ◌<◌, length, drop}
use Rattle.std.specs.Prelude.{slice_get}
use Rattle.enc_group.proofs.Ahead.{listed}
use Rattle.enc_group.proofs.seats.listener_at.Given as goal

-- the listener is still ahead, at this place
abbrev pub invariant-loop-seat : goal.invariant-loop-seat
invariant-loop-seat l = record {
  ahead : l.before < length (listed l.key (drop l.seat-index l.seats));
  there : slice_get (listed l.key l.seats) l.i ≡ slice_get (listed l.key (drop l.seat-index l.seats)) l.before;
}
