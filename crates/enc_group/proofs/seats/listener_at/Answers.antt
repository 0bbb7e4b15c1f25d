use Rattle.std.proofs.Common.{◌≡◌, ◌<◌, ◌+◌, length, map, filter, sym, ◌∙◌, arith, refl}
use Rattle.std.proofs.lemmas.List.{length-map}
use Rattle.std.proofs.lemmas.List.Sums.{length-filter}
use Rattle.enc_group.specs.declared.Seat.{Seat}
use Rattle.enc_group.specs.Groups.{sits}
use Rattle.enc_group.proofs.Ahead.{IsAhead, ahead-skip, ahead-pass}
use Rattle.enc_group.proofs.seats.listener_at.Goals.{then-seat-key+else-before-eq0, else-seat-key}
use Rattle.enc_group.proofs.seats.listener_at.Goals as goal

pub loop-seat-init : goal.loop-seat-init
loop-seat-init c =
    let seats = c.args.seats.now in
    let n = length-map (filter (sits c.args.key) seats) (λ (s : Seat). s.listener) in
    let m = length-filter (sits c.args.key) seats in
    record { ahead = omega (arith, c.requires, n, m); there = refl }

pub loop-seat-preserved : goal.loop-seat-preserved
loop-seat-preserved c =
    let seats = c.args.seats.now in
    let at = c.loop-seat.seat-index in
    let n = c.loop-seat.before in
    let within = c.loop-seat-test.true in
    let none : Seat = record { listener = 0; key = 0 } in
    let inv = c.loop-seat.invariant in
    let was : IsAhead seats c.args.key c.args.i at n = record { ahead = inv.ahead; there = inv.there } in
    let next : IsAhead seats c.args.key c.args.i (at + 1) c.if-seat-key.before = elim c.if-seat-key.branch [
      | then-seat-key+else-before-eq0 w ↦ ahead-pass seats c.args.key c.args.i at n c.if-seat-key.before none within w.if-seat-key.true w.if-before-eq0.false w.before-is was
      | else-seat-key w ↦ ahead-skip seats c.args.key c.args.i at n c.if-seat-key.before none within w.if-seat-key.false w.before-is was
    ] in
    record { ahead = next.ahead; there = next.there }
