use Rattle.std.proofs.Common.{◌<◌, length, set, ap, ◌∙◌, arith}
use Rattle.std.proofs.lemmas.List.{get_or_default}
use Rattle.std.proofs.lemmas.List.Edits.{map_over_more}
use Rattle.enc_group.specs.Groups.{moved}
use Rattle.enc_group.proofs.seats.move_each.Goals as goal

pub loop-seat-preserved : goal.loop-seat-preserved
loop-seat-preserved c =
    let now = c.loop-seat.seats in
    let i = c.loop-seat.seat-index in
    let goes = moved c.args.from c.args.into in
    let within : i < length now = omega (arith, c.loop-seat.auto.seats, c.loop-seat-test.true) in
    ap (set now i) c.move_seat.ensures
    ∙ map_over_more goes c.args.seats.now now i _ c.loop-seat-test.true c.loop-seat.invariant (get_or_default now i _ _ within)
