use Rattle.std.proofs.Common.{◌≡◌, ◌<◌, length, map, filter, count_by, sym, ◌∙◌, arith}
use Rattle.std.proofs.lemmas.List.{length-map}
use Rattle.std.proofs.lemmas.List.Sums.{length-filter}
use Rattle.enc_group.specs.declared.Seat.{Seat}
use Rattle.enc_group.specs.Groups.{sits}
use Rattle.enc_group.proofs.groups.Groups.listener.Goals as goal

pub listener_at-requires : goal.listener_at-requires
listener_at-requires c =
    let seats = c.self.inside.seats.items in
    let key = c.args.key in
    let inside = rw (← c.self.view_is) at c.requires.inside in
    let n = length-map (filter (sits key) seats) (λ (s : Seat). s.listener) in
    let m = length-filter (sits key) seats in
    rw c.as_slice.ensures.value (omega (arith, inside, n, m))
