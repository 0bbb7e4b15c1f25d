use Rattle.std.proofs.Common.{◌≡◌, ◌<◌, length, map, filter, count_by, sym, ◌∙◌, arith, true}
use Rattle.std.specs.List.{list_any}
use Rattle.std.proofs.lemmas.List.{length-map}
use Rattle.std.proofs.lemmas.List.Sums.{length-filter}
use Rattle.enc_group.specs.declared.Seat.{Seat}
use Rattle.enc_group.specs.Groups.{sits, members}
use Rattle.enc_group.proofs.Passing.{any-some_of}
use Rattle.enc_group.proofs.groups.Groups.len_of.Goals as goal

pub returns-clause-value : goal.returns-clause-value
returns-clause-value c =
    let seats = c.self.inside.seats.items in
    let key = c.args.key in
    let n = length-map (filter (sits key) seats) (λ (s : Seat). s.listener) in
    let m = length-filter (sits key) seats in
    rw (← c.self.view_is, c.count_at.ensures, c.as_slice.ensures.value) (sym m ∙ sym n)

pub returns-clause-peopled : goal.returns-clause-peopled
returns-clause-peopled c =
    let seats = c.self.inside.seats.items in
    let key = c.args.key in
    let there = rw (← c.self.view_is) at c.requires in
    let m = length-filter (sits key) seats in
    let some = any-some_of (sits key) seats (c.self.invariant.people.peopled key there) in
    rw (c.count_at.ensures, c.as_slice.ensures.value) (omega (arith, m, some))
