use Rattle.std.proofs.Common.{◌≡◌, ◌<◌, ◌∙◌, sym, arith, ap, subst, length, IfSome, Option, ℕ, true, is_some}
use Rattle.enc_group.specs.Groups.{group_in, without, key_in}
use Rattle.enc_group.proofs.Entering.{key-there, without-none, people-left, length-without, left-empty}
use Rattle.enc_group.proofs.groups.Groups.drop_left.Goals as goal

pub returns-in_default-clause-seats : goal.returns-in_default-clause-seats
returns-in_default-clause-seats c =
    let none = rw c.as_slice.ensures.value at (sym c.key_of.ensures ∙ c.in_default.is) in
    rw (← c.self.view_is) (sym (without-none c.args.listener c.self.inside.seats.items none))

pub settle-requires : goal.settle-requires
settle-requires c =
    let own = rw c.as_slice.ensures.value at (sym c.key_of.ensures ∙ c.in-Some.is) in
    let P : Option ℕ → Type 0 = λ o. IfSome o (λ key. is_some (group_in c.self.inside.groups.slots key) ≡ true) in
    subst P own (key-there c.self.inside.groups.slots c.args.listener c.self.inside.seats.items c.self.invariant.people.seated)

pub invariant_of-self : goal.invariant_of-self
invariant_of-self c =
    let was = c.self.invariant in
    let own = rw c.as_slice.ensures.value at (sym c.key_of.ensures ∙ c.in-Some.is) in
    let e = c.remove.ensures.items in
    let sets = rw (c.is_used-used.ensures, c.as_slice-2.ensures.value, e) at c.settle.ensures.sets in
    let len = rw c.as_slice-2.ensures.value at c.as_slice-2.ensures.len in
    let len' = rw e at len in
    let less = length-without c.args.listener c.in-Some.key c.self.inside.seats.items own in
    let cap = c.remove.ensures.capacity in
    let gcap = c.settle.ensures.capacity in
    record {
      people = rw e (people-left _ _ c.self.inside.seats.items c.in-Some.key c.args.listener sets own was.people);
      seats_len = sym len;
      seat_room = omega (arith, was.seat_room, was.seats_len, less, len', cap);
      group_room = rw e (omega (arith, was.group_room, less, gcap));
    }

pub returns-clause-empty : goal.returns-clause-empty
returns-clause-empty c = λ key unused.
    let own = rw c.as_slice.ensures.value at (sym c.key_of.ensures ∙ c.in-Some.is) in
    let e = c.remove.ensures.items in
    let sets = rw (c.is_used-used.ensures, c.as_slice-2.ensures.value, e) at c.settle.ensures.sets in
    let unused' = rw e at unused in
    left-empty c.settle.new.groups.slots (without c.args.listener c.self.inside.seats.items)
    (people-left _ _ c.self.inside.seats.items c.in-Some.key c.args.listener sets own c.self.invariant.people) key unused'
