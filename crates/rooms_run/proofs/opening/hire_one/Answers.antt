use Rattle.std.proofs.Common.{ℕ, ◌<◌, ◌+◌, ◌≡◌, All, length, subst, sym, arith}
use Rattle.std.proofs.lemmas.List.Elements.{AllWithin-more_set, All-from_all_within}
use Rattle.rooms_run.specs.Opening.{IsKeyed}
use Rattle.rooms_run.proofs.Fresh.{rest_after}
use Rattle.rooms_run.proofs.opening.hire_one.Goals as goal

pub hire-requires : goal.hire-requires
hire-requires g c =
    let n = c.requires.few.0 in
    let few : n < 65536 = c.requires.few.1 in
    let within : c.loop-room.room-index < length c.loop-room.keyed = omega (arith, c.loop-room-test.true, c.loop-room.auto.keyed) in
    let here = c.loop-room.invariant.rest n c.requires.few.2 c.loop-room.room-index c.room-item.result (omega arith) within in
    record { room = omega (arith, here.out, few) }

pub loop-room-preserved : goal.loop-room-preserved
loop-room-preserved g c =
    let at = c.loop-room.room-index in
    let within : at < length c.loop-room.keyed = omega (arith, c.loop-room-test.true, c.loop-room.auto.keyed) in
    record {
      hired = λ n all.
          AllWithin-more_set c.loop-room.keyed at c.hire.new.self within (IsKeyed (n + 1)) (c.loop-room.invariant.hired n all)
          (c.hire.ensures.keyed n (c.loop-room.invariant.rest n all at c.room-item.result (omega arith) within));
      rest = λ n all. rest_after (IsKeyed n) c.loop-room.keyed at c.hire.new.self (c.loop-room.invariant.rest n all);
    }

pub returns : goal.returns
returns g c = record {
  keyed = λ n all k d within. c.loop-room.invariant.hired n all k d (omega arith) (omega (arith, c.loop-room-test.false, c.loop-room.auto.room-index-end));
}
