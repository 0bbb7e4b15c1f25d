use Rattle.std.proofs.Common.{◌≡◌, ℕ, ◌<◌, length, map, sym, ap, ◌∙◌, arith, rules}
use Rattle.room_pool.specs.Turning.{AskedFrom, Answers, first_of}
use Rattle.room_pool.proofs.InTurn.{asked_homes, all_ended, one_goes_on}
use Rattle.room_pool.proofs.turns.RoomTurnsTurns.claim.Goals as goal

pub invariant_of-self : goal.invariant_of-self
invariant_of-self g c =
    let long = ap (λ t. length t.passes) c.self.view_is ∙ c.ask.ensures.count in
    let within : c.in-Job.at < length c.args.self.now.passes = c.in-Job.ensures.within in
    omega (arith, long)

pub returns-in-Job-clause-home : goal.returns-in-Job-clause-home
returns-in-Job-clause-home g c =
    ap (λ t. map (λ w. w.pass.home) t.passes) c.self.view_is
    ∙ asked_homes (first_of c.args.self.now.last) c.args.self.now.passes c.ask.new.self.passes c.ask.result c.ask.ensures.asked

pub returns-in-Nothing-true-clause-home : goal.returns-in-Nothing-true-clause-home
returns-in-Nothing-true-clause-home g c = asked_homes (first_of c.args.self.now.last) c.args.self.now.passes c.ask.new.self.passes c.ask.result c.ask.ensures.asked

pub returns-in-Nothing-false-clause-home : goal.returns-in-Nothing-false-clause-home
returns-in-Nothing-false-clause-home g c = asked_homes (first_of c.args.self.now.last) c.args.self.now.passes c.ask.new.self.passes c.ask.result c.ask.ensures.asked

pub returns-in-Nothing-true-clause-over : goal.returns-in-Nothing-true-clause-over
returns-in-Nothing-true-clause-over g c = all_ended c.args.self.now.passes c.ask.new.self.passes (rw c.in-Nothing-true.over-test at c.in-Nothing-true.ensures.asked)

pub returns-in-Nothing-false-clause-over : goal.returns-in-Nothing-false-clause-over
returns-in-Nothing-false-clause-over g c =
    one_goes_on c.args.self.now.passes c.ask.new.self.passes (rw c.in-Nothing-false.over-test at c.in-Nothing-false.ensures.asked).1
