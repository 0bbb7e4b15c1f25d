use Rattle.std.proofs.Common.{◌≡◌, ◌∷◌, List, true, false, refl, sym, ◌∙◌, subst}
use Rattle.room_pool.specs.Asking.{behind_one}
use Rattle.room_pool.specs.Turning.{AskedEach}
use Rattle.room_pool.proofs.Turning.{FirstAsked, given_first, asked_behind}
use Rattle.room_pool.proofs.asking.+ask_each.Goals as goal
use Rattle.room_pool.proofs.asking.+ask_each.Goals.{in-Idle, in-Over}

pub returns-in-Job-clause-asked : goal.returns-in-Job-clause-asked
returns-in-Job-clause-asked g t c =
    given_first g.P.Asks.answers c.args.passes.now c.in-Some.first.now c.ask.new.self c.in-Some.others.now c.in-Job.job c.in-Some.ensures.cases.0 c.in-Job.ensures.answers

pub returns-clause-asked : goal.returns-clause-asked
returns-clause-asked g t c =
    let answers = g.P.Asks.answers in
    let v = c.in-Some.first.now in
    let w = c.ask.new.self in
    let vs = c.in-Some.others.now in
    let ws = c.ask_each.new.passes in
    let first : FirstAsked answers v w c.match-ask.over =
    elim c.match-ask.branch [
      | in-Idle k ↦ rw k.over-is k.in-Idle.ensures.answers
      | in-Over k ↦ rw k.over-is k.in-Over.ensures.answers
    ] in
    let together : AskedEach answers (v ∷ vs) (w ∷ ws) (behind_one c.match-ask.over c.ask_each.result) =
    asked_behind answers v w vs ws c.match-ask.over c.ask_each.result first c.ask_each.ensures.asked in
    rw (c.in-Some.ensures.cases.0, c.behind.ensures.together) together
