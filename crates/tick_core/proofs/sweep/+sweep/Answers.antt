use Rattle.std.proofs.Common.{◌≡◌, ◌<◌, List, ◌∷◌, length, sym, subst, ◌∙◌}
use Rattle.book_lists.specs.Levels.{Level}
use Rattle.tick_core.specs.Sweeping.{AllFit, Swept}
use Rattle.tick_core.proofs.Sweeps.{not-empty, swept-pulled}
use Rattle.tick_core.proofs.sweep.+sweep.Goals as goal

pub returns : goal.returns
returns t c =
    let v = c.in-Some.open.now in
    let us = c.in-Some.older.now in
    let split : c.args.newer.now ≡ v ∷ us = c.in-Some.ensures.cases.0 in
    let some : 0 < length us = not-empty us (sym c.is_empty.ensures ∙ c.if-is_empty.false) in
    let fit : AllFit (v ∷ us) = subst AllFit split c.requires.fit in
    let P : List Level → Type 0 = λ vs. Swept vs c.args.queue.now (c.pull.new.self ∷ c.sweep.new.newer) c.pull.new.queue c.pull.result in
    record {
      swept = subst P (sym split)
          (swept-pulled v c.pull.new.self c.index-older-0.result us c.sweep.new.newer c.args.queue.now c.sweep.new.queue c.pull.new.queue c.pull.result
          some fit.0 c.if-not-sweep.ensures.swept c.pull.ensures.pulled);
    }
