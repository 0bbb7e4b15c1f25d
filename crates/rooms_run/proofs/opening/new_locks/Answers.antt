use Rattle.std.proofs.Common.{◌≡◌, ◌+◌, ◌++◌, ◌∷◌, [], length, length-append, ap, sym, ◌∙◌, arith, rules}
use Rattle.rooms_run.specs.Opening.{AreFresh}
use Rattle.rooms_run.proofs.Fresh.{one_more}
use Rattle.rooms_run.proofs.opening.new_locks.Goals as goal

pub loop-preserved : goal.loop-preserved
loop-preserved c =
    let was = c.loop.invariant in
    let fresh : AreFresh (c.loop.locks.items ++ c.in_ok-lock.lock ∷ []) (c.loop.passes.items ++ c.in_ok-lock.pass ∷ []) =
    one_more c.loop.locks.items c.loop.passes.items c.in_ok-lock.lock c.in_ok-lock.pass (was.locks ∙ sym was.passes) was.fresh c.in_ok-lock.ensures in
    let locks : c.push.new.self.items ≡ c.loop.locks.items ++ c.in_ok-lock.lock ∷ [] = search rules in
    let passes : c.push-in-loop.new.self.items ≡ c.loop.passes.items ++ c.in_ok-lock.pass ∷ [] = search rules in
    record {
      fresh = rw (locks, passes) fresh;
      locks = ap length locks ∙ length-append c.loop.locks.items (c.in_ok-lock.lock ∷ []) ∙ ap (λ n. n + 1) was.locks;
      passes = ap length passes ∙ length-append c.loop.passes.items (c.in_ok-lock.pass ∷ []) ∙ ap (λ n. n + 1) was.passes;
    }
