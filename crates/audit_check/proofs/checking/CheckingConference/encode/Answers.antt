use Rattle.std.proofs.Common.{◌≡◌, ◌+◌, ◌∷◌, ℕ, List, length, ap, arith}
use Rattle.tick_core.specs.Held.{Sent}
use Rattle.conference_spec.specs.declared.Entry.TheVariants.{Close}
use Rattle.audit_check.proofs.Handing.{encoded, same-ticks}
use Rattle.audit_check.proofs.checking.CheckingConference.encode.Goals as goal

pub returns-clause-stands : goal.returns-clause-stands
returns-clause-stands c h n s =
    let old = c.args.self.now in
    let items = c.in_ok-ticks.ticks.items in
    let there = c.in_ok-ticks.ensures.stands h n s.0 in
    let long = ap (λ (ts : List Sent). length ts) c.deref.ensures.value in
    let risen : c.take_ticks.new.compare.ticks ≡ old.compare.ticks + length items = omega (arith, c.take_ticks.ensures.ticks) in (
      there.0,
      encoded old c.encode.new.self c.take_ticks.new.compare c.args.tick h n (length items) s.0.1 there.1 risen s
          (c.take_ticks.ensures.compared (Close c.args.tick ∷ h)
          (same-ticks c.deref.result.now items old.compare.ticks n (Close c.args.tick ∷ h) c.deref.ensures.value s.1 (c.in_ok-ticks.ensures.packets h n s.0))),
    )
