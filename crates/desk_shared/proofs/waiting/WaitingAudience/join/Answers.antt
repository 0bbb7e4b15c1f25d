use Rattle.std.proofs.Common.{◌∙◌, sym, ap, arith, Err}
use Rattle.std.proofs.lemmas.Bool.{false≢true}
use Rattle.desk_shared.proofs.Handing.{not-used, not-full, joins}
use Rattle.desk_shared.proofs.waiting.WaitingAudience.join.Goals as goal

pub unreachable-requires : goal.unreachable-requires
unreachable-requires g c =
    let (h, n, there, may) = c.requires.stands in
    let o = there.0 in
    let used = (c.join.ensures.used o.own o.stands).0 (c.in-Err-Used.is ∙ ap (λ x. Err x) c.in-Err-Used.field-0-is) in
    false≢true (sym (not-used o.own h c.args.spec o.same may) ∙ used)

pub unreachable-requires-in-Err-Full : goal.unreachable-requires-in-Err-Full
unreachable-requires-in-Err-Full g c =
    let (h, n, there, may) = c.requires.stands in
    let o = there.0 in
    let full = (c.join.ensures.full o.own o.stands).0 (c.in-Err-Full.is ∙ ap (λ x. Err x) c.in-Err-Full.field-0-is) in
    let few = not-full o.own h c.args.spec o.same may in
    omega (arith, full.1)

pub returns-in-Ok-clause-stands : goal.returns-in-Ok-clause-stands
returns-in-Ok-clause-stands g c = λ h n there. (joins _ _ h n c.args.spec c.requires.lawful c.in-Ok.ensures.ok there.0, there.1)
