use Rattle.std.proofs.Common.{◌∙◌, ap, sym}
use Rattle.desk_shared.proofs.Handing.{hands, hands-packets, stays-so}
use Rattle.desk_shared.proofs.waiting.wait_for_next.Goals as goal

pub collect-requires : goal.collect-requires
collect-requires g c =
    let (h, n, o) = c.requires.known in
    let now = c.loop.invariant.stands h n o in
    record { known = (now.own, now.stands) }

pub returns-in-Ok-clause-packets : goal.returns-in-Ok-clause-packets
returns-in-Ok-clause-packets g c = λ h n o. hands-packets _ h n c.in-Ok.packets.packets c.in-Ok.ensures.packets (c.loop.invariant.stands h n o)

pub returns-in-Ok-clause-stands : goal.returns-in-Ok-clause-stands
returns-in-Ok-clause-stands g c = λ h n o. hands _ _ h n c.in-Ok.ensures.ok (c.loop.invariant.stands h n o)

pub loop-preserved-then-not-make_run : goal.loop-preserved-then-not-make_run
loop-preserved-then-not-make_run g c = record {
  can = tt;
  ends = tt;
  stands = λ h n o. stays-so _ _ h n c.in_default.ensures.err (c.loop.invariant.stands h n o);
  ready = c.make_run.ensures.ready;
  post = c.collect.ensures.post ∙ c.loop.invariant.post;
  home = c.make_run.ensures.home ∙ c.loop.invariant.home;
}

pub loop-preserved : goal.loop-preserved
loop-preserved g c = record {
  can = tt;
  ends = tt;
  stands = λ h n o. stays-so _ _ h n c.in_default.ensures.err (c.loop.invariant.stands h n o);
  ready = c.make_run.ensures.ready;
  post = c.collect.ensures.post ∙ c.loop.invariant.post;
  home = c.make_run.ensures.home ∙ c.loop.invariant.home;
}
