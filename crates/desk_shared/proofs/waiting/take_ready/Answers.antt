use Rattle.std.proofs.Common.{◌∙◌}
use Rattle.desk_shared.proofs.Handing.{hands, hands-packets, one-more}
use Rattle.desk_shared.proofs.waiting.take_ready.Goals as goal

pub loop-preserved : goal.loop-preserved
loop-preserved g c = record {
  taken = λ h n r.
      one-more _ _ h n c.loop.ready.items _ c.in-Ok.packets c.in_ok-push.ensures.items
      (λ f k o. hands-packets _ f k c.in-Ok.packets.packets c.in-Ok.ensures.packets o)
      (λ f k o. (hands _ _ f k c.in-Ok.ensures.ok o).1)
      (c.loop.invariant.taken h n r);
  post = c.collect.ensures.post ∙ c.loop.invariant.post;
}
