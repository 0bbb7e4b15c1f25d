use Rattle.desk_run.proofs.Results.{ok-with, on-err}
use Rattle.live_link.proofs.Tried.{goes-one, stays-one, tried-one}
use Rattle.live_link.proofs.posts.post.Goals as goal

pub returns-in-Ok-clause-posted : goal.returns-in-Ok-clause-posted
returns-in-Ok-clause-posted g c = goes-one _ _ c.args.unsent.now c.args.to c.args.octets.now c.in-Ok.field-0 c.in-Ok.ensures.traffic

pub returns-in-Err-Failed-clause-posted : goal.returns-in-Err-Failed-clause-posted
returns-in-Err-Failed-clause-posted g c =
    ok-with c.count.result _ _ (λ counted. stays-one _ _ _ _ c.args.to c.args.octets.now c.in-Err-Failed.field-0 c.in-Err-Failed.field-0-is c.in-Err-Failed.ensures.traffic counted) c.count.ensures

pub returns-in-Err-Failed-clause-front : goal.returns-in-Err-Failed-clause-front
returns-in-Err-Failed-clause-front g c =
    on-err c.count.result _ (tried-one _ _ c.args.to c.args.octets.now c.in-Err-Failed.field-0 c.in-Err-Failed.field-0-is c.in-Err-Failed.ensures.traffic)
