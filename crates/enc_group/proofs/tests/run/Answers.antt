use Rattle.enc_group.specs.Groups.{group_at}
use Rattle.enc_group.proofs.Likes.{lifted-vacant}
use Rattle.enc_group.proofs.tests.run.Goals as goal

pub land-requires : goal.land-requires
land-requires c =
    record { vacant = lifted-vacant (group_at c.args.groups.now c.in-Some.key) _ _ _ c.in-Some.ensures.full c.lift-state.ensures.groups }
