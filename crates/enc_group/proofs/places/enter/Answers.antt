use Rattle.enc_group.proofs.Starts.{new-is}
use Rattle.enc_group.proofs.places.enter.Goals as goal
use Rattle.std.proofs.Common.{refl}

pub returns-in-Some-clause-sets : goal.returns-in-Some-clause-sets
returns-in-Some-clause-sets c = record { here = new-is c.args.rate c.args.tick _ c.in-Some.ensures.1; others = λ other ne. refl }
