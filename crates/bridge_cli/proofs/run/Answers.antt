use Rattle.std.proofs.Common.{rules}
use Rattle.desk_run.proofs.BookFeed.{new-stands}
use Rattle.bridge_cli.proofs.run.Goals as goal

pub alone-requires : goal.alone-requires
alone-requires g c = record { begun = new-stands _ c.new-book.ensures.begun }

pub shared-requires : goal.shared-requires
shared-requires g c = λ k. (search rules, (search rules, new-stands _ c.new-book.ensures.begun))
