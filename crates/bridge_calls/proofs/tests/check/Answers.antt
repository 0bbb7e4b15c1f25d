use Rattle.desk_run.proofs.BookFeed.{new-stands}
use Rattle.bridge_calls.proofs.tests.check.Goals as goal

pub alone-status-requires : goal.alone-status-requires
alone-status-requires g c = record { begun = new-stands _ c.new-book.ensures.begun }
