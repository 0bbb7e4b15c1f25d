use Rattle.std.proofs.Common.{[]}
use Rattle.conference_spec.specs.Machine.{begun}
use Rattle.tick_core.specs.Locking.{parts_of}
use Rattle.book_seat.proofs.Turning.{fresh_desk}
use Rattle.book_seat.proofs.tests.new_lock.Goals as goal

pub new-requires : goal.new-requires
new-requires c = record { stands = ([], parts_of begun, c.new-book.ensures.begun) }

pub returns-clause-desk : goal.returns-clause-desk
returns-clause-desk c =
    let r = c.in_ok-lock.ensures in
    fresh_desk c.new-book.result _ c.new-book.ensures.begun r.desk r.seen.0 r.seen.1
