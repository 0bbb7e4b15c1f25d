use Rattle.book_seat.specs.Steps.{PublishGives}
use Rattle.room_pool.proofs.Turning.{home_stays}
use Rattle.room_pool.proofs.turns.RoomTurns.publish_last.Goals as goal

pub returns-in-Some-clause-home : goal.returns-in-Some-clause-home
returns-in-Some-clause-home g c = home_stays c.args.self.now c.publish_at.new.self (PublishGives c.args.done c.publish_at.result) c.publish_at.ensures.turned
