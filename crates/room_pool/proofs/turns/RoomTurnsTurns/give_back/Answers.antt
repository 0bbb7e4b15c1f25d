use Rattle.book_seat.specs.Steps.{BackGives}
use Rattle.room_pool.proofs.Turning.{home_stays}
use Rattle.room_pool.proofs.turns.RoomTurnsTurns.give_back.Goals as goal

pub returns-in-Some-clause-home : goal.returns-in-Some-clause-home
returns-in-Some-clause-home g c = home_stays c.args.self.now c.give_back_at.new.self (BackGives c.args.job c.give_back_at.result) c.give_back_at.ensures.turned
