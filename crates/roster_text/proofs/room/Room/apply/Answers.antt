use Rattle.roster_text.proofs.Rooms.{after_join, after_leave}
use Rattle.roster_text.proofs.room.Room.apply.Goals as goal

pub returns-in-Join : goal.returns-in-Join
returns-in-Join c =
    after_join c.seat.result c.args.self.now c.seat.new.self c.args.command c.in-Join.member c.in-Join.talk c.in-Join.listen
    c.talking_ssrc.result c.listening_ssrc.result c.in-Join.is c.talking_ssrc.ensures c.listening_ssrc.ensures c.seat.ensures

pub returns-in-Leave : goal.returns-in-Leave
returns-in-Leave c = after_leave c.args.self.now c.unseat.new.self c.args.command c.in-Leave.member c.in-Leave.is c.unseat.ensures
