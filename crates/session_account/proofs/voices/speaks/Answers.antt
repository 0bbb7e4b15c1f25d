use Rattle.std.proofs.Common.{sym}
use Rattle.session_account.proofs.Seats.{speaks-at}
use Rattle.session_account.proofs.voices.speaks.Goals as goal

pub returns-then-talker-member : goal.returns-then-talker-member
returns-then-talker-member c =
    sym (speaks-at c.loop-i.i c.args.tick.now c.talker.result c.args.member c.talker.ensures.pair c.if-talker-member.true)
