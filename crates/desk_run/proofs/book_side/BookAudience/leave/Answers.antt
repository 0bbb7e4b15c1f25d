use Rattle.desk_run.proofs.BookFeed.{leaving-stands}
use Rattle.desk_run.proofs.book_side.BookAudience.leave.Goals as goal

pub returns-clause-stands : goal.returns-clause-stands
returns-clause-stands c = λ h n s.
    leaving-stands c.args.self.now c.leave-left.new.self h n c.args.member c.leave-left.result c.leave-left.ensures.ok c.leave-left.ensures.err c.leave-left.ensures.absent s
