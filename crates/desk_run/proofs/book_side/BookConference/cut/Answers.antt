use Rattle.desk_run.proofs.BookFeed.{cut-stands, can-cut}
use Rattle.desk_run.proofs.book_side.BookConference.cut.Goals as goal

pub cut-requires : goal.cut-requires
cut-requires c = let (h, n, stands, all, may) = c.requires in record { may_cut = can-cut c.args.self.now h n stands may }

pub returns-clause-stands : goal.returns-clause-stands
returns-clause-stands c = λ h n stands all. cut-stands c.args.self.now c.cut.new.self h n c.cut.ensures.cut stands
