use Rattle.tick_core.proofs.Bases.{stands-begun}
use Rattle.tick_core.proofs.Keeping.{begun-stands}
use Rattle.tick_core.proofs.Twins.{begun-all}
use Rattle.tick_core.proofs.book.Book.new.Goals as goal

pub returns-clause-begun : goal.returns-clause-begun
returns-clause-begun c =
    begun-all _ (begun-stands _ c.new.ensures.feed c.new-2.ensures.items c.new-3.ensures.items c.new-5.ensures.items
    c.new-7.ensures.tickets c.new-7.ensures.issued c.new-4.ensures.items c.new-6.ensures.items)

pub returns-clause-only : goal.returns-clause-only
returns-clause-only c = stands-begun _ c.new.ensures.feed
