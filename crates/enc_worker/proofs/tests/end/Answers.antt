use Rattle.tick_core.proofs.Knowing.{ends-known}
use Rattle.enc_worker.proofs.tests.end.Goals as goal

pub returns : goal.returns
returns c = ends-known c.args.book.now c.end.new.self c.requires c.end.ensures.end
