use Rattle.tick_core.proofs.Knowing.{closes-known}
use Rattle.enc_worker.proofs.tests.close.Goals as goal

pub returns-then-not-ended : goal.returns-then-not-ended
returns-then-not-ended c = closes-known c.args.book.now c.close.new.self c.empty.result c.close.result c.requires c.close.ensures.ok c.close.ensures.err
