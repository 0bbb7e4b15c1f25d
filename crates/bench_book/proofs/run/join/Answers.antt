use Rattle.std.proofs.Common.{refl}
use Rattle.bench_book.proofs.Steps.{join-goes}
use Rattle.bench_book.proofs.run.join.Goals as goal

pub returns : goal.returns
returns c = record { joined = join-goes c.args.book.now c.join.new.self _ refl c.in_ok-join.ensures.ok }
