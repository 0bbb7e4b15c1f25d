use Rattle.tick_core.proofs.Feeds.{collect-tick, collect-packets, collect-ok, collect-err}
use Rattle.tick_core.proofs.calls.BookDeskCalls.collect.Goals as goal

pub returns-clause-tick : goal.returns-clause-tick
returns-clause-tick c = collect-tick c.collect.result c.args.self.now c.collect.new.self c.collect.ensures.collects

pub returns-clause-packets : goal.returns-clause-packets
returns-clause-packets c = collect-packets c.collect.result c.args.self.now c.collect.new.self c.collect.ensures.collects

pub returns-clause-ok : goal.returns-clause-ok
returns-clause-ok c = collect-ok c.collect.result c.args.self.now c.collect.new.self c.collect.ensures.collects

pub returns-clause-err : goal.returns-clause-err
returns-clause-err c = collect-err c.collect.result c.args.self.now c.collect.new.self c.collect.ensures.collects
