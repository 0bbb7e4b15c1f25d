use Rattle.std.proofs.Common.{rules}
use Rattle.live_tally.proofs.Owing.{ends}
use Rattle.live_tally.proofs.tallies.Tallies.end_reports.Goals as goal

pub returns : goal.returns
returns c = λ coder h at keeps. ends coder c.args.self.now h c.args.ticks at keeps c.add_end.new.reports.items (search rules)
