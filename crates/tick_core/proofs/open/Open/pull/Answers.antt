use Rattle.tick_core.proofs.open.Open.pull.Goals as goal

pub pull_seats-requires-clause-remembers : goal.pull_seats-requires-clause-remembers
pull_seats-requires-clause-remembers c = c.forget_runs.ensures c.self.inside.talkers c.self.inside.table.rows c.self.invariant.1
