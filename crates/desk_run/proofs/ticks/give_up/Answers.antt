use Rattle.desk_run.proofs.Handing.{written-front}
use Rattle.desk_run.proofs.ticks.give_up.Goals as goal

pub returns-in-Memory-clause-gives_up : goal.returns-in-Memory-clause-gives_up
returns-in-Memory-clause-gives_up g c start f stands closed was =
    written-front start _ c.args.written.now c.args.tick f c.requires.behind was
