use Rattle.session_spec.specs.Talkers.{talkers}
use Rattle.desk.proofs.Seating.{free_channels, joined_ok, left_stands}
use Rattle.desk.proofs.lines.Desk.apply.Goals as goal

pub seat-requires : goal.seat-requires
seat-requires c =
    free_channels _ _ (talkers c.requires.events) c.requires.stands.lines (rw (c.in-Some.is) at (rw c.in-Join.is at c.requires.admits))

pub returns-in-Some-clause-stands : goal.returns-in-Some-clause-stands
returns-in-Some-clause-stands c = rw (c.in-Join.is, c.in-Some.is) (joined_ok _ _ _ _ _ _ c.seat.ensures.seated)

pub returns-in-Leave-clause-stands : goal.returns-in-Leave-clause-stands
returns-in-Leave-clause-stands c h stands =
    rw c.in-Leave.is (left_stands _ _ _ h c.unseat.ensures.channels c.unseat.ensures.refused stands)
