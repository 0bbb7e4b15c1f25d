use Rattle.jitter_line.proofs.Ordering.{same_gauge, same_places}
use Rattle.jitter_line.proofs.laws.order_of_packets.Goals as goal

pub returns-clause-same_gauge : goal.returns-clause-same_gauge
returns-clause-same_gauge c = same_gauge

pub returns-clause-same_places : goal.returns-clause-same_places
returns-clause-same_places c = same_places
