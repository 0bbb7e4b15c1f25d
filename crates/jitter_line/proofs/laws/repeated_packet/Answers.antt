use Rattle.jitter_line.proofs.Repeating.{nothing_new, no_place_changed}
use Rattle.jitter_line.proofs.laws.repeated_packet.Goals as goal

pub returns-clause-nothing_new : goal.returns-clause-nothing_new
returns-clause-nothing_new c = nothing_new

pub returns-clause-no_place_changed : goal.returns-clause-no_place_changed
returns-clause-no_place_changed c = no_place_changed
