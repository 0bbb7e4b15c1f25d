use Rattle.std.proofs.Common.{◌<◌, take}
use Rattle.book_lists.specs.declared.seats.Ticket.{Ticket}
use Rattle.conference_spec.proofs.Members.{In}
use Rattle.tick_core.proofs.queue.place_of.Given as goal

abbrev pub invariant-loop-at : goal.invariant-loop-at
invariant-loop-at l = (t : Ticket) → In t (take l.at l.tickets.items) → t.number < l.number
