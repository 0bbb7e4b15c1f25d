use Rattle.std.proofs.Common.{ap, refl, sym, subst, List, option_copied}
use Rattle.triple_table.specs.Rows.{Row}
use Rattle.tick_core.specs.Hearing.{Remembers}
use Rattle.tick_core.proofs.Seats.{first-placed, first-unknown}
use Rattle.tick_core.proofs.seating.first_seat.Goals as goal
use Rattle.tick_core.proofs.seating.first_seat.Goals.{in-Some, in-None}

pub returns-clause-first : goal.returns-clause-first
returns-clause-first c = elim c.match-known.branch [
  | in-Some w ↦ first-placed c.args.number c.args.talkers.now c.args.rest.now w.in-Some.state.now (option_copied c.args.known) _ c.args.table.now.rows c.args.queue.now w.place.new.table.rows w.place.new.queue
      c.match-known.table.rows c.match-known.queue w.place.result c.match-known.run c.earlier_place.result
      (ap option_copied w.in-Some.is) refl (ap (λ t. t.rows) w.table-is) w.queue-is w.run-is c.earlier_place.ensures w.place.ensures.places
  | in-None w ↦ first-unknown c.args.number c.args.talkers.now c.args.rest.now (option_copied c.args.known) c.args.table.now.rows c.args.queue.now
      c.match-known.table.rows c.match-known.queue c.match-known.run c.earlier_place.result
      (ap option_copied w.in-None.is) (ap (λ t. t.rows) w.table-is) w.queue-is w.run-is c.earlier_place.ensures
]

pub returns-clause-remembers : goal.returns-clause-remembers
returns-clause-remembers c =
    let tick = c.args.talkers.now in
    elim c.match-known.branch [
      | in-Some w ↦ subst (λ m. Remembers tick c.match-known.table.rows m) (sym w.mixes-is)
          (subst (λ (rs : List Row). Remembers tick rs w.place.new.self) (sym (ap (λ t. t.rows) w.table-is)) w.place.ensures.remembers)
      | in-None w ↦ subst (λ m. Remembers tick c.match-known.table.rows m) (sym w.mixes-is)
          (subst (λ (rs : List Row). Remembers tick rs c.args.mixes.now) (sym (ap (λ t. t.rows) w.table-is)) c.requires.remembers)
    ]
