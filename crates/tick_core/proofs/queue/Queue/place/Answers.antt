use Rattle.std.proofs.Common.{ℕ, ◌+◌, ◌++◌, ◌∷◌, [], ap, ◌∙◌}
use Rattle.conference_spec.specs.declared.Stage.TheVariants.{Waiting}
use Rattle.tick_core.specs.Queued.{Queued}
use Rattle.tick_core.proofs.Tickets.{places-new, places-there}
use Rattle.tick_core.proofs.queue.Queue.place.Goals as goal

pub returns-in-New-clause-places : goal.returns-in-New-clause-places
returns-in-New-clause-places c =
    let placed = c.in-New.ensures.placed in
    let v = c.self.view_is in
    let n = ap (λ (q : Queued). q.issued) v in
    places-new c.args.tick c.args.triple c.args.table.now.rows c.place.new.self.rows c.args.self.now _ c.in-New.at c.number-number.result placed.0 placed.1
    (placed.2 ∙ ap (λ (n : ℕ). c.args.table.now.rows ++ record { triple = c.args.triple; number = n + 1; stage = Waiting } ∷ []) n) c.number-number.ensures
    (placed.3 ∙ ap (λ (n : ℕ). n + 1) n) (c.push_back_reserved.ensures.items ∙ ap (λ (q : Queued). q.tickets ++ record { number = c.number-number.result; tick = c.args.tick; at = c.in-New.at } ∷ []) v)
    (c.push_back_reserved.ensures.capacity ∙ ap (λ (q : Queued). q.room) v)

pub returns-in-Joined-clause-places : goal.returns-in-Joined-clause-places
returns-in-Joined-clause-places c =
    let placed = c.in-Joined.ensures.placed in
    let v = c.self.view_is in
    places-there c.args.tick c.args.triple c.args.table.now.rows c.place.new.self.rows c.args.self.now _ c.in-Joined.at placed.0 placed.1 placed.2 placed.4
    (placed.5 ∙ ap (λ (q : Queued). q.issued) v) (ap (λ (q : Queued). q.tickets) v) (ap (λ (q : Queued). q.room) v)

pub returns-in-Done-clause-places : goal.returns-in-Done-clause-places
returns-in-Done-clause-places c =
    let placed = c.in-Done.ensures.placed in
    let v = c.self.view_is in
    places-there c.args.tick c.args.triple c.args.table.now.rows c.place.new.self.rows c.args.self.now _ c.in-Done.at placed.0 placed.1 placed.2 placed.4
    (placed.5 ∙ ap (λ (q : Queued). q.issued) v) (ap (λ (q : Queued). q.tickets) v) (ap (λ (q : Queued). q.room) v)
