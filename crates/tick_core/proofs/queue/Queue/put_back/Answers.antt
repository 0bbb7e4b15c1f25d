use Rattle.std.proofs.Common.{◌≡◌, List, take, drop, ap, sym, ◌∙◌, subst, arith}
use Rattle.std.proofs.lemmas.List.{take-append-drop}
use Rattle.book_lists.specs.declared.seats.Ticket.{Ticket}
use Rattle.conference_spec.proofs.Members.{In, in-append_right}
use Rattle.tick_core.specs.Queued.{Queued}
use Rattle.tick_core.proofs.queue.Queue.put_back.Goals as goal

pub returns-clause-tickets : goal.returns-clause-tickets
returns-clause-tickets c =
    let xs = c.self.inside.tickets.items in
    let at = c.place_of-at.result in
    let e : xs ≡ c.args.self.now.tickets = ap (λ (q : Queued). q.tickets) c.self.view_is in
    record {
      front = take at xs;
      back = drop at xs;
      was = sym e ∙ sym (take-append-drop at xs);
      is = c.put_at.ensures.items;
      lower = c.place_of-at.ensures.lower;
      higher = λ s i.
          let in' : In s c.args.self.now.tickets = subst (λ (ts : List Ticket). In s ts) (take-append-drop at xs ∙ e) (in-append_right s (take at xs) (drop at xs) i) in
          let other = c.requires.other s in' in
          let le = c.place_of-at.ensures.rest s i in
          omega arith;
    }
