use Rattle.std.proofs.Common.{◌≡◌, ℕ, ◌∷◌, ◌++◌, List, true, false, inl, refl, sym, ap, ◌∙◌, subst}
use Rattle.std.specs.Prelude.{Option, option_to_list}
use Rattle.conference_spec.specs.Feed.{collects}
use Rattle.conference_spec.proofs.Members.{In}
use Rattle.book_lists.specs.declared.seats.Ticket.{Ticket}
use Rattle.tick_core.proofs.Follows.{closed-is}
use Rattle.tick_core.proofs.Staging.{claim-stands, idle-stands}
use Rattle.tick_core.proofs.Twins.{claims-all, idle-all}
use Rattle.tick_core.proofs.Places.{ticket-at, TicketAt}
use Rattle.tick_core.proofs.book.Book.claim.Goals as goal

pub take-requires : goal.take-requires
take-requires c =
    let b = c.args.self.now in
    let core = c.requires.stands.1.on in
    let st = c.requires.stands.1.is in
    let t = c.in-Some.ticket in
    let rest = c.pop.new.self.tickets in
    let e : b.queue.tickets ≡ t ∷ rest = c.pop.ensures.tickets ∙ ap (λ (o : Option Ticket). option_to_list o ++ rest) c.in-Some.is in
    let it = st.carries.queue.each t (subst (λ (ts : List Ticket). In t ts) (sym e) (inl refl)) in
    let ta = ticket-at (collects core.feed) core.runs b.open_ticks.items core.feed st.carries.opens t it in
    let f = subst (λ (k : ℕ). TicketAt b.open_ticks.items k t) (sym (closed-is st.feed)) ta in
    record { there = record { level = f.level; there = f.there; early = f.early; ticket = f.ticket } }

pub returns-in-Some : goal.returns-in-Some
returns-in-Some c = record {
  claims = let rest = c.pop.new.self.tickets in
      claims-all c.args.self.now _ _ (λ core st.
      claim-stands c.args.self.now _ _ core c.in-Some.ticket _ st refl refl refl refl refl (c.pop.ensures.tickets ∙ ap (λ (o : Option Ticket). option_to_list o ++ rest) c.in-Some.is)
      c.pop.ensures.issued c.pop.ensures.room refl c.take.ensures.taken);
}

pub returns-then-ended : goal.returns-then-ended
returns-then-ended c = record {
  claims = λ core s. idle-all c.args.self.now _ core s true (idle-stands c.args.self.now c.pop.new.self s.on s.is c.in-None.ensures.none (c.pop.ensures.tickets ∙ ap (λ (o : Option Ticket). option_to_list o ++ c.pop.new.self.tickets) c.in-None.is)
      c.pop.ensures.issued c.pop.ensures.room true (sym c.ended.ensures ∙ c.if-ended.true));
}

pub returns-else-ended : goal.returns-else-ended
returns-else-ended c = record {
  claims = λ core s. idle-all c.args.self.now _ core s false (idle-stands c.args.self.now c.pop.new.self s.on s.is c.in-None.ensures.none (c.pop.ensures.tickets ∙ ap (λ (o : Option Ticket). option_to_list o ++ c.pop.new.self.tickets) c.in-None.is)
      c.pop.ensures.issued c.pop.ensures.room false (sym c.ended.ensures ∙ c.if-ended.false));
}
