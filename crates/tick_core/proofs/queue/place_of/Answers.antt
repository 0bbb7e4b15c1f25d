use Rattle.std.proofs.Common.{ℕ, inl, inr, take, ap, sym, subst, arith}
use Rattle.book_lists.specs.declared.seats.Ticket.{Ticket}
use Rattle.conference_spec.proofs.Members.{In}
use Rattle.tick_core.proofs.Tickets.{in-take, drop-least}
use Rattle.tick_core.proofs.queue.place_of.Goals as goal

pub returns-then-number-index-clause-rest : goal.returns-then-number-index-clause-rest
returns-then-number-index-clause-rest c t i =
    let e = c.len-at-end.ensures in
    let l = c.requires.len in
    let low = drop-least 0 c.args.tickets.now.items c.loop-at.at c.index.result.now c.requires.rise (omega arith) t i in
    let same = ap (λ (z : Ticket). z.number) c.index.ensures in
    let le = c.if-number-index.true in
    omega arith

pub loop-at-preserved : goal.loop-at-preserved
loop-at-preserved c t i =
    let e = c.len-at-end.ensures in
    let l = c.requires.len in
    elim (in-take c.args.tickets.now.items c.loop-at.at c.index.result.now t (omega arith) i) [
      | inl a ↦ c.loop-at.invariant t a
      | inr q ↦ (let n = ap (λ (z : Ticket). z.number) (sym q) in
          let same = ap (λ (z : Ticket). z.number) c.index.ensures in
          let lt = c.if-number-index.false in
          omega arith)
    ]

pub returns-clause-lower : goal.returns-clause-lower
returns-clause-lower c t i =
    let e = c.len-at-end.ensures in
    let f = c.len.ensures in
    let le = c.loop-at.auto.at-end in
    let past = c.loop-at-test.false in
    c.loop-at.invariant t (subst (λ (k : ℕ). In t (take k c.args.tickets.now.items)) (omega arith) i)
