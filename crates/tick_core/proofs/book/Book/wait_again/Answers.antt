use Rattle.std.proofs.Common.{◌≡◌, refl, ap, ◌∙◌, subst, arith}
use Rattle.conference_spec.specs.declared.Stage.TheVariants.{Waiting}
use Rattle.conference_spec.specs.Machine.{waits}
use Rattle.book_lists.specs.declared.seats.Ticket.{Ticket}
use Rattle.tick_core.specs.Queued.{PutBack}
use Rattle.tick_core.proofs.Bounds.{few-others}
use Rattle.tick_core.proofs.Places.{held-run}
use Rattle.tick_core.proofs.Staging.{out-of, out-other, staged-level, give_back-stands}
use Rattle.tick_core.proofs.book.Book.wait_again.Goals as goal

pub put_back-requires-2-clause-room : goal.put_back-requires-2-clause-room
put_back-requires-2-clause-room c =
    let b = c.args.self.now in
    let core = c.requires.known.0 in
    let st = c.requires.known.1 in
    let x = out-of b core c.args.job c.args.place c.args.at st c.requires.out in
    let held = held-run core.runs c.args.job.number c.args.job.task x.held in
    let few = few-others core b.open_ticks.items b.present.items b.queue.tickets b.queue.issued st.kept st.carries st.roomy.fit held.run held.among (ap waits held.stage) in
    let room = st.roomy.tickets in
    omega arith

pub put_back-requires-2-clause-other : goal.put_back-requires-2-clause-other
put_back-requires-2-clause-other c t i e =
    out-other c.args.self.now c.requires.known.0 c.args.job c.args.place c.args.at c.requires.known.1 c.requires.out t i (e ∙ c.number-number.ensures)

pub returns : goal.returns
returns c =
    let b = c.args.self.now in
    let o = c.requires.out in
    let t : record { number = c.number-number.result; tick = c.tick-tick.result; at = c.args.at } ≡ record { number = c.args.job.number; tick = c.args.job.task.tick; at = c.args.at } =
    (λ i. record { number = c.number-number.ensures i; tick = c.tick-tick.ensures i; at = c.args.at }) in
    let put = subst (λ (t : Ticket). PutBack b.queue.tickets t c.put_back-2.new.self.tickets) t c.put_back-2.ensures.tickets in
    record {
      waits = λ core st.
          give_back-stands b _ c.put_back-2.new.self core c.args.job c.args.place c.args.at st o c.put_back.new.self
          (staged-level b.open_ticks.items c.args.place c.args.at o.level c.index_mut-open.result.now c.put_back.new.self o.row Waiting o.there o.run c.index_mut-open.ensures.value c.put_back.ensures.rows)
          refl put c.put_back-2.ensures.issued c.put_back-2.ensures.room;
    }
