use Rattle.conference_spec.specs.declared.Entry.TheVariants.{Close}
use Rattle.book_seat.proofs.Calls.{takes-step}
use Rattle.book_seat.proofs.in_turn.close_in.Goals as goal

pub returns : goal.returns
returns c = record {
  each = λ core st.
      let s = takes-step (Close c.args.tick) c.close.result c.args.book.now _ core c.close.ensures.ok c.close.ensures.err st in (
        s.0,
        s.1,
        record {
          takes = s.2;
          ticks_over = c.close.ensures.ticks_over core st;
          long = c.close.ensures.long core st;
          backlog = c.close.ensures.backlog core st;
        },
      );
}
