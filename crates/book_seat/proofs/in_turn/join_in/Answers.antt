use Rattle.conference_spec.specs.declared.Entry.TheVariants.{Join}
use Rattle.book_seat.proofs.Calls.{takes-step}
use Rattle.book_seat.proofs.in_turn.join_in.Goals as goal

pub returns : goal.returns
returns c = record {
  each = λ core st.
      let s = takes-step (Join c.args.spec) c.join.result c.args.book.now _ core c.join.ensures.ok c.join.ensures.err st in (
        s.0,
        s.1,
        record {
          takes = s.2;
          used = c.join.ensures.used core st;
          full = c.join.ensures.full core st;
        },
      );
}
