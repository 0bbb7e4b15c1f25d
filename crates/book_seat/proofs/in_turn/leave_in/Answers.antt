use Rattle.conference_spec.specs.declared.Entry.TheVariants.{Leave}
use Rattle.book_seat.proofs.Calls.{takes-step}
use Rattle.book_seat.proofs.in_turn.leave_in.Goals as goal

pub returns : goal.returns
returns c = record {
  each = λ core st.
      let s = takes-step (Leave c.args.member) c.leave.result c.args.book.now _ core c.leave.ensures.ok c.leave.ensures.err st in (
        s.0,
        s.1,
        record {
          takes = s.2;
          absent = c.leave.ensures.absent core st;
        },
      );
}
