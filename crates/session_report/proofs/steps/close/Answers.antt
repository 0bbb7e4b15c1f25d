use Rattle.std.proofs.Common.{sym, subst}
use Rattle.g726_bits.specs.declared.Rate.TheVariants.{R16, R24, R32, R40}
use Rattle.session_spec.specs.Events.{feed_of}
use Rattle.desk_run.proofs.Closed.{tells-itself}
use Rattle.session_account.specs.Account.{Account}
use Rattle.session_account.specs.Speaking.{muted}
use Rattle.session_report.specs.Ending.{SumsUp}
use Rattle.session_report.proofs.steps.close.Goals as goal

pub returns-clause-sums_up : goal.returns-clause-sums_up
returns-clause-sums_up c h b notes =
    subst (λ (a : Account). SumsUp c.args.ticks c.args.packets (muted c.args.noting.voices) h a) (sym c.of.ensures)
    (record {
      leaves = c.in-Ok.ensures.left h (feed_of h) b notes.0.0 (tells-itself h);
      arrived_are = b.1 c.if-desk.false;
      spoken_are = notes.2;
      listeners_are = c.in_ok-listeners.ensures (feed_of h) notes.1;
      runs_are = λ i. record { r16 = notes.3 R16 i; r24 = notes.3 R24 i; r32 = notes.3 R32 i; r40 = notes.3 R40 i };
    })
