use Rattle.std.proofs.Common.{◌∙◌, ◌+◌, ℕ, ap, sym}
use Rattle.session_account.specs.Encoding.{runs_in}
use Rattle.session_account.proofs.Rates.{runs-close}
use Rattle.session_report.proofs.Watched.{spoken-close}
use Rattle.session_report.proofs.audience.NotingConference.encode.Goals as goal

pub returns-clause-stands : goal.returns-clause-stands
returns-clause-stands c h n s =
    let there = c.in_ok-ticks.ensures.stands h n s.0 in
    let counted = c.in_ok-ticks.ensures.counted h n s.0 in
    let lists = c.in_ok-close.ensures h c.args.tick s.1 in (
      there.0,
      (
        there.1,
        record { visits = lists.visits; closed = lists.closed },
        spoken-close c.args.self.now.voices c.note.new.self c.args.tick h c.in_ok-note.ensures.counts s.2,
        λ rate. counted rate ∙ ap (λ (m : ℕ). m + runs_in rate c.args.tick h) (s.3 rate) ∙ sym (runs-close rate c.args.tick h),
      ),
    )
