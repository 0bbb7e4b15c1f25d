use Rattle.std.proofs.Common.{◌∙◌}
use Rattle.session_report.proofs.Watched.{lists-leaving, spoken-leaving, runs-leaving}
use Rattle.session_report.proofs.audience.NotingAudience.leave.Goals as goal

pub returns-clause-stands : goal.returns-clause-stands
returns-clause-stands c h n s = (
  c.leave.ensures.stands h n s.0,
  lists-leaving c.args.self.now.visits c.leave-2.new.self c.args.member h (c.leave-2.ensures.leaves h) (c.leave-2.ensures.absent h) s.1,
  spoken-leaving c.args.self.now.voices c.args.member h s.2,
  λ rate. s.3 rate ∙ runs-leaving rate c.args.member h,
)
