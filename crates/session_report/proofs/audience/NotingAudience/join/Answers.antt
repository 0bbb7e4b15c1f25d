use Rattle.session_report.proofs.Watched.{ok-with}
use Rattle.session_report.proofs.audience.NotingAudience.join.Goals as goal

pub returns-clause-stands : goal.returns-clause-stands
returns-clause-stands c =
    ok-with c.join-2.result _ _ (λ next h n s. (c.in_ok-join.ensures.stands h n s.0, next h s.1, s.2, s.3)) c.join-2.ensures
