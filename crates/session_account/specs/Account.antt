-- What there is to say of a session.
use Rattle.std.specs.Prelude.{List}
use Rattle.session_spec.specs.declared.Summary.{Summary}
use Rattle.session_account.specs.declared.visits.Listener.{Listener}
use Rattle.session_account.specs.Arriving.{Arrived}
use Rattle.session_account.specs.Speaking.{Spoken}
use Rattle.session_account.specs.declared.runs.Runs.{Runs}

-- its summary, what arrived, who was heard, who listened, and what was encoded
pub record Account : Type 0 where
  pub summary : Summary
  pub arrived : Arrived
  pub spoken : Spoken
  pub listeners : List Listener
  pub runs : Runs
