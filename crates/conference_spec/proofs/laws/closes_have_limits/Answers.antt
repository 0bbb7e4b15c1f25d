use Rattle.conference_spec.proofs.Limits.{close-over, close-long, close-backlog, close-ended, close-open}
use Rattle.conference_spec.proofs.laws.closes_have_limits.Goals as goal

pub returns : goal.returns
returns c = record { over = close-over; long = close-long; backlog = close-backlog; ended = close-ended; can_close = close-open }
