use Rattle.session_spec.proofs.Following.{listens-is, events-closes, all-collected, events-kept}
use Rattle.session_spec.proofs.laws.feed_follows.Goals as goal

pub returns : goal.returns
returns c = record { listens = listens-is; closes = events-closes; collects = all-collected; kept = events-kept }
