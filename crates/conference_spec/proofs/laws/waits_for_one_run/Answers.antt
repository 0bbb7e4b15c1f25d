use Rattle.conference_spec.specs.Feed.{listeners}
use Rattle.conference_spec.specs.Machine.{core_after}
use Rattle.conference_spec.proofs.Events.{always-kept}
use Rattle.conference_spec.proofs.Told.{contains-in}
use Rattle.conference_spec.proofs.Waiters.{waits-for}
use Rattle.conference_spec.proofs.laws.waits_for_one_run.Goals as goal

pub returns : goal.returns
returns c = λ coder tells events since h e l i t.
    waits-for coder tells (core_after coder events) (always-kept coder tells events) since h e l (contains-in (listeners coder h) l i) t
