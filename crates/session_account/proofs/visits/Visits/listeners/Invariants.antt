use Rattle.std.proofs.Common.{◌≡◌, take, map}
use Rattle.conference_spec.specs.Codec.{g726}
use Rattle.conference_spec.specs.Feed.{Feed, guests}
use Rattle.session_account.specs.Listening.{Lists, listener_of}
use Rattle.session_account.proofs.visits.Visits.listeners.Given as goal

abbrev pub invariant-loop-visit : goal.invariant-loop-visit
invariant-loop-visit l =
    (f : Feed) → Lists l.self f → l.listeners.items ≡ map listener_of (take l.visit-index (guests g726 f))
