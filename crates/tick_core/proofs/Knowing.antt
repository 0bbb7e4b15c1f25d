-- After each call a Book still stands for some core.
use Rattle.std.specs.Prelude.{Result, Ok, Err, OnOk, OnErr}
use Rattle.talk_mix.specs.declared.ticks.Tick.{Tick}
use Rattle.conference_spec.specs.declared.Entry.{Entry}
use Rattle.conference_spec.specs.declared.Entry.TheVariants.{Close, Collect, End}
use Rattle.conference_spec.specs.Codec.{g726}
use Rattle.conference_spec.specs.Machine.{Core, Enters, Publish, GiveBack, next}
use Rattle.conference_spec.specs.Machine.{Claim as claims}
use Rattle.tick_core.specs.declared.book.Book.{Book}
use Rattle.tick_core.specs.declared.jobs.Claim.{Claim}
use Rattle.tick_core.specs.declared.jobs.Claim.TheVariants.{Job, Idle, Over}
use Rattle.tick_core.specs.declared.faults.NotYet.{NotYet}
use Rattle.tick_core.specs.Held.{Held, Sent}
use Rattle.tick_core.specs.Standing.{Stands, IsKnown, Takes, Keeps, Claims, Publishes, GivesBack, Collects}

pub claims-known : (j : Claim) (b : Book) (c : Core) → Claims j b c → IsKnown b
claims-known (Job j) b c k = (next g726 c claims, k.3)
claims-known Idle b c k = (c, k.2)
claims-known Over b c k = (c, k.2)

pub publishes-known : (d : Held) (r : Result (Unit {0}) Held) (b : Book) (c : Core) → Publishes d r b c → IsKnown b
publishes-known d (Ok u) b c k = (next g726 c (Publish d.number d.task), k.1)
publishes-known d (Err e) b c k = (c, k.2)

pub gives-known : (j : Held) (r : Result (Unit {0}) Held) (b : Book) (c : Core) → GivesBack j r b c → IsKnown b
gives-known j (Ok u) b c k = (next g726 c (GiveBack j.number j.task), k.1)
gives-known j (Err e) b c k = (c, k.2)

pub takes-known : (b b' : Book) (e : Entry) → IsKnown b → Takes b b' e → IsKnown b'
takes-known b b' e k t = (next g726 k.0 (Enters e), (t k.0 k.1).1)

pub collects-known : (r : Result Sent NotYet) (b : Book) (c : Core) → Collects r b c → IsKnown b
collects-known (Ok p) b c k = (next g726 c (Enters Collect), k.3)
collects-known (Err e) b c k = (c, k.1)

pub closes-known : {F : Type 0} (b b' : Book) (tick : Tick) (r : Result (Unit {0}) F) → IsKnown b → OnOk r (Takes b b' (Close tick)) → OnErr r (Keeps b b') → IsKnown b'
closes-known b b' tick (Ok u) k takes keeps = takes-known b b' (Close tick) k takes
closes-known b b' tick (Err f) k takes keeps = (k.0, keeps k.0 k.1)

pub ends-known : (b b' : Book) → IsKnown b → ((c : Core) → Stands b c → Stands b' (next g726 c (Enters End))) → IsKnown b'
ends-known b b' k ends = (next g726 k.0 (Enters End), ends k.0 k.1)
