use Rattle.std.proofs.Common.{[], ◌∷◌, ◌+◌, length, refl, arith}
use Rattle.g726_bits.specs.declared.Rate.TheVariants.{R32}
use Rattle.talk_mix.specs.declared.ticks.Tick.{Tick}
use Rattle.conference_spec.specs.declared.JoinSpec.{JoinSpec}
use Rattle.conference_spec.specs.declared.Entry.TheVariants.{Join, Leave, Close, Collect}
use Rattle.conference_spec.specs.Feed.{Feed}
use Rattle.desk_run.proofs.BookFeed.{new-stands}
use Rattle.desk_run.proofs.tests.one_listener_in_silence.Goals as goal

abbrev spec : JoinSpec
spec = record { member = 7; rate = R32; pt = 96; ssrc = 11; first_seq = 65535; first_stamp = 3; ticks = 1 }

abbrev joined : Feed
joined = Join spec ∷ []

abbrev heard : Tick → Feed
heard tick = Collect ∷ Close tick ∷ joined

abbrev left : Tick → Feed
left tick = Leave 7 ∷ heard tick

pub join-requires-clause-stands : goal.join-requires-clause-stands
join-requires-clause-stands g c = ([], 0, (new-stands c.new-book.result c.new-book.ensures.begun, refl, refl), refl)

pub encode-requires : goal.encode-requires
encode-requires g c =
    let s = new-stands c.new-book.result c.new-book.ensures.begun in
    (joined, 0, c.in_ok-join.ensures.stands [] 0 (s, refl, refl), refl, omega arith, omega arith, refl, omega arith)

pub leave-requires : goal.leave-requires
leave-requires g c =
    let s = new-stands c.new-book.result c.new-book.ensures.begun in
    let t = c.in_ok-join.ensures.stands [] 0 (s, refl, refl) in
    let u = c.in_ok-heard.ensures.stands joined 0 t in
    (heard c.empty.result, 0 + length c.in_ok-heard.heard.items, u.1, refl)

pub encode-requires-2 : goal.encode-requires-2
encode-requires-2 g c =
    let s = new-stands c.new-book.result c.new-book.ensures.begun in
    let t = c.in_ok-join.ensures.stands [] 0 (s, refl, refl) in
    let u = c.in_ok-heard.ensures.stands joined 0 t in
    let few = u.0 in
    (left c.empty.result, 0 + length c.in_ok-heard.heard.items, c.leave.ensures.stands (heard c.empty.result) _ u.1, refl, omega arith, omega arith, refl, omega arith)
