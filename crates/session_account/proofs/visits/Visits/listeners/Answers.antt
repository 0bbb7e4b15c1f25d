use Rattle.std.proofs.Common.{◌∙◌, None, ap}
use Rattle.std.specs.Prelude.{slice_index_or}
use Rattle.std.proofs.lemmas.Option.{slice_get-get_or}
use Rattle.g726_bits.specs.declared.Rate.TheVariants.{R16}
use Rattle.session_account.specs.Listening.{Visited}
use Rattle.session_account.proofs.Coming.{visit-past, one-more}
use Rattle.session_account.proofs.visits.Visits.listeners.Goals as goal

pub listener-requires : goal.listener-requires
listener-requires c =
    let xs = c.deref-visit-items.result.now in
    let i = c.loop-visit.visit-index in
    visit-past c.args.self.now c.requires.0 i (slice_index_or xs i (record { member = 0; rate = R16; bundle = 0; from = 0; left = None })) xs c.self.inside.closed
    (c.deref-visit-items.ensures.value ∙ ap (λ (v : Visited). v.visits) c.self.view_is) (ap (λ (v : Visited). v.closed) c.self.view_is) c.requires.1
    (slice_get-get_or xs i (record { member = 0; rate = R16; bundle = 0; from = 0; left = None }) c.loop-visit-test.true)

pub loop-visit-preserved : goal.loop-visit-preserved
loop-visit-preserved c f was =
    let xs = c.deref-visit-items.result.now in
    let i = c.loop-visit.visit-index in
    one-more c.args.self.now f i (slice_index_or xs i (record { member = 0; rate = R16; bundle = 0; from = 0; left = None })) xs c.self.inside.closed c.listener.result c.loop-visit.listeners.items c.push.new.self.items
    (c.deref-visit-items.ensures.value ∙ ap (λ (v : Visited). v.visits) c.self.view_is) (ap (λ (v : Visited). v.closed) c.self.view_is) was
    (slice_get-get_or xs i (record { member = 0; rate = R16; bundle = 0; from = 0; left = None }) c.loop-visit-test.true)
    c.listener.ensures (c.loop-visit.invariant f was) c.in_ok-push.ensures.items
