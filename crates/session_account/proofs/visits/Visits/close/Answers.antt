use Rattle.std.proofs.Common.{◌≡◌, ◌+◌, ◌∷◌, refl, subst}
use Rattle.talk_mix.specs.declared.ticks.Tick.{Tick}
use Rattle.conference_spec.specs.declared.Entry.TheVariants.{Close}
use Rattle.conference_spec.specs.Feed.{Feed}
use Rattle.session_account.specs.Listening.{Visited, Lists}
use Rattle.session_account.proofs.Coming.{lists-close, ok-with}
use Rattle.session_account.proofs.visits.Visits.close.Goals as goal

pub returns : goal.returns
returns c =
    let old : Visited = record { visits = c.self.inside.visits.items; closed = c.self.inside.closed } in
    let new : Visited = record { visits = c.self.inside.visits.items; closed = c.more.new.count } in
    ok-with c.more.result (c.more.new.count ≡ c.self.inside.closed + 1)
    ((f : Feed) (tick : Tick) → Lists c.args.self.now f → Lists new (Close tick ∷ f))
    (λ more f tick. subst (λ (v : Visited). Lists v f → Lists new (Close tick ∷ f)) c.self.view_is (lists-close old tick f new refl more))
    c.more.ensures
