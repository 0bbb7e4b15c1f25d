use Rattle.std.proofs.Common.{◌∷◌, refl, subst}
use Rattle.conference_spec.specs.declared.Entry.TheVariants.{Leave}
use Rattle.session_account.specs.Listening.{Visited, Lists}
use Rattle.session_account.proofs.Coming.{lists-leave, lists-same}
use Rattle.session_account.proofs.visits.Visits.leave.Goals as goal

pub returns-clause-leaves : goal.returns-clause-leaves
returns-clause-leaves c f =
    let old : Visited = record { visits = c.self.inside.visits.items; closed = c.self.inside.closed } in
    let new : Visited = record { visits = c.leave_all.new.visits.items; closed = c.self.inside.closed } in
    subst (λ (v : Visited). Lists v f → Lists new (Leave c.args.member ∷ f)) c.self.view_is
    (lists-leave old c.args.member f new c.leave_all.ensures refl)

pub returns-clause-absent : goal.returns-clause-absent
returns-clause-absent c f was none =
    let old : Visited = record { visits = c.self.inside.visits.items; closed = c.self.inside.closed } in
    let new : Visited = record { visits = c.leave_all.new.visits.items; closed = c.self.inside.closed } in
    subst (λ (v : Visited). Lists v f → Lists new f) c.self.view_is
    (lists-same old c.args.member f new c.leave_all.ensures refl none) was
