use Rattle.std.proofs.Common.{◌≡◌, ◌∙◌, ◌∷◌, [], ap, subst, rules, arith}
use Rattle.book_seat.specs.Seated.{Working}
use Rattle.desk_shared.specs.Ended.{StayAt}
use Rattle.desk_shared.proofs.Sharing.{still-hired}
use Rattle.desk_shared.proofs.shared.run_seated.Goals as goal

pub take_all-requires : goal.take_all-requires
take_all-requires g c =
    let post = c.run_beside-end.ensures.post in
    let home = c.take_in.ensures.desk.0 ∙ ap (λ p. p.desk.home) post ∙ c.worker.ensures.desk.0 in
    let took = ap (λ v. v.out) c.take_in.ensures.desk.1 in
    let lent = ap (λ v. v.out) c.worker.ensures.desk.1 in
    let kept = ap (λ p. p.desk.out) post in
    let hired = c.in_ok-workers.ensures.out in
    let stay = subst (λ ws. StayAt (λ (w : Working). w.pass.home ∷ []) ws c.run_beside-end.new.workers) c.as_mut_slice.ensures.value c.run_beside-end.ensures.homes in
    record {
      hired = still-hired c.args.count c.in_ok-workers.workers.len c.hire.new.seat c.take_in.new.self c.in_ok-workers.workers.items c.run_beside-end.new.workers
          c.in_ok-workers.ensures.hired (search rules) stay home (omega arith);
    }
