use Rattle.std.proofs.Common.{◌≡◌, ℕ, ◌++◌, ◌∷◌, [], reverse, All, subst, sym, ap, ◌∙◌, append_assoc, arith}
use Rattle.std.proofs.lemmas.List.{reverse-append}
use Rattle.rooms_run.specs.Opening.{IsKeyed}
use Rattle.rooms_run.specs.Starting.{start_gives}
use Rattle.rooms_run.specs.Seated.{SeatedFor}
use Rattle.rooms_run.proofs.Zips.{zip_push, last_of, front_of}
use Rattle.rooms_run.proofs.seating.seat_all.Goals as goal

pub rooms-preserved : goal.rooms-preserved
rooms-preserved g c =
    let was = c.rooms.invariant in
    let n = was.keyed.0 in
    let keyed = subst (λ ks. All (IsKeyed n) ks) c.in-Some-pop.ensures.items was.keyed.2 in
    let done = was.done.0 in
    record {
      keyed = (n, was.keyed.1, front_of (IsKeyed n) _ _ keyed);
      even = omega (arith, c.in-Some-pop.ensures.cases, c.in-Some.ensures.cases, was.even);
      done = (
        done ++ c.in-Some.start ∷ [],
        was.done.1 ∙ ap (λ xs. xs ++ reverse done) c.in-Some.ensures.items ∙ append_assoc c.pop.new.self.items (c.in-Some.start ∷ []) (reverse done) ∙ ap (λ xs. c.pop.new.self.items ++ xs) (sym (reverse-append done (c.in-Some.start ∷ []))),
        rw c.in_ok-push.ensures.items (zip_push _ done c.rooms.seats.items c.in-Some.start c.seat_of.result was.done.2 c.seat_of.ensures.seated),
      );
    }
