use Rattle.std.proofs.Common.{◌≡◌, ◌++◌, ◌∷◌, [], Result, reverse, sym, ap, ◌∙◌, append_assoc}
use Rattle.std.proofs.lemmas.List.{reverse-append}
use Rattle.desk_run.specs.Whole.{Given}
use Rattle.rooms_run.specs.declared.ends.RoomEnd.{RoomEnd}
use Rattle.rooms_run.specs.Seated.{RunFor}
use Rattle.rooms_run.proofs.Zips.{zip_push, last_in, front_in}
use Rattle.rooms_run.proofs.closing.close_all.Goals as goal

pub close_seat-requires-clause-run : goal.close_seat-requires-clause-run
close_seat-requires-clause-run g c κs within =
    last_in c.rooms.seats.items c.pop.new.self.items c.in-Some.seat c.in-Some.ensures.items
    (λ s. (gives : Result Given RoomEnd) × RunFor (λ d. d.desk) (λ k. k.now) gives s) c.rooms.invariant.run

pub rooms-preserved : goal.rooms-preserved
rooms-preserved g c =
    let was = c.rooms.invariant in
    let done = was.done.0 in
    record {
      run = front_in c.rooms.seats.items c.pop.new.self.items c.in-Some.seat c.in-Some.ensures.items
          (λ s. (gives : Result Given RoomEnd) × RunFor (λ d. d.desk) (λ k. k.now) gives s) was.run;
      done = (
        done ++ c.in-Some.seat ∷ [],
        was.done.1 ∙ ap (λ xs. xs ++ reverse done) c.in-Some.ensures.items ∙ append_assoc c.pop.new.self.items (c.in-Some.seat ∷ []) (reverse done)
            ∙ ap (λ xs. c.pop.new.self.items ++ xs) (sym (reverse-append done (c.in-Some.seat ∷ []))),
        rw c.in_ok-push.ensures.items (zip_push _ done c.rooms.outcomes.items c.in-Some.seat c.in_ok-close_seat.field-0 was.done.2 c.in_ok-close_seat.ensures.comes),
      );
    }
