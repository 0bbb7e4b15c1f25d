use Rattle.std.proofs.Common.{◌≡◌, ◌≤◌, ℕ, refl, sym, ap, ◌∙◌, subst, arith, rules}
use Rattle.conference_spec.specs.Feed.{Feed}
use Rattle.tick_core.specs.Locking.{Parts, StandsWith}
use Rattle.tick_core.specs.declared.book.Book.{Book}
use Rattle.desk_shared.specs.Shared.{IsOver}
use Rattle.desk_shared.proofs.Sharing.{even-along, ended-well}
use Rattle.roster_desk.specs.Serving.{Begins}
use Rattle.rooms_run.specs.Summing.{Sums}
use Rattle.rooms_run.proofs.Comings.{summed_comes}
use Rattle.rooms_run.proofs.closing.sum_room.Goals as goal

pub turn-summed-requires-clause-callable : goal.turn-summed-requires-clause-callable
turn-summed-requires-clause-callable g c = λ b feed state st may.
    let run = c.requires.run.1 in
    let room = c.args.room in
    let is : feed ≡ room.conference.desk.view.seen = may.1 c.into_pass-pass.ensures.desk ∙ ap (λ p. p.view.seen) c.into_pass-pass.ensures.pass in
    let stands : StandsWith b.now room.conference.desk.view.seen state = subst (λ (f : Feed). StandsWith b.now f state) is st in (
      even-along b.now room.conference.desk.view.seen (λ h. Begins room.desk h) c.requires.run.0.ticks (state, stands)
          (ended-well _ _ (λ f. IsOver room.conference.desk.view.seen f c.requires.run.0.ticks) room.end c.args.packets c.requires.well run.ended),
      omega (arith, run.ticks_is, run.short),
    )

pub returns-in-Ok : goal.returns-in-Ok
returns-in-Ok g c = record {
  comes = λ given run.
      let room = c.args.room in
      let seen = room.conference.desk.view.seen in
      let t = c.turn-summed.ensures.turn in
      let x = t.did.0 in
      let is : t.found.feed ≡ seen = t.may.1 c.into_pass-pass.ensures.desk ∙ ap (λ p. p.view.seen) c.into_pass-pass.ensures.pass in
      let stands : StandsWith x seen t.found.state = subst (λ (f : Feed). StandsWith x f t.found.state) is t.did.2 in
      let done = t.did.3 in
      let shown : Sums room.ticks c.args.packets room.desk room.out.octets done.shown.now c.turn-summed.result = search rules in
      let sums : Sums room.ticks c.args.packets room.desk room.out.octets x c.turn-summed.result =
      subst (λ (b : Book). Sums room.ticks c.args.packets room.desk room.out.octets b c.turn-summed.result) done.shows shown in
      summed_comes given _ room.out.octets room.end c.args.packets room.desk seen x t.found.state room.ticks c.turn-summed.result c.in-Ok.summary
      run.ended c.requires.well run.short stands run.ticks_is sums c.in-Ok.is;
}
