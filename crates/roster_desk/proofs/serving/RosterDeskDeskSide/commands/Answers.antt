use Rattle.std.proofs.Common.{◌∙◌, arith}
use Rattle.conference_spec.specs.Feed.{Feed}
use Rattle.session_spec.specs.Events.{commands_of, after_cut}
use Rattle.session_spec.proofs.Following.{cut-closes}
use Rattle.roster_desk.proofs.Going.{going_more, going_end, left_falls}
use Rattle.roster_desk.proofs.serving.RosterDeskDeskSide.commands.Goals as goal

pub commands-smaller : goal.commands-smaller
commands-smaller g c =
    let asked = c.requires.stands in
    let going = c.commands.invariant.going asked.0 asked.1 asked.2 asked.3 asked.4 in
    let gives = c.in-Some.ensures.some going.cs going.left in
    omega (arith, left_falls _ _ c.args.tick going.cs c.in-Some.command going.left gives)

pub tell-requires : goal.tell-requires
tell-requires g c =
    let asked = c.requires.stands in
    let going = c.commands.invariant.going asked.0 asked.1 asked.2 asked.3 asked.4 in
    let next = c.in-Some.ensures.applied going.now going.applied in
    (going.now, asked.1, next.1, going.conference)

pub apply-requires : goal.apply-requires
apply-requires g c =
    let asked = c.requires.stands in
    let going = c.commands.invariant.going asked.0 asked.1 asked.2 asked.3 asked.4 in
    let next = c.in-Some.ensures.applied going.now going.applied in
    record { events = going.now; stands = going.stands; admits = next.0 }

pub commands-preserved : goal.commands-preserved
commands-preserved g c = record {
  same = c.next.ensures.roster ∙ c.commands.invariant.same;
  post = c.tell.ensures.post ∙ c.commands.invariant.post;
  going = λ h n begins e r.
      let going = c.commands.invariant.going h n begins e r in
      let next = c.in-Some.ensures.applied going.now going.applied in
      going_more (λ (f : Feed). g.A.Audience.stands c.commands.audience f n) (λ (f : Feed). g.A.Audience.stands c.tell.new.audience f n)
      c.commands.self (record { plan = c.next.new.self; desk = c.apply.new.self }) c.args.tick (commands_of c.args.self.now.plan.timed c.args.tick)
      (after_cut c.args.tick h) c.in-Some.command going (c.in-Some.ensures.some going.cs going.left) next.2
      (c.in_ok-apply-in-Some.ensures.stands going.now going.stands)
      (c.in_ok-tell-in-Some.ensures.stands going.now n going.conference);
}

pub returns-in-None-clause-stands : goal.returns-in-None-clause-stands
returns-in-None-clause-stands g c h n begins e r =
    let going = c.commands.invariant.going h n begins e r in
    going_end (λ (f : Feed). g.A.Audience.stands c.commands.audience f n) c.commands.self c.next.new.self c.args.tick
    (commands_of c.args.self.now.plan.timed c.args.tick) (after_cut c.args.tick h) c.in-None.ensures.same going
    (c.in-None.ensures.none going.cs going.left) (cut-closes c.args.tick h ∙ e)
