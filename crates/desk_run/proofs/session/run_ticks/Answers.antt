use Rattle.std.proofs.Common.{refl, rules, add-one, arith, ◌∙◌, ◌+◌}
use Rattle.desk_run.proofs.Results.{if-err}
use Rattle.desk_run.proofs.Standing.{standing_start, standing_tick, bare-between}
use Rattle.desk_run.proofs.Told.{done_all, stop_told, rest_told, may-rest}
use Rattle.desk_run.specs.Ends.{Between}
use Rattle.desk_run.proofs.session.run_ticks.Goals as goal

pub loop-tick-init : goal.loop-tick-init
loop-tick-init g c = record {
  same_source = refl;
  same_sink = refl;
  going = search rules;
  plan = refl;
  post = refl;
  never_falls = omega arith;
  counts = refl;
  standing =
      standing_start (λ s. g.S.Source.rest s) c.args.reader.now _ _ c.requires.going.sound c.requires.bare
      (bare-between (λ h. g.D.DeskSide.begins c.args.desk.now h) (λ f n. g.C.Audience.stands c.args.conference.now f n) _ c.nothing-written.result c.nothing-written.ensures
      c.requires.stands.0 c.requires.stands.1);
}

pub loop-tick-preserved : goal.loop-tick-preserved
loop-tick-preserved g c =
    let was = c.loop-tick.invariant in
    let e = c.in_ok-run_tick.ensures in
    record {
      same_source = e.same_source ∙ was.same_source;
      same_sink = e.same_sink ∙ was.same_sink;
      going = e.going;
      plan = e.plan ∙ was.plan;
      post = e.post ∙ was.post;
      never_falls = omega arith;
      counts = e.counts ∙ was.counts;
      standing =
          standing_tick (λ s. g.S.Source.rest s) c.args.reader.now c.loop-tick.reader c.run_tick.new.reader
          (g.D.DeskSide.plan c.args.desk.now) (g.D.DeskSide.plan c.loop-tick.desk) c.loop-tick.tick _
          (λ o h. Between (λ e. g.D.DeskSide.begins c.loop-tick.desk e) (λ f n. g.C.Audience.stands c.loop-tick.conference f n) o
          (g.K.Sink.held c.loop-tick.writer.sink) c.loop-tick.written c.loop-tick.tick h)
          (λ o h. Between (λ e. g.D.DeskSide.begins c.run_tick.new.desk e) (λ f n. g.C.Audience.stands c.run_tick.new.conference f n) o
          (g.K.Sink.held c.run_tick.new.writer.sink) c.run_tick.new.written (c.loop-tick.tick + 1) h)
          (g.K.Sink.held c.args.writer.now.sink) (add-one c.loop-tick.tick) was.plan was.standing e.ran;
    }

pub returns-in_err-run_tick-clause-stopped : goal.returns-in_err-run_tick-clause-stopped
returns-in_err-run_tick-clause-stopped g c =
    let was = c.loop-tick.invariant in
    if-err c.from_residual.result c.in_err-run_tick.field-0.0 _ c.from_residual.ensures.1
    (stop_told (λ s. g.S.Source.rest s) c.args.reader.now c.loop-tick.reader c.run_tick.new.reader
    (g.D.DeskSide.plan c.args.desk.now) (g.D.DeskSide.plan c.loop-tick.desk) c.args.ticks c.loop-tick.tick
    (λ o h. Between (λ e. g.D.DeskSide.begins c.loop-tick.desk e) (λ f n. g.C.Audience.stands c.loop-tick.conference f n) o
    (g.K.Sink.held c.loop-tick.writer.sink) c.loop-tick.written c.loop-tick.tick h)
    (g.K.Sink.held c.args.writer.now.sink) (g.K.Sink.held c.run_tick.new.writer.sink) c.in_err-run_tick.field-0.0
    c.loop-tick-test.true was.plan was.standing c.in_err-run_tick.ensures.stopped)

pub write_rest-requires-clause-stands : goal.write_rest-requires-clause-stands
write_rest-requires-clause-stands g c =
    let at = c.loop-tick.invariant.standing in
    may-rest (λ f n. g.C.Audience.stands c.loop-tick.conference f n) _ _ _ c.loop-tick.written c.loop-tick.tick c.args.ticks at.happened (omega arith) at.here

pub write_rest-requires-clause-behind : goal.write_rest-requires-clause-behind
write_rest-requires-clause-behind g c =
    let at = c.loop-tick.invariant.standing.here.behind in
    omega arith

pub returns-in_err-write_rest-clause-stopped : goal.returns-in_err-write_rest-clause-stopped
returns-in_err-write_rest-clause-stopped g c =
    let was = c.loop-tick.invariant in
    if-err c.from_residual-in_err-write_rest.result _ _ c.from_residual-in_err-write_rest.ensures.1
    (rest_told (λ s. g.S.Source.rest s) c.args.reader.now c.loop-tick.reader (g.D.DeskSide.plan c.args.desk.now) c.args.ticks c.loop-tick.tick
    (λ h. g.D.DeskSide.begins c.loop-tick.desk h) (λ f n. g.C.Audience.stands c.loop-tick.conference f n) (g.K.Sink.held c.args.writer.now.sink) (g.K.Sink.held c.loop-tick.writer.sink)
    (g.K.Sink.held c.write_rest.new.writer.sink) c.loop-tick.written c.in_err-write_rest.field-0.0 (omega arith) was.standing c.in_err-write_rest.ensures.fault)

pub returns-clause-ran : goal.returns-clause-ran
returns-clause-ran g c =
    let was = c.loop-tick.invariant in
    let e = c.in_ok-write_rest.ensures in
    done_all (λ s. g.S.Source.rest s) c.args.reader.now c.loop-tick.reader _ g.D.DeskSide.begins c.loop-tick.desk _ g.C.Audience.stands c.loop-tick.conference c.write_rest.new.conference _
    (g.D.DeskSide.plan c.args.desk.now) c.args.ticks c.loop-tick.tick
    (g.K.Sink.held c.args.writer.now.sink) (g.K.Sink.held c.loop-tick.writer.sink) (g.K.Sink.held c.write_rest.new.writer.sink) _ c.loop-tick.written c.write_rest.new.written c.packets.result
    (search rules) (search rules) (search rules) (search rules) c.packets.ensures (omega arith) e.all e.stands e.whole was.standing
