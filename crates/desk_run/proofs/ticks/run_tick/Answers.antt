use Rattle.std.proofs.Common.{rules, arith, ap, length, List, Option, ℕ}
use Rattle.conference_spec.specs.Feed.{Feed}
use Rattle.session_spec.specs.Talkers.{Events}
use Rattle.tick_core.specs.Held.{Sent}
use Rattle.desk_run.specs.Ends.{Between}
use Rattle.desk_run.proofs.Ticked.{begun, begun-front, early, may_begin, was_behind, may_command, may_encode, may_rest, room-for, whole-before, front-before}
use Rattle.desk_run.proofs.TickEnds.{early-end, begin-end, put-end, gave-up-end, ticked-end, late-end}
use Rattle.desk_run.proofs.ticks.run_tick.Goals as goal

pub begin-requires-clause-stands : goal.begin-requires-clause-stands
begin-requires-clause-stands g c =
    may_begin (λ e. g.D.DeskSide.begins c.args.desk.now e) (λ f i. g.C.Audience.stands c.args.conference.now f i) _ c.args.written.now c.args.tick
    c.requires.stands

pub begin-requires-clause-behind : goal.begin-requires-clause-behind
begin-requires-clause-behind g c =
    was_behind (λ e. g.D.DeskSide.begins c.args.desk.now e) (λ f i. g.C.Audience.stands c.args.conference.now f i) _ c.args.written.now c.args.tick
    c.requires.stands

pub returns-in_err-begin-clause-stopped : goal.returns-in_err-begin-clause-stopped
returns-in_err-begin-clause-stopped g c =
    let D : Events → Type 0 = λ e. g.D.DeskSide.begins c.args.desk.now e in
    let C : Feed → ℕ → Type 0 = λ f i. g.C.Audience.stands c.args.conference.now f i in
    let m = g.K.Sink.held c.args.writer.now.sink in
    begin-end (λ s. g.S.Source.rest s) _ _ _ c.args.tick (λ o h. Between D C o m c.args.written.now c.args.tick h)
    _ c.from_residual.result c.in_err-begin.field-0.0 c.from_residual.ensures.1
    (begun-front D C m _ c.args.written.now c.args.tick c.in_err-begin.ensures.fault)

pub commands-requires-clause-stands : goal.commands-requires-clause-stands
commands-requires-clause-stands g c =
    let (o, h, at) = c.requires.stands in
    let e = c.in_ok-begin.ensures in
    let start =
    begun g.D.DeskSide.begins g.C.Audience.stands c.args.tick c.args.desk.now c.args.conference.now c.begin.new.conference _ _
    c.args.written.now c.begin.new.written e.behind e.stands e.whole in
    may_command (λ x. g.D.DeskSide.begins c.args.desk.now x) (λ f i. g.C.Audience.stands c.begin.new.conference f i) _ c.begin.new.written c.args.tick
    (o, h, start o h at)

pub returns-in_err-commands-clause-stopped : goal.returns-in_err-commands-clause-stopped
returns-in_err-commands-clause-stopped g c =
    let D : Events → Type 0 = λ e. g.D.DeskSide.begins c.args.desk.now e in
    let C : Feed → ℕ → Type 0 = λ f i. g.C.Audience.stands c.args.conference.now f i in
    let e = c.in_ok-begin.ensures in
    let start =
    begun g.D.DeskSide.begins g.C.Audience.stands c.args.tick c.args.desk.now c.args.conference.now c.begin.new.conference _ _
    c.args.written.now c.begin.new.written e.behind e.stands e.whole in
    early-end (λ s. g.S.Source.rest s) _ _ _ c.args.tick
    (λ o h. Between D C o (g.K.Sink.held c.args.writer.now.sink) c.args.written.now c.args.tick h)
    _ c.from_residual-in_err-commands.result c.from_residual-in_err-commands.ensures.1
    (λ o h at. early D (λ f i. g.C.Audience.stands c.begin.new.conference f i) _ c.begin.new.written c.args.tick o h (start o h at))

pub give_up-requires-clause-stands : goal.give_up-requires-clause-stands
give_up-requires-clause-stands g c =
    let (o, h, at) = c.requires.stands in
    let e = c.in_ok-begin.ensures in
    let start =
    begun g.D.DeskSide.begins g.C.Audience.stands c.args.tick c.args.desk.now c.args.conference.now c.begin.new.conference _ _
    c.args.written.now c.begin.new.written e.behind e.stands e.whole in
    may_rest g.D.DeskSide.begins g.D.DeskSide.stands g.C.Audience.stands (g.D.DeskSide.plan c.args.desk.now) c.args.tick
    c.args.desk.now c.commands.new.self c.begin.new.conference c.commands.new.audience _ c.begin.new.written c.in_ok-commands.ensures.stands
    (o, h, start o h at)

pub returns-in-Err-clause-stopped : goal.returns-in-Err-clause-stopped
returns-in-Err-clause-stopped g c =
    let B = g.D.DeskSide.begins in
    let S = g.D.DeskSide.stands in
    let R = g.C.Audience.stands in
    let plan = g.D.DeskSide.plan c.args.desk.now in
    let m = g.K.Sink.held c.args.writer.now.sink in
    let told = c.in_ok-commands.ensures.stands in
    let e = c.in_ok-begin.ensures in
    let start =
    begun B R c.args.tick c.args.desk.now c.args.conference.now c.begin.new.conference _ _
    c.args.written.now c.begin.new.written e.behind e.stands e.whole in
    gave-up-end (λ s. g.S.Source.rest s) _ _ _ c.args.tick
    (λ o h. Between (λ x. B c.args.desk.now x) (λ f i. R c.args.conference.now f i) o m c.args.written.now c.args.tick h)
    (g.K.Sink.held c.give_up.new.writer.sink) c.in-Err.fault c.give_up.result _ _ c.in-Err.ensures.broken
    (λ whole o h at.
    whole-before B S R plan c.args.tick c.args.desk.now c.commands.new.self c.begin.new.conference c.commands.new.audience _ c.begin.new.written
    told whole o h (start o h at))
    (λ front o h at.
    front-before B S R plan c.args.tick c.args.desk.now c.commands.new.self c.begin.new.conference c.commands.new.audience _ c.begin.new.written
    told front o h (start o h at))
    c.give_up.ensures.gives_up

pub encode-requires : goal.encode-requires
encode-requires g c =
    let (o, h, at) = c.requires.stands in
    let e = c.in_ok-begin.ensures in
    let start =
    begun g.D.DeskSide.begins g.C.Audience.stands c.args.tick c.args.desk.now c.args.conference.now c.begin.new.conference _ _
    c.args.written.now c.begin.new.written e.behind e.stands e.whole in
    may_encode g.D.DeskSide.begins g.D.DeskSide.stands g.C.Audience.stands (g.D.DeskSide.plan c.args.desk.now) c.args.tick
    c.args.desk.now c.commands.new.self c.begin.new.conference c.commands.new.audience _ c.begin.new.written c.in_ok-commands.ensures.stands
    (o, h, start o h at) c.requires.early

pub returns-in_err-ticks-clause-stopped : goal.returns-in_err-ticks-clause-stopped
returns-in_err-ticks-clause-stopped g c =
    let D : Events → Type 0 = λ e. g.D.DeskSide.begins c.args.desk.now e in
    let C : Feed → ℕ → Type 0 = λ f i. g.C.Audience.stands c.args.conference.now f i in
    let e = c.in_ok-begin.ensures in
    let start =
    begun g.D.DeskSide.begins g.C.Audience.stands c.args.tick c.args.desk.now c.args.conference.now c.begin.new.conference _ _
    c.args.written.now c.begin.new.written e.behind e.stands e.whole in
    early-end (λ s. g.S.Source.rest s) _ _ _ c.args.tick
    (λ o h. Between D C o (g.K.Sink.held c.args.writer.now.sink) c.args.written.now c.args.tick h)
    _ c.from_residual-in_err-ticks.result c.from_residual-in_err-ticks.ensures.1
    (λ o h at. early D (λ f i. g.C.Audience.stands c.begin.new.conference f i) _ c.begin.new.written c.args.tick o h (start o h at))

pub write_ticks-requires-clause-early : goal.write_ticks-requires-clause-early
write_ticks-requires-clause-early g c =
    let (o, h, at) = c.requires.stands in
    let e = c.in_ok-begin.ensures in
    let start =
    begun g.D.DeskSide.begins g.C.Audience.stands c.args.tick c.args.desk.now c.args.conference.now c.begin.new.conference _ _
    c.args.written.now c.begin.new.written e.behind e.stands e.whole in
    let room =
    room-for g.D.DeskSide.begins g.D.DeskSide.stands g.C.Audience.stands (g.D.DeskSide.plan c.args.desk.now) c.args.tick
    c.args.desk.now c.commands.new.self c.begin.new.conference c.commands.new.audience _ c.begin.new.written c.in_ok-commands.ensures.stands
    c.frames.result c.in_ok-ticks.ticks.items c.in_ok-ticks.ensures.stands (o, h, start o h at) in
    let same = ap (λ (ts : List Sent). length ts) c.deref.ensures.value in
    let early' = c.requires.early in
    omega (arith, room, same, early')

pub returns-in_err-write_ticks-clause-stopped : goal.returns-in_err-write_ticks-clause-stopped
returns-in_err-write_ticks-clause-stopped g c =
    let B = g.D.DeskSide.begins in
    let R = g.C.Audience.stands in
    let plan = g.D.DeskSide.plan c.args.desk.now in
    let P : Option (List ℕ) → Events → Type 0 = λ o h.
    Between (λ x. B c.args.desk.now x) (λ f i. R c.args.conference.now f i) o (g.K.Sink.held c.args.writer.now.sink) c.args.written.now c.args.tick h in
    let e = c.in_ok-begin.ensures in
    put-end (λ s. g.S.Source.rest s) _ _ _ c.args.tick P (g.K.Sink.held c.write_ticks.new.writer.sink)
    c.from_residual-in_err-write_ticks.result c.in_err-write_ticks.field-0.0 c.from_residual-in_err-write_ticks.ensures.1
    (late-end (λ s. g.S.Source.rest s) _ _ B g.D.DeskSide.stands R plan c.args.tick
    c.args.desk.now c.commands.new.self c.hear.new.desk c.frames.new.self c.begin.new.conference c.commands.new.audience c.encode.new.self
    c.frames.result c.in_ok-ticks.ticks.items c.deref.result.now _ _ c.begin.new.written P
    (begun B R c.args.tick c.args.desk.now c.args.conference.now c.begin.new.conference _ _
    c.args.written.now c.begin.new.written e.behind e.stands e.whole)
    (record {
      commands = c.in_ok-commands.ensures.stands;
      heard = c.frames.ensures.heard;
      pulled = c.frames.ensures.begins;
      packets = c.in_ok-ticks.ensures.packets;
      closed = c.in_ok-ticks.ensures.stands;
    })
    c.deref.ensures.value c.in_default.ensures.heard c.in_err-write_ticks.ensures.fault)

pub returns-clause-ran : goal.returns-clause-ran
returns-clause-ran g c =
    let B = g.D.DeskSide.begins in
    let R = g.C.Audience.stands in
    let plan = g.D.DeskSide.plan c.args.desk.now in
    let P : Option (List ℕ) → Events → Type 0 = λ o h.
    Between (λ x. B c.args.desk.now x) (λ f i. R c.args.conference.now f i) o (g.K.Sink.held c.args.writer.now.sink) c.args.written.now c.args.tick h in
    let e = c.in_ok-begin.ensures in
    ticked-end (λ s. g.S.Source.rest s) _ _ B g.D.DeskSide.stands R plan c.args.tick
    c.args.desk.now c.commands.new.self c.hear.new.desk c.frames.new.self c.begin.new.conference c.commands.new.audience c.encode.new.self
    c.frames.result c.in_ok-ticks.ticks.items c.deref.result.now _ (g.K.Sink.held c.write_ticks.new.writer.sink) c.begin.new.written P
    (begun B R c.args.tick c.args.desk.now c.args.conference.now c.begin.new.conference _ _
    c.args.written.now c.begin.new.written e.behind e.stands e.whole)
    (record {
      commands = c.in_ok-commands.ensures.stands;
      heard = c.frames.ensures.heard;
      pulled = c.frames.ensures.begins;
      packets = c.in_ok-ticks.ensures.packets;
      closed = c.in_ok-ticks.ensures.stands;
    })
    c.deref.ensures.value c.in_default.ensures.heard
    c.write_ticks.new.written _ _ _ _ (search rules) (search rules) (search rules) (search rules) c.in_ok-write_ticks.ensures.all c.in_ok-write_ticks.ensures.whole
