use Rattle.std.proofs.Common.{◌+◌, refl, arith}
use Rattle.udp_edge.specs.Known.{peer_at}
use Rattle.desk_run.proofs.Results.{on-err}
use Rattle.live_link.specs.Rounds.{speech}
use Rattle.live_run.proofs.Ticking.{may-command, may-pull, may-close, closed-are, fails-commands, fails-unsent, failed-sending, ran}
use Rattle.live_run.proofs.ticks.run_tick.Goals as goal

pub commands-requires-clause-stands : goal.commands-requires-clause-stands
commands-requires-clause-stands g c =
    may-command (g.D.DeskSide.plan c.args.desk.now) c.args.tick (λ e. g.D.DeskSide.begins c.args.desk.now e) (λ e. g.D.DeskSide.begins c.args.desk.now e)
    (λ f n. g.C.Audience.stands c.args.tallied.now.conference f n) (λ f n. g.C.Audience.stands c.begin.new.conference f n)
    (λ f n. g.C.Audience.stands c.begin.new.conference f n)
    c.args.tallied.now.tallies c.args.tallied.now.tallies c.args.tallied.now.closed c.args.tallied.now.closed c.begin.ensures c.requires.ready

pub returns-in_err-commands-clause-failed : goal.returns-in_err-commands-clause-failed
returns-in_err-commands-clause-failed g c =
    on-err c.from_residual.result _ (λ old h at.
    fails-commands (peer_at c.args.peers.now) (g.D.DeskSide.plan c.args.desk.now) c.args.ears.now.start c.args.tick old _ _ c.args.ears.now.controls
    c.args.sums.now.unsent h at.went)

pub frames-requires : goal.frames-requires
frames-requires g c =
    may-pull (g.D.DeskSide.plan c.args.desk.now) c.args.tick (λ e. g.D.DeskSide.begins c.args.desk.now e) (λ e. g.D.DeskSide.stands c.commands.new.self e)
    (λ f n. g.C.Audience.stands c.args.tallied.now.conference f n) (λ f n. g.C.Audience.stands c.begin.new.conference f n)
    (λ f n. g.C.Audience.stands c.commands.new.audience.conference f n)
    c.args.tallied.now.tallies c.commands.new.audience.tallies c.args.tallied.now.closed c.commands.new.audience.closed c.begin.ensures
    c.in_ok-commands.ensures.stands
    (λ e. g.D.DeskSide.stands c.listen.new.desk e) (speech c.args.tick c.listen.ensures.heard.ds) c.listen.ensures.heard.here c.requires.ready

pub hand_out-requires : goal.hand_out-requires
hand_out-requires g c =
    may-close (g.D.DeskSide.plan c.args.desk.now) c.args.tick (λ e. g.D.DeskSide.begins c.args.desk.now e) (λ e. g.D.DeskSide.stands c.commands.new.self e)
    (λ f n. g.C.Audience.stands c.args.tallied.now.conference f n) (λ f n. g.C.Audience.stands c.begin.new.conference f n)
    (λ f n. g.C.Audience.stands c.commands.new.audience.conference f n)
    c.args.tallied.now.tallies c.commands.new.audience.tallies c.args.tallied.now.closed c.commands.new.audience.closed c.begin.ensures
    c.in_ok-commands.ensures.stands
    c.requires.ready c.requires.early

pub returns-in_err-packets-clause-failed : goal.returns-in_err-packets-clause-failed
returns-in_err-packets-clause-failed g c =
    on-err c.from_residual-in_err-packets.result _ (λ old h at.
    fails-unsent (peer_at c.args.peers.now) (g.D.DeskSide.plan c.args.desk.now) c.args.ears.now.start c.args.tick old _ _
    (g.L.Link.traffic c.listen.new.link) _ _ _ _ _ c.listen.ensures.heard
    c.args.sums.now.unsent h at.ready.closed at.went)

pub returns-in_err-send-clause-failed : goal.returns-in_err-send-clause-failed
returns-in_err-send-clause-failed g c =
    on-err c.from_residual-in_err-send.result _ (λ old h at.
    failed-sending (peer_at c.args.peers.now) (g.D.DeskSide.plan c.args.desk.now) c.args.ears.now.start c.args.tick
    (λ e. g.D.DeskSide.begins c.args.desk.now e) (λ e. g.D.DeskSide.stands c.commands.new.self e) (λ e. g.D.DeskSide.stands c.listen.new.desk e)
    (λ f n. g.C.Audience.stands c.args.tallied.now.conference f n) (λ f n. g.C.Audience.stands c.begin.new.conference f n)
    (λ f n. g.C.Audience.stands c.commands.new.audience.conference f n)
    c.args.tallied.now.tallies c.commands.new.audience.tallies c.args.tallied.now.closed c.commands.new.audience.closed c.begin.ensures
    c.in_ok-commands.ensures.stands
    _ _ _ _ _ _ _ c.listen.ensures.heard c.in_ok-packets.packets.packets c.frames.result c.frames.ensures.heard c.in_ok-packets.ensures.packets
    c.in_err-send.ensures.front old c.args.sums.now h at)

pub overflow_add-tallied : goal.overflow_add-tallied
overflow_add-tallied g c =
    let same =
    closed-are (g.D.DeskSide.plan c.args.desk.now) c.args.tick (λ e. g.D.DeskSide.begins c.args.desk.now e) (λ e. g.D.DeskSide.stands c.commands.new.self e)
    (λ f n. g.C.Audience.stands c.args.tallied.now.conference f n) (λ f n. g.C.Audience.stands c.begin.new.conference f n)
    (λ f n. g.C.Audience.stands c.commands.new.audience.conference f n)
    c.args.tallied.now.tallies c.commands.new.audience.tallies c.args.tallied.now.closed c.commands.new.audience.closed c.begin.ensures
    c.in_ok-commands.ensures.stands
    c.requires.ready in
    let early = c.requires.early in
    omega (arith, same, early)

pub returns-clause-ran : goal.returns-clause-ran
returns-clause-ran g c = λ old h at.
    ran (peer_at c.args.peers.now) (g.D.DeskSide.plan c.args.desk.now) c.args.ears.now.start c.args.tick
    (λ e. g.D.DeskSide.begins c.args.desk.now e) (λ e. g.D.DeskSide.stands c.commands.new.self e) (λ e. g.D.DeskSide.stands c.listen.new.desk e)
    (λ f n. g.C.Audience.stands c.args.tallied.now.conference f n) (λ f n. g.C.Audience.stands c.begin.new.conference f n)
    (λ f n. g.C.Audience.stands c.commands.new.audience.conference f n)
    c.args.tallied.now.tallies c.commands.new.audience.tallies c.args.tallied.now.closed c.commands.new.audience.closed c.begin.ensures
    c.in_ok-commands.ensures.stands
    _ _ _ _ _ _ _ c.listen.ensures.heard c.in_ok-packets.packets.packets c.frames.result c.frames.ensures.heard c.in_ok-packets.ensures.packets
    (λ e. g.D.DeskSide.begins c.frames.new.self e) (λ f n. g.C.Audience.stands c.hand_out.new.conference f n) c.send.new.tallies
    (c.commands.new.audience.closed + 1) refl
    c.frames.ensures.begins c.in_ok-packets.ensures.stands old c.args.sums.now c.send.new.sums c.in_ok-send.ensures.sent h at
