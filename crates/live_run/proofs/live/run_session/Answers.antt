use Rattle.std.proofs.Common.{refl}
use Rattle.conference_spec.specs.Codec.{g726}
use Rattle.udp_edge.specs.Known.{peer_at}
use Rattle.desk_run.proofs.BookFeed.{new-stands}
use Rattle.desk_run.proofs.Results.{on-err, err-with}
use Rattle.live_run.specs.Ended.{Runs, SendsFront}
use Rattle.live_run.proofs.Telling.{from-start, never-started, ok-all, ok-so}
use Rattle.live_run.proofs.Closing.{nothing-sent}
use Rattle.live_run.proofs.live.run_session.Goals as goal

pub returns-in_err-vec-clause-failed : goal.returns-in_err-vec-clause-failed
returns-in_err-vec-clause-failed g c =
    let peer_of = peer_at c.args.peers.now in
    let plan = g.D.DeskSide.plan c.args.desk.now in
    let a = g.L.Link.traffic c.args.link.now in
    on-err c.from_residual.result _
    (never-started a (g.K.Clock.answers c.args.clock.now) (λ live. SendsFront peer_of plan c.args.ticks live a a)
    (λ live. nothing-sent peer_of plan c.args.ticks live a))

pub run_ticks-requires-clause-stands : goal.run_ticks-requires-clause-stands
run_ticks-requires-clause-stands g c = record {
  stands = (new-stands c.new.result c.new.ensures.begun, refl, refl);
  closed_are = refl;
  keeps = c.new-2.ensures g726;
}

pub returns-in_err-run_ticks-clause-failed : goal.returns-in_err-run_ticks-clause-failed
returns-in_err-run_ticks-clause-failed g c =
    let peer_of = peer_at c.args.peers.now in
    let plan = g.D.DeskSide.plan c.args.desk.now in
    on-err c.from_residual-in_err-run_ticks.result _
    (from-start (g.L.Link.traffic c.args.link.now) (g.K.Clock.answers c.args.clock.now) (g.K.Clock.answers c.now.new.self) c.now.result
    (λ live. SendsFront peer_of plan c.args.ticks live (g.L.Link.traffic c.args.link.now) (g.L.Link.traffic c.run_ticks.new.link)) c.now.ensures
    c.in_err-run_ticks.ensures.failed)

pub returns-clause-ran : goal.returns-clause-ran
returns-clause-ran g c =
    let peer_of = peer_at c.args.peers.now in
    let plan = g.D.DeskSide.plan c.args.desk.now in
    let (h, at) = c.in_ok-run_ticks.ensures.ran in
    ok-all c.sum_up.result _ _ (λ s told.
    from-start (g.L.Link.traffic c.args.link.now) (g.K.Clock.answers c.args.clock.now) (g.K.Clock.answers c.now.new.self) c.now.result
    (λ live. Runs peer_of plan c.args.ticks live (g.L.Link.traffic c.args.link.now) (g.L.Link.traffic c.sum_up.new.link) s) c.now.ensures
    (told plan c.now.result _ _ h at).0)
    c.sum_up.ensures.ran

pub returns-clause-failed : goal.returns-clause-failed
returns-clause-failed g c =
    let peer_of = peer_at c.args.peers.now in
    let plan = g.D.DeskSide.plan c.args.desk.now in
    let (h, at) = c.in_ok-run_ticks.ensures.ran in
    err-with c.sum_up.result _ _ (λ told.
    from-start (g.L.Link.traffic c.args.link.now) (g.K.Clock.answers c.args.clock.now) (g.K.Clock.answers c.now.new.self) c.now.result
    (λ live. SendsFront peer_of plan c.args.ticks live (g.L.Link.traffic c.args.link.now) (g.L.Link.traffic c.sum_up.new.link)) c.now.ensures
    (told plan c.now.result _ _ h at))
    c.sum_up.ensures.failed

pub returns-clause-port : goal.returns-clause-port
returns-clause-port g c =
    let plan = g.D.DeskSide.plan c.args.desk.now in
    let (h, at) = c.in_ok-run_ticks.ensures.ran in
    ok-so c.sum_up.result _ _ (λ s told. (told plan c.now.result _ _ h at).1) c.sum_up.ensures.ran
