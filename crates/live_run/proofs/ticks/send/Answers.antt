use Rattle.std.proofs.Common.{◌+◌, ◌∙◌, ap, refl, sym}
use Rattle.udp_edge.specs.Known.{peer_at}
use Rattle.desk_run.proofs.Results.{on-err}
use Rattle.live_run.proofs.Sending.{reports-at, has-sent, front-packets, front-unreported, front-reports, front-both}
use Rattle.live_run.proofs.ticks.send.Goals as goal

pub returns-in_err-post_packets-clause-front : goal.returns-in_err-post_packets-clause-front
returns-in_err-post_packets-clause-front g c =
    on-err c.from_residual.result _
    (front-packets (peer_at c.args.peers.now) c.args.tick c.args.packets.now.packets c.args.tallies.now _ _ c.in_err-post_packets.ensures.front)

pub returns-in_err-reports-clause-front : goal.returns-in_err-reports-clause-front
returns-in_err-reports-clause-front g c =
    on-err c.from_residual-in_err-reports.result _
    (front-unreported (peer_at c.args.peers.now) c.args.tick c.args.packets.now.packets c.args.tallies.now _ _ _ _ c.in_ok-post_packets.ensures.posted)

pub returns-in_err-post_reports-clause-front : goal.returns-in_err-post_reports-clause-front
returns-in_err-post_reports-clause-front g c =
    on-err c.from_residual-in_err-post_reports.result _
    (front-reports (peer_at c.args.peers.now) c.args.tick c.args.packets.now.packets c.args.tallies.now c.post_packets.new.tallies
    c.in_ok-post_packets.ensures.counted
    c.as_slice.result.now (reports-at _ _ _ _ _ c.from.ensures c.as_slice.ensures.value c.in_ok-reports.ensures) _ _ _ _ _ 0 c.in_ok-post_packets.ensures.posted
    c.in_err-post_reports.ensures.front)

pub returns-in_err-sums-clause-front : goal.returns-in_err-sums-clause-front
returns-in_err-sums-clause-front g c =
    on-err c.from_residual-in_err-sums.result _
    (front-both (peer_at c.args.peers.now) c.args.tick c.args.packets.now.packets c.args.tallies.now c.post_packets.new.tallies
    c.in_ok-post_packets.ensures.counted
    c.as_slice.result.now (reports-at _ _ _ _ _ c.from.ensures c.as_slice.ensures.value c.in_ok-reports.ensures) _ _ _ _ _ _ c.in_ok-post_packets.ensures.posted
    c.in_ok-post_reports.ensures.posted)

pub returns-in_err-sums-2-clause-front : goal.returns-in_err-sums-2-clause-front
returns-in_err-sums-2-clause-front g c =
    on-err c.from_residual-in_err-sums-2.result _
    (front-both (peer_at c.args.peers.now) c.args.tick c.args.packets.now.packets c.args.tallies.now c.post_packets.new.tallies
    c.in_ok-post_packets.ensures.counted
    c.as_slice.result.now (reports-at _ _ _ _ _ c.from.ensures c.as_slice.ensures.value c.in_ok-reports.ensures) _ _ _ _ _ _ c.in_ok-post_packets.ensures.posted
    c.in_ok-post_reports.ensures.posted)

pub returns-clause-sent : goal.returns-clause-sent
returns-clause-sent g c =
    has-sent (peer_at c.args.peers.now) c.args.tick c.args.packets.now.packets c.args.tallies.now c.post_packets.new.tallies
    c.in_ok-post_packets.ensures.counted
    c.as_slice.result.now (reports-at _ _ _ _ _ c.from.ensures c.as_slice.ensures.value c.in_ok-reports.ensures) _ _ _ _ _ _ c.in_ok-post_packets.ensures.posted
    c.close.new.self c.args.sums.now _ c.in_ok-post_reports.ensures.posted (λ coder h talkers ps at. c.close.ensures coder h talkers ps
    (at ∙ sym c.from-2.ensures))
    refl refl (c.in_ok-sums.ensures ∙ ap (λ n. c.args.sums.now.packets + n) c.len.ensures)
    (c.in_ok-sums-2.ensures ∙ ap (λ n. c.args.sums.now.reports + n) (c.len-2.ensures ∙ sym c.as_slice.ensures.len))
