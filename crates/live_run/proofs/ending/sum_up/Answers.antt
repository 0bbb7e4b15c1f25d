use Rattle.std.proofs.Common.{◌∙◌, inl, sym}
use Rattle.session_spec.specs.Talkers.{Events}
use Rattle.udp_edge.specs.Known.{peer_at}
use Rattle.desk_run.proofs.Results.{on-err}
use Rattle.live_run.proofs.Closing.{fails-left, fails-unreported, fails-reporting, fails-counting, summed-up, sum-is}
use Rattle.live_run.proofs.ending.sum_up.Goals as goal

pub returns-in_err-post_rest-clause-failed : goal.returns-in_err-post_rest-clause-failed
returns-in_err-post_rest-clause-failed g c =
    on-err c.from_residual.result _ (λ plan start old answers h at.
    fails-left (λ e. g.D.DeskSide.begins c.args.desk.now e) c.args.tallied.now.conference c.args.tallied.now.tallies c.args.tallied.now.tallies
    c.args.tallied.now.closed
    (peer_at c.args.peers.now) plan start old _ _ (g.L.Link.traffic c.post_rest.new.link) answers _ _ c.args.ticks h at c.in_err-post_rest.ensures.front)

pub returns-in_err-reports-clause-failed : goal.returns-in_err-reports-clause-failed
returns-in_err-reports-clause-failed g c =
    on-err c.from_residual-in_err-reports.result _ (λ plan start old answers h at.
    fails-unreported (λ e. g.D.DeskSide.begins c.args.desk.now e) c.args.tallied.now.conference c.args.tallied.now.tallies c.args.tallied.now.tallies
    c.args.tallied.now.closed
    (peer_at c.args.peers.now) plan start old _ _ (g.L.Link.traffic c.post_rest.new.link) answers _ _ c.args.ticks h at _ c.in_ok-post_rest.ensures.posted)

pub returns-in_err-post_reports-clause-failed : goal.returns-in_err-post_reports-clause-failed
returns-in_err-post_reports-clause-failed g c =
    on-err c.from_residual-in_err-post_reports.result _ (λ plan start old answers h at.
    fails-reporting (λ e. g.D.DeskSide.begins c.args.desk.now e) c.args.tallied.now.conference c.args.tallied.now.tallies c.post_rest.new.tallies
    c.args.tallied.now.closed
    (peer_at c.args.peers.now) plan start old _ _ _ answers _ _ c.args.ticks h at _ c.in_ok-post_rest.ensures.posted
    c.as_slice.result.now c.in_ok-post_rest.ensures.counted c.from.result c.from.ensures _ c.as_slice.ensures.value c.in_ok-reports.ensures
    c.in_err-post_reports.ensures.front)

pub returns-in_err-counted-clause-failed : goal.returns-in_err-counted-clause-failed
returns-in_err-counted-clause-failed g c =
    on-err c.from_residual-in_err-counted.result _ (λ plan start old answers h at.
    fails-counting (λ e. g.D.DeskSide.begins c.args.desk.now e) c.args.tallied.now.conference c.args.tallied.now.tallies c.post_rest.new.tallies
    c.args.tallied.now.closed
    (peer_at c.args.peers.now) plan start old _ _ _ answers _ _ c.args.ticks h at _ c.in_ok-post_rest.ensures.posted
    c.as_slice.result.now c.in_ok-post_rest.ensures.counted c.from.result c.from.ensures _ c.as_slice.ensures.value c.in_ok-reports.ensures
    _ c.in_ok-post_reports.ensures.posted)

pub returns-in_err-counted-2-clause-failed : goal.returns-in_err-counted-2-clause-failed
returns-in_err-counted-2-clause-failed g c =
    on-err c.from_residual-in_err-counted-2.result _ (λ plan start old answers h at.
    fails-counting (λ e. g.D.DeskSide.begins c.args.desk.now e) c.args.tallied.now.conference c.args.tallied.now.tallies c.post_rest.new.tallies
    c.args.tallied.now.closed
    (peer_at c.args.peers.now) plan start old _ _ _ answers _ _ c.args.ticks h at _ c.in_ok-post_rest.ensures.posted
    c.as_slice.result.now c.in_ok-post_rest.ensures.counted c.from.result c.from.ensures _ c.as_slice.ensures.value c.in_ok-reports.ensures
    _ c.in_ok-post_reports.ensures.posted)

pub returns-clause-ran : goal.returns-clause-ran
returns-clause-ran g c = λ plan start old answers h at.
    let D : Events → Type 0 = λ e. g.D.DeskSide.begins c.args.desk.now e in
    let sum =
    sum-is D c.args.tallied.now.conference c.args.tallied.now.tallies c.post_rest.new.tallies c.args.tallied.now.closed
    (peer_at c.args.peers.now) plan start old _ _ _ answers _ _ c.args.ticks h at _ c.in_ok-post_rest.ensures.posted
    c.as_slice.result.now c.in_ok-post_rest.ensures.counted c.from.result c.from.ensures _ c.as_slice.ensures.value c.in_ok-reports.ensures
    _ c.in_ok-post_reports.ensures.posted c.from-2.result c.issued.result c.rests.result c.in_ok-counted.field-0 c.refused.result c.saturating_add.result
    c.len.result c.in_ok-counted-2.field-0
    c.from-2.ensures c.issued.ensures c.rests.ensures c.in_ok-counted.ensures (λ e b. c.refused.ensures.count e (inl b)) c.saturating_add.ensures
    (c.len.ensures ∙ sym c.as_slice.ensures.len) c.in_ok-counted-2.ensures in
    summed-up D c.args.tallied.now.conference c.args.tallied.now.tallies c.post_rest.new.tallies c.args.tallied.now.closed
    (peer_at c.args.peers.now) plan start old _ _ _ answers _ _ c.args.ticks h at _ c.in_ok-post_rest.ensures.posted
    c.as_slice.result.now c.in_ok-post_rest.ensures.counted c.from.result c.from.ensures _ c.as_slice.ensures.value c.in_ok-reports.ensures
    _ c.in_ok-post_reports.ensures.posted _ c.requires.short sum
