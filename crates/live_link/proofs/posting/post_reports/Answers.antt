use Rattle.std.proofs.Common.{List}
use Rattle.rtcp_pack.specs.declared.report.Report.{Report}
use Rattle.rtcp_pack.specs.Reports.{report_octets}
use Rattle.udp_edge.specs.Known.{peer_at}
use Rattle.live_spec.specs.Letters.{Letter, letter_to, port_above}
use Rattle.desk_run.proofs.Results.{on-err}
use Rattle.live_link.proofs.Tried.{posts-place, front-place}
use Rattle.live_link.proofs.posting.post_reports.Goals as goal

pub loop-report-preserved : goal.loop-report-preserved
loop-report-preserved g c =
    let f : Report → List Letter = λ (x : Report). letter_to (port_above (peer_at c.args.peers.now x.member)) (report_octets x) in
    record {
      opened = c.in_ok-post_report.ensures.opened;
      posts = posts-place f _ _ _ c.args.reports.now c.loop-report.report-index _ c.loop-report-test.true _ _ _ c.loop-report.invariant.posts c.in_ok-post_report.ensures.posted;
    }

pub returns-in_err-post_report-clause-front : goal.returns-in_err-post_report-clause-front
returns-in_err-post_report-clause-front g c =
    let f : Report → List Letter = λ (x : Report). letter_to (port_above (peer_at c.args.peers.now x.member)) (report_octets x) in
    on-err c.from_residual.result _
    (front-place f _ _ _ c.args.reports.now c.loop-report.report-index _ c.loop-report-test.true _ _ c.loop-report.invariant.posts c.in_err-post_report.ensures.front)
