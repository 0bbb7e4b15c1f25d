use Rattle.std.proofs.Common.{◌≡◌, true, take}
use Rattle.udp_edge.specs.Known.{peer_at}
use Rattle.live_spec.specs.Letters.{report_letters}
use Rattle.live_link.specs.Posts.{Posts}
use Rattle.live_link.proofs.posting.post_reports.Given as goal

abbrev pub invariant-loop-report : goal.invariant-loop-report
invariant-loop-report g l = record {
  opened : g.L.Link.is_open l.link ≡ true;
  posts : Posts (g.L.Link.traffic l.fn.link) (g.L.Link.traffic l.link) l.fn.unsent l.unsent (report_letters (peer_at l.peers) (take l.report-index l.reports));
}
