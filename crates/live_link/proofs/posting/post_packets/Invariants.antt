use Rattle.std.proofs.Common.{◌≡◌, ◌++◌, true, List, take}
use Rattle.conference_spec.specs.declared.Packet.{Packet}
use Rattle.conference_spec.specs.Coding.{Coder}
use Rattle.conference_spec.specs.Feed.{Feed}
use Rattle.udp_edge.specs.Known.{peer_at}
use Rattle.live_spec.specs.Letters.{packet_letters}
use Rattle.live_tally.specs.Kept.{Keeps}
use Rattle.live_link.specs.Posts.{Posts}
use Rattle.live_link.proofs.posting.post_packets.Given as goal

abbrev pub invariant-loop-i : goal.invariant-loop-i
invariant-loop-i g l = record {
  opened : g.L.Link.is_open l.link ≡ true;
  posts : Posts (g.L.Link.traffic l.fn.link) (g.L.Link.traffic l.link) l.fn.unsent l.unsent (packet_letters (peer_at l.peers) (take l.i l.packets.packets));
  counted : (coder : Coder) (h : Feed) (before : List Packet) → Keeps coder l.fn.tallies h before → Keeps coder l.tallies h (before ++ take l.i l.packets.packets);
}
