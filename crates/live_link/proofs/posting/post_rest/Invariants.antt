use Rattle.std.proofs.Common.{◌≡◌, ◌++◌, true, List, take, length}
use Rattle.conference_spec.specs.declared.Packet.{Packet}
use Rattle.conference_spec.specs.Coding.{Coder}
use Rattle.conference_spec.specs.Codec.{g726}
use Rattle.conference_spec.specs.Feed.{Feed}
use Rattle.conference_spec.specs.Packets.{rest}
use Rattle.desk_run.specs.BookSide.{StandsFor}
use Rattle.udp_edge.specs.Known.{peer_at}
use Rattle.live_spec.specs.Letters.{packet_letters}
use Rattle.live_tally.specs.Kept.{Keeps}
use Rattle.live_link.specs.Posts.{Posts}
use Rattle.live_link.proofs.posting.post_rest.Given as goal

abbrev pub invariant-loop-i : goal.invariant-loop-i
invariant-loop-i g l = record {
  opened : g.L.Link.is_open l.link ≡ true;
  posts : (f : Feed) → StandsFor l.book f → Posts (g.L.Link.traffic l.fn.link) (g.L.Link.traffic l.link) l.fn.unsent l.unsent
      (packet_letters (peer_at l.peers) (take l.i (rest g726 f)));
  counted : (f : Feed) → StandsFor l.book f → (coder : Coder) (h : Feed) (before : List Packet) → Keeps coder l.fn.tallies h before
      → Keeps coder l.tallies h (before ++ take l.i (rest g726 f));
  many : (f : Feed) → StandsFor l.book f → l.i-end ≡ length (rest g726 f);
}
