use Rattle.std.proofs.Common.{◌≡◌, ◌∙◌, ◌<◌, ◌++◌, [], ◌∷◌, List, take, length, get_or, sym, ap, subst, arith, append_assoc}
use Rattle.std.proofs.lemmas.List.{append-nil, take_all}
use Rattle.std.proofs.lemmas.Option.{get_or_from_slice_get, slice_get_within}
use Rattle.conference_spec.specs.declared.Packet.{Packet}
use Rattle.session_spec.specs.Answer.{packet_octets}
use Rattle.udp_edge.specs.Known.{peer_at}
use Rattle.live_spec.specs.Letters.{Letter, letter_to}
use Rattle.live_tally.specs.Kept.{Keeps}
use Rattle.desk_run.proofs.Results.{on-err}
use Rattle.live_link.proofs.Tried.{posts-none, posts-more, front-at, front-after, take-more}
use Rattle.live_link.proofs.posting.post_packets.Goals as goal

pub loop-i-init : goal.loop-i-init
loop-i-init g c = record {
  opened = c.requires.open;
  posts = posts-none _ _;
  counted = λ coder h before keeps. subst (λ (ps : List Packet). Keeps coder c.args.tallies.now h ps) (sym (append-nil before)) keeps;
}

pub loop-i-preserved : goal.loop-i-preserved
loop-i-preserved g c =
    let packets = c.args.packets.now.packets in
    let i = c.loop-i.i in
    let p = c.packet-packet.result in
    let f : Packet → List Letter = λ (x : Packet). letter_to (peer_at c.args.peers.now x.member) (packet_octets x) in
    let lt = slice_get_within packets i p c.packet-packet.ensures in
    let is = sym (get_or_from_slice_get packets i p p c.packet-packet.ensures) in
    record {
      opened = c.in_ok-post_packet.ensures.opened;
      posts = posts-more f _ _ _ packets i p lt is _ _ _ c.loop-i.invariant.posts c.in_ok-post_packet.ensures.posted;
      counted = λ coder h before keeps.
          subst (λ (ps : List Packet). Keeps coder c.count.new.self h ps)
          (append_assoc before (take i packets) (p ∷ []) ∙ ap (λ (ps : List Packet). before ++ ps) (sym (take-more packets i p lt is)))
          (c.in_ok-count.ensures coder h (before ++ take i packets) (c.loop-i.invariant.counted coder h before keeps));
    }

pub returns-in_err-post_packet-clause-front : goal.returns-in_err-post_packet-clause-front
returns-in_err-post_packet-clause-front g c =
    let packets = c.args.packets.now.packets in
    let i = c.loop-i.i in
    let p = c.packet-packet.result in
    let f : Packet → List Letter = λ (x : Packet). letter_to (peer_at c.args.peers.now x.member) (packet_octets x) in
    on-err c.from_residual.result _
    (front-at f _ _ _ packets i p (slice_get_within packets i p c.packet-packet.ensures) (sym (get_or_from_slice_get packets i p p c.packet-packet.ensures)) _ _
    c.loop-i.invariant.posts c.in_err-post_packet.ensures.front)

pub returns-in_err-count-clause-front : goal.returns-in_err-count-clause-front
returns-in_err-count-clause-front g c =
    let packets = c.args.packets.now.packets in
    let i = c.loop-i.i in
    let p = c.packet-packet.result in
    let f : Packet → List Letter = λ (x : Packet). letter_to (peer_at c.args.peers.now x.member) (packet_octets x) in
    on-err c.from_residual-in_err-count.result _
    (front-after f _ _ _ packets i p (slice_get_within packets i p c.packet-packet.ensures) (sym (get_or_from_slice_get packets i p p c.packet-packet.ensures)) _ _ _
    c.loop-i.invariant.posts c.in_ok-post_packet.ensures.posted)

pub returns-clause-counted : goal.returns-clause-counted
returns-clause-counted g c coder h before keeps =
    let packets = c.args.packets.now.packets in
    subst (λ (ps : List Packet). Keeps coder c.loop-i.tallies h (before ++ ps)) (take_all c.loop-i.i packets (omega arith)) (c.loop-i.invariant.counted coder h before keeps)
