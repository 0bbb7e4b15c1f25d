use Rattle.std.proofs.Common.{◌≡◌, ◌∙◌, ◌<◌, ◌++◌, [], ◌∷◌, List, take, length, get_or, sym, ap, subst, arith, append_assoc}
use Rattle.std.proofs.lemmas.List.{append-nil, take_all}
use Rattle.conference_spec.specs.declared.Packet.{Packet}
use Rattle.conference_spec.specs.Codec.{g726}
use Rattle.conference_spec.specs.Packets.{rest}
use Rattle.session_spec.specs.Answer.{packet_octets}
use Rattle.udp_edge.specs.Known.{peer_at}
use Rattle.live_spec.specs.Letters.{Letter, letter_to}
use Rattle.live_tally.specs.Kept.{Keeps}
use Rattle.desk_run.proofs.Results.{on-err}
use Rattle.desk_run.proofs.Remaining.{as-many, rest-lawful}
use Rattle.live_link.proofs.Tried.{posts-none, posts-more, front-at, front-after, take-more}
use Rattle.std.proofs.lemmas.Option.{get_or_from_slice_get, slice_get_within}
use Rattle.live_link.proofs.Rests.{rest-read}
use Rattle.live_link.proofs.posting.post_rest.Goals as goal

pub loop-i-init : goal.loop-i-init
loop-i-init g c = record {
  opened = c.requires.open;
  posts = λ f s. posts-none _ _;
  counted = λ f s coder h before keeps. subst (λ (ps : List Packet). Keeps coder c.args.tallies.now h ps) (sym (append-nil before)) keeps;
  many = λ f s. as-many _ c.rests-i-end.result f c.rests-i-end.ensures s;
}

pub post_packet-requires-clause-lawful : goal.post_packet-requires-clause-lawful
post_packet-requires-clause-lawful g c = rest-lawful _ c.loop-i.i c.rest-packet.result c.rest-packet.ensures c.requires.even

pub loop-i-preserved : goal.loop-i-preserved
loop-i-preserved g c =
    let i = c.loop-i.i in
    let p = c.rest-packet.result in
    let F : Packet → List Letter = λ (x : Packet). letter_to (peer_at c.args.peers.now x.member) (packet_octets x) in
    record {
      opened = c.in_ok-post_packet.ensures.opened;
      posts = λ f s.
          let at = rest-read _ i p f c.rest-packet.ensures s in
          posts-more F _ _ _ (rest g726 f) i p (slice_get_within (rest g726 f) i p at) (sym (get_or_from_slice_get (rest g726 f) i p p at)) _ _ _
          (c.loop-i.invariant.posts f s) c.in_ok-post_packet.ensures.posted;
      counted = λ f s coder h before keeps.
          let at = rest-read _ i p f c.rest-packet.ensures s in
          let more = take-more (rest g726 f) i p (slice_get_within (rest g726 f) i p at) (sym (get_or_from_slice_get (rest g726 f) i p p at)) in
          subst (λ (ps : List Packet). Keeps coder c.count.new.self h ps)
          (append_assoc before (take i (rest g726 f)) (p ∷ []) ∙ ap (λ (ps : List Packet). before ++ ps) (sym more))
          (c.in_ok-count.ensures coder h (before ++ take i (rest g726 f)) (c.loop-i.invariant.counted f s coder h before keeps));
      many = c.loop-i.invariant.many;
    }

pub returns-in_err-post_packet-clause-front : goal.returns-in_err-post_packet-clause-front
returns-in_err-post_packet-clause-front g c =
    let i = c.loop-i.i in
    let p = c.rest-packet.result in
    let F : Packet → List Letter = λ (x : Packet). letter_to (peer_at c.args.peers.now x.member) (packet_octets x) in
    on-err c.from_residual.result _ (λ f s.
    let at = rest-read _ i p f c.rest-packet.ensures s in
    front-at F _ _ _ (rest g726 f) i p (slice_get_within (rest g726 f) i p at) (sym (get_or_from_slice_get (rest g726 f) i p p at)) _ _
    (c.loop-i.invariant.posts f s) c.in_err-post_packet.ensures.front)

pub returns-in_err-count-clause-front : goal.returns-in_err-count-clause-front
returns-in_err-count-clause-front g c =
    let i = c.loop-i.i in
    let p = c.rest-packet.result in
    let F : Packet → List Letter = λ (x : Packet). letter_to (peer_at c.args.peers.now x.member) (packet_octets x) in
    on-err c.from_residual-in_err-count.result _ (λ f s.
    let at = rest-read _ i p f c.rest-packet.ensures s in
    front-after F _ _ _ (rest g726 f) i p (slice_get_within (rest g726 f) i p at) (sym (get_or_from_slice_get (rest g726 f) i p p at)) _ _ _
    (c.loop-i.invariant.posts f s) c.in_ok-post_packet.ensures.posted)

pub returns-clause-counted : goal.returns-clause-counted
returns-clause-counted g c f s coder h before keeps =
    let many = c.loop-i.invariant.many f s in
    subst (λ (ps : List Packet). Keeps coder c.loop-i.tallies h (before ++ ps)) (take_all c.loop-i.i (rest g726 f) (omega arith)) (c.loop-i.invariant.counted f s coder h before keeps)
