use Rattle.std.proofs.Common.{◌≡◌, List, Ok, Err, arith}
use Rattle.roster_text.specs.Lines.{lines_of, words_of}
use Rattle.udp_edge.specs.declared.listed.Listed.{Listed}
use Rattle.udp_edge.specs.Peers.{line_step, peers_in}
use Rattle.udp_edge.specs.Known.{Knows}
use Rattle.udp_edge.proofs.Listing.{bad_line, next_line}
use Rattle.udp_edge.proofs.peers.read_peers.Goals as goal

pub returns-in-Some-2 : goal.returns-in-Some-2
returns-in-Some-2 c =
    let so = c.loop-text.invariant.same in
    let fault : line_step so.0 (words_of c.in-Some.text.now) ≡ Err c.in-Some-2.kind = rw c.in-Some-2.is at (c.in_ok-kind.ensures so.0 so.1) in
    bad_line (lines_of c.loop-text.rest.now) (lines_of c.in-Some.after.now) c.in-Some.text.now c.loop-text.line so.0 (peers_in c.args.bytes.now)
    c.in-Some-2.kind c.in-Some.ensures.lines so.2 fault

pub loop-text-preserved : goal.loop-text-preserved
loop-text-preserved c =
    let so = c.loop-text.invariant.same in
    let next : (next : List Listed) × (line_step so.0 (words_of c.in-Some.text.now) ≡ Ok next) × Knows c.step.new.self next =
    rw c.in_default-2.is at (c.in_ok-kind.ensures so.0 so.1) in
    record {
      same = (
        next.0,
        next.2,
        next_line (lines_of c.loop-text.rest.now) (lines_of c.in-Some.after.now) c.in-Some.text.now c.loop-text.line so.0 next.0 (peers_in c.args.bytes.now)
            c.in-Some.ensures.lines so.2 next.1,
      );
      short = omega (arith, c.loop-text.invariant.short, c.in-Some.ensures.shorter);
    }
