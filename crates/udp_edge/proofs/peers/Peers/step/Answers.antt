use Rattle.std.proofs.Common.{rules, ◌≡◌, ◌∷◌, Ok, true, false, sym, ◌∙◌, ap}
use Rattle.std.specs.Prelude.{is_some}
use Rattle.roster_text.specs.Lines.{words_of}
use Rattle.roster_text.specs.Roster.{is_skipped}
use Rattle.udp_edge.specs.Peers.{said_by}
use Rattle.udp_edge.specs.Known.{peer_at}
use Rattle.udp_edge.proofs.Listing.{skipped, learned, knows_one_more}
use Rattle.udp_edge.proofs.peers.Peers.step.Goals as goal

pub returns-then-skips : goal.returns-then-skips
returns-then-skips c = λ listed knows.
    let skips : is_skipped (words_of c.args.line.now) ≡ true = search rules in
    (listed, skipped listed (words_of c.args.line.now) skips, knows)

pub returns : goal.returns
returns c = λ listed knows.
    let l = c.in-Ok.listed in
    let says : is_skipped (words_of c.args.line.now) ≡ false = search rules in
    let is : said_by (words_of c.args.line.now) ≡ Ok l = search rules in
    let new : is_some (peer_at c.args.self.now l.member) ≡ false = search rules in
    let unlisted = ap is_some (sym (knows l.member)) ∙ new in (
      l ∷ listed,
      learned listed (words_of c.args.line.now) l says is unlisted,
      knows_one_more c.args.self.now c.put.new.self listed l knows c.in_ok-put.ensures,
    )
