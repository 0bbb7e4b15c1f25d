-- What a line makes of what is listed before it.
use Rattle.std.proofs.Common.{◌≡◌, ◌+◌, ℕ, true, false, List, ◌∷◌, Option, Some, Result, Ok, Err, refl, sym, ap, ◌∙◌}
use Rattle.std.specs.Prelude.{is_some, ◌==◌, if◌then◌else◌}
use Rattle.roster_text.specs.Lines.{words_of}
use Rattle.roster_text.specs.Roster.{is_skipped}
use Rattle.udp_edge.specs.declared.peer.Peer.{Peer}
use Rattle.udp_edge.specs.declared.listed.Listed.{Listed}
use Rattle.udp_edge.specs.declared.peers.Peers.{Peers}
use Rattle.udp_edge.specs.declared.peers.PeerKind.{PeerKind}
use Rattle.udp_edge.specs.Peers.{Fault, said_by, peer_of, line_step, lines_make}
use Rattle.udp_edge.specs.Known.{Knows, peer_at}

pub skipped : (listed : List Listed) (words : List (List ℕ)) → is_skipped words ≡ true → line_step listed words ≡ Ok listed
skipped listed words skips = rw skips refl

pub learned : (listed : List Listed) (words : List (List ℕ)) (l : Listed) → is_skipped words ≡ false → said_by words ≡ Ok l →
    is_some (peer_of listed l.member) ≡ false → line_step listed words ≡ Ok (l ∷ listed)
learned listed words l says is new = rw (says, is, new) refl

-- one more member's peer is known
pub knows_one_more : (old new : Peers) (listed : List Listed) (l : Listed) → Knows old listed →
    ((q : ℕ) → peer_at new q ≡ (if l.member == q then Some l.peer else peer_at old q)) → Knows new (l ∷ listed)
knows_one_more old new listed l knows put = λ q.
    put q ∙ ap (λ (o : Option Peer). if l.member == q then Some l.peer else o) (knows q)

-- a line with a fault ends the text, and another one goes before the others
pub bad_line : (lines ls : List (List ℕ)) (l : List ℕ) (line : ℕ) (listed : List Listed) (meant : Result (List Listed) Fault) (kind : PeerKind) →
    lines ≡ l ∷ ls → lines_make lines line listed ≡ meant → line_step listed (words_of l) ≡ Err kind →
    meant ≡ Err (record { line = line; kind = kind })
bad_line lines ls l line listed meant kind are same fault = sym same ∙ rw (are, fault) refl

pub next_line : (lines ls : List (List ℕ)) (l : List ℕ) (line : ℕ) (listed next : List Listed) (meant : Result (List Listed) Fault) →
    lines ≡ l ∷ ls → lines_make lines line listed ≡ meant → line_step listed (words_of l) ≡ Ok next →
    lines_make ls (line + 1) next ≡ meant
next_line lines ls l line listed next meant are same step = sym (rw (are, step) refl) ∙ same
