-- What a text of peers says: an address and a port for each member that it names, or its first bad line.
use Rattle.std.specs.Prelude.{ℕ, ◌+◌, ◌*◌, ◌==◌, is_some, nat_le, if◌then◌else◌, List, [], ◌∷◌, length, Option, None, Some, Result, Ok, Err}
use Rattle.roster_text.specs.Lines.{lines_of, words_of, fields_of, number_of}
use Rattle.roster_text.specs.Roster.{is_skipped}
use Rattle.udp_edge.specs.declared.peer.Peer.{Peer}
use Rattle.udp_edge.specs.declared.listed.Listed.{Listed}
use Rattle.udp_edge.specs.declared.peers.PeerKind.{PeerKind}
use Rattle.udp_edge.specs.declared.peers.PeerKind.TheVariants as kinds

-- the number, up to 255, that 1 to 3 digits spell
abbrev pub octet_of : List ℕ → Option ℕ
octet_of w = if nat_le (length w) 3 then number_of 255 w else None

-- four octets as one number, the first the most significant
abbrev pub joined : Option ℕ → Option ℕ → Option ℕ → Option ℕ → Option ℕ
joined (Some a) (Some b) (Some c) (Some d) = Some (((a * 256 + b) * 256 + c) * 256 + d)
joined a b c d = None

-- the address of these fields
abbrev pub address_in : List (List ℕ) → Option ℕ
address_in (a ∷ b ∷ c ∷ d ∷ []) = joined (octet_of a) (octet_of b) (octet_of c) (octet_of d)
address_in fields = None

-- the address that a word spells: four fields, parted by dots
abbrev pub address_of : List ℕ → Option ℕ
address_of w = address_in (fields_of 46 w)

-- a number that isn't 0
abbrev pub above_zero : Option ℕ → Option ℕ
above_zero None = None
above_zero (Some n) = if n == 0 then None else Some n

-- the port, from 1 to 65534, that a word spells; the port above it is for reports
abbrev pub port_of : List ℕ → Option ℕ
port_of w = above_zero (number_of 65534 w)

-- goes on with what was found, or is the fault
abbrev pub or_fault : {X Y : Type 0} → PeerKind → Option X → (X → Result Y PeerKind) → Result Y PeerKind
or_fault kind None f = Err kind
or_fault kind (Some x) f = f x

-- goes on with what is right, or stays the fault
abbrev pub if_right : {X Y : Type 0} → Result X PeerKind → (X → Result Y PeerKind) → Result Y PeerKind
if_right (Err kind) f = Err kind
if_right (Ok x) f = f x

-- what a line of these words says by itself: a member, its address and its port
abbrev pub said_by : List (List ℕ) → Result Listed PeerKind
said_by (member ∷ address ∷ port ∷ []) =
    or_fault kinds.Number (number_of 4294967295 member) (λ m.
    or_fault kinds.Number (port_of port) (λ p.
    or_fault kinds.Address (address_of address) (λ a.
    Ok (record { member = m; peer = record { addr = a; port = p } }))))
said_by words = Err kinds.Words

-- the peer of a member, if a line names it
abbrev pub peer_of : List Listed → ℕ → Option Peer
peer_of [] q = None
peer_of (l ∷ listed) q = if l.member == q then Some l.peer else peer_of listed q

-- one more line's peer, unless the member stands before
abbrev pub with_listed : List Listed → Listed → Result (List Listed) PeerKind
with_listed listed l = if is_some (peer_of listed l.member) then Err kinds.Used else Ok (l ∷ listed)

-- what is listed, from the newest, after one more line
abbrev pub line_step : List Listed → List (List ℕ) → Result (List Listed) PeerKind
line_step listed words = if is_skipped words then Ok listed else if_right (said_by words) (with_listed listed)

-- a bad line, counted from 1
pub record Fault : Type 0 where
  pub line : ℕ
  pub kind : PeerKind

-- goes on after a line, or ends with that line's fault
abbrev pub goes : (List Listed → Result (List Listed) Fault) → ℕ → Result (List Listed) PeerKind → Result (List Listed) Fault
goes f line (Err kind) = Err (record { line = line; kind = kind })
goes f line (Ok listed) = f listed

-- what these lines make of what is listed before, where the first has this number
abbrev pub lines_make : List (List ℕ) → ℕ → List Listed → Result (List Listed) Fault
lines_make [] line listed = Ok listed
lines_make (l ∷ ls) line listed = goes (λ next. lines_make ls (line + 1) next) line (line_step listed (words_of l))

-- the peers that a text lists, from the newest, or its first bad line
abbrev pub peers_in : List ℕ → Result (List Listed) Fault
peers_in bytes = lines_make (lines_of bytes) 1 []
