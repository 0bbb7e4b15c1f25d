-- What a call is asked, by its words and the files that they name.
use Rattle.std.specs.Prelude.{◌≡◌, ℕ, List, [], ◌∷◌, length, nat_le, if◌then◌else◌, Option, Some, None, Result, Ok, Err}
use Rattle.std.specs.Option.{option_or}
use Rattle.std.specs.Result.{result_map_both}
use Rattle.edge_io.specs.File.{File, untold, missing, content}
use Rattle.roster_text.specs.declared.commands.Command.{Command}
use Rattle.roster_text.specs.declared.commands.Command.TheVariants.{Join, Leave}
use Rattle.roster_text.specs.declared.commands.Timed.{Timed}
use Rattle.roster_text.specs.Roster.{Told, roster, ticks_of}
use Rattle.roster_text.specs.Roster as rosters
use Rattle.udp_edge.specs.declared.peer.Peer.{Peer}
use Rattle.udp_edge.specs.Peers.{peer_of, peers_in}
use Rattle.udp_edge.specs.Peers as peers
use Rattle.live_serve.specs.CommandLine.{Form}
use Rattle.live_serve.specs.declared.status.ServeStatus.{ServeStatus}
use Rattle.live_serve.specs.declared.status.ServeStatus.TheVariants.{Usage, RosterFault, RosterLong, PeersLong, PeerFault, PeerMissing, ReadFault}

-- a session: the port, the roster's commands, how many ticks it has, and the peer of each member that has one
pub record Session : Type 0 where
  pub port : ℕ
  pub plan : List Timed
  pub ticks : ℕ
  pub peers : ℕ → Option Peer

-- An end before anything is opened, or a session; nothing is known where a file isn't told that has to be.
pub data Asked : Type 0 where
  Ends : ServeStatus → Asked
  Unknown : Asked
  Asks : Session → Asked

-- goes on with a file's content, where it has a lawful length
abbrev pub with_file : File → ServeStatus → (List ℕ → Asked) → Asked
with_file untold long f = Unknown
with_file missing long f = Ends ReadFault
with_file (content held) long f = if nat_le (length held) 1048576 then f held else Ends long

-- goes on with a roster, or ends at its first bad line
abbrev pub with_roster : Result Told rosters.Fault → (Told → Asked) → Asked
with_roster (Err fault) f = Ends (RosterFault fault.line fault.kind)
with_roster (Ok told) f = f told

-- the peers that a text lists, or its first bad line
abbrev pub peers_of : List ℕ → Result (ℕ → Option Peer) peers.Fault
peers_of text = result_map_both peer_of (λ fault. fault) (peers_in text)

-- goes on with the peers, or ends at the first bad line
abbrev pub with_peers : Result (ℕ → Option Peer) peers.Fault → ((ℕ → Option Peer) → Asked) → Asked
with_peers (Err fault) f = Ends (PeerFault fault.line fault.kind)
with_peers (Ok known) f = f known

-- the member, where it has no peer
abbrev pub if_unknown : ℕ → Option Peer → Option ℕ
if_unknown member (Some peer) = None
if_unknown member None = Some member

-- the member that comes to listen by this command, where it has no peer
abbrev pub missing_at : (ℕ → Option Peer) → Command → Option ℕ
missing_at peer_of (Join member talk None) = None
missing_at peer_of (Join member talk (Some listen)) = if_unknown member (peer_of member)
missing_at peer_of (Leave member) = None

-- the member of the first command by which somebody comes to listen who has no peer
abbrev pub first_missing : (ℕ → Option Peer) → List Timed → Option ℕ
first_missing peer_of [] = None
first_missing peer_of (c ∷ cs) = option_or (missing_at peer_of c.command) (first_missing peer_of cs)

-- ends at a member without a peer
abbrev pub unless_missing : Option ℕ → Asked → Asked
unless_missing (Some member) next = Ends (PeerMissing member)
unless_missing None next = next

-- the session of a port, a roster and these peers
abbrev pub session_of : ℕ → Told → (ℕ → Option Peer) → Session
session_of port told known = record { port = port; plan = told.timed; ticks = ticks_of told.end; peers = known }

-- What a port, a roster and a text of peers ask for: the roster decides first, then the peers, then whether a listener has none.
abbrev pub asked_by : ℕ → File → File → Asked
asked_by port rosters listings =
    with_file rosters RosterLong (λ text. with_roster (roster text) (λ told.
    with_file listings PeersLong (λ listing. with_peers (peers_of listing) (λ known.
    unless_missing (first_missing known told.timed) (Asks (session_of port told known))))))

-- what is asked: the words decide first, then the files that they name
abbrev pub asked : Option Form → (List ℕ → File) → Asked
asked None file = Ends Usage
asked (Some form) file = asked_by form.port (file form.roster) (file form.peers)

-- where an end is asked, P holds of its status
abbrev pub OnEnd : Asked → (ServeStatus → Type 0) → Type 0
OnEnd (Ends status) P = P status
OnEnd Unknown P = Unit {0}
OnEnd (Asks session) P = Unit {0}

-- where a session is asked, P holds of it
abbrev pub OnSession : Asked → (Session → Type 0) → Type 0
OnSession (Ends status) P = Unit {0}
OnSession Unknown P = Unit {0}
OnSession (Asks session) P = P session

-- a file can be this one: it is just that, where it is told
abbrev pub CanBe : File → File → Type 0
CanBe untold file = Unit {0}
CanBe missing file = file ≡ missing
CanBe (content held) file = file ≡ content held

-- this end is asked, by such files as those that the words name can be
abbrev pub MayAsk : Option Form → (List ℕ → File) → ServeStatus → Type 0
MayAsk None file end = end ≡ Usage
MayAsk (Some form) file end =
    (rosters listings : File) × CanBe (file form.roster) rosters × CanBe (file form.peers) listings × (asked_by form.port rosters listings ≡ Ends end)
