-- How the steps before the link is opened end.
use Rattle.std.specs.Prelude.{◌≡◌, ◌≤◌, ◌⊎◌, ℕ, List, length, Option, Ok, Err}
use Rattle.edge_io.specs.File.{File, content, IsLonger}
use Rattle.roster_text.specs.Roster.{Told, roster}
use Rattle.udp_edge.specs.declared.peers.Peers.{Peers}
use Rattle.udp_edge.specs.Known.{peer_at}
use Rattle.live_serve.specs.CommandLine.{Form}
use Rattle.live_serve.specs.declared.status.ServeStatus.{ServeStatus}
use Rattle.live_serve.specs.declared.status.ServeStatus.TheVariants.{RosterFault, RosterLong, PeersLong, PeerFault, ReadFault, Memory}
use Rattle.live_serve.specs.declared.preparing.Prepared.{Prepared}
use Rattle.live_serve.specs.Asked.{Asked, Ends, Unknown, Asks, Session, asked, session_of, peers_of, CanBe, MayAsk, OnEnd, OnSession}
use Rattle.live_serve.specs.Ends.{MayEnd, IsAskedEnd, IsBeforeOpen}

-- a file wasn't taken: it is longer than this, or a read failed, or there was no memory
abbrev pub TextEnds : File → ℕ → ServeStatus → (rose : Type 0) → ServeStatus → Type 0
TextEnds file at_most long rose status = ((status ≡ long) × IsLonger file at_most) ⊎ ((status ≡ ReadFault) × rose) ⊎ (status ≡ Memory)

-- what was taken of a file: octets that it can have, no more than are read, of which P holds
pub record Taken (file : File) (P : List ℕ → Type 0) : Type 0 where
  pub text : List ℕ
  pub can_be : CanBe file (content text)
  pub short : length text ≤ 1048576
  pub so : P text

-- a roster was read
abbrev pub HasRoster : File → Told → Type 0
HasRoster file told = Taken file (λ text. roster text ≡ Ok told)

-- no roster was read
abbrev pub NoRoster : File → (rose : Type 0) → ServeStatus → Type 0
NoRoster file rose RosterLong = IsLonger file 1048576
NoRoster file rose (RosterFault line kind) = Taken file (λ text. roster text ≡ Err (record { line = line; kind = kind }))
NoRoster file rose ReadFault = rose
NoRoster file rose Memory = Unit {0}
NoRoster file rose status = ⊥

-- peers were read
abbrev pub HasPeers : File → Peers → Type 0
HasPeers file peers = Taken file (λ text. peers_of text ≡ Ok (peer_at peers))

-- no peers were read
abbrev pub NoPeers : File → (rose : Type 0) → ServeStatus → Type 0
NoPeers file rose PeersLong = IsLonger file 1048576
NoPeers file rose (PeerFault line kind) = Taken file (λ text. peers_of text ≡ Err (record { line = line; kind = kind }))
NoPeers file rose ReadFault = rose
NoPeers file rose Memory = Unit {0}
NoPeers file rose status = ⊥

-- this session is asked, as far as is known
abbrev pub MayAskFor : Asked → Session → Type 0
MayAskFor (Ends status) session = ⊥
MayAskFor Unknown session = Unit {0}
MayAskFor (Asks asked) session = asked ≡ session

-- all is there for a session, which is the one that is asked
abbrev pub IsReady : Option Form → (List ℕ → File) → Prepared → Type 0
IsReady form file prepared = MayAskFor (asked form file) (session_of prepared.port prepared.roster (peer_at prepared.peers))

-- there is no session: so the call ends
pub record Stops (form : Option Form) (file : List ℕ → File) (rose : Type 0) (status : ServeStatus) : Type 0 where
  pub on_end : OnEnd (asked form file) (λ end. MayEnd status end)
  pub only : IsAskedEnd status → MayAsk form file status
  pub on_session : OnSession (asked form file) (λ session. (status ≡ ReadFault) ⊎ (status ≡ Memory))
  pub read : status ≡ ReadFault → rose
  pub early : IsBeforeOpen status ⊎ (status ≡ Memory)
