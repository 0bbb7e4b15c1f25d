-- What a link tells of the datagrams that come and of those that it was to send. `None` is a link that tells nothing: a real socket.
use Rattle.std.specs.Prelude.{◌≡◌, ℕ, true, false, min, List, [], ◌∷◌, ◌++◌, length, take, drop, Option, None, Some, Result, Ok, Err}
use Rattle.edge_io.specs.declared.faults.Failed.{Failed}
use Rattle.edge_io.specs.declared.faults.PutFault.{PutFault}
use Rattle.edge_io.specs.declared.faults.PutFault.TheVariants as put
use Rattle.udp_edge.specs.declared.peer.Peer.{Peer}
use Rattle.udp_edge.specs.declared.peer.Got.{Got}
use Rattle.udp_edge.specs.declared.turns.Turn.{Turn}
use Rattle.udp_edge.specs.declared.turns.Turn.TheVariants as turns
use Rattle.udp_edge.specs.declared.turns.Tried.{Tried}

-- what the calls of `recv` are still to find, the datagrams that were to be sent so far, and the port that the last `open` was given
pub record Traffic : Type 0 where
  pub coming : List Turn
  pub tried : List Tried
  pub port : Option ℕ

-- the port was given, and nothing else is told otherwise
abbrev pub Opens : Option Traffic → Option Traffic → ℕ → Type 0
Opens None new port = new ≡ None
Opens (Some told) new port = new ≡ Some (record told { port = Some port })

-- what the next call is to find: nothing, where no more turns come
abbrev pub next_turn : List Turn → Turn
next_turn [] = turns.Nothing
next_turn (turn ∷ coming) = turn

-- this is the answer at a turn, with room for so many octets: a datagram's first octets and its peer, nothing, or a failure
abbrev pub Finds : Turn → Result (Option Got) Failed → ℕ → List ℕ → Type 0
Finds (turns.Datagram octets from) (Ok (Some got)) room buf =
    (got.from ≡ from) × (got.len ≡ min (length octets) room) × (take got.len buf ≡ take got.len octets)
Finds turns.Nothing (Ok None) room buf = Unit {0}
Finds turns.Fault (Err failed) room buf = Unit {0}
Finds turn answer room buf = ⊥

-- the next turn was found, and the others are still to come
abbrev pub Receives : Option Traffic → Option Traffic → Result (Option Got) Failed → ℕ → List ℕ → Type 0
Receives None new answer room buf = new ≡ None
Receives (Some told) new answer room buf =
    Finds (next_turn told.coming) answer room buf × (new ≡ Some (record told { coming = drop 1 told.coming }))

module _ {T : Type 0} where
  -- the datagrams that were to be sent, after one more call: none was tried where there was no memory
  abbrev pub tried_after : List Tried → Peer → List ℕ → Result T PutFault → List Tried
  tried_after tried to octets (Ok done) = tried ++ record { to = to; octets = octets; went = true } ∷ []
  tried_after tried to octets (Err put.Failed) = tried ++ record { to = to; octets = octets; went = false } ∷ []
  tried_after tried to octets (Err put.Memory) = tried

  -- the datagram was tried, and nothing else is told otherwise
  abbrev pub Sends : Option Traffic → Option Traffic → Peer → List ℕ → Result T PutFault → Type 0
  Sends None new to octets answer = new ≡ None
  Sends (Some told) new to octets answer = new ≡ Some (record told { tried = tried_after told.tried to octets answer })
