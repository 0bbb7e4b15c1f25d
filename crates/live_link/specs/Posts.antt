-- What was posted.
use Rattle.std.specs.Prelude.{◌≡◌, ◌≤◌, ℕ, ◌+◌, ◌%◌, ◌^◌, Bool, not, List, ◌++◌, length, filter, Option, IfSome, Some}
use Rattle.udp_edge.specs.declared.peer.Peer.{Peer}
use Rattle.udp_edge.specs.Traffic.{Traffic}
use Rattle.live_spec.specs.Letters.{Letter, tries}

-- the same peer at the port above, where it takes reports (RFC 3550, section 11)
abbrev pub above : Peer → Peer
above peer = record { addr = peer.addr; port = (peer.port + 1) % 2 ^ 16 }

-- letters were tried, of which these went and those didn't; nothing else is told otherwise
abbrev pub Tries : Option Traffic → Option Traffic → List Letter → List Bool → Type 0
Tries old new letters went = IfSome old (λ told. new ≡ Some (record told { tried = told.tried ++ tries letters went }))

-- each of these letters was tried, in order, and those that didn't go were counted
pub record Posts (old new : Option Traffic) (unsent now : ℕ) (letters : List Letter) : Type 0 where
  pub went : List Bool
  pub each : length went ≡ length letters
  pub counted : now ≡ unsent + length (filter not went)
  pub tried : Tries old new letters went

-- a front of these letters was tried, in order
pub record PostsFront (old new : Option Traffic) (letters : List Letter) : Type 0 where
  pub went : List Bool
  pub front : length went ≤ length letters
  pub tried : Tries old new letters went
