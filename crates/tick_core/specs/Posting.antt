-- The outbox, and the room for the packets of the open ticks.
use Rattle.std.specs.Prelude.{◌≡◌, ℕ, ◌+◌, ◌≤◌, ◌<◌, ◌^◌, List, [], ◌∷◌, ◌++◌, length, nat_lt, if◌then◌else◌, vec_len, vec_capacity}
use Rattle.std.specs.Global.{Vec}
use Rattle.std.specs.List.{AllZip, AllByRecursion}
use Rattle.g726_bits.specs.State.{CodecState}
use Rattle.triple_table.specs.Rows.{Row}
use Rattle.conference_spec.specs.declared.Packet.{Packet}
use Rattle.conference_spec.specs.Codec.{g726}
use Rattle.conference_spec.specs.Feed.{Feed, closes, collects}
use Rattle.book_lists.specs.declared.seats.Seat.{Seat}
use Rattle.book_lists.specs.declared.mails.Mail.{Mail}
use Rattle.book_lists.specs.Mailing.{Mails, IsResultOf, turned, walked}

-- how many mails were there by tick k: no other one sends a packet then
abbrev pub early : ℕ → List Mail → ℕ
early k [] = 0
early k (m ∷ ms) = (if nat_lt k m.from then 0 else 1) + early k ms

-- a packet carries at most four ticks
abbrev pub FewTicks : List Mail → Type 0
FewTicks ms = AllByRecursion (λ m. m.spec.ticks ≤ 4) ms

-- an empty list with room for a packet of each mail that was there
pub record IsRoomFor (k : ℕ) (ms : List Mail) (r : Vec Packet) : Type 0 where
  pub none : r.items ≡ []
  pub none_len : vec_len r ≡ 0
  pub room : early k ms ≤ vec_capacity r

-- one for each of the ticks before tick k that are open, the newest first
abbrev pub HasRooms : ℕ → List Mail → List (Vec Packet) → Type 0
HasRooms k ms [] = Unit {0}
HasRooms k ms (r ∷ rs) = (j : ℕ) × (k ≡ j + 1) × IsRoomFor j ms r × HasRooms j ms rs

-- the outbox and the rooms are those of a feed
pub record Posts (rooms : List (Vec Packet)) (ms : List Mail) (h : Feed) : Type 0 where
  pub mails : Mails g726 (collects h) h ms
  pub few : FewTicks ms
  pub rooms_are : HasRooms (closes h) ms rooms
  pub as_many : length rooms + collects h ≡ closes h

-- one more payload can be taken
pub record IsReady (m : Mail) : Type 0 where
  pub short : length m.pending < 4
  pub sent : m.sent < 2 ^ 62
  pub ticks : m.spec.ticks ≤ 4

-- what a mail's turn leaves: the mail, the seats of the later ones, and the packets
abbrev pub Turns : ℕ → List Row → List Seat → Mail → List Packet → Mail → List Seat → List Packet → Type 0
Turns k rows ss m ps m' ss' ps' =
    (rs : List (CodecState × List ℕ)) → AllZip (λ s r. IsResultOf g726 rows s.run r) ss rs →
    (m' ≡ (turned k m rs).mail) × (ps' ≡ ps ++ (turned k m rs).packets) × AllZip (λ s r. IsResultOf g726 rows s.run r) ss' (turned k m rs).results

-- what the turns of all leave
abbrev pub Walks : ℕ → List Row → List Seat → List Mail → List Packet → List Mail → List Packet → Type 0
Walks k rows ss ms ps ms' ps' =
    (rs : List (CodecState × List ℕ)) → AllZip (λ s r. IsResultOf g726 rows s.run r) ss rs → (ms' ≡ (walked k ms rs).mails) × (ps' ≡ ps ++ (walked k ms rs).packets)
