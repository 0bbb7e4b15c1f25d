-- What the tallies stand for.
use Rattle.std.specs.Prelude.{◌≡◌, ℕ, ◌%◌, ◌^◌, nat_eq, nat_le, List, [], ◌∷◌, length, map, filter, Option, Some, None}
use Rattle.std.specs.HashMap as map_of
use Rattle.conference_spec.specs.declared.Packet.{Packet}
use Rattle.conference_spec.specs.Coding.{Coder}
use Rattle.conference_spec.specs.Feed.{Feed, Guest, guests, closes, until}
use Rattle.session_spec.specs.Laws.{packets_to}
use Rattle.live_spec.specs.Reports.{payload_len}
use Rattle.live_tally.specs.declared.account.Account.{Account}
use Rattle.live_tally.specs.declared.account.Total.{Total}
use Rattle.live_tally.specs.declared.tallies.Tallies.{Tallies}

abbrev pub account_of : Guest → Account
account_of g = record { spec = g.listener.spec; from = g.listener.from; left = g.left }

-- those who have had no last report: they are present, or left after the last tick that was closed
abbrev pub open_accounts : Coder → Feed → List Account
open_accounts coder h = map account_of (filter (λ g. nat_le (closes h) (until h g)) (guests coder h))

-- packets, and the octets of their payloads; nothing without a packet
abbrev pub total_of : List Packet → Option Total
total_of [] = None
total_of (p ∷ packets) = Some (record { packets = length (p ∷ packets) % 2 ^ 32; octets = payload_len (p ∷ packets) % 2 ^ 32 })

abbrev pub total_at : Tallies → ℕ → Option Total
total_at t q = map_of.get nat_eq t.totals q

-- They stand for a feed and the packets that were sent so far: the accounts of those who have had no last report, in the order of their
-- joins, and what each member was sent.
pub record Keeps (coder : Coder) (t : Tallies) (h : Feed) (packets : List Packet) : Type 0 where
  pub accounts : t.accounts.items ≡ open_accounts coder h
  pub totals : (q : ℕ) → total_at t q ≡ total_of (packets_to q packets)
