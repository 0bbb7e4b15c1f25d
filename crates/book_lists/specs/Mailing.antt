-- The outbox: what each listener is owed of packets, as far as ticks were collected.
use Rattle.std.specs.Prelude.{ℕ, ◌≡◌, ◌+◌, ◌-◌, ◌*◌, ◌<◌, ◌==◌, ◌&&◌, ◌||◌, if◌then◌else◌, nat_lt, nat_le, Bool, true, List, [], ◌∷◌, ◌++◌, length, map, filter}
use Rattle.std.specs.Prelude.{reverse, take, drop, Option, Some, None, is_none, slice_get}
use Rattle.std.specs.List.{AllZip}
use Rattle.g726_bits.specs.State.{CodecState}
use Rattle.triple_table.specs.Rows.{Row}
use Rattle.conference_spec.specs.declared.JoinSpec.{JoinSpec}
use Rattle.conference_spec.specs.declared.Packet.{Packet}
use Rattle.conference_spec.specs.declared.Stay.{Stay}
use Rattle.conference_spec.specs.Coding.{Coder, after_all}
use Rattle.conference_spec.specs.Feed.{Feed, Guest, guests, until}
use Rattle.conference_spec.specs.Packets.{payloads_a_packet, own_payloads, packet_with}
use Rattle.book_lists.specs.declared.mails.Mail.{Mail}

-- ---- what a mail stands for ----

-- the mail is this guest's, where the ticks below k are collected: its packets so far, its payloads since, and its state
pub record IsMail (coder : Coder) (k : ℕ) (m : Mail) (g : Guest) : Type 0 where
  pub spec : m.spec ≡ g.listener.spec
  pub from : m.from ≡ g.listener.from
  pub left : m.left ≡ g.left
  pub short : length m.pending < payloads_a_packet m.spec
  pub count : payloads_a_packet m.spec * m.sent + length m.pending ≡ k - m.from
  pub pending : m.pending ≡ drop (payloads_a_packet m.spec * m.sent) (take (k - m.from) (own_payloads coder g.listener))
  pub state : m.state ≡ after_all coder g.listener.spec.rate g.listener.first (take (k - m.from) (reverse g.listener.heard))

-- the outbox, where the ticks below k are collected: those who are present, and those whose leave isn't collected yet, in
-- the order of their joins
abbrev pub Mails : Coder → ℕ → Feed → List Mail → Type 0
Mails coder k h ms = AllZip (IsMail coder k) ms (filter (λ g. nat_le k (until h g)) (guests coder h))

-- ---- joins and leaves ----

-- the mail of a listener that comes after k closes, in this state
abbrev pub first_mail : CodecState → JoinSpec → ℕ → Mail
first_mail first spec k = record { spec = spec; from = k; left = None; sent = 0; pending = []; state = first }

-- this member leaves after k closes
abbrev pub mail_goes : ℕ → ℕ → Mail → Mail
mail_goes member k m = if is_none m.left && (m.spec.member == member) then record m { left = Some k } else m

-- ---- what a collect hands out ----

-- a result: what the seat's run leaves, and the payload that it made
abbrev pub IsResultOf : Coder → List Row → Option ℕ → CodecState × List ℕ → Type 0
IsResultOf coder rows None r = ⊥
IsResultOf coder rows (Some at) r =
    (row : Row) × (slice_get rows at ≡ Some row) × (r ≡ coder.encoded row.triple.rate row.triple.state row.triple.mix)

-- one payload more fills a packet
abbrev pub fills : Mail → Bool
fills m = length m.pending + 1 == payloads_a_packet m.spec

-- after one result more
abbrev pub with_result : Mail → CodecState × List ℕ → Mail
with_result m r =
    if fills m
    then record m { sent = m.sent + 1; pending = []; state = r.0 }
    else record m { pending = m.pending ++ r.1 ∷ []; state = r.0 }

-- what goes out with it
abbrev pub goes_out : Mail → CodecState × List ℕ → List Packet
goes_out m r = if fills m then packet_with m.spec m.sent (m.pending ++ r.1 ∷ []) ∷ [] else []

-- what is left at a leave or at the end: a shorter packet
abbrev pub last_of : Mail → List Packet
last_of m = if length m.pending == 0 then [] else packet_with m.spec m.sent m.pending ∷ []

-- it hasn't left, or left when more than k ticks were closed
abbrev pub leaves_after : ℕ → Option ℕ → Bool
leaves_after k None = true
leaves_after k (Some left) = nat_lt k left

-- what a tick makes of a mail: the mail, what goes out, and the results that are left for those behind it
pub record Turned : Type 0 where
  pub mail : Mail
  pub packets : List Packet
  pub results : List (CodecState × List ℕ)

-- it was there at the tick: it takes the next result
abbrev pub turned_there : Mail → List (CodecState × List ℕ) → Turned
turned_there m [] = record { mail = m; packets = []; results = [] }
turned_there m (r ∷ rs) = record { mail = with_result m r; packets = goes_out m r; results = rs }

-- at tick k: who came later waits, who was there takes a result, and who left before is sent what is left
abbrev pub turned : ℕ → Mail → List (CodecState × List ℕ) → Turned
turned k m rs =
    if nat_lt k m.from
    then record { mail = m; packets = []; results = rs }
    else if leaves_after k m.left then turned_there m rs else record { mail = m; packets = last_of m; results = rs }

-- the same of all mails: as many mails, and the packets of the tick
pub record Walked : Type 0 where
  pub mails : List Mail
  pub packets : List Packet

-- what comes of the first one, before what comes of the others
abbrev pub put_first : Turned → Walked → Walked
put_first t w = record { mails = t.mail ∷ w.mails; packets = t.packets ++ w.packets }

abbrev pub walked : ℕ → List Mail → List (CodecState × List ℕ) → Walked
walked k [] rs = record { mails = []; packets = [] }
walked k (m ∷ ms) rs = let t = turned k m rs in put_first t (walked k ms t.results)

-- those who get something at a later tick
abbrev pub still_open : ℕ → List Mail → List Mail
still_open k ms = filter (λ m. leaves_after k m.left) ms

-- ---- what a cut keeps ----

-- what is kept of a mail where k ticks are closed, and all of them are collected
abbrev pub stay_of_mail : ℕ → Mail → Stay
stay_of_mail k m = record {
  spec = m.spec;
  from = m.from;
  is_here = is_none m.left;
  ticks = k - m.from;
  state = m.state;
  pending = m.pending;
}

-- its listener is present, or is owed a packet
abbrev pub is_kept : Mail → Bool
is_kept m = is_none m.left || nat_lt 0 (length m.pending)

abbrev pub stays_kept : ℕ → List Mail → List Stay
stays_kept k ms = map (stay_of_mail k) (filter is_kept ms)
