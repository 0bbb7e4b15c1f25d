-- Who talks when, and the heads of the packets.
use Rattle.std.specs.Prelude.{ℕ, ◌-◌, ◌*◌, ◌%◌, Bool, not, ◌==◌, ◌||◌, if◌then◌else◌, List, map, filter}
use Rattle.std.specs.List.{range_with_len, flat_map}
use Rattle.rtp_head.specs.declared.Head.{Head}
use Rattle.demo_gen.specs.declared.turns.Turn.{Turn}
use Rattle.demo_gen.specs.Members.{member_count, sends_mu, talk_ssrc, talks}

abbrev pub turn : ℕ → ℕ → Turn
turn tick m = record { tick = tick; member = m }

-- the turns of a tick of the first n members
unfoldable pub turns_in : ℕ → ℕ → List Turn
turns_in n tick = filter (λ t. talks t.tick t.member) (map (turn tick) (range_with_len 1 n))

-- the turns of the first n ticks: tick by tick, and in each by rising member
unfoldable pub turns_before : ℕ → List Turn
turns_before n = flat_map (turns_in member_count) (range_with_len 0 n)

abbrev pub tick_count : ℕ
tick_count = 1500

-- the member didn't talk in the tick before, if there was one
abbrev pub begins : Turn → Bool
begins t = t.tick == 0 || not (talks (t.tick - 1) t.member)

-- the marker is set where the member begins to talk; 0 is PCMU and 8 is PCMA (RFC 3551, table 4)
abbrev pub head : Turn → Head
head t = record {
  marker = begins t;
  pt = if sends_mu t.member then 0 else 8;
  seq = t.tick;
  stamp = 160 * t.tick;
  ssrc = talk_ssrc t.member;
}

-- once in a second a packet comes twice
abbrev pub copies : Turn → ℕ
copies t = if t.tick % 50 == 7 then 2 else 1
