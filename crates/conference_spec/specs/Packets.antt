-- What is sent.
use Rattle.std.specs.Prelude.{if◌then◌else◌, ℕ, List, length, map, filter, take, drop, reverse, ◌+◌, ◌-◌, ◌*◌, ◌%◌, ◌^◌, ◌==◌, nat_le, nat_lt}
use Rattle.std.specs.List.{flat_map, range_with_len}
use Rattle.conference_spec.specs.declared.JoinSpec.{JoinSpec}
use Rattle.conference_spec.specs.declared.Packet.{Packet}
use Rattle.conference_spec.specs.Coding.{Coder, payloads_of}
use Rattle.conference_spec.specs.Feed.{Feed, Listener, guests, closes}

-- how many payloads a full packet carries
abbrev pub payloads_a_packet : JoinSpec → ℕ
payloads_a_packet spec = if spec.ticks == 0 then 1 else spec.ticks

-- the payloads of all that a listener heard, the first one first: an encoder of its own
abbrev pub own_payloads : Coder → Listener → List (List ℕ)
own_payloads coder l = payloads_of coder l.spec.rate l.first (reverse l.heard)

-- a packet, and the tick that it is sent at
pub record Sending : Type 0 where
  pub tick : ℕ
  pub packet : Packet

-- The tick of the i-th packet of n payloads, b to a packet, that begin at tick `from`: that of its last payload where it is
-- full, else the first tick without a payload.
abbrev pub tick_of : ℕ → ℕ → ℕ → ℕ → ℕ
tick_of from b n i = if nat_le (b * i + b) n then from + (b * i + b - 1) else from + n

-- the i-th packet to a listener, with these payloads (RFC 3550, 5.1; RFC 3551, 4.1)
abbrev pub packet_with : JoinSpec → ℕ → List (List ℕ) → Packet
packet_with spec i payloads = record {
  member = spec.member;
  head = record {
    marker = i == 0;
    pt = spec.pt;
    seq = (spec.first_seq + i) % 2 ^ 16;
    stamp = (spec.first_stamp + 160 * payloads_a_packet spec * i) % 2 ^ 32;
    ssrc = spec.ssrc;
  };
  payload = payloads;
}

-- a listener's i-th packet: the next payloads of its own encoder
abbrev pub ith_packet : Coder → Listener → ℕ → Sending
ith_packet coder l i = let b = payloads_a_packet l.spec in
    record {
      tick = tick_of l.from b (length l.heard) i;
      packet = packet_with l.spec i (take b (drop (b * i) (own_payloads coder l)));
    }

-- all its packets: one for each i with b * i below the number of payloads
abbrev pub packets : Coder → Listener → List Sending
packets coder l = map (ith_packet coder l)
    (filter (λ i. nat_lt (payloads_a_packet l.spec * i) (length l.heard)) (range_with_len 0 (length l.heard)))

-- those that are sent at tick k
abbrev pub packets_at : Coder → ℕ → Listener → List Packet
packets_at coder k l = map (λ s. s.packet) (filter (λ s. s.tick == k) (packets coder l))

-- the packets of a tick, in the order of the listeners' joins
abbrev pub sent : Coder → ℕ → Feed → List Packet
sent coder k h = flat_map (λ g. packets_at coder k g.listener) (guests coder h)

-- what no full packet carries, and no tick has sent
abbrev pub rest : Coder → Feed → List Packet
rest coder h = sent coder (closes h) h
