-- Small sessions and lists of machine steps, for the checker to compute, with a coder that is quick to compute.
use Rattle.std.specs.Prelude.{false, ◌&&◌, ℕ, pos, List, [], ◌∷◌, length, map, ◌+◌, slice_index_or, zero, suc}
use Rattle.std.specs.Ordering.{int_eq}
use Rattle.g726_bits.specs.declared.Rate.{Rate}
use Rattle.g726_bits.specs.declared.Rate.TheVariants.{R24, R32}
use Rattle.g726_bits.specs.Floats.{ShortFloat}
use Rattle.g726_bits.specs.State.{CodecState, start, predictor_start}
use Rattle.g726_bits.specs.contracts.RatePartialEq.TheImpl as rate_eq
use Rattle.talk_mix.specs.Mix.{mix}
use Rattle.conference_spec.specs.declared.Entry.{Entry}
use Rattle.conference_spec.specs.declared.Entry.TheVariants.{Join, Leave, Close, Collect, End}
use Rattle.conference_spec.specs.declared.Packet.{Packet}
use Rattle.conference_spec.specs.declared.Task.{Task}
use Rattle.conference_spec.specs.Coding.{Coder}
use Rattle.conference_spec.specs.Feed.{Feed}
use Rattle.conference_spec.specs.Tasks.{triples}
use Rattle.conference_spec.specs.Packets.{sent}
use Rattle.conference_spec.specs.Base.{base}
use Rattle.conference_spec.specs.Machine.{Event, Enters, Claim, Publish}

-- a state that one frame leads to, and each frame keeps, as silence does with the codec
abbrev pub settled : CodecState → CodecState
settled s = record s { scale = record s.scale { dms = pos 1 } }

-- a coder that tells states by that, and mixes by their first sample
abbrev pub small : Coder
small = record {
  start = start;
  encoded = λ rate s frame. (settled s, 0 ∷ []);
  is_same = λ a b.
      (rate_eq.ghosts).eq a.rate b.rate
      && (int_eq a.state.scale.dms b.state.scale.dms && int_eq (slice_index_or a.mix 0 (pos 0)) (slice_index_or b.mix 0 (pos 0)));
}

-- a join that asks for so many ticks in each packet
abbrev pub bundles : ℕ → ℕ → Rate → Entry
bundles ticks member rate =
    Join (record { member = member; rate = rate; pt = 97; ssrc = 10 + member; first_seq = 0; first_stamp = 0; ticks = ticks })

abbrev pub joins : ℕ → Rate → Entry
joins member rate = bundles 1 member rate

abbrev pub quiet : Entry
quiet = Close []

-- how many runs, and how many packets, each of these ticks has
abbrev pub runs_of : Coder → List ℕ → Feed → List ℕ
runs_of coder ks h = map (λ k. length (triples coder k h)) ks

abbrev pub runs_at : List ℕ → Feed → List ℕ
runs_at ks h = runs_of small ks h

abbrev pub packets_at : List ℕ → Feed → List ℕ
packets_at ks h = map (λ k. length (sent small k h)) ks

-- the sequence number, the timestamp and the number of payloads of each packet of these ticks
abbrev pub shape : Packet → ℕ × ℕ × ℕ
shape p = (p.head.seq, p.head.stamp, length p.payload)

abbrev pub shapes_at : List ℕ → Feed → List (List (ℕ × ℕ × ℕ))
shapes_at ks h = map (λ k. map shape (sent small k h)) ks

-- what a cut keeps: whose, how many ticks it heard, and how many payloads it is owed
abbrev pub stays_of : Feed → List (ℕ × ℕ × ℕ)
stays_of h = map (λ s. (s.spec.member, s.ticks, length s.pending)) (base small h).stays

-- a listener with so many ticks to a packet, and a tick that is collected
abbrev pub once_heard : ℕ → Feed
once_heard ticks = Collect ∷ quiet ∷ bundles ticks 1 R24 ∷ []

-- a second listener comes after the first tick of three
abbrev pub late_joiner : Rate → Feed
late_joiner rate = End ∷ quiet ∷ quiet ∷ joins 2 rate ∷ quiet ∷ joins 1 R24 ∷ []

-- five listeners, of whom the first talks in the last tick of four
abbrev pub one_talker : Feed
one_talker =
    End ∷ Close ((1, pos 100 ∷ []) ∷ []) ∷ quiet ∷ quiet ∷ quiet
    ∷ joins 5 R32 ∷ joins 4 R32 ∷ joins 3 R32 ∷ joins 2 R32 ∷ joins 1 R32 ∷ []

-- two listeners, one with four ticks to a packet and one with three, of six ticks; the second leaves after five
abbrev pub bundled : Feed
bundled = End ∷ quiet ∷ Leave 2 ∷ quiet ∷ quiet ∷ quiet ∷ quiet ∷ quiet ∷ bundles 3 2 R24 ∷ bundles 4 1 R32 ∷ []

-- three ticks to a packet, and a leave after two, at the session's end
abbrev pub short_stay : Feed
short_stay = Leave 1 ∷ quiet ∷ quiet ∷ bundles 3 1 R24 ∷ []

-- what is to be run for a member at a tick without voices
abbrev pub silence : ℕ → ℕ → Rate → CodecState → Task
silence k member rate s = record { tick = k; triple = record { rate = rate; state = s; mix = mix member [] } }

-- a run that is out
abbrev pub one_out : List Event
one_out = Claim ∷ Enters quiet ∷ Enters (joins 1 R24) ∷ []

-- its listener leaves, and another tick is closed, before it is published
abbrev pub left_while_out : List Event
left_while_out = Publish 1 (silence 0 1 R24 start) ∷ Enters quiet ∷ Enters (Leave 1) ∷ one_out

-- a second listener comes after the first tick, and three more are closed; its run is held while the first one's go on
abbrev pub held_back : List Event
held_back =
    Publish 5 (silence 3 1 R24 (settled start)) ∷ Claim ∷ Publish 4 (silence 2 1 R24 (settled start)) ∷ Claim
    ∷ Publish 2 (silence 1 1 R24 (settled start)) ∷ Claim ∷ Claim ∷ Enters quiet ∷ Enters quiet ∷ Enters quiet
    ∷ Enters (joins 2 R24) ∷ Publish 1 (silence 0 1 R24 start) ∷ one_out

abbrev pub let_go : List Event
let_go = Publish 3 (silence 1 2 R24 start) ∷ held_back

-- so many ticks are collected
abbrev pub collected : ℕ → List Event → List Event
collected zero es = es
collected (suc n) es = Enters Collect ∷ collected n es

-- so many ticks are closed, and so many listeners come
abbrev pub closed : ℕ → Feed
closed zero = []
closed (suc n) = quiet ∷ closed n

abbrev pub crowd : ℕ → Feed
crowd zero = []
crowd (suc n) = joins n R24 ∷ crowd n

-- the state after one sample of 100 at 32 kbit/s, worked out by hand
unfoldable pub after_one_hundred : CodecState
after_one_hundred =
    let float : ShortFloat = record { neg = false; exp = 5; mant = 44 } in
    let b = pos 128 in
    record {
      predictor = record predictor_start {
        a1 = pos 192;
        a2 = b;
        b1 = b;
        b2 = b;
        b3 = b;
        b4 = b;
        b5 = b;
        b6 = b;
        sr1 = float;
        dq1 = float;
      };
      scale = record { yu = pos 1649; yl = pos 35921; ap = pos 32; dms = pos 112; dml = pos 112 };
    }
