-- The packets of an answer, one by one, each with the tick with which it is sent.
use Rattle.std.specs.Prelude.{ℕ, zero, suc, List, [], ◌++◌, map}
use Rattle.std.specs.List.{flat_map}
use Rattle.rtp_dump.specs.Writing.{output_head}
use Rattle.conference_spec.specs.declared.Packet.{Packet}
use Rattle.conference_spec.specs.Codec.{g726}
use Rattle.conference_spec.specs.Feed.{Feed}
use Rattle.conference_spec.specs.Packets.{Sending, sent, rest}
use Rattle.desk_run.specs.Handing.{packet_text}
use Rattle.desk_run.specs.Whole.{Given, feed_to}

-- packets that are sent with tick k
abbrev pub sent_in : ℕ → List Packet → List Sending
sent_in k packets = map (λ p. record { tick = k; packet = p }) packets

-- those of the ticks before k
abbrev pub sendings_to : ℕ → Feed → List Sending
sendings_to zero h = []
sendings_to (suc k) h = sendings_to k h ++ sent_in k (sent g726 k h)

-- all of a session: those of its ticks, and what is left after the last one, which is sent a tick later
abbrev pub sendings : Given → List Sending
sendings given =
    let h = feed_to given given.ticks in
    sendings_to given.ticks h ++ sent_in given.ticks (rest g726 h)

-- the record of one
abbrev pub record_text : Sending → List ℕ
record_text s = packet_text s.tick s.packet

-- the answer that they make: the line and the file head, and a record for each
abbrev pub answer_of : List Sending → List ℕ
answer_of ss = output_head ++ flat_map record_text ss
