-- Where octets first differ from an answer.
use Rattle.std.specs.Prelude.{◌≡◌, ◌≢◌, ℕ, suc, ◌+◌, ◌-◌, ◌==◌, nat_le, nat_lt, if◌then◌else◌, List, [], ◌∷◌, length, take, drop, filter, Option, Some, None}
use Rattle.std.specs.List.{flat_map}
use Rattle.conference_spec.specs.Packets.{Sending}
use Rattle.audit_check.specs.declared.status.Part.{Part}
use Rattle.audit_check.specs.declared.status.Part.TheVariants.{FileHead, RecordHead, RtpHead, Payload, Missing, Extra}
use Rattle.audit_check.specs.declared.status.Where.{Where}
use Rattle.audit_check.specs.declared.compare.Difference.{Difference}
use Rattle.audit_check.specs.Sendings.{record_text, answer_of}

-- how long the longest front is that two texts have in common
abbrev pub common : List ℕ → List ℕ → ℕ
common [] ys = 0
common (x ∷ xs) [] = 0
common (x ∷ xs) (y ∷ ys) = if x == y then suc (common xs ys) else 0

-- where each record ends, of those that begin at this place
abbrev pub ends_from : ℕ → List Sending → List ℕ
ends_from place [] = []
ends_from place (s ∷ ss) = (place + length (record_text s)) ∷ ends_from (place + length (record_text s)) ss

-- how many records of an answer end at or before a place
abbrev pub ended_by : ℕ → List Sending → ℕ
ended_by place ss = length (filter (λ end. nat_le end place) (ends_from 39 ss))

-- where the i-th record of an answer begins
abbrev pub begin_of_record : ℕ → List Sending → ℕ
begin_of_record i ss = 39 + length (flat_map record_text (take i ss))

-- the i-th packet, its tick and its member, where these are the packets from the i-th on
abbrev pub first_of : ℕ → List Sending → Option Where
first_of i [] = None
first_of i (s ∷ ss) = Some (record { packet = i; tick = s.tick; member = s.packet.member })

-- the part of a record that an octet of it lies in
abbrev pub part_within : ℕ → Part
part_within n = if nat_lt n 8 then RecordHead else if nat_lt n 20 then RtpHead else Payload

-- the part in which the octets first differ, at this place
abbrev pub part_at : ℕ → List ℕ → List Sending → Part
part_at place out ss =
    if place == length out then Missing
    else if place == length (answer_of ss) then Extra
    else if nat_lt place 39 then FileHead
    else part_within (place - begin_of_record (ended_by place ss) ss)

-- the file head and what is extra lie in no packet
abbrev pub in_packet : Part → Option Where → Option Where
in_packet FileHead found = None
in_packet Extra found = None
in_packet part found = found

-- The first difference: it lies behind the longest front in common, and in the packet behind those whose records end there or before.
abbrev pub first_difference : List ℕ → List Sending → Difference
first_difference out ss =
    let place = common out (answer_of ss) in
    let i = ended_by place ss in
    record { at = place; part = part_at place out ss; place = in_packet (part_at place out ss) (first_of i (drop i ss)) }

-- what is told of octets is right: they are the answer, or they differ from it first just there
abbrev pub Judges : List ℕ → List Sending → Option Difference → Type 0
Judges out ss None = out ≡ answer_of ss
Judges out ss (Some d) = (out ≢ answer_of ss) × (d ≡ first_difference out ss)
