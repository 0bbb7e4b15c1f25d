-- Which reports a session sends to its listeners, and when.
use Rattle.std.specs.Prelude.{ℕ, suc, ◌+◌, ◌*◌, ◌%◌, ◌^◌, Bool, true, false, ◌==◌, nat_le, if◌then◌else◌, List, [], ◌∷◌, ◌++◌, length, map, filter, Option, Some, None}
use Rattle.std.specs.List.{flat_map}
use Rattle.rtcp_pack.specs.declared.report.Report.{Report}
use Rattle.conference_spec.specs.declared.JoinSpec.{JoinSpec}
use Rattle.conference_spec.specs.declared.Packet.{Packet}
use Rattle.conference_spec.specs.Coding.{Coder}
use Rattle.conference_spec.specs.Feed.{Feed, Guest, Listener, guests, listeners, before, until}
use Rattle.conference_spec.specs.Packets.{rest}
use Rattle.session_spec.specs.Answer.{sent_to}
use Rattle.session_spec.specs.Laws.{packets_to}

-- the octets of the payloads of packets, all together
abbrev pub payload_len : List Packet → ℕ
payload_len [] = 0
payload_len (p ∷ packets) = length (flat_map (λ octets. octets) p.payload) + payload_len packets

-- The report to a listener after so many ticks of its own and these packets to it, with or without a BYE: one that was sent no packet yet
-- gets none.
abbrev pub report_of : JoinSpec → ℕ → Bool → List Packet → List Report
report_of spec ticks bye [] = []
report_of spec ticks bye (p ∷ packets) = record {
  ssrc = spec.ssrc;
  stamp = (spec.first_stamp + 160 * ticks) % 2 ^ 32;
  packets = length (p ∷ packets) % 2 ^ 32;
  octets = payload_len (p ∷ packets) % 2 ^ 32;
  member = spec.member;
  bye = bye;
} ∷ []

-- the reports to these listeners, where these packets were sent so far
abbrev pub reports_to : (Listener → ℕ) → Bool → List Packet → List Listener → List Report
reports_to ticks bye packets ls = flat_map (λ l. report_of l.spec (ticks l) bye (packets_to l.spec.member packets)) ls

-- the guest left after so many ticks
abbrev pub left_at : ℕ → Guest → Bool
left_at k g = elim g.left [ None ↦ false | Some left ↦ left == k ]

-- those who left right before the close of tick k, in the order of their joins
abbrev pub leavers : Coder → ℕ → Feed → List Listener
leavers coder k h = map (λ g. g.listener) (filter (left_at k) (guests coder (before k h)))

-- after each 250th tick: the reports to those who listen at it, in the order of their joins
abbrev pub regular_reports : Coder → ℕ → Feed → List Report
regular_reports coder k h =
    if (k + 1) % 250 == 0
    then reports_to (λ l. length l.heard + 1) false (sent_to coder (suc k) h) (listeners coder (before k h))
    else []

-- after tick k: the last reports to those who left right before its close
abbrev pub last_reports : Coder → ℕ → Feed → List Report
last_reports coder k h = reports_to (λ l. length l.heard) true (sent_to coder (suc k) h) (leavers coder k h)

abbrev pub tick_reports : Coder → ℕ → Feed → List Report
tick_reports coder k h = regular_reports coder k h ++ last_reports coder k h

-- those who have had no last report after so many ticks: they are present, or left after the last one
abbrev pub remaining : Coder → ℕ → Feed → List Listener
remaining coder ticks h = map (λ g. g.listener) (filter (λ g. nat_le ticks (until h g)) (guests coder h))

-- after all that is left of so many ticks: the last reports to the others
abbrev pub end_reports : Coder → ℕ → Feed → List Report
end_reports coder ticks h = reports_to (λ l. length l.heard) true (sent_to coder ticks h ++ rest coder h) (remaining coder ticks h)
