-- What closed ticks sent stays, whatever comes after them.
use Rattle.std.proofs.Common.{◌≡◌, ◌∙◌, ℕ, zero, suc, ◌+◌, ◌%◌, ◌<◌, ◌≤◌, List, [], ◌∷◌, ◌++◌, length, map, Option, refl, ap, arith}
use Rattle.std.specs.Prelude.{true, false, ◌==◌, if◌then◌else◌}
use Rattle.std.specs.List.{filter}
use Rattle.std.proofs.lemmas.Bool.{cond-false, ne_eqb}
use Rattle.rtcp_pack.specs.declared.report.Report.{Report}
use Rattle.udp_edge.specs.declared.peer.Peer.{Peer}
use Rattle.conference_spec.specs.declared.Entry.TheVariants.{Join, Leave, Close, Collect, Cut, End}
use Rattle.conference_spec.specs.declared.Packet.{Packet}
use Rattle.conference_spec.specs.Coding.{Coder}
use Rattle.conference_spec.specs.Feed.{Feed, closes, before, guests, listeners}
use Rattle.conference_spec.specs.Packets.{sent}
use Rattle.conference_spec.proofs.Sends.{closes-more, sent-stays}
use Rattle.session_spec.specs.Answer.{sent_to}
use Rattle.session_spec.proofs.Following.{packets-stay}
use Rattle.live_spec.specs.Reports.{reports_to, left_at, tick_reports}
use Rattle.live_spec.specs.Letters.{Letter, packet_letters, report_letters, tick_letters, letters_to}

before-stays : (k : ℕ) (since h : Feed) → k < closes h → before k (since ++ h) ≡ before k h
before-stays k [] h lt = refl
before-stays k (Join spec ∷ s) h lt = before-stays k s h lt
before-stays k (Leave m ∷ s) h lt = before-stays k s h lt
before-stays k (Close tick ∷ s) h lt =
    cond-false {A = Feed} (closes (s ++ h) == k) (s ++ h) (before k (s ++ h))
    (ne_eqb (closes (s ++ h)) k (λ (e : closes (s ++ h) ≡ k). absurd (omega (arith, closes-more s h))))
    ∙ before-stays k s h lt
before-stays k (Collect ∷ s) h lt = before-stays k s h lt
before-stays k (Cut ∷ s) h lt = before-stays k s h lt
before-stays k (End ∷ s) h lt = before-stays k s h lt

-- the reports of tick k, where these packets were sent by then, and this was the feed before its close
abbrev reports_by : Coder → ℕ → List Packet → Feed → List Report
reports_by coder k packets f =
    (if (k + 1) % 250 == 0 then reports_to (λ l. length l.heard + 1) false packets (listeners coder f) else [])
    ++ reports_to (λ l. length l.heard) true packets (map (λ g. g.listener) (filter (left_at k) (guests coder f)))

pub reports-stay : (coder : Coder) (k : ℕ) (since h : Feed) → k < closes h → tick_reports coder k (since ++ h) ≡ tick_reports coder k h
reports-stay coder k since h lt =
    ap (λ (packets : List Packet). reports_by coder k packets (before k (since ++ h))) (packets-stay coder (suc k) since h (omega arith))
    ∙ ap (λ (f : Feed). reports_by coder k (sent_to coder (suc k) h) f) (before-stays k since h lt)

tick-stays : (peer_of : ℕ → Option Peer) (coder : Coder) (k : ℕ) (since h : Feed) → k < closes h →
    tick_letters peer_of coder k (since ++ h) ≡ tick_letters peer_of coder k h
tick-stays peer_of coder k since h lt =
    ap (λ (packets : List Packet). packet_letters peer_of packets ++ report_letters peer_of (tick_reports coder k (since ++ h))) (sent-stays coder k since h lt)
    ∙ ap (λ (reports : List Report). packet_letters peer_of (sent coder k h) ++ report_letters peer_of reports) (reports-stay coder k since h lt)

pub letters-stay : (peer_of : ℕ → Option Peer) (coder : Coder) (k : ℕ) (since h : Feed) → k ≤ closes h →
    letters_to peer_of coder k (since ++ h) ≡ letters_to peer_of coder k h
letters-stay peer_of coder zero since h le = refl
letters-stay peer_of coder (suc k) since h le =
    ap (λ (ls : List Letter). ls ++ tick_letters peer_of coder k (since ++ h)) (letters-stay peer_of coder k since h (omega arith))
    ∙ ap (λ (ls : List Letter). letters_to peer_of coder k h ++ ls) (tick-stays peer_of coder k since h (omega arith))
