-- What is kept of listeners, and which reports it gives.
use Rattle.std.specs.Prelude.{ℕ, ◌+◌, ◌-◌, ◌*◌, ◌%◌, ◌^◌, Bool, true, false, ◌&&◌, ◌==◌, if◌then◌else◌, List, [], ◌∷◌, ◌++◌, Option, Some, None, is_none}
use Rattle.std.specs.List.{flat_map}
use Rattle.rtcp_pack.specs.declared.report.Report.{Report}
use Rattle.live_tally.specs.declared.account.Account.{Account}
use Rattle.live_tally.specs.declared.account.Total.{Total}

-- the account of a member that leaves after so many ticks, where it is present
abbrev pub leaves : ℕ → ℕ → Account → Account
leaves member closed a = if is_none a.left && (a.spec.member == member) then record { spec = a.spec; from = a.from; left = Some closed } else a

-- it left after so many ticks
abbrev pub has_left : ℕ → Option ℕ → Bool
has_left k None = false
has_left k (Some left) = left == k

-- the report to a listener after so many ticks of its own, where this is the total of what it was sent
abbrev pub report_for : Account → ℕ → Bool → Option Total → List Report
report_for a ticks bye None = []
report_for a ticks bye (Some total) = record {
  ssrc = a.spec.ssrc;
  stamp = (a.spec.first_stamp + 160 * ticks) % 2 ^ 32;
  packets = total.packets;
  octets = total.octets;
  member = a.spec.member;
  bye = bye;
} ∷ []

-- one packet more, whose payloads have so many octets
abbrev pub with_packet : Option Total → ℕ → Total
with_packet None len = record { packets = 1; octets = len % 2 ^ 32 }
with_packet (Some total) len = record { packets = (total.packets + 1) % 2 ^ 32; octets = (total.octets + len) % 2 ^ 32 }

module _ (total_at : ℕ → Option Total) where
  -- the regular report after tick k, to one who is present
  abbrev pub regular_of : ℕ → Account → List Report
  regular_of k a = if is_none a.left then report_for a (k + 1 - a.from) false (total_at a.spec.member) else []

  -- the last report after tick k, to one who left right before its close
  abbrev pub last_of : ℕ → Account → List Report
  last_of k a = if has_left k a.left then report_for a (k - a.from) true (total_at a.spec.member) else []

  -- the last report after the last of so many ticks
  abbrev pub end_of : ℕ → Account → List Report
  end_of ticks a = report_for a (ticks - a.from) true (total_at a.spec.member)

  -- the reports after tick k, in the order of the accounts
  abbrev pub due_at : ℕ → List Account → List Report
  due_at k accounts = (if (k + 1) % 250 == 0 then flat_map (regular_of k) accounts else []) ++ flat_map (last_of k) accounts
