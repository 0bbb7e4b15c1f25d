use Rattle.std.proofs.Common.{rules, ◌≡◌, ℕ, Some}
use Rattle.std.specs.Prelude.{◌==◌, if◌then◌else◌, length}
use Rattle.std.specs.List.{flat_map}
use Rattle.live_tally.specs.declared.tallies.Tallies.{Tallies}
use Rattle.live_tally.specs.Accounts.{with_packet}
use Rattle.live_tally.specs.Kept.{total_at}
use Rattle.live_tally.proofs.Totals.{counted}
use Rattle.live_tally.proofs.tallies.Tallies.count.Goals as goal

pub returns : goal.returns
returns c = λ coder h packets keeps.
    let old = c.args.self.now in
    let p = c.args.packet.now in
    let new : Tallies = record { accounts = old.accounts; totals = c.insert.new.self } in
    let is : (q : ℕ) → total_at new q ≡ (if p.member == q then Some (with_packet (total_at old p.member) (length (flat_map (λ octets. octets) p.payload))) else total_at old q) =
    search rules in
    record { accounts = keeps.accounts; totals = counted (total_at old) (total_at new) packets p keeps.totals is }
