use Rattle.std.proofs.Common.{rules, arith, length, ◌≡◌, ◌∙◌, ap, map}
use Rattle.std.proofs.lemmas.List.{take-append-le, take_all}
use Rattle.live_tally.specs.Accounts.{leaves}
use Rattle.live_tally.specs.Kept.{open_accounts}
use Rattle.live_tally.proofs.Opening.{leave-opens, nobody-opens}
use Rattle.live_tally.proofs.tallies.Tallies.leave.Goals as goal

pub returns-clause-left : goal.returns-clause-left
returns-clause-left c = λ coder h packets at keeps.
    let lent : c.deref_mut.result.now ≡ c.args.self.now.accounts.items = search rules in
    let long : length c.mark_leaves.new.accounts ≡ c.args.self.now.accounts.len = search rules in
    record {
      accounts =
          take-append-le c.args.self.now.accounts.len c.mark_leaves.new.accounts _ (omega arith)
          ∙ take_all c.args.self.now.accounts.len c.mark_leaves.new.accounts (omega arith)
          ∙ c.mark_leaves.ensures
          ∙ ap (map (leaves c.args.member c.args.closed)) lent
          ∙ ap (λ accounts. map (leaves c.args.member c.args.closed) accounts) keeps.accounts
          ∙ ap (λ k. map (leaves c.args.member k) (open_accounts coder h)) at
          ∙ leave-opens coder c.args.member h;
      totals = keeps.totals;
    }

pub returns-clause-nobody : goal.returns-clause-nobody
returns-clause-nobody c = λ coder h packets at none keeps.
    let left = returns-clause-left c coder h packets at keeps in
    record { accounts = left.accounts ∙ nobody-opens coder c.args.member h none; totals = keeps.totals }
