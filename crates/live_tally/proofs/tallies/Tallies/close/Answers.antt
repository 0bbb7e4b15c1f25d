use Rattle.std.proofs.Common.{◌∙◌, ap, sym, not}
use Rattle.std.specs.List.{filter}
use Rattle.live_tally.specs.declared.account.Account.{Account}
use Rattle.live_tally.specs.Accounts.{has_left}
use Rattle.live_tally.specs.Kept.{open_accounts}
use Rattle.live_tally.proofs.Opening.{tick-opens}
use Rattle.live_tally.proofs.tallies.Tallies.close.Goals as goal

pub returns : goal.returns
returns c = λ coder h talkers packets at keeps. record {
  accounts =
      c.drop_leavers.ensures
      ∙ ap (λ accounts. filter (λ (a : Account). not (has_left c.args.tick a.left)) accounts) keeps.accounts
      ∙ ap (λ k. filter (λ (a : Account). not (has_left k a.left)) (open_accounts coder h)) (sym at)
      ∙ tick-opens coder talkers h;
  totals = keeps.totals;
}
