use Rattle.std.proofs.Common.{ℕ, suc, ap, ◌∙◌, subst, add-one}
use Rattle.conference_spec.specs.Feed.{before}
use Rattle.session_spec.specs.Answer.{sent_to}
use Rattle.live_tally.specs.Accounts.{due_at}
use Rattle.live_tally.specs.Kept.{Keeps, total_at}
use Rattle.live_tally.proofs.Owing.{due}
use Rattle.live_tally.proofs.tallies.Tallies.tick_reports.Goals as goal

pub returns : goal.returns
returns c = λ coder h at keeps.
    let so : Keeps coder c.args.self.now (before c.args.tick h) (sent_to coder (suc c.args.tick) h) =
    subst (λ (n : ℕ). Keeps coder c.args.self.now (before c.args.tick h) (sent_to coder n h)) (add-one c.args.tick) keeps in
    due coder c.args.self.now h c.args.tick at so c.in_ok-reports.reports.items
    (c.in_ok-reports.ensures ∙ ap (due_at (total_at c.args.self.now) c.args.tick) c.as_slice.ensures.value)
