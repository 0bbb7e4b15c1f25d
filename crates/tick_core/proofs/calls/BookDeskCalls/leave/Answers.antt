use Rattle.std.proofs.Common.{◌≡◌, ◌↔◌, ◌==◌, false, refl, subst}
use Rattle.std.specs.Prelude.{IsErr}
use Rattle.std.specs.List.{list_any}
use Rattle.conference_spec.specs.Codec.{g726}
use Rattle.conference_spec.specs.Feed.{Feed, listeners}
use Rattle.conference_spec.specs.declared.Entry.TheVariants.{Leave}
use Rattle.tick_core.proofs.Feeds.{went-on, stayed, on-ok, on-err}
use Rattle.tick_core.proofs.calls.BookDeskCalls.leave.Goals as goal

pub returns-clause-ok : goal.returns-clause-ok
returns-clause-ok c = on-ok c.leave.result (λ t h w. went-on c.args.self.now c.leave.new.self (Leave c.args.member) (λ d. refl) t h w) c.leave.ensures.ok

pub returns-clause-err : goal.returns-clause-err
returns-clause-err c = on-err c.leave.result (λ k h w. stayed c.args.self.now c.leave.new.self k h w) c.leave.ensures.err

pub returns-clause-absent : goal.returns-clause-absent
returns-clause-absent c = λ h w.
    subst (λ (x : Feed). IsErr c.leave.result ↔ (list_any (λ l. l.spec.member == c.args.member) (listeners g726 x) ≡ false)) w.feed
    (c.leave.ensures.absent w.core w.stands)
