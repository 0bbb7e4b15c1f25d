use Rattle.std.proofs.Common.{◌≡◌, ◌↔◌, ◌==◌, true, false, length, refl, subst}
use Rattle.std.specs.Prelude.{Err}
use Rattle.std.specs.List.{list_any}
use Rattle.conference_spec.specs.Codec.{g726}
use Rattle.conference_spec.specs.Feed.{Feed, joined, listeners}
use Rattle.tick_core.specs.declared.faults.JoinFault.TheVariants as join_fault
use Rattle.conference_spec.specs.declared.Entry.TheVariants.{Join}
use Rattle.tick_core.proofs.Feeds.{went-on, stayed, on-ok, on-err}
use Rattle.tick_core.proofs.calls.BookDeskCalls.join.Goals as goal

pub returns-clause-used : goal.returns-clause-used
returns-clause-used c h s =
    subst (λ (h : Feed). (c.join.result ≡ Err join_fault.Used) ↔ (list_any (λ m. m == c.args.spec.member) (joined h) ≡ true)) s.feed
    (c.join.ensures.used s.core s.stands)

pub returns-clause-full : goal.returns-clause-full
returns-clause-full c h s =
    subst (λ (h : Feed). (c.join.result ≡ Err join_fault.Full)
    ↔ ((list_any (λ m. m == c.args.spec.member) (joined h) ≡ false) × (length (listeners g726 h) ≡ 1024))) s.feed
    (c.join.ensures.full s.core s.stands)

pub returns-clause-ok : goal.returns-clause-ok
returns-clause-ok c = on-ok c.join.result (λ t h w. went-on c.args.self.now c.join.new.self (Join c.args.spec) (λ d. refl) t h w) c.join.ensures.ok

pub returns-clause-err : goal.returns-clause-err
returns-clause-err c = on-err c.join.result (λ k h w. stayed c.args.self.now c.join.new.self k h w) c.join.ensures.err
