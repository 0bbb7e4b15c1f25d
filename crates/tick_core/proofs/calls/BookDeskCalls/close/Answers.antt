use Rattle.std.proofs.Common.{refl}
use Rattle.conference_spec.specs.declared.Entry.TheVariants.{Close}
use Rattle.tick_core.proofs.Feeds.{went-on, stayed, on-ok, on-err}
use Rattle.tick_core.proofs.calls.BookDeskCalls.close.Goals as goal

pub returns-clause-ok : goal.returns-clause-ok
returns-clause-ok c = on-ok c.close.result (λ t h w. went-on c.args.self.now c.close.new.self (Close c.args.tick) (λ d. refl) t h w) c.close.ensures.ok

pub returns-clause-err : goal.returns-clause-err
returns-clause-err c = on-err c.close.result (λ k h w. stayed c.args.self.now c.close.new.self k h w) c.close.ensures.err
