use Rattle.std.proofs.Common.{subst}
use Rattle.conference_spec.specs.Machine.{Core}
use Rattle.tick_core.specs.Standing.{Stands, Publishes}
use Rattle.bench_book.proofs.Steps.{claimed-known, run-keeps}
use Rattle.bench_book.proofs.run.run_next.Goals as goal
use Rattle.std.specs.Prelude.{Ok}
use Rattle.tick_core.specs.Held.{Held}

pub publish-requires : goal.publish-requires
publish-requires c = record { stands = claimed-known c.args.book.now c.claim.new.self c.in-Job.job c.requires.stands c.in-Job.ensures.claims }

pub returns : goal.returns
returns c = record {
  runs = run-keeps c.args.book.now c.claim.new.self c.publish.new.self c.in-Job.job c.in-Job.ensures.claims
      (subst (λ (d : Held). (k : Core) → Stands c.claim.new.self k → Publishes d (Ok tt) c.publish.new.self k) c.run.ensures c.in_ok-publish-in-Job.ensures.publishes);
}
