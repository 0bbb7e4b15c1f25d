use Rattle.std.proofs.Common.{◌≡◌, ℕ}
use Rattle.conference_spec.specs.Feed.{Feed}
use Rattle.desk_shared.specs.Handed.{Ready}
use Rattle.desk_shared.proofs.waiting.take_ready.Given as goal

abbrev pub invariant-loop : goal.invariant-loop
invariant-loop g l = record {
  taken : (h : Feed) (n : ℕ) → Ready (λ f. g.D.DeskCalls.stands l.fn.desk f) h n l.fn.ready.items
      → Ready (λ f. g.D.DeskCalls.stands l.desk f) h n l.ready.items;
  post : g.D.DeskCalls.post l.desk ≡ g.D.DeskCalls.post l.fn.desk;
}
