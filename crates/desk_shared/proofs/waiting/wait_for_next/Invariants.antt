use Rattle.std.proofs.Common.{◌≡◌, ℕ}
use Rattle.conference_spec.specs.Feed.{Feed}
use Rattle.desk_shared.specs.Handed.{HandedOut}
use Rattle.desk_shared.proofs.waiting.wait_for_next.Given as goal

abbrev pub invariant-loop : goal.invariant-loop
invariant-loop g l = record {
  can : (goal.iterator-loop g).can_next l.iterator';
  ends : (goal.iterator-loop g).is_finite l.iterator';
  stands : (h : Feed) (n : ℕ) → HandedOut (λ f. g.D.DeskCalls.stands l.fn.desk f) h n → HandedOut (λ f. g.D.DeskCalls.stands l.desk f) h n;
  ready : g.H.Help.ready l.help;
  post : g.D.DeskCalls.post l.desk ≡ g.D.DeskCalls.post l.fn.desk;
  home : g.H.Help.home l.help ≡ g.H.Help.home l.fn.help;
}
