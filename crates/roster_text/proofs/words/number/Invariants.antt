use Rattle.std.proofs.Common.{◌≡◌, ◌≤◌, drop}
use Rattle.roster_text.specs.Lines.{number_from, number_of}
use Rattle.roster_text.proofs.words.number.Given as goal

abbrev pub invariant-loop-octet : goal.invariant-loop-octet
invariant-loop-octet l = record {
  same : number_from l.greatest l.n (drop l.octet-index l.word) ≡ number_of l.greatest l.word;
  small : l.n ≤ l.greatest;
}
