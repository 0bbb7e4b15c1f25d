use Rattle.std.proofs.Common.{◌≡◌, ◌+◌, ◌≤◌, length}
use Rattle.roster_text.specs.Lines.{lines_of}
use Rattle.roster_text.specs.Roster.{lines_make, roster}
use Rattle.roster_text.specs.Reading.{Stands, known_of}
use Rattle.roster_text.proofs.reading.read.Given as goal

abbrev pub invariant-loop-text : goal.invariant-loop-text
invariant-loop-text l = record {
  stands : Stands l.reader;
  same : lines_make (lines_of l.rest) l.line (known_of l.reader) ≡ roster l.bytes;
  short : l.line + length l.rest ≤ 1 + length l.bytes;
}

abbrev pub decreases-loop-text : goal.decreases-loop-text
decreases-loop-text l = length l.rest
