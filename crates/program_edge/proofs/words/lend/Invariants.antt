use Rattle.std.proofs.Common.{◌≡◌, take}
use Rattle.program_edge.specs.Words.{texts_of}
use Rattle.program_edge.proofs.words.lend.Given as goal

abbrev pub invariant-loop-i : goal.invariant-loop-i
invariant-loop-i l = texts_of l.list.items ≡ take l.i l.words
