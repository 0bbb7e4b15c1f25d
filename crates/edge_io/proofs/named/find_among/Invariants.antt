use Rattle.std.proofs.Common.{◌≡◌, drop}
use Rattle.edge_io.specs.Named.{content_among}
use Rattle.edge_io.proofs.named.find_among.Given as goal

abbrev pub invariant-loop-i : goal.invariant-loop-i
invariant-loop-i l = content_among l.files l.name ≡ content_among (drop l.i l.files) l.name
