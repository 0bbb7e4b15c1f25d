use Rattle.std.proofs.Common.{◌+◌, ◌-◌, length}
use Rattle.enc_group.proofs.Dividing.{Dividing}
use Rattle.enc_group.proofs.groups.Groups.split.Given as goal

-- the group is divided as far as there are parts
abbrev pub invariant-loop-part : goal.invariant-loop-part
invariant-loop-part l = Dividing l.fn.self l.self l.key l.tick l.first l.parts

abbrev pub decreases-loop-part : goal.decreases-loop-part
decreases-loop-part l = length l.tick + 1 - length l.parts
