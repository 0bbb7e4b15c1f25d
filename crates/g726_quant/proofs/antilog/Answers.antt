-- The logarithm of a level with the scale factor's is from -2048 to 1846.
use Rattle.std.proofs.Common.{w16, w32, rules, arith}
use Rattle.std.proofs.lemmas.Int.{to_z-of_z}
use mir.Val.{SFits}
use Rattle.g726_bits.proofs.Floors.{floors}
use Rattle.g726_quant.proofs.Powers.{entry_le, least_entry}
use Rattle.g726_quant.proofs.antilog.Goals as goal

pub power_of-requires-clause-least : goal.power_of-requires-clause-least
power_of-requires-clause-least c =
    let fits : SFits w32 c.log_sum.result = search rules in
    let level : SFits w16 c.args.dqln = search rules in
    let sum = simp to_z-of_z at c.log_sum.ensures in
    rw (to_z-of_z w32 c.log_sum.result fits) (omega (arith, floors, sum, least_entry c.args.dqln c.requires.entry))

pub power_of-requires-clause-most : goal.power_of-requires-clause-most
power_of-requires-clause-most c =
    let fits : SFits w32 c.log_sum.result = search rules in
    let level : SFits w16 c.args.dqln = search rules in
    let sum = simp to_z-of_z at c.log_sum.ensures in
    rw (to_z-of_z w32 c.log_sum.result fits) (omega (arith, floors, sum, entry_le c.args.dqln c.requires.entry))
