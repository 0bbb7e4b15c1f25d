-- The two masks make one, and nothing wraps.
use Rattle.std.proofs.Common.{◌≡◌, ◌-ℤ◌, ◌<◌, w32, rules, arith}
use Rattle.std.proofs.lemmas.Int.{to_z-of_z}
use mir.Val.{SFits}
use lib.Signed.{mag}
use Rattle.g726_bits.specs.Numbers.{signed}
use Rattle.g726_bits.specs.Floats.{differ}
use Rattle.g726_bits.proofs.Floors.{kept16, kept32}
use Rattle.g726_bits.proofs.Masks.{turned, signed_small}
use Rattle.g726_bits.proofs.words.signed_by.Goals as goal

pub returns : goal.returns
returns c =
    let f1 : SFits w32 c.from.result = search rules in
    let f2 : SFits w32 c.from-2.result = search rules in
    let is : c.from.result -ℤ c.from-2.result ≡ signed (differ c.args.first c.args.second) c.args.magnitude =
    rw (c.from.ensures, c.from-2.ensures, c.ones_where.ensures, c.ones_where-2.ensures) (turned c.args.first c.args.second c.args.magnitude c.requires) in
    let small : mag (c.from.result -ℤ c.from-2.result) < 32768 = rw is (signed_small (differ c.args.first c.args.second) c.args.magnitude c.requires) in
    rw (to_z-of_z w32 c.from.result f1, to_z-of_z w32 c.from-2.result f2, kept32 (c.from.result -ℤ c.from-2.result) (omega (arith, small)), kept16 (c.from.result -ℤ c.from-2.result) small) is
