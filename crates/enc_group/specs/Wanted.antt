-- Which groups are looked for.
use Rattle.std.specs.Prelude.{Bool}
use Rattle.enc_group.specs.declared.Group.{Group}
use Rattle.enc_group.specs.declared.places.Wanted.{Wanted}
use Rattle.enc_group.specs.declared.places.Wanted.TheVariants.{At, New}
use Rattle.enc_group.specs.Groups.{is_at, is_new}

abbrev pub test_of : Wanted → Group → Bool
test_of (At tick) = is_at tick
test_of (New rate tick) = is_new rate tick
