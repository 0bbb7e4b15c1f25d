-- Each pair is a level's of 32 kbit/s.
use Rattle.std.proofs.Common.{refl}
use Rattle.g726_bits.specs.declared.Rate.TheVariants.{R32}
use Rattle.g726_bits.specs.Step.{scale_step, speed_step, level_of, is_negative_code}
use Rattle.g726_scale.specs.Pairs.{IsTablePair}
use Rattle.g726_scale.proofs.tests.after.Goals as goal

pub adapt-requires-clause-pair : goal.adapt-requires-clause-pair
unfolding scale_step speed_step level_of is_negative_code
adapt-requires-clause-pair c = record { rate = R32; code = 0; scale = refl; speed = refl }

pub adapt-requires-in-5-clause-pair : goal.adapt-requires-in-5-clause-pair
unfolding scale_step speed_step level_of is_negative_code
adapt-requires-in-5-clause-pair c = record { rate = R32; code = 5; scale = refl; speed = refl }

pub adapt-requires-in_default-clause-pair : goal.adapt-requires-in_default-clause-pair
unfolding scale_step speed_step level_of is_negative_code
adapt-requires-in_default-clause-pair c = record { rate = R32; code = 7; scale = refl; speed = refl }
