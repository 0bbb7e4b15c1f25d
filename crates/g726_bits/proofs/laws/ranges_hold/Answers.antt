-- The ranges hold at the start and through each step.
use Rattle.g726_bits.specs.State.{start}
use Rattle.g726_bits.proofs.Runs.{start_sound, state_after_sound, after_sound}
use Rattle.g726_bits.proofs.ScaleRanges.{step_size_within}
use Rattle.g726_bits.proofs.Magnitudes.{coded_magnitude_le}
use Rattle.g726_bits.proofs.laws.ranges_hold.Goals as goal

pub returns : goal.returns
returns c = record {
  at_start = start_sound;
  through_a_code = state_after_sound;
  through_samples = λ rate xs. after_sound rate start xs start_sound;
  of_step_size = λ s is. step_size_within s.scale is.scale;
  of_magnitude = λ rate s code is. coded_magnitude_le rate s code (step_size_within s.scale is.scale);
}
