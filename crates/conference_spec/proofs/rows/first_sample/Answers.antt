-- The checker computes it.
use Rattle.std.proofs.Common.{refl}
use Rattle.g726_bits.specs.Numbers.{word, limited, signed, digits_within, binary_length}
use Rattle.g726_bits.specs.Floats.{mantissa, float_of, coefficient_magnitude, mantissa_product, scaled, differ, product}
use Rattle.g726_bits.specs.State.{predictor_start, scale_start, start, silent}
use Rattle.g726_bits.specs.Step.{zeros_sum, whole_sum, partial_estimate, signal_estimate, limited_speed, step_size, difference, logarithm, normalised, rank, quantised, is_negative_code, level_of, log_level, scale_step, speed_step, power, magnitude, reconstructed, partial_signal, transition_threshold, transition, fast_factor, slow_factor, second_pole_step, first_pole_step, second_pole, first_pole, is_tone, leak, zero_step, next_zero, unless_cleared, predictor_after, pole_after, tone_after, short_mean, long_mean, is_rising, next_speed, scale_after, code_of, coded_magnitude, state_after}
use Rattle.g726_bits.specs.Encoder.{stepped, codes_of, after_samples}
use Rattle.conference_spec.specs.Rows.{after_one_hundred}
use Rattle.conference_spec.proofs.rows.first_sample.Goals as goal

pub returns : goal.returns
unfolding word limited signed digits_within binary_length mantissa float_of coefficient_magnitude mantissa_product scaled differ product predictor_start scale_start start silent zeros_sum whole_sum partial_estimate signal_estimate limited_speed step_size difference logarithm normalised rank quantised is_negative_code level_of log_level scale_step speed_step power magnitude reconstructed partial_signal transition_threshold transition fast_factor slow_factor second_pole_step first_pole_step second_pole first_pole is_tone leak zero_step next_zero unless_cleared predictor_after pole_after tone_after short_mean long_mean is_rising next_speed scale_after code_of coded_magnitude state_after stepped codes_of after_samples after_one_hundred
returns c = refl
