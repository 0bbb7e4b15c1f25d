-- What the checker computes of the definitions.
use Rattle.std.proofs.Common.{◌≡◌, pos, replicate, refl}
use Rattle.g726_bits.specs.declared.Rate.TheVariants.{R16, R24, R32, R40}
use Rattle.g726_bits.specs.Numbers.{word, limited, signed, digits_within, binary_length}
use Rattle.g726_bits.specs.Floats.{mantissa, float_of, coefficient_magnitude, mantissa_product, scaled, differ, product}
use Rattle.g726_bits.specs.State.{predictor_start, scale_start, start, silent}
use Rattle.g726_bits.specs.Step.{zeros_sum, whole_sum, partial_estimate, signal_estimate, limited_speed, step_size}
use Rattle.g726_bits.specs.Step.{difference, logarithm, normalised, rank, quantised, is_negative_code, level_of}
use Rattle.g726_bits.specs.Step.{log_level, scale_step, speed_step, power, magnitude, reconstructed, partial_signal}
use Rattle.g726_bits.specs.Step.{transition_threshold, transition, fast_factor, slow_factor, second_pole_step}
use Rattle.g726_bits.specs.Step.{first_pole_step, second_pole, first_pole, is_tone, leak, zero_step, next_zero}
use Rattle.g726_bits.specs.Step.{unless_cleared, predictor_after, pole_after, tone_after, short_mean, long_mean}
use Rattle.g726_bits.specs.Step.{is_rising, next_speed, scale_after, code_of, coded_magnitude, state_after}
use Rattle.g726_bits.specs.Encoder.{stepped, codes_of, after_samples}
use Rattle.g726_bits.specs.Vectors.{square, square_codes_16, square_codes_24, square_codes_32, square_codes_40, sine}
use Rattle.g726_bits.specs.Vectors.{sine_codes_16, sine_codes_24, sine_codes_32, sine_codes_40}

pub square_16 : codes_of R16 start square ≡ square_codes_16
unfolding word limited signed digits_within binary_length mantissa float_of coefficient_magnitude mantissa_product
    scaled differ product predictor_start scale_start start silent zeros_sum whole_sum partial_estimate
    signal_estimate limited_speed step_size difference logarithm normalised rank quantised is_negative_code
    level_of log_level scale_step speed_step power magnitude reconstructed partial_signal transition_threshold
    transition fast_factor slow_factor second_pole_step first_pole_step second_pole first_pole is_tone leak
    zero_step next_zero unless_cleared predictor_after pole_after tone_after short_mean long_mean is_rising
    next_speed scale_after code_of coded_magnitude state_after stepped codes_of after_samples
square_16 = refl

pub square_24 : codes_of R24 start square ≡ square_codes_24
unfolding word limited signed digits_within binary_length mantissa float_of coefficient_magnitude mantissa_product
    scaled differ product predictor_start scale_start start silent zeros_sum whole_sum partial_estimate
    signal_estimate limited_speed step_size difference logarithm normalised rank quantised is_negative_code
    level_of log_level scale_step speed_step power magnitude reconstructed partial_signal transition_threshold
    transition fast_factor slow_factor second_pole_step first_pole_step second_pole first_pole is_tone leak
    zero_step next_zero unless_cleared predictor_after pole_after tone_after short_mean long_mean is_rising
    next_speed scale_after code_of coded_magnitude state_after stepped codes_of after_samples
square_24 = refl

pub square_32 : codes_of R32 start square ≡ square_codes_32
unfolding word limited signed digits_within binary_length mantissa float_of coefficient_magnitude mantissa_product
    scaled differ product predictor_start scale_start start silent zeros_sum whole_sum partial_estimate
    signal_estimate limited_speed step_size difference logarithm normalised rank quantised is_negative_code
    level_of log_level scale_step speed_step power magnitude reconstructed partial_signal transition_threshold
    transition fast_factor slow_factor second_pole_step first_pole_step second_pole first_pole is_tone leak
    zero_step next_zero unless_cleared predictor_after pole_after tone_after short_mean long_mean is_rising
    next_speed scale_after code_of coded_magnitude state_after stepped codes_of after_samples
square_32 = refl

pub square_40 : codes_of R40 start square ≡ square_codes_40
unfolding word limited signed digits_within binary_length mantissa float_of coefficient_magnitude mantissa_product
    scaled differ product predictor_start scale_start start silent zeros_sum whole_sum partial_estimate
    signal_estimate limited_speed step_size difference logarithm normalised rank quantised is_negative_code
    level_of log_level scale_step speed_step power magnitude reconstructed partial_signal transition_threshold
    transition fast_factor slow_factor second_pole_step first_pole_step second_pole first_pole is_tone leak
    zero_step next_zero unless_cleared predictor_after pole_after tone_after short_mean long_mean is_rising
    next_speed scale_after code_of coded_magnitude state_after stepped codes_of after_samples
square_40 = refl

pub sine_16 : codes_of R16 start sine ≡ sine_codes_16
unfolding word limited signed digits_within binary_length mantissa float_of coefficient_magnitude mantissa_product
    scaled differ product predictor_start scale_start start silent zeros_sum whole_sum partial_estimate
    signal_estimate limited_speed step_size difference logarithm normalised rank quantised is_negative_code
    level_of log_level scale_step speed_step power magnitude reconstructed partial_signal transition_threshold
    transition fast_factor slow_factor second_pole_step first_pole_step second_pole first_pole is_tone leak
    zero_step next_zero unless_cleared predictor_after pole_after tone_after short_mean long_mean is_rising
    next_speed scale_after code_of coded_magnitude state_after stepped codes_of after_samples
sine_16 = refl

pub sine_24 : codes_of R24 start sine ≡ sine_codes_24
unfolding word limited signed digits_within binary_length mantissa float_of coefficient_magnitude mantissa_product
    scaled differ product predictor_start scale_start start silent zeros_sum whole_sum partial_estimate
    signal_estimate limited_speed step_size difference logarithm normalised rank quantised is_negative_code
    level_of log_level scale_step speed_step power magnitude reconstructed partial_signal transition_threshold
    transition fast_factor slow_factor second_pole_step first_pole_step second_pole first_pole is_tone leak
    zero_step next_zero unless_cleared predictor_after pole_after tone_after short_mean long_mean is_rising
    next_speed scale_after code_of coded_magnitude state_after stepped codes_of after_samples
sine_24 = refl

pub sine_32 : codes_of R32 start sine ≡ sine_codes_32
unfolding word limited signed digits_within binary_length mantissa float_of coefficient_magnitude mantissa_product
    scaled differ product predictor_start scale_start start silent zeros_sum whole_sum partial_estimate
    signal_estimate limited_speed step_size difference logarithm normalised rank quantised is_negative_code
    level_of log_level scale_step speed_step power magnitude reconstructed partial_signal transition_threshold
    transition fast_factor slow_factor second_pole_step first_pole_step second_pole first_pole is_tone leak
    zero_step next_zero unless_cleared predictor_after pole_after tone_after short_mean long_mean is_rising
    next_speed scale_after code_of coded_magnitude state_after stepped codes_of after_samples
sine_32 = refl

pub sine_40 : codes_of R40 start sine ≡ sine_codes_40
unfolding word limited signed digits_within binary_length mantissa float_of coefficient_magnitude mantissa_product
    scaled differ product predictor_start scale_start start silent zeros_sum whole_sum partial_estimate
    signal_estimate limited_speed step_size difference logarithm normalised rank quantised is_negative_code
    level_of log_level scale_step speed_step power magnitude reconstructed partial_signal transition_threshold
    transition fast_factor slow_factor second_pole_step first_pole_step second_pole first_pole is_tone leak
    zero_step next_zero unless_cleared predictor_after pole_after tone_after short_mean long_mean is_rising
    next_speed scale_after code_of coded_magnitude state_after stepped codes_of after_samples
sine_40 = refl

pub silence_codes_24 : codes_of R24 start (replicate 160 (pos 0)) ≡ replicate 160 7
unfolding word limited signed digits_within binary_length mantissa float_of coefficient_magnitude mantissa_product
    scaled differ product predictor_start scale_start start silent zeros_sum whole_sum partial_estimate
    signal_estimate limited_speed step_size difference logarithm normalised rank quantised is_negative_code
    level_of log_level scale_step speed_step power magnitude reconstructed partial_signal transition_threshold
    transition fast_factor slow_factor second_pole_step first_pole_step second_pole first_pole is_tone leak
    zero_step next_zero unless_cleared predictor_after pole_after tone_after short_mean long_mean is_rising
    next_speed scale_after code_of coded_magnitude state_after stepped codes_of after_samples
silence_codes_24 = refl

pub silence_after_24 : after_samples R24 start (replicate 160 (pos 0)) ≡ silent
unfolding word limited signed digits_within binary_length mantissa float_of coefficient_magnitude mantissa_product
    scaled differ product predictor_start scale_start start silent zeros_sum whole_sum partial_estimate
    signal_estimate limited_speed step_size difference logarithm normalised rank quantised is_negative_code
    level_of log_level scale_step speed_step power magnitude reconstructed partial_signal transition_threshold
    transition fast_factor slow_factor second_pole_step first_pole_step second_pole first_pole is_tone leak
    zero_step next_zero unless_cleared predictor_after pole_after tone_after short_mean long_mean is_rising
    next_speed scale_after code_of coded_magnitude state_after stepped codes_of after_samples
silence_after_24 = refl

pub silence_code_24 : code_of R24 silent (pos 0) ≡ 7
unfolding word limited signed digits_within binary_length mantissa float_of coefficient_magnitude mantissa_product
    scaled differ product predictor_start scale_start start silent zeros_sum whole_sum partial_estimate
    signal_estimate limited_speed step_size difference logarithm normalised rank quantised is_negative_code
    level_of log_level scale_step speed_step power magnitude reconstructed partial_signal transition_threshold
    transition fast_factor slow_factor second_pole_step first_pole_step second_pole first_pole is_tone leak
    zero_step next_zero unless_cleared predictor_after pole_after tone_after short_mean long_mean is_rising
    next_speed scale_after code_of coded_magnitude state_after stepped codes_of after_samples
silence_code_24 = refl

pub silence_step_24 : stepped R24 silent (pos 0) ≡ silent
unfolding word limited signed digits_within binary_length mantissa float_of coefficient_magnitude mantissa_product
    scaled differ product predictor_start scale_start start silent zeros_sum whole_sum partial_estimate
    signal_estimate limited_speed step_size difference logarithm normalised rank quantised is_negative_code
    level_of log_level scale_step speed_step power magnitude reconstructed partial_signal transition_threshold
    transition fast_factor slow_factor second_pole_step first_pole_step second_pole first_pole is_tone leak
    zero_step next_zero unless_cleared predictor_after pole_after tone_after short_mean long_mean is_rising
    next_speed scale_after code_of coded_magnitude state_after stepped codes_of after_samples
silence_step_24 = refl

pub silence_codes_32 : codes_of R32 start (replicate 160 (pos 0)) ≡ replicate 160 15
unfolding word limited signed digits_within binary_length mantissa float_of coefficient_magnitude mantissa_product
    scaled differ product predictor_start scale_start start silent zeros_sum whole_sum partial_estimate
    signal_estimate limited_speed step_size difference logarithm normalised rank quantised is_negative_code
    level_of log_level scale_step speed_step power magnitude reconstructed partial_signal transition_threshold
    transition fast_factor slow_factor second_pole_step first_pole_step second_pole first_pole is_tone leak
    zero_step next_zero unless_cleared predictor_after pole_after tone_after short_mean long_mean is_rising
    next_speed scale_after code_of coded_magnitude state_after stepped codes_of after_samples
silence_codes_32 = refl

pub silence_after_32 : after_samples R32 start (replicate 160 (pos 0)) ≡ silent
unfolding word limited signed digits_within binary_length mantissa float_of coefficient_magnitude mantissa_product
    scaled differ product predictor_start scale_start start silent zeros_sum whole_sum partial_estimate
    signal_estimate limited_speed step_size difference logarithm normalised rank quantised is_negative_code
    level_of log_level scale_step speed_step power magnitude reconstructed partial_signal transition_threshold
    transition fast_factor slow_factor second_pole_step first_pole_step second_pole first_pole is_tone leak
    zero_step next_zero unless_cleared predictor_after pole_after tone_after short_mean long_mean is_rising
    next_speed scale_after code_of coded_magnitude state_after stepped codes_of after_samples
silence_after_32 = refl

pub silence_code_32 : code_of R32 silent (pos 0) ≡ 15
unfolding word limited signed digits_within binary_length mantissa float_of coefficient_magnitude mantissa_product
    scaled differ product predictor_start scale_start start silent zeros_sum whole_sum partial_estimate
    signal_estimate limited_speed step_size difference logarithm normalised rank quantised is_negative_code
    level_of log_level scale_step speed_step power magnitude reconstructed partial_signal transition_threshold
    transition fast_factor slow_factor second_pole_step first_pole_step second_pole first_pole is_tone leak
    zero_step next_zero unless_cleared predictor_after pole_after tone_after short_mean long_mean is_rising
    next_speed scale_after code_of coded_magnitude state_after stepped codes_of after_samples
silence_code_32 = refl

pub silence_step_32 : stepped R32 silent (pos 0) ≡ silent
unfolding word limited signed digits_within binary_length mantissa float_of coefficient_magnitude mantissa_product
    scaled differ product predictor_start scale_start start silent zeros_sum whole_sum partial_estimate
    signal_estimate limited_speed step_size difference logarithm normalised rank quantised is_negative_code
    level_of log_level scale_step speed_step power magnitude reconstructed partial_signal transition_threshold
    transition fast_factor slow_factor second_pole_step first_pole_step second_pole first_pole is_tone leak
    zero_step next_zero unless_cleared predictor_after pole_after tone_after short_mean long_mean is_rising
    next_speed scale_after code_of coded_magnitude state_after stepped codes_of after_samples
silence_step_32 = refl

pub silence_codes_40 : codes_of R40 start (replicate 160 (pos 0)) ≡ replicate 160 31
unfolding word limited signed digits_within binary_length mantissa float_of coefficient_magnitude mantissa_product
    scaled differ product predictor_start scale_start start silent zeros_sum whole_sum partial_estimate
    signal_estimate limited_speed step_size difference logarithm normalised rank quantised is_negative_code
    level_of log_level scale_step speed_step power magnitude reconstructed partial_signal transition_threshold
    transition fast_factor slow_factor second_pole_step first_pole_step second_pole first_pole is_tone leak
    zero_step next_zero unless_cleared predictor_after pole_after tone_after short_mean long_mean is_rising
    next_speed scale_after code_of coded_magnitude state_after stepped codes_of after_samples
silence_codes_40 = refl

pub silence_after_40 : after_samples R40 start (replicate 160 (pos 0)) ≡ silent
unfolding word limited signed digits_within binary_length mantissa float_of coefficient_magnitude mantissa_product
    scaled differ product predictor_start scale_start start silent zeros_sum whole_sum partial_estimate
    signal_estimate limited_speed step_size difference logarithm normalised rank quantised is_negative_code
    level_of log_level scale_step speed_step power magnitude reconstructed partial_signal transition_threshold
    transition fast_factor slow_factor second_pole_step first_pole_step second_pole first_pole is_tone leak
    zero_step next_zero unless_cleared predictor_after pole_after tone_after short_mean long_mean is_rising
    next_speed scale_after code_of coded_magnitude state_after stepped codes_of after_samples
silence_after_40 = refl

pub silence_code_40 : code_of R40 silent (pos 0) ≡ 31
unfolding word limited signed digits_within binary_length mantissa float_of coefficient_magnitude mantissa_product
    scaled differ product predictor_start scale_start start silent zeros_sum whole_sum partial_estimate
    signal_estimate limited_speed step_size difference logarithm normalised rank quantised is_negative_code
    level_of log_level scale_step speed_step power magnitude reconstructed partial_signal transition_threshold
    transition fast_factor slow_factor second_pole_step first_pole_step second_pole first_pole is_tone leak
    zero_step next_zero unless_cleared predictor_after pole_after tone_after short_mean long_mean is_rising
    next_speed scale_after code_of coded_magnitude state_after stepped codes_of after_samples
silence_code_40 = refl

pub silence_step_40 : stepped R40 silent (pos 0) ≡ silent
unfolding word limited signed digits_within binary_length mantissa float_of coefficient_magnitude mantissa_product
    scaled differ product predictor_start scale_start start silent zeros_sum whole_sum partial_estimate
    signal_estimate limited_speed step_size difference logarithm normalised rank quantised is_negative_code
    level_of log_level scale_step speed_step power magnitude reconstructed partial_signal transition_threshold
    transition fast_factor slow_factor second_pole_step first_pole_step second_pole first_pole is_tone leak
    zero_step next_zero unless_cleared predictor_after pole_after tone_after short_mean long_mean is_rising
    next_speed scale_after code_of coded_magnitude state_after stepped codes_of after_samples
silence_step_40 = refl
