-- One step of ITU-T G.726 with Annex A, as equations in the Recommendation's order; each names its block.
-- What an encoder and a decoder share, from the inverse quantiser on, depends on the code alone.
use Rattle.std.specs.Prelude.{ℕ, ℤ, pos, negsuc, ◌+ℤ◌, ◌-ℤ◌, ◌*ℤ◌, neg_ℤ, unsigned_abs, ◌+◌, ◌-◌, ◌*◌, ◌/◌, ◌%◌, ◌^◌, ◌==◌, Bool, ◌&&◌, not, if◌then◌else◌, nat_le, nat_lt, int_lt, int_le, count_by, slice_index_or}
use Rattle.g726_bits.specs.declared.Rate.{Rate}
use Rattle.g726_bits.specs.declared.Rate.TheVariants.{R16, R24, R32, R40}
use Rattle.g726_bits.specs.Numbers.{floor_div, word, limited, signed, binary_length}
use Rattle.g726_bits.specs.Floats.{ShortFloat, float_of, differ, product}
use Rattle.g726_bits.specs.State.{PredictorState, ScaleState, CodecState}
use Rattle.g726_bits.specs.Rates.{bits_of}
use Rattle.g726_bits.specs.Tables.{thresholds, log_levels, scale_steps, speed_steps}

-- ---- the signal estimate, from the predictor alone ----

-- the sum of the six zeros' products (ACCUM: SEZI)
unfoldable pub zeros_sum : PredictorState → ℤ
zeros_sum p =
    word
    (product p.b1 p.dq1 +ℤ product p.b2 p.dq2 +ℤ product p.b3 p.dq3 +ℤ product p.b4 p.dq4 +ℤ product p.b5 p.dq5 +ℤ
    product p.b6 p.dq6)

-- that sum with the two poles' products (ACCUM: SEI)
unfoldable pub whole_sum : PredictorState → ℤ
whole_sum p = word (zeros_sum p +ℤ product p.a2 p.sr2 +ℤ product p.a1 p.sr1)

-- the partial estimate (ACCUM: SEZ)
unfoldable pub partial_estimate : PredictorState → ℤ
partial_estimate p = floor_div (zeros_sum p) 2

-- the signal estimate (ACCUM: SE)
unfoldable pub signal_estimate : PredictorState → ℤ
signal_estimate p = floor_div (whole_sum p) 2

-- ---- the step size, from the scale alone ----

-- the speed, limited (LIMA: AL, a 64th of it)
unfoldable pub limited_speed : ℤ → ℤ
limited_speed ap = if int_le (pos 256) ap then pos 64 else floor_div ap 4

-- the scale factor, part fast and part slow (MIX: Y)
unfoldable pub step_size : ScaleState → ℤ
step_size s =
    let base = floor_div s.yl 64 in
    let dif = s.yu -ℤ base in
    let part = floor_div (pos (unsigned_abs dif) *ℤ limited_speed s.ap) 64 in
    if int_lt dif (pos 0) then base -ℤ part else base +ℤ part

-- ---- the quantiser, of the encoder alone ----

-- the sample less its estimate (SUBTA: D)
unfoldable pub difference : ℤ → ℤ → ℤ
difference sample estimate = word (sample -ℤ estimate)

-- the logarithm to the base 2 of a magnitude, times 128 (LOG: DL)
unfoldable pub logarithm : ℕ → ℕ
logarithm magnitude =
    let exponent = if nat_le magnitude 1 then 0 else binary_length magnitude - 1 in
    128 * exponent + 128 * magnitude / 2 ^ exponent % 128

-- that logarithm of a difference, less the scale factor's (SUBTB: DLN)
unfoldable pub normalised : ℤ → ℤ → ℤ
normalised d y = pos (logarithm (unsigned_abs d % 32768)) -ℤ floor_div y 4

-- the number of thresholds that are not above it
unfoldable pub rank : Rate → ℤ → ℕ
rank rate dln = count_by (λ t. int_le t dln) (thresholds rate)

-- the code of a difference; the code 0 isn't sent, but at 16 kbit/s (QUAN: I)
unfoldable pub quantised : Rate → ℤ → ℤ → ℕ
quantised rate d y =
    let last = 2 ^ bits_of rate - 1 in
    let i = rank rate (normalised d y) in
    if int_lt d (pos 0) then last - i else if (i == 0) && nat_lt 2 (bits_of rate) then last else i

-- ---- the inverse quantiser and the reconstruction ----

-- the sign of a code, its top bit (RECONST: DQS)
unfoldable pub is_negative_code : Rate → ℕ → Bool
is_negative_code rate code = nat_le (2 ^ (bits_of rate - 1)) code

-- the place of a code in the tables of its rate
unfoldable pub level_of : Rate → ℕ → ℕ
level_of rate code = if is_negative_code rate code then 2 ^ bits_of rate - 1 - code else code

-- what the tables have for a code (RECONST: DQLN; FUNCTW: W; FUNCTF: F)
unfoldable pub log_level : Rate → ℕ → ℤ
log_level rate code = slice_index_or (log_levels rate) (level_of rate code) (pos 0)

unfoldable pub scale_step : Rate → ℕ → ℤ
scale_step rate code = slice_index_or (scale_steps rate) (level_of rate code) (pos 0)

unfoldable pub speed_step : Rate → ℕ → ℕ
speed_step rate code = slice_index_or (speed_steps rate) (level_of rate code) 0

-- two to the power of a 128th of the logarithm, which is 0 below 1 (ADDA: DQL; ANTILOG: the magnitude of DQ)
unfoldable pub power : ℤ → ℕ
power (pos dql) = (128 + dql % 128) * 2 ^ (dql / 128) / 128
power (negsuc _) = 0

unfoldable pub magnitude : ℤ → ℤ → ℕ
magnitude dqln y = power (dqln +ℤ floor_div y 4)

-- the reconstructed signal (ADDB: SR)
unfoldable pub reconstructed : PredictorState → Bool → ℕ → ℤ
reconstructed p negative g = word (signal_estimate p +ℤ signed negative g)

-- the partial estimate with the difference (ADDC: DQSEZ), whose sign is PK0
unfoldable pub partial_signal : PredictorState → Bool → ℕ → ℤ
partial_signal p negative g = word (partial_estimate p +ℤ signed negative g)

-- ---- the transition detector ----

-- a large difference while the tone's mark is set (TRANS: TR)
unfoldable pub transition_threshold : ℤ → ℤ
transition_threshold yl =
    let whole = unsigned_abs yl / 32768 in
    let part = unsigned_abs yl / 1024 % 32 in
    let threshold = if nat_lt 9 whole then 31744 else (32 + part) * 2 ^ whole in
    pos ((threshold + threshold / 2) / 2)

unfoldable pub transition : ScaleState → Bool → ℕ → Bool
transition s td g = td && int_lt (transition_threshold s.yl) (pos g)

-- ---- the scale factor's adaptation ----

-- the fast factor (FILTD: YUT; LIMB: YUP)
unfoldable pub fast_factor : ℤ → ℤ → ℤ
fast_factor w y = limited (pos 544) (pos 5120) (y +ℤ floor_div (pos 32 *ℤ w -ℤ y) 32)

-- the slow factor (FILTE: YLP)
unfoldable pub slow_factor : ℤ → ℤ → ℤ
slow_factor yl fast = yl +ℤ fast +ℤ floor_div (neg_ℤ yl) 64

-- ---- the predictor's adaptation ----

-- the step of the second pole (UPA2: UGA2)
unfoldable pub second_pole_step : ℤ → Bool → Bool → ℤ → ℤ
second_pole_step a1 pk1 pk2 dqsez =
    let pk0 = int_lt dqsez (pos 0) in
    let fa = floor_div (limited (negsuc 8190) (pos 8191) (if differ pk0 pk1 then a1 else neg_ℤ a1)) 32 in
    if unsigned_abs dqsez == 0 then pos 0 else if differ pk0 pk2 then fa -ℤ pos 128 else fa +ℤ pos 128

-- the second pole (UPA2: A2T; LIMC: A2P)
unfoldable pub second_pole : ℤ → ℤ → Bool → Bool → ℤ → ℤ
second_pole a1 a2 pk1 pk2 dqsez =
    limited (negsuc 12287) (pos 12288) (a2 -ℤ floor_div a2 128 +ℤ second_pole_step a1 pk1 pk2 dqsez)

-- the step of the first pole (UPA1: UGA1)
unfoldable pub first_pole_step : Bool → ℤ → ℤ
first_pole_step pk1 dqsez =
    if unsigned_abs dqsez == 0 then pos 0 else if differ (int_lt dqsez (pos 0)) pk1 then negsuc 191 else pos 192

-- the first pole, within what the second one leaves (UPA1: A1T; LIMD: A1P)
unfoldable pub first_pole : ℤ → Bool → ℤ → ℤ → ℤ
first_pole a1 pk1 a2p dqsez =
    let bound = pos 15360 -ℤ a2p in
    limited (neg_ℤ bound) bound (a1 -ℤ floor_div a1 256 +ℤ first_pole_step pk1 dqsez)

-- whether the second pole stands as for a tone (TONE: TDP)
unfoldable pub is_tone : ℤ → Bool
is_tone a2p = int_lt a2p (negsuc 11775)

-- the leak of the zeros (UPB: a 256th, at 40 kbit/s a 512th)
unfoldable pub leak : Rate → ℕ
leak R16 = 256
leak R24 = 256
leak R32 = 256
leak R40 = 512

-- the step of a zero, by the signs of the new difference and its own (XOR: U; UPB: UGB)
unfoldable pub zero_step : Bool → ℕ → ShortFloat → ℤ
zero_step negative g dq = if g == 0 then pos 0 else if differ negative dq.neg then negsuc 127 else pos 128

-- a zero (UPB: BP)
unfoldable pub next_zero : Rate → Bool → ℕ → ℤ → ShortFloat → ℤ
next_zero rate negative g b dq = word (b -ℤ floor_div b (leak rate) +ℤ zero_step negative g dq)

-- a coefficient, which a transition clears (TRIGB)
unfoldable pub unless_cleared : Bool → ℤ → ℤ
unless_cleared tr c = if tr then pos 0 else c

-- the second pole after a step, before a transition clears it
unfoldable pub pole_after : PredictorState → Bool → ℕ → ℤ
pole_after p negative g = second_pole p.a1 p.a2 p.pk1 p.pk2 (partial_signal p negative g)

-- whether the step found a tone, which the speed is told
unfoldable pub tone_after : PredictorState → Bool → ℕ → Bool
tone_after p negative g = is_tone (pole_after p negative g)

-- the predictor after a step (ADDB, ADDC, UPA1, UPA2, UPB, LIMC, LIMD, TONE, TRIGB, FLOATA, FLOATB, DELAY)
unfoldable pub predictor_after : Rate → PredictorState → Bool → ℕ → Bool → PredictorState
predictor_after rate p negative g tr =
    let dqsez = partial_signal p negative g in
    let sr = reconstructed p negative g in
    let a2p = pole_after p negative g in
    record {
      a1 = unless_cleared tr (first_pole p.a1 p.pk1 a2p dqsez);
      a2 = unless_cleared tr a2p;
      b1 = unless_cleared tr (next_zero rate negative g p.b1 p.dq1);
      b2 = unless_cleared tr (next_zero rate negative g p.b2 p.dq2);
      b3 = unless_cleared tr (next_zero rate negative g p.b3 p.dq3);
      b4 = unless_cleared tr (next_zero rate negative g p.b4 p.dq4);
      b5 = unless_cleared tr (next_zero rate negative g p.b5 p.dq5);
      b6 = unless_cleared tr (next_zero rate negative g p.b6 p.dq6);
      sr1 = float_of (int_lt sr (pos 0)) (unsigned_abs sr % 32768);
      sr2 = p.sr1;
      dq1 = float_of negative g;
      dq2 = p.dq1;
      dq3 = p.dq2;
      dq4 = p.dq3;
      dq5 = p.dq4;
      dq6 = p.dq5;
      pk1 = int_lt dqsez (pos 0);
      pk2 = p.pk1;
      td = not tr && is_tone a2p;
    }

-- ---- the speed's adaptation ----

-- the short and the long mean of the codes' speed (FILTA: DMSP; FILTB: DMLP)
unfoldable pub short_mean : ℤ → ℕ → ℤ
short_mean dms f = dms +ℤ floor_div (pos (512 * f) -ℤ dms) 32

unfoldable pub long_mean : ℤ → ℕ → ℤ
long_mean dml f = dml +ℤ floor_div (pos (2048 * f) -ℤ dml) 128

-- whether the speed is to rise (SUBTC: AX)
unfoldable pub is_rising : ℤ → ℤ → ℤ → Bool → Bool
is_rising y short long tone =
    not
    (int_le (pos 1536) y && int_lt (pos (unsigned_abs (pos 4 *ℤ short -ℤ long))) (floor_div long 8) && not tone)

-- the speed (FILTC: APP; TRIGA: APR)
unfoldable pub next_speed : ℤ → Bool → Bool → ℤ
next_speed ap rising tr =
    if tr then pos 256 else ap +ℤ floor_div ((if rising then pos 512 else pos 0) -ℤ ap) 16

-- the scale after a step (FUNCTW to FILTE, FUNCTF to TRIGA, DELAY)
unfoldable pub scale_after : ScaleState → ℤ → ℕ → Bool → Bool → ScaleState
scale_after s w f tone tr =
    let y = step_size s in
    let fast = fast_factor w y in
    let short = short_mean s.dms f in
    let long = long_mean s.dml f in
    record {
      yu = fast;
      yl = slow_factor s.yl fast;
      ap = next_speed s.ap (is_rising y short long tone) tr;
      dms = short;
      dml = long;
    }

-- ---- the whole step ----

-- the code of a sample in a state
unfoldable pub code_of : Rate → CodecState → ℤ → ℕ
code_of rate s sample =
    quantised rate (difference sample (signal_estimate s.predictor)) (step_size s.scale)

-- the difference's magnitude that a code stands for in a state
unfoldable pub coded_magnitude : Rate → CodecState → ℕ → ℕ
coded_magnitude rate s code = magnitude (log_level rate code) (step_size s.scale)

-- the state after a code, the same in the encoder and in the decoder
unfoldable pub state_after : Rate → CodecState → ℕ → CodecState
state_after rate s code =
    let negative = is_negative_code rate code in
    let g = coded_magnitude rate s code in
    let tr = transition s.scale s.predictor.td g in
    record {
      predictor = predictor_after rate s.predictor negative g tr;
      scale = scale_after s.scale (scale_step rate code) (speed_step rate code) (tone_after s.predictor negative g) tr;
    }

-- the sample that a decoder gives for a code, limited to 14 bits
unfoldable pub sample_of : Rate → CodecState → ℕ → ℤ
sample_of rate s code =
    limited (negsuc 8191) (pos 8191)
    (reconstructed s.predictor (is_negative_code rate code) (coded_magnitude rate s code))
