-- The step of the codec, put together from its parts.
use Rattle.std.proofs.Common.{◌≡◌, ℕ, ℤ, pos, Bool, List, [], ◌∷◌, ◌++◌, length, take, get_or, slice_set, ◌+◌, ◌<◌, refl, sym, ◌∙◌, ap, arith}
use Rattle.std.proofs.lemmas.List.{take_all, take_more_set, length-set}
use Rattle.g726_bits.specs.declared.Rate.{Rate}
use Rattle.g726_bits.specs.State.{PredictorState, ScaleState, CodecState}
use Rattle.g726_bits.specs.Step.{step_size, difference, signal_estimate, quantised, is_negative_code, log_level, scale_step, speed_step, magnitude, transition, predictor_after, tone_after, scale_after, code_of, coded_magnitude, state_after}
use Rattle.g726_bits.specs.Encoder.{stepped, codes_of, after_samples}
use Rattle.g726_bits.proofs.Runs.{after-push, codes-push}
use Rattle.g726_predict.specs.Rows.{OnFrame}
use Rattle.g726_codec.specs.Joined.{joined}

-- what a code leads to, part by part
pub record Follows (rate : Rate) (s : CodecState) (code : ℕ) (neg : Bool) (dqln w : ℤ) (f g y : ℕ) (td tr tone : Bool) (next : PredictorState) (scale : ScaleState) : Type 0 where
  pub neg_is : neg ≡ is_negative_code rate code
  pub dqln_is : dqln ≡ log_level rate code
  pub w_is : w ≡ scale_step rate code
  pub f_is : f ≡ speed_step rate code
  pub y_is : pos y ≡ step_size s.scale
  pub g_is : g ≡ magnitude dqln (pos y)
  pub td_is : td ≡ s.predictor.td
  pub tr_is : tr ≡ transition s.scale td g
  pub next_is : next ≡ predictor_after rate s.predictor neg g tr
  pub tone_is : tone ≡ tone_after s.predictor neg g
  pub scale_is : scale ≡ scale_after s.scale w f tone tr

pub follows : (rate : Rate) (s : CodecState) (code : ℕ) (neg : Bool) (dqln w : ℤ) (f g y : ℕ) (td tr tone : Bool) (next : PredictorState) (scale : ScaleState) →
    Follows rate s code neg dqln w f g y td tr tone next scale → (let after : CodecState = record { predictor = next; scale = scale } in after ≡ state_after rate s code)
unfolding state_after coded_magnitude
follows rate s code neg dqln w f g y td tr tone next scale is =
    rw (is.next_is, is.scale_is, is.tone_is, is.tr_is, is.td_is, is.g_is, is.y_is, is.w_is, is.f_is, is.dqln_is, is.neg_is) refl

-- the code of a sample, from its parts
pub code_from : (rate : Rate) (s : CodecState) (sample se d : ℤ) (y code : ℕ) →
    se ≡ signal_estimate s.predictor → pos y ≡ step_size s.scale → d ≡ difference sample se → code ≡ quantised rate d (pos y) → code ≡ code_of rate s sample
unfolding code_of
code_from rate s sample se d y code e f g h = rw (h, g, e, f) refl

-- ---- the state on its way through a frame
-- as it begins
pub joined_from : (p : OnFrame) (predictor : PredictorState) (scale : ScaleState) (s : CodecState) →
    p.state ≡ predictor → (let whole : CodecState = record { predictor = predictor; scale = scale } in whole ≡ s) → joined p scale ≡ s
joined_from p predictor scale s e is = rw e is

-- and as it ends
pub joined_is : (p : OnFrame) (predictor : PredictorState) (scale : ScaleState) (s : CodecState) →
    predictor ≡ p.state → joined p scale ≡ s → (let whole : CodecState = record { predictor = predictor; scale = scale } in whole ≡ s)
joined_is p predictor scale s e is = rw e is

-- ---- a run over a frame
-- after i samples: the state, and the codes of these
pub record Ran (rate : Rate) (before : CodecState) (samples : List ℤ) (i : ℕ) (state : CodecState) (codes : List ℕ) : Type 0 where
  pub state_is : state ≡ after_samples rate before (take i samples)
  pub codes_are : take i codes ≡ codes_of rate before (take i samples)
  pub long : length codes ≡ 160

pub none_ran : (rate : Rate) (before state : CodecState) (samples : List ℤ) (codes : List ℕ) → state ≡ before → length codes ≡ 160 → Ran rate before samples 0 state codes
unfolding after_samples codes_of
none_ran rate before state samples codes e long = record { state_is = e; codes_are = refl; long = long }

pub ran_on : (rate : Rate) (before : CodecState) (samples : List ℤ) (i : ℕ) (state next : CodecState) (codes : List ℕ) (code : ℕ) → Ran rate before samples i state codes →
    i < length samples → i < 160 → code ≡ code_of rate state (get_or samples i (pos 0)) → next ≡ stepped rate state (get_or samples i (pos 0)) →
    Ran rate before samples (i + 1) next (slice_set codes i code)
ran_on rate before samples i state next codes code is h in_frame e f =
    let x = get_or samples i (pos 0) in
    record {
      state_is = f ∙ (ap (λ s. stepped rate s x) is.state_is ∙ sym (after-push rate before samples i h));
      codes_are =
          take_more_set codes i code (omega (arith, is.long)) ∙
          (ap (λ cs. cs ++ code ∷ []) is.codes_are ∙
          (ap (λ c. codes_of rate before (take i samples) ++ c ∷ []) (e ∙ ap (λ s. code_of rate s x) is.state_is) ∙
          sym (codes-push rate before samples i h)));
      long = length-set codes i code ∙ is.long;
    }

pub all_ran : (rate : Rate) (before : CodecState) (samples : List ℤ) (state : CodecState) (codes : List ℕ) → Ran rate before samples 160 state codes → length samples ≡ 160 →
    (state ≡ after_samples rate before samples) × (codes ≡ codes_of rate before samples)
all_ran rate before samples state codes is e =
    let all : take 160 samples ≡ samples = take_all 160 samples (omega arith) in (
      is.state_is ∙ ap (after_samples rate before) all,
      sym (take_all 160 codes (omega (arith, is.long))) ∙ (is.codes_are ∙ ap (codes_of rate before) all),
    )
