-- The sample is the reconstructed signal, limited.
use Rattle.std.proofs.Common.{◌≡◌, ◌∙◌, ℕ, ℤ, Bool, pos, negsuc, ◌+ℤ◌, refl, w16, rules}
use Rattle.std.proofs.lemmas.Int.{to_z-of_z}
use mir.Val.{SFits}
use Rattle.g726_bits.specs.declared.Rate.{Rate}
use Rattle.g726_bits.specs.State.{CodecState}
use Rattle.g726_bits.specs.Numbers.{word, limited, signed}
use Rattle.g726_bits.specs.Step.{signal_estimate, is_negative_code, coded_magnitude, reconstructed, sample_of}
use Rattle.g726_codec.specs.Joined.{joined}
use Rattle.g726_codec.proofs.decoder.follow_step.Goals as goal

-- the sample, from its parts
sample_from : (rate : Rate) (s : CodecState) (code : ℕ) (neg : Bool) (g : ℕ) (se difference signal sample : ℤ) →
    se ≡ signal_estimate s.predictor → neg ≡ is_negative_code rate code → g ≡ coded_magnitude rate s code →
    difference ≡ signed neg g → signal ≡ word (se +ℤ difference) → sample ≡ limited (negsuc 8191) (pos 8191) signal →
    sample ≡ sample_of rate s code
unfolding sample_of reconstructed
sample_from rate s code neg g se difference signal sample se_is neg_is g_is difference_is signal_is sample_is =
    rw (sample_is, signal_is, difference_is, g_is, neg_is, se_is) refl

pub returns-clause-sample : goal.returns-clause-sample
returns-clause-sample c =
    let f1 : SFits w16 c.estimate-est.result.se = search rules in
    let f2 : SFits w16 c.with_sign.result = search rules in
    let f3 : SFits w16 c.signal_of.result = search rules in
    let f4 : SFits w16 c.limit.result = search rules in
    let signal_is = simp to_z-of_z at c.signal_of.ensures in
    let limit_is = simp to_z-of_z at c.limit.ensures.value in
    to_z-of_z w16 c.limit.result f4 ∙
    sample_from c.args.rate (joined c.args.predictor.now c.args.scale.now) c.args.code c.levels-level.result.neg c.move_on-g.result
    c.estimate-est.result.se c.with_sign.result c.signal_of.result c.limit.result
    c.estimate-est.ensures.se c.levels-level.ensures.neg c.move_on-g.ensures.g c.with_sign.ensures signal_is limit_is
