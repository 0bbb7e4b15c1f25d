-- The equality of triples tells them apart.
use Rattle.std.proofs.Common.{◌≡◌, Bool, true, false, ◌&&◌, refl, sym, ap, Decides, ℤ, List}
use Rattle.std.specs.Bool.{beq}
use Rattle.std.proofs.lemmas.Bool.{false≢true}
use Rattle.std.proofs.lemmas.Bool.Decides.{Decides-and, Decides-eqb, Decides-like, Decides-int_eq}
use Rattle.std.proofs.lemmas.Slice.Eq.{slice_eq-Decides}
use Rattle.g726_bits.specs.declared.Rate.{Rate}
use Rattle.g726_bits.specs.declared.Rate.TheVariants.{R16, R24, R32, R40}
use Rattle.g726_bits.specs.contracts.RatePartialEq.TheImpl as rate_eq
use Rattle.g726_bits.specs.contracts.FramePartialEq.TheImpl as frame_eq
use Rattle.g726_bits.specs.State.{CodecState, PredictorState, ScaleState}
use Rattle.g726_bits.specs.Floats.{ShortFloat}
use Rattle.g726_bits.specs.contracts.Float11PartialEq.TheImpl as float_eq
use Rattle.g726_predict.specs.contracts.PredictorPartialEq.TheImpl as predictor_eq
use Rattle.g726_scale.specs.contracts.ScalePartialEq.TheImpl as scale_eq
use Rattle.g726_codec.specs.contracts.state.EncStatePartialEq.TheImpl as state_eq
use Rattle.g726_codec.specs.declared.Triple.{Triple}
use Rattle.conference_spec.specs.Codec.{is_same_triple, g726}
use Rattle.conference_spec.specs.Coding.{Tells}

pub rate-decides : (a b : Rate) → Decides ((rate_eq.ghosts).eq a b) (a ≡ b)
rate-decides R16 R16 = ((λ e. refl), (λ e. refl))
rate-decides R16 R24 = ((λ e. absurd (false≢true e)), (λ e. cc))
rate-decides R16 R32 = ((λ e. absurd (false≢true e)), (λ e. cc))
rate-decides R16 R40 = ((λ e. absurd (false≢true e)), (λ e. cc))
rate-decides R24 R16 = ((λ e. absurd (false≢true e)), (λ e. cc))
rate-decides R24 R24 = ((λ e. refl), (λ e. refl))
rate-decides R24 R32 = ((λ e. absurd (false≢true e)), (λ e. cc))
rate-decides R24 R40 = ((λ e. absurd (false≢true e)), (λ e. cc))
rate-decides R32 R16 = ((λ e. absurd (false≢true e)), (λ e. cc))
rate-decides R32 R24 = ((λ e. absurd (false≢true e)), (λ e. cc))
rate-decides R32 R32 = ((λ e. refl), (λ e. refl))
rate-decides R32 R40 = ((λ e. absurd (false≢true e)), (λ e. cc))
rate-decides R40 R16 = ((λ e. absurd (false≢true e)), (λ e. cc))
rate-decides R40 R24 = ((λ e. absurd (false≢true e)), (λ e. cc))
rate-decides R40 R32 = ((λ e. absurd (false≢true e)), (λ e. cc))
rate-decides R40 R40 = ((λ e. refl), (λ e. refl))

pub frame-decides : (a b : List ℤ) → Decides ((frame_eq.ghosts).eq a b) (a ≡ b)
frame-decides a b = slice_eq-Decides Decides-int_eq a b ((frame_eq.ghosts).eq a b) refl

pub bool-decides : (a b : Bool) → Decides (beq a b) (a ≡ b)
bool-decides true true = ((λ e. refl), (λ e. refl))
bool-decides true false = ((λ e. absurd (false≢true e)), (λ e. absurd (false≢true (sym e))))
bool-decides false true = ((λ e. absurd (false≢true e)), (λ e. absurd (false≢true e)))
bool-decides false false = ((λ e. refl), (λ e. refl))

pub float-decides : (a b : ShortFloat) → Decides ((float_eq.ghosts).eq a b) (a ≡ b)
float-decides a b = Decides-like ((float_eq.ghosts).eq a b)
    (λ p. λ i. record { neg = p.0 i; exp = p.1.0 i; mant = p.1.1 i })
    (λ e. (ap (λ x. x.neg) e, (ap (λ x. x.exp) e, ap (λ x. x.mant) e)))
    (Decides-and _ _ (bool-decides a.neg b.neg) (Decides-and _ _ (Decides-eqb a.exp b.exp) (Decides-eqb a.mant b.mant)))

pub predictor-decides : (a b : PredictorState) → Decides ((predictor_eq.ghosts).eq a b) (a ≡ b)
predictor-decides a b = Decides-like ((predictor_eq.ghosts).eq a b)
    (λ p. λ i. record {
      a1 = p.0.0 i;
      a2 = p.0.1.0 i;
      sr1 = p.0.1.1.0 i;
      pk2 = p.0.1.1.1.0 i;
      sr2 = p.0.1.1.1.1.0 i;
      pk1 = p.0.1.1.1.1.1.0 i;
      td = p.0.1.1.1.1.1.1 i;
      b1 = p.1.0.0 i;
      b2 = p.1.0.1.0 i;
      b3 = p.1.0.1.1.0 i;
      b4 = p.1.0.1.1.1.0 i;
      b5 = p.1.0.1.1.1.1.0 i;
      b6 = p.1.0.1.1.1.1.1 i;
      dq1 = p.1.1.0 i;
      dq2 = p.1.1.1.0 i;
      dq3 = p.1.1.1.1.0 i;
      dq4 = p.1.1.1.1.1.0 i;
      dq5 = p.1.1.1.1.1.1.0 i;
      dq6 = p.1.1.1.1.1.1.1 i;
    })
    (λ e. (
      (ap (λ x. x.a1) e, (ap (λ x. x.a2) e, (ap (λ x. x.sr1) e, (ap (λ x. x.pk2) e, (ap (λ x. x.sr2) e, (ap (λ x. x.pk1) e, ap (λ x. x.td) e)))))),
      (
        (ap (λ x. x.b1) e, (ap (λ x. x.b2) e, (ap (λ x. x.b3) e, (ap (λ x. x.b4) e, (ap (λ x. x.b5) e, ap (λ x. x.b6) e))))),
        (ap (λ x. x.dq1) e, (ap (λ x. x.dq2) e, (ap (λ x. x.dq3) e, (ap (λ x. x.dq4) e, (ap (λ x. x.dq5) e, ap (λ x. x.dq6) e))))),
      ),
    ))
    (Decides-and _ _
    (Decides-and _ _ (Decides-int_eq a.a1 b.a1) (Decides-and _ _ (Decides-int_eq a.a2 b.a2) (Decides-and _ _ (float-decides a.sr1 b.sr1) (Decides-and _ _ (bool-decides a.pk2 b.pk2) (Decides-and _ _ (float-decides a.sr2 b.sr2) (Decides-and _ _ (bool-decides a.pk1 b.pk1) (bool-decides a.td b.td)))))))
    (Decides-and _ _
    (Decides-and _ _ (Decides-int_eq a.b1 b.b1) (Decides-and _ _ (Decides-int_eq a.b2 b.b2) (Decides-and _ _ (Decides-int_eq a.b3 b.b3) (Decides-and _ _ (Decides-int_eq a.b4 b.b4) (Decides-and _ _ (Decides-int_eq a.b5 b.b5) (Decides-int_eq a.b6 b.b6))))))
    (Decides-and _ _ (float-decides a.dq1 b.dq1) (Decides-and _ _ (float-decides a.dq2 b.dq2) (Decides-and _ _ (float-decides a.dq3 b.dq3) (Decides-and _ _ (float-decides a.dq4 b.dq4) (Decides-and _ _ (float-decides a.dq5 b.dq5) (float-decides a.dq6 b.dq6))))))))

pub scale-decides : (a b : ScaleState) → Decides ((scale_eq.ghosts).eq a b) (a ≡ b)
scale-decides a b = Decides-like ((scale_eq.ghosts).eq a b)
    (λ p. λ i. record { yu = p.0 i; yl = p.1.0 i; ap = p.1.1.0 i; dms = p.1.1.1.0 i; dml = p.1.1.1.1 i })
    (λ e. (ap (λ x. x.yu) e, (ap (λ x. x.yl) e, (ap (λ x. x.ap) e, (ap (λ x. x.dms) e, ap (λ x. x.dml) e)))))
    (Decides-and _ _ (Decides-int_eq a.yu b.yu) (Decides-and _ _ (Decides-int_eq a.yl b.yl) (Decides-and _ _ (Decides-int_eq a.ap b.ap) (Decides-and _ _ (Decides-int_eq a.dms b.dms) (Decides-int_eq a.dml b.dml)))))

pub state-decides : (a b : CodecState) → Decides ((state_eq.ghosts).eq a b) (a ≡ b)
state-decides a b = Decides-like ((state_eq.ghosts).eq a b)
    (λ p. λ i. record { predictor = p.0 i; scale = p.1 i })
    (λ e. (ap (λ x. x.predictor) e, ap (λ x. x.scale) e))
    (Decides-and _ _ (predictor-decides a.predictor b.predictor) (scale-decides a.scale b.scale))

-- equal triples are one
pub triple-decides : (a b : Triple) → Decides (is_same_triple a b) (a ≡ b)
triple-decides a b =
    Decides-like (is_same_triple a b)
    (λ p. λ i. record { rate = p.0 i; state = p.1.0 i; mix = p.1.1 i })
    (λ e. (ap (λ x. x.rate) e, (ap (λ x. x.state) e, ap (λ x. x.mix) e)))
    (Decides-and ((rate_eq.ghosts).eq a.rate b.rate) ((state_eq.ghosts).eq a.state b.state && (frame_eq.ghosts).eq a.mix b.mix) (rate-decides a.rate b.rate)
    (Decides-and ((state_eq.ghosts).eq a.state b.state) ((frame_eq.ghosts).eq a.mix b.mix) (state-decides a.state b.state) (frame-decides a.mix b.mix)))

pub g726-tells : Tells g726
unfolding g726
g726-tells a b = let d = triple-decides a b in (d.0, d.1)
