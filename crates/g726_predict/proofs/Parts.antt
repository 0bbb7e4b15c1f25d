-- The predictor after a step, put together from its parts.
use Rattle.std.proofs.Common.{◌≡◌, ◌∙◌, ap, ℕ, ℤ, pos, negsuc, neg_ℤ, ◌≤ℤ◌, ◌<ℤ◌, ◌+ℤ◌, ◌%◌, ◌==◌, int_lt, unsigned_abs}
use Rattle.std.proofs.Common.{min, Bool, true, false, not, ◌&&◌, if◌then◌else◌, refl, arith}
use Rattle.std.proofs.lemmas.Int.{ints}
use Rattle.g726_bits.specs.declared.Rate.{Rate}
use Rattle.g726_bits.specs.Numbers.{word, signed, limited}
use Rattle.g726_bits.proofs.ScaleRanges.{limited_within}
use Rattle.g726_bits.specs.Floats.{ShortFloat, float_of, differ}
use Rattle.g726_bits.specs.Ranges.{Within}
use Rattle.g726_bits.specs.Step.{signal_estimate, partial_estimate, reconstructed, partial_signal, second_pole}
use Rattle.g726_bits.specs.Step.{first_pole_step, first_pole, is_tone, zero_step, next_zero, unless_cleared, pole_after}
use Rattle.g726_bits.specs.Step.{predictor_after}
use Rattle.g726_predict.specs.declared.Poles.{Poles}
use Rattle.g726_predict.specs.declared.Zeros.{Zeros}
use Rattle.g726_predict.specs.declared.Past.{Past}
use Rattle.g726_predict.specs.declared.Predictor.TheInside.{Inside}
use Rattle.g726_predict.specs.Shown.{shown}

-- what `adapt` works out from a predictor, a sign and a magnitude
pub record Worked (p : Inside) (neg : Bool) (g : ℕ) (se sez dq sr dqsez a2p : ℤ) : Type 0 where
  pub se_is : se ≡ signal_estimate (shown p)
  pub sez_is : sez ≡ partial_estimate (shown p)
  pub dq_is : dq ≡ signed neg g
  pub sr_is : sr ≡ word (se +ℤ dq)
  pub dqsez_is : dqsez ≡ word (sez +ℤ dq)
  pub a2p_is : a2p ≡ second_pole p.poles.a1 p.poles.a2 p.poles.pk1 p.poles.pk2 dqsez

pub sr-reconstructed : (p : Inside) (neg : Bool) (g : ℕ) (se sez dq sr dqsez a2p : ℤ) → Worked p neg g se sez dq sr dqsez a2p → sr ≡ reconstructed (shown p) neg g
unfolding reconstructed
sr-reconstructed p neg g se sez dq sr dqsez a2p w = rw (w.sr_is, w.se_is, w.dq_is) refl

pub dqsez-partial : (p : Inside) (neg : Bool) (g : ℕ) (se sez dq sr dqsez a2p : ℤ) → Worked p neg g se sez dq sr dqsez a2p → dqsez ≡ partial_signal (shown p) neg g
unfolding partial_signal
dqsez-partial p neg g se sez dq sr dqsez a2p w = rw (w.dqsez_is, w.sez_is, w.dq_is) refl

pub a2p-pole : (p : Inside) (neg : Bool) (g : ℕ) (se sez dq sr dqsez a2p : ℤ) → Worked p neg g se sez dq sr dqsez a2p → a2p ≡ pole_after (shown p) neg g
unfolding pole_after
a2p-pole p neg g se sez dq sr dqsez a2p w =
    rw (w.a2p_is, dqsez-partial p neg g se sez dq sr dqsez a2p w) refl

-- the record of the parts
pub put_together : (rate : Rate) (p : Inside) (neg : Bool) (g : ℕ) (tr : Bool) (sr dqsez a2p : ℤ) (poles : Poles) (zeros : Zeros) (past : Past) →
    sr ≡ reconstructed (shown p) neg g → dqsez ≡ partial_signal (shown p) neg g → a2p ≡ pole_after (shown p) neg g →
    poles ≡ record {
      a1 = unless_cleared tr (first_pole p.poles.a1 p.poles.pk1 a2p dqsez);
      a2 = unless_cleared tr a2p;
      sr1 = float_of (int_lt sr (pos 0)) (unsigned_abs sr % 32768);
      sr2 = p.poles.sr1;
      pk1 = int_lt dqsez (pos 0);
      pk2 = p.poles.pk1;
      td = not tr && is_tone a2p;
    } →
    zeros ≡ record {
      b1 = unless_cleared tr (next_zero rate neg g p.zeros.b1 p.past.dq1);
      b2 = unless_cleared tr (next_zero rate neg g p.zeros.b2 p.past.dq2);
      b3 = unless_cleared tr (next_zero rate neg g p.zeros.b3 p.past.dq3);
      b4 = unless_cleared tr (next_zero rate neg g p.zeros.b4 p.past.dq4);
      b5 = unless_cleared tr (next_zero rate neg g p.zeros.b5 p.past.dq5);
      b6 = unless_cleared tr (next_zero rate neg g p.zeros.b6 p.past.dq6);
    } →
    past ≡ record { dq1 = float_of neg g; dq2 = p.past.dq1; dq3 = p.past.dq2; dq4 = p.past.dq3; dq5 = p.past.dq4; dq6 = p.past.dq5 } →
    shown (record { poles = poles; zeros = zeros; past = past }) ≡ predictor_after rate (shown p) neg g tr
unfolding predictor_after
put_together rate p neg g tr sr dqsez a2p poles zeros past e1 e2 e3 e4 e5 e6 = rw (e4, e5, e6, e1, e2, e3) refl

-- the step of a zero is its length with a sign
pub zero_step_is : (negative : Bool) (g : ℕ) (dq : ShortFloat) → signed (differ negative dq.neg) (if g == 0 then 0 else 128) ≡ zero_step negative g dq
unfolding zero_step signed
zero_step_is negative g dq = by (g == 0) (differ negative dq.neg)
  where
    by : (none turned : Bool) → (if turned then neg_ℤ (pos (if none then 0 else 128)) else pos (if none then 0 else 128)) ≡ (if none then pos 0 else if turned then negsuc 127 else pos 128)
    by true true = refl
    by true false = refl
    by false true = refl
    by false false = refl

pub step_within : (turned : Bool) (g : ℕ) → Within (negsuc 127) (pos 128) (signed turned (if g == 0 then 0 else 128))
unfolding signed
step_within turned g = by (g == 0) turned
  where
    by : (none turned : Bool) → Within (negsuc 127) (pos 128) (if turned then neg_ℤ (pos (if none then 0 else 128)) else pos (if none then 0 else 128))
    by true true = record { at_least = omega (arith, ints); at_most = omega (arith, ints) }
    by true false = record { at_least = omega (arith, ints); at_most = omega (arith, ints) }
    by false true = record { at_least = omega (arith, ints); at_most = omega (arith, ints) }
    by false false = record { at_least = omega (arith, ints); at_most = omega (arith, ints) }

-- what is limited is the bound that it is past, or itself
limited_is : (low high z r : ℤ) → (z <ℤ low → r ≡ low) → (high <ℤ z → r ≡ high) → (low ≤ℤ z → z ≤ℤ high → r ≡ z) → low ≤ℤ high → r ≡ limited low high z
unfolding limited
limited_is low high z r below above inside h = by (int_lt z low) (int_lt high z) refl refl
  where
    by : (s t : Bool) → int_lt z low ≡ s → int_lt high z ≡ t → r ≡ (if s then low else if t then high else z)
    by true t d e = below (omega (arith, ints))
    by false true d e = above (omega (arith, ints))
    by false false d e = inside (omega (arith, ints)) (omega (arith, ints))

limited_signed : (turned : Bool) (n : ℕ) → signed turned (min n 8191) ≡ limited (negsuc 8190) (pos 8191) (signed turned n)
unfolding signed
limited_signed true n =
    limited_is (negsuc 8190) (pos 8191) (neg_ℤ (pos n)) (neg_ℤ (pos (min n 8191))) (λ h. omega (arith, ints)) (λ h. omega (arith, ints)) (λ h k. omega (arith, ints)) (omega (arith, ints))
limited_signed false n =
    limited_is (negsuc 8190) (pos 8191) (pos n) (pos (min n 8191)) (λ h. omega (arith, ints)) (λ h. omega (arith, ints)) (λ h k. omega (arith, ints)) (omega (arith, ints))

-- a number is its magnitude with its sign
not_below : (n : ℕ) → int_lt (pos n) (pos 0) ≡ false
not_below n = by (int_lt (pos n) (pos 0)) refl
  where
    by : (t : Bool) → int_lt (pos n) (pos 0) ≡ t → t ≡ false
    by true e = absurd (omega (arith, ints))
    by false e = refl

turned_sign : (kept : Bool) (v : ℤ) → signed (differ (int_lt v (pos 0)) (not kept)) (unsigned_abs v) ≡ (if kept then v else neg_ℤ v)
unfolding signed differ
turned_sign true (pos n) = rw (not_below n) refl
turned_sign true (negsuc n) = refl
turned_sign false (pos n) = rw (not_below n) refl
turned_sign false (negsuc n) = refl

pub turned_is : (kept : Bool) (v : ℤ) → signed (differ (int_lt v (pos 0)) (not kept)) (min (unsigned_abs v) 8191) ≡ limited (negsuc 8190) (pos 8191) (if kept then v else neg_ℤ v)
turned_is kept v =
    limited_signed (differ (int_lt v (pos 0)) (not kept)) (unsigned_abs v) ∙ ap (limited (negsuc 8190) (pos 8191)) (turned_sign kept v)

pub turned_within : (turned : Bool) (n : ℕ) → Within (negsuc 8190) (pos 8191) (signed turned (min n 8191))
turned_within turned n = rw (limited_signed turned n) (limited_within (negsuc 8190) (pos 8191) (signed turned n) (omega (arith, ints)))

-- the step of the first pole is its length with a sign
pub first_step_is : (pk1 : Bool) (dqsez : ℤ) → signed (differ (int_lt dqsez (pos 0)) pk1) (if unsigned_abs dqsez == 0 then 0 else 192) ≡ first_pole_step pk1 dqsez
unfolding first_pole_step signed
first_step_is pk1 dqsez = by (unsigned_abs dqsez == 0) (differ (int_lt dqsez (pos 0)) pk1)
  where
    by : (none turned : Bool) → (if turned then neg_ℤ (pos (if none then 0 else 192)) else pos (if none then 0 else 192)) ≡ (if none then pos 0 else if turned then negsuc 191 else pos 192)
    by true true = refl
    by true false = refl
    by false true = refl
    by false false = refl

pub first_step_within : (turned : Bool) (m : ℕ) → Within (negsuc 191) (pos 192) (signed turned (if m == 0 then 0 else 192))
unfolding signed
first_step_within turned m = by (m == 0) turned
  where
    by : (none turned : Bool) → Within (negsuc 191) (pos 192) (if turned then neg_ℤ (pos (if none then 0 else 192)) else pos (if none then 0 else 192))
    by true true = record { at_least = omega (arith, ints); at_most = omega (arith, ints) }
    by true false = record { at_least = omega (arith, ints); at_most = omega (arith, ints) }
    by false true = record { at_least = omega (arith, ints); at_most = omega (arith, ints) }
    by false false = record { at_least = omega (arith, ints); at_most = omega (arith, ints) }
