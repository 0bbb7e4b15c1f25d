-- The five parts that the code works out make the definition's next scale.
use Rattle.std.proofs.Common.{◌≡◌, ℕ, ℤ, Bool, refl}
use Rattle.g726_bits.specs.State.{ScaleState}
use Rattle.g726_bits.specs.Step.{step_size, fast_factor, slow_factor, short_mean, long_mean, is_rising, next_speed, scale_after}

abbrev built : ℤ → ℤ → ℤ → ℤ → ℤ → ScaleState
built fast slow speed short long = record { yu = fast; yl = slow; ap = speed; dms = short; dml = long }

pub put_together : (s : ScaleState) (w : ℤ) (f : ℕ) (tone tr rising : Bool) (y fast slow speed short long : ℤ) → y ≡ step_size s → fast ≡ fast_factor w y → short ≡ short_mean s.dms f → long ≡ long_mean s.dml f → rising ≡ is_rising y short long tone → slow ≡ slow_factor s.yl fast → speed ≡ next_speed s.ap rising tr →
    built fast slow speed short long ≡ scale_after s w f tone tr
unfolding scale_after
put_together s w f tone tr rising y fast slow speed short long e1 e2 e3 e4 e5 e6 e7 = rw (e7, e6, e5, e4, e3, e2, e1) refl
