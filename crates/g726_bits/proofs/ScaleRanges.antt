-- The ranges of the scale's parts: what the definition gives never leaves them.
use Rattle.std.proofs.Common.{◌≡◌, ℕ, ℤ, pos, negsuc, ◌+ℤ◌, ◌-ℤ◌, ◌*ℤ◌, unsigned_abs, ◌≤ℤ◌, int_lt, int_le, ◌*◌, ◌/◌}
use Rattle.std.proofs.Common.{◌≤◌, Bool, true, false, if◌then◌else◌, refl, ap, arith}
use Rattle.std.proofs.Math.Nat.{mul-le-mul_left}
use Rattle.std.proofs.lemmas.Int.{ints}
use Rattle.g726_bits.specs.Numbers.{floor_div, limited}
use Rattle.g726_bits.specs.State.{ScaleState}
use Rattle.g726_bits.specs.Step.{limited_speed, step_size, fast_factor, slow_factor, short_mean, long_mean, next_speed, scale_after}
use Rattle.g726_bits.specs.Ranges.{Within, IsStepSize, IsInRange}
use Rattle.g726_bits.proofs.Floors.{floors}

pub limited_within : (low high z : ℤ) → low ≤ℤ high → Within low high (limited low high z)
unfolding limited
limited_within low high z h = by (int_lt z low) (int_lt high z) refl refl
  where
    by : (s t : Bool) → int_lt z low ≡ s → int_lt high z ≡ t → Within low high (if s then low else if t then high else z)
    by true t d e = record { at_least = omega (arith, ints); at_most = h }
    by false true d e = record { at_least = h; at_most = omega (arith, ints) }
    by false false d e = record { at_least = omega (arith, ints); at_most = omega (arith, ints) }

-- at most all of the gap between two factors
part_le : (gap k : ℕ) → k ≤ 64 → gap * k / 64 ≤ gap
part_le gap k h = omega (arith, mul-le-mul_left gap h)

between : (yu base : ℤ) (k : ℕ) → k ≤ 64 → IsStepSize yu → IsStepSize base →
    IsStepSize (let dif = yu -ℤ base in let part = floor_div (pos (unsigned_abs dif) *ℤ pos k) 64 in if int_lt dif (pos 0) then base -ℤ part else base +ℤ part)
between yu base k h u b = by (int_lt (yu -ℤ base) (pos 0)) refl
  where
    by : (t : Bool) → int_lt (yu -ℤ base) (pos 0) ≡ t → IsStepSize (let part = floor_div (pos (unsigned_abs (yu -ℤ base)) *ℤ pos k) 64 in if t then base -ℤ part else base +ℤ part)
    by true e = record { at_least = omega (arith, ints, part_le (unsigned_abs (yu -ℤ base)) k h, u, b); at_most = omega (arith, ints, u, b) }
    by false e = record { at_least = omega (arith, ints, u, b); at_most = omega (arith, ints, part_le (unsigned_abs (yu -ℤ base)) k h, u, b) }

-- the limited speed is a number of 64ths
speed_is : (ap : ℤ) → Within (pos 0) (pos 512) ap → (k : ℕ) × (k ≤ 64) × (limited_speed ap ≡ pos k)
unfolding limited_speed
speed_is (pos a) h = by (int_le (pos 256) (pos a)) refl
  where
    by : (t : Bool) → int_le (pos 256) (pos a) ≡ t → (k : ℕ) × (k ≤ 64) × ((if t then pos 64 else floor_div (pos a) 4) ≡ pos k)
    by true e = (64, omega arith, refl)
    by false e = let below : pos a ≤ℤ pos 255 = omega (arith, ints) in (a / 4, omega (arith, ints), refl)
speed_is (negsuc a) h = absurd (omega (arith, ints, h))

pub step_size_within : (s : ScaleState) → IsInRange s → IsStepSize (step_size s)
unfolding step_size
step_size_within s is =
    let base : IsStepSize (floor_div s.yl 64) = record { at_least = omega (arith, floors, is.slow); at_most = omega (arith, floors, is.slow) } in
    let (k, small, e) = speed_is s.ap is.speed in
    rw e (between s.yu (floor_div s.yl 64) k small is.fast base)

pub fast_factor_within : (w y : ℤ) → IsStepSize (fast_factor w y)
unfolding fast_factor
fast_factor_within w y = limited_within (pos 544) (pos 5120) (y +ℤ floor_div (pos 32 *ℤ w -ℤ y) 32) (omega (arith, ints))

pub slow_factor_within : (yl fast : ℤ) → Within (pos 34816) (pos 327680) yl → IsStepSize fast → Within (pos 34816) (pos 327680) (slow_factor yl fast)
unfolding slow_factor
slow_factor_within yl fast h f = record { at_least = omega (arith, floors, h, f); at_most = omega (arith, floors, h, f) }

pub short_mean_within : (dms : ℤ) (f : ℕ) → Within (pos 0) (pos 3584) dms → f ≤ 7 → Within (pos 0) (pos 3584) (short_mean dms f)
unfolding short_mean
short_mean_within dms f h few = record { at_least = omega (arith, floors, h); at_most = omega (arith, floors, h) }

pub long_mean_within : (dml : ℤ) (f : ℕ) → Within (pos 0) (pos 14336) dml → f ≤ 7 → Within (pos 0) (pos 14336) (long_mean dml f)
unfolding long_mean
long_mean_within dml f h few = record { at_least = omega (arith, floors, h); at_most = omega (arith, floors, h) }

toward_within : (ap : ℤ) (goal : ℕ) → goal ≤ 512 → Within (pos 0) (pos 512) ap → Within (pos 0) (pos 512) (ap +ℤ floor_div (pos goal -ℤ ap) 16)
toward_within ap goal few h = record { at_least = omega (arith, floors, h); at_most = omega (arith, floors, h) }

pub next_speed_within : (ap : ℤ) (rising tr : Bool) → Within (pos 0) (pos 512) ap → Within (pos 0) (pos 512) (next_speed ap rising tr)
unfolding next_speed
next_speed_within ap rising true h = record { at_least = omega (arith, ints); at_most = omega (arith, ints) }
next_speed_within ap true false h = toward_within ap 512 (omega arith) h
next_speed_within ap false false h = toward_within ap 0 (omega arith) h

pub scale_after_within : (s : ScaleState) (w : ℤ) (f : ℕ) (tone tr : Bool) → IsInRange s → f ≤ 7 → IsInRange (scale_after s w f tone tr)
unfolding scale_after
scale_after_within s w f tone tr is few = record {
  fast = fast_factor_within w (step_size s);
  slow = slow_factor_within s.yl (fast_factor w (step_size s)) is.slow (fast_factor_within w (step_size s));
  speed = next_speed_within s.ap _ tr is.speed;
  short = short_mean_within s.dms f is.short few;
  long = long_mean_within s.dml f is.long few;
}
