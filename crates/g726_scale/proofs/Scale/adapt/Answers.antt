-- The parts are the definition's, and what it gives is in range.
use Rattle.std.proofs.Common.{◌≡◌, ℤ, sym, ◌∙◌, ap, w16, w32, to_z, of_z, rules}
use Rattle.std.proofs.lemmas.Int.{to_z-of_z}
use mir.Val.{SFits}
use Rattle.g726_bits.specs.Ranges.{IsStepSize}
use Rattle.g726_bits.specs.Step.{step_size, scale_after}
use Rattle.g726_bits.proofs.Magnitudes.{speed_step_le}
use Rattle.g726_bits.proofs.ScaleRanges.{step_size_within, short_mean_within, long_mean_within, scale_after_within}
use Rattle.g726_scale.specs.Shown.{shown}
use Rattle.g726_scale.proofs.Parts.{put_together}
use Rattle.g726_scale.proofs.Scale.adapt.Goals as goal

pub short_mean-short-requires-clause-step : goal.short_mean-short-requires-clause-step
short_mean-short-requires-clause-step c = rw c.requires.pair.speed (speed_step_le c.requires.pair.rate c.requires.pair.code)

pub long_mean-long-requires-clause-step : goal.long_mean-long-requires-clause-step
long_mean-long-requires-clause-step c = rw c.requires.pair.speed (speed_step_le c.requires.pair.rate c.requires.pair.code)

pub fast_factor-fast-requires-clause-step : goal.fast_factor-fast-requires-clause-step
fast_factor-fast-requires-clause-step c =
    let is : IsStepSize (step_size (shown c.self.inside)) = step_size_within (shown c.self.inside) c.self.invariant in
    let f1 : SFits w32 c.from-y.result = search rules in
    rw (to_z-of_z w32 c.from-y.result f1, c.from-y.ensures, c.requires.step, sym c.self.view_is) is

pub is_rising-rising-requires-clause-short : goal.is_rising-rising-requires-clause-short
is_rising-rising-requires-clause-short c =
    let f1 : SFits w32 c.short_mean-short.result = search rules in
    let f2 : SFits w32 c.self.inside.dms = search rules in
    let e = simp to_z-of_z at c.short_mean-short.ensures in
    rw (to_z-of_z w32 c.short_mean-short.result f1, e, c.requires.pair.speed) (short_mean_within c.self.inside.dms _ c.self.invariant.short (speed_step_le c.requires.pair.rate c.requires.pair.code))

pub is_rising-rising-requires-clause-long : goal.is_rising-rising-requires-clause-long
is_rising-rising-requires-clause-long c =
    let f1 : SFits w32 c.long_mean-long.result = search rules in
    let f2 : SFits w32 c.self.inside.dml = search rules in
    let e = simp to_z-of_z at c.long_mean-long.ensures in
    rw (to_z-of_z w32 c.long_mean-long.result f1, e, c.requires.pair.speed) (long_mean_within c.self.inside.dml _ c.self.invariant.long (speed_step_le c.requires.pair.rate c.requires.pair.code))

-- a number as an i32 keeps it
abbrev kept : ℤ → ℤ
kept z = to_z w32 (of_z w32 z)

next_is : (c : goal.After-next_speed) → shown (record { yu = kept c.fast_factor-fast.result; yl = kept c.slow_factor.result; ap = kept c.next_speed.result; dms = kept c.short_mean-short.result; dml = kept c.long_mean-long.result }) ≡ scale_after (shown c.self.inside) c.args.w c.args.f c.args.tone c.args.tr
next_is c =
    let f0 : SFits w32 c.from-y.result = search rules in
    let f1 : SFits w32 c.fast_factor-fast.result = search rules in
    let f2 : SFits w32 c.short_mean-short.result = search rules in
    let f3 : SFits w32 c.long_mean-long.result = search rules in
    let f4 : SFits w32 c.from.result = search rules in
    let f5 : SFits w32 c.self.inside.yl = search rules in
    let f6 : SFits w32 c.self.inside.ap = search rules in
    let f7 : SFits w32 c.self.inside.dms = search rules in
    let f8 : SFits w32 c.self.inside.dml = search rules in
    let f9 : SFits w16 c.args.w = search rules in
    let f10 : SFits w32 c.slow_factor.result = search rules in
    let f11 : SFits w32 c.next_speed.result = search rules in
    let e0 = simp to_z-of_z at c.from.ensures in
    let e1 = simp to_z-of_z at c.fast_factor-fast.ensures.value in
    let e2 = simp to_z-of_z at c.short_mean-short.ensures in
    let e3 = simp to_z-of_z at c.long_mean-long.ensures in
    let e4 = simp to_z-of_z at c.is_rising-rising.ensures in
    let e5 = simp to_z-of_z at c.slow_factor.ensures in
    let e6 = simp to_z-of_z at c.next_speed.ensures in
    let y_is = c.from-y.ensures ∙ (c.requires.step ∙ ap step_size (sym c.self.view_is)) in
    rw (to_z-of_z w32 _ f1, to_z-of_z w32 _ f2, to_z-of_z w32 _ f3, to_z-of_z w32 _ f10, to_z-of_z w32 _ f11)
    (put_together (shown c.self.inside) c.args.w c.args.f c.args.tone c.args.tr c.is_rising-rising.result c.from-y.result _ _ _ _ _ y_is (rw e0 at e1) e2 e3 e4 e5 e6)

pub invariant_of-result : goal.invariant_of-result
invariant_of-result c = rw (next_is c) (scale_after_within (shown c.self.inside) c.args.w c.args.f c.args.tone c.args.tr c.self.invariant (rw c.requires.pair.speed (speed_step_le c.requires.pair.rate c.requires.pair.code)))

pub returns : goal.returns
returns c = next_is c ∙ ap (λ s. scale_after s c.args.w c.args.f c.args.tone c.args.tr) c.self.view_is
