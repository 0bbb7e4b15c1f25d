use Rattle.std.proofs.Common.{◌≡◌, ◌∙◌, ap, sym, arith, w16, ◌-◌, Some}
use Rattle.std.specs.Prelude.{unsigned_abs}
use Rattle.std.proofs.lemmas.Int.{to_z-of_z}
use Rattle.talk_726.specs.Decoding.{state_at, sample_at}
use Rattle.talk_726.proofs.Placing.{no-code, one-code, within-abs, bits-few}
use Rattle.talk_726.proofs.places.follow_place.Goals as goal

pub returns-then-number-eq0-clause-after : goal.returns-then-number-eq0-clause-after
returns-then-number-eq0-clause-after c =
    let abs : c.unsigned_abs-number.result ≡ unsigned_abs c.args.place =
    c.unsigned_abs-number.ensures.value ∙ ap unsigned_abs (to_z-of_z w16 c.args.place c.ranges.place) in
    ap (state_at c.args.rate c.args.state) (sym (no-code _ c.args.place c.requires (sym abs ∙ c.if-number-eq0.true)))

pub returns-then-number-eq0-clause-sample : goal.returns-then-number-eq0-clause-sample
returns-then-number-eq0-clause-sample c =
    let abs : c.unsigned_abs-number.result ≡ unsigned_abs c.args.place =
    c.unsigned_abs-number.ensures.value ∙ ap unsigned_abs (to_z-of_z w16 c.args.place c.ranges.place) in
    ap (sample_at c.args.rate c.args.state) (sym (no-code _ c.args.place c.requires (sym abs ∙ c.if-number-eq0.true)))

pub overflow_cast-number : goal.overflow_cast-number
overflow_cast-number c =
    let abs : c.unsigned_abs-number.result ≡ unsigned_abs c.args.place =
    c.unsigned_abs-number.ensures.value ∙ ap unsigned_abs (to_z-of_z w16 c.args.place c.ranges.place) in
    let most = within-abs _ c.args.place c.requires in
    let few = bits-few c.args.rate in
    omega arith

pub returns-clause-after : goal.returns-clause-after
returns-clause-after c =
    let abs : c.unsigned_abs-number.result ≡ unsigned_abs c.args.place =
    c.unsigned_abs-number.ensures.value ∙ ap unsigned_abs (to_z-of_z w16 c.args.place c.ranges.place) in
    c.follow.ensures.after
    ∙ ap (λ n. state_at c.args.rate c.args.state (Some (n - 1))) abs
    ∙ ap (state_at c.args.rate c.args.state) (sym (one-code _ c.args.place c.requires (λ e. c.if-number-eq0.false (abs ∙ e))))

pub returns-clause-sample : goal.returns-clause-sample
returns-clause-sample c =
    let abs : c.unsigned_abs-number.result ≡ unsigned_abs c.args.place =
    c.unsigned_abs-number.ensures.value ∙ ap unsigned_abs (to_z-of_z w16 c.args.place c.ranges.place) in
    c.follow.ensures.sample
    ∙ ap (λ n. sample_at c.args.rate c.args.state (Some (n - 1))) abs
    ∙ ap (sample_at c.args.rate c.args.state) (sym (one-code _ c.args.place c.requires (λ e. c.if-number-eq0.false (abs ∙ e))))
