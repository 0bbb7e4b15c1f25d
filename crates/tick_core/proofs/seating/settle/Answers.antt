use Rattle.std.proofs.Common.{◌≡◌, take, get_or, ap, sym, ◌∙◌, option_copied}
use Rattle.book_lists.specs.declared.seats.Origin.TheVariants.{Known, Earlier}
use Rattle.book_lists.specs.declared.seats.Rest.{Rest}
use Rattle.tick_core.specs.Opened.{Settled, origin_after, settled_origin}
use Rattle.tick_core.proofs.Seats.{one-more, length-zip, settled-more}
use Rattle.tick_core.proofs.seating.settle.Goals as goal
use Rattle.tick_core.proofs.seating.settle.Goals.{in-Earlier+in-Some, in-Earlier+in_default-state_at, in_default}

pub loop-rest-preserved : goal.loop-rest-preserved
loop-rest-preserved c =
    let inv = c.loop-rest.invariant in
    let v = c.args.newest.now in
    let old = c.args.present.now in
    let now = c.loop-rest.present in
    let i = c.loop-rest.rest-index in
    let x = c.rest-item.result in
    let here : Rest = get_or now i x in
    let is : x ≡ here = c.rest-item.is in
    let m = one-more old now inv.0 i x c.loop-rest-test.true inv.1 (length-zip (Settled v) (take i old) inv.0 inv.2) is in
    let from : origin_after v x.origin ≡ origin_after v here.origin = ap (λ (r : Rest). origin_after v r.origin) is in
    let spec : here.spec ≡ x.spec = ap (λ (r : Rest). r.spec) (sym is) in
    let heard : here.heard ≡ x.heard = ap (λ (r : Rest). r.heard) (sym is) in
    elim c.match-rest.branch [
      | in-Earlier+in-Some w ↦
          let y : Rest = record { spec = here.spec; heard = here.heard; origin = Known w.in-Some.state.now } in
          settled-more v old now inv.0 c.match-rest.present i x y m inv.2 (record {
            spec = spec;
            heard = heard;
            origin = sym (from ∙ ap (origin_after v) w.in-Earlier.is ∙ ap (λ o. settled_origin o (Earlier w.in-Earlier.place)) (sym w.state_at.ensures ∙ ap option_copied w.in-Some.is));
          }) w.present-is
      | in-Earlier+in_default-state_at w ↦
          settled-more v old now inv.0 c.match-rest.present i x here m inv.2 (record {
            spec = spec;
            heard = heard;
            origin = w.in-Earlier.is
                ∙ sym (from ∙ ap (origin_after v) w.in-Earlier.is ∙ ap (λ o. settled_origin o (Earlier w.in-Earlier.place)) (sym w.state_at.ensures ∙ ap option_copied w.in_default-state_at.is));
          }) w.present-is
      | in_default w ↦
          settled-more v old now inv.0 c.match-rest.present i x here m inv.2 (record {
            spec = spec;
            heard = heard;
            origin = w.in_default.is ∙ sym (from ∙ ap (origin_after v) w.in_default.is);
          }) w.present-is
    ]
