-- Who is placed where, and who is in the group of a place.
use Rattle.std.proofs.Common.{◌≡◌, ℕ, ◌<◌, ◌⊎◌, inl, inr, Bool, true, false, List, map, refl, sym, ◌∙◌, ap, subst, arith, Option, Some, None}
use Rattle.std.specs.Prelude.{◌==◌, nat_lt, is_none, MatchBool, pos, replicate}
use Rattle.std.specs.List.{filter}
use Rattle.std.specs.Option.{option_map}
use Rattle.std.proofs.lemmas.Bool.{cases_Bool, cond-true, cond-false, eqb-true, eq-eqb, lt-ltb, le-ltb}
use Rattle.conference_spec.specs.declared.Task.{Task}
use Rattle.conference_spec.specs.Coding.{Coder, Tells}
use Rattle.conference_spec.specs.Feed.{Guest, guests, closes, collects}
use Rattle.conference_spec.specs.Tasks.{is_same_task, each_once}
use Rattle.conference_spec.specs.Machine.{Core, has_passed}
use Rattle.conference_spec.specs.Kept.{WaitsForOne}
use Rattle.conference_spec.specs.Members.{In, Kept}
use Rattle.conference_spec.proofs.Members.{in-map, in-map_cases, in-filter, in-filter_parts, any-in, in-any}
use Rattle.conference_spec.proofs.Wants.{same-decides, once-in, in-once}
use Rattle.conference_spec.proofs.Told.{contains-in}
use Rattle.group_spec.specs.Groups.{Group, Placed, has_member, rest_of, place_after, place_of, placed_of, placed, group_at}
use Rattle.group_spec.specs.Carry.{IsUnderWay, IsAtRest, IsGroupOf}
use Rattle.group_spec.proofs.Members.{member_of, members-once, one-of, kept-in, in-kept}
use Rattle.group_spec.proofs.Awaiting.{awaited-run, awaited-none, run-early, guest-waits}

-- a guest waits for a run, rests, or has gone with all its ticks passed
pub data Stance (coder : Coder) (c : Core) (g : Guest) : Type 0 where
  Waits : (w : WaitsForOne coder c g.listener) → has_passed coder (collects c.feed) c.runs g.listener ≡ false → place_of coder c g ≡ Some w.run.task → Stance coder c g
  Rests : has_passed coder (collects c.feed) c.runs g.listener ≡ true → is_none g.left ≡ true → place_of coder c g ≡ Some (rest_of coder c g.listener) → Stance coder c g
  Gone : has_passed coder (collects c.feed) c.runs g.listener ≡ true → is_none g.left ≡ false → place_of coder c g ≡ None → Stance coder c g

pub stance : (coder : Coder) → Tells coder → (c : Core) → Kept coder c → (g : Guest) → In g (guests coder c.feed) → Stance coder c g
stance coder tells c k g i =
    let passed = has_passed coder (collects c.feed) c.runs g.listener in
    let rest = rest_of coder c g.listener in
    elim (cases_Bool passed) [
      | inl t ↦
          let none = awaited-none coder c g.listener t in
          elim (cases_Bool (is_none g.left)) [
            | inl here ↦ Rests t here (ap (place_after rest (is_none g.left)) none ∙ ap (λ b. place_after rest b None) here)
            | inr here ↦ Gone t here (ap (place_after rest (is_none g.left)) none ∙ ap (λ b. place_after rest b None) here)
          ]
      | inr t ↦
          let w = guest-waits coder tells c k g i t in
          Waits w t (ap (place_after rest (is_none g.left)) (awaited-run coder tells c k g.listener w.run w.waits))
    ]

pub some-one : {X : Type 0} (x y : X) → Some x ≡ Some y → x ≡ y
some-one x y e = cc

-- ---- a guest's group ----

abbrev pub at_place : Coder → Core → Task → Group
at_place coder c x = group_at coder (closes c.feed) (placed coder c) x

pub own-group : (coder : Coder) → Tells coder → (c : Core) → Kept coder c → (g : Guest) → In g (guests coder c.feed)
    → (x : Task) → place_of coder c g ≡ Some x → IsGroupOf coder c g.listener (at_place coder c x)
own-group coder tells c k g i x e =
    let passed = has_passed coder (collects c.feed) c.runs g.listener in
    let P : Task → Type 0 = λ y. IsGroupOf coder c g.listener (at_place coder c y) in
    elim (stance coder tells c k g i) [
      | Waits w t at ↦
          let y = w.run.task in
          let early = run-early coder c k w.run (contains-in c.runs w.run w.waits.there) in
          let under : IsUnderWay coder c g.listener (at_place coder c y) = record {
            run = w.run;
            waits = w.waits;
            alone = w.alone;
            shares = refl;
            vacant = cond-true (nat_lt y.tick (closes c.feed)) None (Some y.triple.state) (lt-ltb y.tick (closes c.feed) early);
          } in
          let Q : Bool → Type 0 = λ b. MatchBool b (IsAtRest coder c g.listener (at_place coder c y)) (IsUnderWay coder c g.listener (at_place coder c y)) in
          subst P (some-one y x (sym at ∙ e)) (record { rate = ap (λ z. z.triple.rate) w.waits.own; stands = subst Q (sym t) under })
      | Rests t here at ↦
          let y = rest_of coder c g.listener in
          let rests : IsAtRest coder c g.listener (at_place coder c y) = record {
            tick = refl;
            state = cond-false (nat_lt (closes c.feed) (closes c.feed)) None (Some y.triple.state) (le-ltb (closes c.feed) (closes c.feed) (omega arith));
          } in
          let Q : Bool → Type 0 = λ b. MatchBool b (IsAtRest coder c g.listener (at_place coder c y)) (IsUnderWay coder c g.listener (at_place coder c y)) in
          subst P (some-one y x (sym at ∙ e)) (record { rate = refl; stands = subst Q (sym t) rests })
      | Gone t here at ↦ absurd (let none : None ≡ Some x = sym at ∙ e in cc)
    ]

-- ---- members ----

placed-some : (coder : Coder) (c : Core) (g : Guest) (x : Task) → place_of coder c g ≡ Some x → placed_of coder c g ≡ Some (record { member = member_of g; place = x })
placed-some coder c g x e = ap (option_map (λ (y : Task). let p : Placed = record { member = member_of g; place = y } in p)) e

-- who is placed at all
some-placed : (m : ℕ) (o : Option Task) (p : Placed) → option_map (λ (y : Task). let q : Placed = record { member = m; place = y } in q) o ≡ Some p → (o ≡ Some p.place) × (m ≡ p.member)
some-placed m None p e = absurd (let none : None ≡ Some p = e in cc)
some-placed m (Some x) p e =
    let one : record { member = m; place = x } ≡ p = some-one (record { member = m; place = x }) p e in
    (ap (λ (q : Placed). Some q.place) one, ap (λ (q : Placed). q.member) one)

pub in-placed : (coder : Coder) (c : Core) (p : Placed) → In p (placed coder c) → (g : Guest) × In g (guests coder c.feed) × (place_of coder c g ≡ Some p.place) × (member_of g ≡ p.member)
in-placed coder c p i =
    let g = in-kept (placed_of coder c) p (guests coder c.feed) i in
    let e = some-placed (member_of g.0) (place_of coder c g.0) p g.2 in
    (g.0, g.1, e.0, e.1)

pub member-in : (coder : Coder) → Tells coder → (c : Core) (y : Task) (g : Guest) → In g (guests coder c.feed) → place_of coder c g ≡ Some y → In (member_of g) (at_place coder c y).members
member-in coder tells c y g i e =
    let same = λ (p : Placed). is_same_task coder y p.place in
    let p : Placed = record { member = member_of g; place = y } in
    in-map (λ (q : Placed). q.member) p (filter same (placed coder c))
    (in-filter same p (placed coder c) (kept-in (placed_of coder c) g p (guests coder c.feed) i (placed-some coder c g y e)) ((same-decides coder tells y y).1 refl))

pub in-member : (coder : Coder) → Tells coder → (c : Core) (y : Task) (m : ℕ) → has_member m (at_place coder c y) ≡ true
    → (g : Guest) × In g (guests coder c.feed) × (place_of coder c g ≡ Some y) × (member_of g ≡ m)
in-member coder tells c y m t =
    let same = λ (p : Placed). is_same_task coder y p.place in
    let n = any-in (λ (n : ℕ). n == m) (map (λ (p : Placed). p.member) (filter same (placed coder c))) t in
    let p = in-map_cases (λ (p : Placed). p.member) n.0 (filter same (placed coder c)) n.1 in
    let f = in-filter_parts same p.0 (placed coder c) p.1 in
    let g = in-placed coder c p.0 f.0 in
    (g.0, g.1, g.2 ∙ ap Some (sym ((same-decides coder tells y p.0.place).0 f.1)), g.3 ∙ p.2 ∙ eqb-true n.0 m n.2)

-- a guest is in the group of its place
pub has-own : (coder : Coder) → Tells coder → (c : Core) (y : Task) (g : Guest) → In g (guests coder c.feed) → place_of coder c g ≡ Some y
    → has_member (member_of g) (at_place coder c y) ≡ true
has-own coder tells c y g i e =
    in-any (λ (n : ℕ). n == member_of g) (member_of g) (at_place coder c y).members (member-in coder tells c y g i e) (eq-eqb (member_of g) (member_of g) refl)

-- and in no other
pub own-has : (coder : Coder) → Tells coder → (c : Core) → Kept coder c → (y : Task) (g : Guest) → In g (guests coder c.feed)
    → has_member (member_of g) (at_place coder c y) ≡ true → place_of coder c g ≡ Some y
own-has coder tells c k y g i t =
    let o = in-member coder tells c y (member_of g) t in
    let one : o.0 ≡ g = one-of member_of (guests coder c.feed) (members-once coder c.feed k.carried.legal) o.0 g o.1 i o.3 in
    ap (place_of coder c) (sym one) ∙ o.2

-- ---- places ----

abbrev pub places : Coder → Core → List Task
places coder c = each_once coder (map (λ (p : Placed). p.place) (placed coder c))

pub place-in : (coder : Coder) → Tells coder → (c : Core) (g : Guest) → In g (guests coder c.feed) → (x : Task) → place_of coder c g ≡ Some x → In x (places coder c)
place-in coder tells c g i x e =
    let p : Placed = record { member = member_of g; place = x } in
    in-once coder tells x (map (λ (q : Placed). q.place) (placed coder c))
    (in-map (λ (q : Placed). q.place) p (placed coder c) (kept-in (placed_of coder c) g p (guests coder c.feed) i (placed-some coder c g x e)))

pub in-place : (coder : Coder) (c : Core) (x : Task) → In x (places coder c) → (g : Guest) × In g (guests coder c.feed) × (place_of coder c g ≡ Some x)
in-place coder c x i =
    let p = in-map_cases (λ (q : Placed). q.place) x (placed coder c) (once-in coder x (map (λ (q : Placed). q.place) (placed coder c)) i) in
    let g = in-placed coder c p.0 p.1 in
    (g.0, g.1, g.2 ∙ ap Some p.2)

-- a place is at a closed tick, or at the next one with no mix
pub place-kinds : (coder : Coder) → Tells coder → (c : Core) → Kept coder c → (x : Task) → In x (places coder c)
    → (x.tick < closes c.feed) ⊎ ((x.tick ≡ closes c.feed) × (x.triple.mix ≡ replicate 160 (pos 0)))
place-kinds coder tells c k x i =
    let g = in-place coder c x i in
    elim (stance coder tells c k g.0 g.1) [
      | Waits w t at ↦
          let P : Task → Type 0 = λ y. y.tick < closes c.feed in
          inl (subst P (some-one w.run.task x (sym at ∙ g.2)) (run-early coder c k w.run (contains-in c.runs w.run w.waits.there)))
      | Rests t here at ↦
          let e = some-one (rest_of coder c g.0.listener) x (sym at ∙ g.2) in
          inr (sym (ap (λ y. y.tick) e), sym (ap (λ y. y.triple.mix) e))
      | Gone t here at ↦ absurd (let none : None ≡ Some x = sym at ∙ g.2 in cc)
    ]
