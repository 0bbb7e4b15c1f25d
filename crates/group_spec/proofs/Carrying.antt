-- The groups of a core carry it.
use Rattle.std.proofs.Common.{◌≡◌, ℕ, ◌<◌, length, ◌∷◌, inl, inr, true, not, ◌||◌, List, [], map, refl, sym, ◌∙◌, ap, subst, arith, Some, None}
use Rattle.std.specs.Prelude.{◌==◌, nat_lt, is_none, is_some, slice_index_or, pos, replicate}
use Rattle.std.specs.List.{filter}
use Rattle.std.proofs.lemmas.Bool.{eq-eqb, cases_Bool, cond-true, cond-false, both_ways, false≢true, or_left, or_parts, lt-ltb, le-ltb, not_from_true, MatchBool-at_true}
use Rattle.conference_spec.specs.declared.Task.{Task}
use Rattle.conference_spec.specs.Coding.{Coder, Tells, after}
use Rattle.conference_spec.specs.Feed.{Listener, Guest, guests, listeners, closes, collects}
use Rattle.conference_spec.specs.Machine.{Core, Run, is_finished, has_passed}
use Rattle.conference_spec.specs.Kept.{WaitsAt}
use Rattle.conference_spec.specs.Members.{In, Kept}
use Rattle.conference_spec.proofs.Members.{in-map, in-map_cases, in-filter_parts, in-any, all-in}
use Rattle.conference_spec.proofs.Wants.{each-once}
use Rattle.conference_spec.proofs.Told.{contains-in, in-contains, in-at}
use Rattle.conference_spec.proofs.Sends.{listeners-present}
use Rattle.group_spec.specs.Groups.{Group, Placed, rate_of, has_member, groups_with, place_after, place_of, rest_of, placed, groups, is_carried}
use Rattle.group_spec.specs.Carry.{Carry, CarryAtRest, IsIdle, IsAtRest, IsUnderWay, IsGroupOf, ShareRun}
use Rattle.group_spec.proofs.Members.{member_of, count-none, count-one, pairs-map, in-longer}
use Rattle.group_spec.proofs.Awaiting.{awaited-run, guest-waits}
use Rattle.group_spec.proofs.Placing.{Waits, Rests, Gone, stance, some-one, own-group, at_place, member-in, in-member, has-own, own-has, places, place-in, in-place, place-kinds}

placed-one : (coder : Coder) → Tells coder → (c : Core) → Kept coder c → (g : Guest) → In g (guests coder c.feed) → (x : Task) → place_of coder c g ≡ Some x
    → groups_with (member_of g) (groups coder c) ≡ 1
placed-one coder tells c k g i x e =
    let has = λ (y : Task). has_member (member_of g) (at_place coder c y) in
    count-one (has_member (member_of g)) (at_place coder c) x (places coder c) (each-once coder tells (map (λ (p : Placed). p.place) (placed coder c))) (place-in coder tells c g i x e)
    (has-own coder tells c x g i e)
    (λ y j n. elim (cases_Bool (has y)) [
      | inl t ↦ absurd (n (some-one y x (sym (own-has coder tells c k y g i t) ∙ e)))
      | inr t ↦ t
    ])

placed-none : (coder : Coder) → Tells coder → (c : Core) → Kept coder c → (g : Guest) → In g (guests coder c.feed) → place_of coder c g ≡ None
    → groups_with (member_of g) (groups coder c) ≡ 0
placed-none coder tells c k g i e =
    let has = λ (y : Task). has_member (member_of g) (at_place coder c y) in
    count-none (has_member (member_of g)) (at_place coder c) (places coder c) (λ y j. elim (cases_Bool (has y)) [
      | inl t ↦ absurd (let none : None ≡ Some y = sym e ∙ own-has coder tells c k y g i t in cc)
      | inr t ↦ t
    ])

-- whoever waits at a run is in the group of its task alone
waiter-placed : (coder : Coder) → Tells coder → (c : Core) → Kept coder c → (g : Guest) → In g (guests coder c.feed) → (r : Run) → WaitsAt coder c g.listener r
    → (y : Task) → has_member (member_of g) (at_place coder c y) ≡ true → y ≡ r.task
waiter-placed coder tells c k g i r w y t =
    let at : place_of coder c g ≡ Some r.task = ap (place_after (rest_of coder c g.listener) (is_none g.left)) (awaited-run coder tells c k g.listener r w) in
    some-one y r.task (sym (own-has coder tells c k y g i t) ∙ at)

-- two places at rest of one rate and state are one
rests-one : (coder : Coder) → Tells coder → (c : Core) → Kept coder c → (x y : Task) → In x (places coder c) → In y (places coder c)
    → x.triple.rate ≡ y.triple.rate → (at_place coder c x).state ≡ (at_place coder c y).state → is_some (at_place coder c x).state ≡ true → x ≡ y
rests-one coder tells c k x y i j rate state some =
    let n = closes c.feed in
    let early : (z : Task) → In z (places coder c) → is_some (at_place coder c z).state ≡ true → (z.tick ≡ n) × (z.triple.mix ≡ replicate 160 (pos 0)) = λ z u s.
    elim (place-kinds coder tells c k z u) [
      | inl lt ↦ absurd (false≢true (ap is_some (sym (cond-true (nat_lt z.tick n) None (Some z.triple.state) (lt-ltb z.tick n lt))) ∙ s))
      | inr both ↦ both
    ] in
    let a = early x i some in
    let b = early y j (ap is_some (sym state) ∙ some) in
    let at : (z : Task) → z.tick ≡ n → (at_place coder c z).state ≡ Some z.triple.state = λ z e.
    cond-false (nat_lt z.tick n) None (Some z.triple.state) (le-ltb z.tick n (omega arith)) in
    let one = some-one x.triple.state y.triple.state (sym (at x a.0) ∙ state ∙ at y b.0) in
    let tick : x.tick ≡ y.tick = a.0 ∙ sym b.0 in
    let mix = a.1 ∙ sym b.1 in
    λ m. record { tick = tick m; triple = record { rate = rate m; state = one m; mix = mix m } }

pub carry : (coder : Coder) → Tells coder → (c : Core) → Kept coder c → Carry coder c (groups coder c)
carry coder tells c k =
    let gs = guests coder c.feed in
    let once = each-once coder tells (map (λ (p : Placed). p.place) (placed coder c)) in
    record {
      in_one = λ g i t.
          let j = contains-in gs g i in
          elim (stance coder tells c k g j) [
            | Waits w n e ↦ placed-one coder tells c k g j w.run.task e
            | Rests n here e ↦ placed-one coder tells c k g j (rest_of coder c g.listener) e
            | Gone n here e ↦ absurd (both_ways (is_carried coder c g) (ap (λ b. b || not (has_passed coder (collects c.feed) c.runs g.listener)) here ∙ not_from_true (has_passed coder (collects c.feed) c.runs g.listener) n) t)
          ];
      in_none = λ g i t.
          let j = contains-in gs g i in
          let parts = or_parts (is_none g.left) (not (has_passed coder (collects c.feed) c.runs g.listener)) t in
          elim (stance coder tells c k g j) [
            | Waits w n e ↦ absurd (both_ways (not (has_passed coder (collects c.feed) c.runs g.listener)) parts.1 (ap not n))
            | Rests n here e ↦ absurd (both_ways (is_none g.left) parts.0 here)
            | Gone n here e ↦ placed-none coder tells c k g j e
          ];
      peopled = λ q i.
          let y = in-map_cases (at_place coder c) q (places coder c) (contains-in (groups coder c) q i) in
          let g = in-place coder c y.0 y.1 in
          let P : Group → Type 0 = λ z. 0 < length z.members in
          subst P y.2 (in-longer (member_of g.0) (at_place coder c y.0).members (member-in coder tells c y.0 g.0 g.1 g.2));
      known = λ q m i t.
          let y = in-map_cases (at_place coder c) q (places coder c) (contains-in (groups coder c) q i) in
          let g = in-member coder tells c y.0 m (ap (has_member m) y.2 ∙ t) in
          let P : ℕ → Type 0 = λ n. In n (map member_of gs) in
          in-contains m (map member_of gs) (subst P g.3 (in-map member_of g.0 gs g.1));
      own = λ q g i j t.
          let y = in-map_cases (at_place coder c) q (places coder c) (contains-in (groups coder c) q i) in
          let there = contains-in gs g j in
          let at = own-has coder tells c k y.0 g there (ap (has_member (member_of g)) y.2 ∙ t) in
          subst (IsGroupOf coder c g.listener) y.2 (own-group coder tells c k g there y.0 at);
      runs_differ = pairs-map (λ a b. ShareRun coder c a b → ⊥) (at_place coder c) (places coder c) once
          (λ x y i j n s. n (waiter-placed coder tells c k s.one (contains-in gs s.one s.one_there) s.run s.one_waits x s.one_in
          ∙ sym (waiter-placed coder tells c k s.other (contains-in gs s.other s.other_there) s.run s.other_waits y s.other_in)));
      states_differ = pairs-map (λ a b. rate_of a ≡ rate_of b → a.state ≡ b.state → is_some a.state ≡ true → ⊥) (at_place coder c) (places coder c) once
          (λ x y i j n rate state some. n (rests-one coder tells c k x y i j rate state some));
    }

-- where each run is finished, whoever is a guest has passed all its ticks
idle-passed : (coder : Coder) → Tells coder → (c : Core) → Kept coder c → IsIdle c → (g : Guest) → In g (guests coder c.feed)
    → has_passed coder (collects c.feed) c.runs g.listener ≡ true
idle-passed coder tells c k idle g i =
    let passed = has_passed coder (collects c.feed) c.runs g.listener in
    elim (cases_Bool passed) [
      | inl t ↦ t
      | inr t ↦
          let w = guest-waits coder tells c k g i t in
          absurd (both_ways (is_finished w.run.stage) w.waits.unfinished (all-in (λ r. is_finished r.stage) w.run c.runs idle (contains-in c.runs w.run w.waits.there)))
    ]

listener-guest : (coder : Coder) (c : Core) (l : Listener) → In l (listeners coder c.feed)
    → (g : Guest) × In g (guests coder c.feed) × (is_none g.left ≡ true) × (g.listener ≡ l)
listener-guest coder c l i =
    let here = λ (x : Guest). is_none x.left in
    let P : List Listener → Type 0 = λ ls. In l ls in
    let m = in-map_cases (λ (x : Guest). x.listener) l (filter here (guests coder c.feed)) (subst P (listeners-present coder c.feed) i) in
    let f = in-filter_parts here m.0 (guests coder c.feed) m.1 in
    (m.0, f.0, f.1, m.2)

pub carry-rest : (coder : Coder) → Tells coder → (c : Core) → Kept coder c → IsIdle c → (ks : List Group) → Carry coder c ks → CarryAtRest coder c ks
carry-rest coder tells c k idle ks carries =
    let gs = guests coder c.feed in
    let at : (q : Group) (g : Guest) → In q ks → In g gs → has_member (member_of g) q ≡ true → (rate_of q ≡ g.listener.spec.rate) × IsAtRest coder c g.listener q = λ q g i j t.
    let o = carries.own q g (in-contains q ks i) (in-contains g gs j) t in
    (o.rate, MatchBool-at_true (IsAtRest coder c g.listener q) (IsUnderWay coder c g.listener q) (idle-passed coder tells c k idle g j) o.stands) in
    let first : (ms : List ℕ) → 0 < length ms → (m : ℕ) × In m ms = elim [
      | [] ↦ λ lt. absurd (omega arith)
      | m ∷ ms ↦ λ lt. (m, inl refl)
    ] in
    let full : (q : Group) → In q ks → is_some q.state ≡ true = λ q i.
    let m = first q.members (carries.peopled q (in-contains q ks i)) in
    let has = in-any (λ n. n == m.0) m.0 q.members m.1 (eq-eqb m.0 m.0 refl) in
    let g = in-map_cases member_of m.0 gs (contains-in (map member_of gs) m.0 (carries.known q m.0 (in-contains q ks i) has)) in
    ap is_some (at q g.0 i g.1 (ap (λ n. has_member n q) g.2 ∙ has)).1.state in
    record {
      in_one = λ l i.
          let g = listener-guest coder c l (contains-in (listeners coder c.feed) l i) in
          ap (λ x. groups_with x.spec.member ks) (sym g.3)
          ∙ carries.in_one g.0 (in-contains g.0 gs g.1) (or_left (is_none g.0.left) (not (has_passed coder (collects c.feed) c.runs g.0.listener)) g.2);
      own = λ q l i j t.
          let g = listener-guest coder c l (contains-in (listeners coder c.feed) l j) in
          let o = at q g.0 (contains-in ks q i) g.1 (ap (λ x. has_member x.spec.member q) g.3 ∙ t) in
          (o.0 ∙ ap (λ x. x.spec.rate) g.3, o.1.state ∙ ap (λ x. Some (after coder x.spec.rate x.first x.heard)) g.3);
      states_differ = λ i j d lt le rate state. carries.states_differ i j d lt le rate state (full (slice_index_or ks i d) (in-at ks i d (omega arith)));
    }
