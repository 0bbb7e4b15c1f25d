-- Whoever waits, waits for one run.
use Rattle.std.proofs.Common.{◌≡◌, ℕ, inl, inr, Bool, true, false, not, List, [], ◌∷◌, ◌++◌, map, refl, sym, ◌∙◌, ap, subst, arith}
use Rattle.std.specs.Prelude.{◌==◌, nat_lt, ℤ}
use Rattle.std.specs.List.{filter, list_all}
use Rattle.std.proofs.lemmas.Bool.{cases_Bool, both_ways, and_from, false≢true, ltb-false, or_parts}
use Rattle.g726_bits.specs.declared.Rate.{Rate}
use Rattle.g726_bits.specs.State.{CodecState}
use Rattle.talk_mix.specs.Mix.{mix}
use Rattle.conference_spec.specs.declared.Entry.TheVariants.{Join, Leave, Close, Collect, Cut, End}
use Rattle.conference_spec.specs.declared.Task.{Task}
use Rattle.conference_spec.specs.Coding.{Coder, Tells}
use Rattle.conference_spec.specs.Feed.{Feed, Listener, listeners, hears, begins, closes, collects}
use Rattle.conference_spec.specs.Tasks.{task_of, own_task, own_tasks, each_once, wanted}
use Rattle.conference_spec.specs.Machine.{Run, Core, is_finished, finished_tasks, is_done, has_passed, has}
use Rattle.conference_spec.specs.Kept.{WaitsAt, WaitsForOne}
use Rattle.conference_spec.proofs.Members.{In, in-append_left, in-append_right, in-append_cases, in-map, in-map_cases, in-filter_parts, all-in}
use Rattle.conference_spec.proofs.Wants.{heard-ticks, at-wanted}
use Rattle.conference_spec.proofs.Stages.{done-cases, done-finished, finished-run, run-finished, in-reached}
use Rattle.conference_spec.proofs.Steps.{Kept}
use Rattle.conference_spec.proofs.Events.{run-late}
use Rattle.conference_spec.proofs.Told.{one-run, contains-in, in-contains}

-- the oldest tick that isn't passed
pub record Opening (coder : Coder) (p : Task → Bool) (from : ℕ) (rate : Rate) (first : CodecState) (heard : List (List ℤ)) : Type 0 where
  pub later : List (List ℤ)
  pub frame : List ℤ
  pub earlier : List (List ℤ)
  pub split : heard ≡ later ++ frame ∷ earlier
  pub passed : list_all p (own_tasks coder from rate first earlier) ≡ true
  pub stops : p (own_task coder from rate first earlier frame) ≡ false

pub first-open : (coder : Coder) (p : Task → Bool) (from : ℕ) (rate : Rate) (first : CodecState) (heard : List (List ℤ))
    → list_all p (own_tasks coder from rate first heard) ≡ false → Opening coder p from rate first heard
first-open coder p from rate first [] e = absurd (false≢true (sym e))
first-open coder p from rate first (f ∷ heard) e =
    let rest = list_all p (own_tasks coder from rate first heard) in
    elim (cases_Bool rest) [
      | inl t ↦ record {
        later = [];
        frame = f;
        earlier = heard;
        split = refl;
        passed = t;
        stops = elim (cases_Bool (p (own_task coder from rate first heard f))) [
          | inl u ↦ absurd (false≢true (sym e ∙ and_from (p (own_task coder from rate first heard f)) rest u t))
          | inr u ↦ u
        ];
      }
      | inr t ↦
          let o = first-open coder p from rate first heard t in
          record { later = f ∷ o.later; frame = o.frame; earlier = o.earlier; split = ap (λ xs. f ∷ xs) o.split; passed = o.passed; stops = o.stops }
    ]

-- a listener as it was
abbrev pub earlier_self : Listener → List (List ℤ) → Listener
earlier_self l heard = record { spec = l.spec; from = l.from; first = l.first; heard = heard }

pub empty-not : (later : List (List ℤ)) (f : List ℤ) (earlier : List (List ℤ)) → [] ≡ later ++ f ∷ earlier → ⊥
empty-not [] f earlier e = cc
empty-not (x ∷ later) f earlier e = cc

-- what a listener was to be run at any of its ticks was wanted, where it then passed the test
pub was-wanted : (coder : Coder) → Tells coder → (p : Listener → Bool) (h : Feed) (l : Listener) → In l (listeners coder h)
    → (later : List (List ℤ)) (f : List ℤ) (earlier : List (List ℤ)) → l.heard ≡ later ++ f ∷ earlier → p (earlier_self l earlier) ≡ true
    → In (own_task coder l.from l.spec.rate l.first earlier f) (wanted coder p h)
was-wanted coder tells p [] l i later f earlier e t = absurd i
was-wanted coder tells p (Join spec ∷ h) l i later f earlier e t =
    elim (in-append_cases l (listeners coder h) (begins coder spec (closes h) ∷ []) i) [
      | inl a ↦ was-wanted coder tells p h l a later f earlier e t
      | inr b ↦ elim b [
        | inl q ↦ absurd (let none : [] ≡ later ++ f ∷ earlier = ap (λ m. m.heard) q ∙ e in empty-not later f earlier none)
        | inr z ↦ absurd z
      ]
    ]
was-wanted coder tells p (Leave m ∷ h) l i later f earlier e t =
    was-wanted coder tells p h l (in-filter_parts (λ l. not (l.spec.member == m)) l (listeners coder h) i).0 later f earlier e t
was-wanted coder tells p (Close tick ∷ h) l i later f earlier e t =
    let m = in-map_cases (hears tick) l (listeners coder h) i in
    let here = each_once coder (map (task_of coder (closes h) tick) (filter p (listeners coder h))) in
    let task = own_task coder l.from l.spec.rate l.first earlier f in
    let P : Listener → Type 0 = λ x. (later : List (List ℤ)) (f : List ℤ) (earlier : List (List ℤ)) → x.heard ≡ later ++ f ∷ earlier → p (earlier_self x earlier) ≡ true
    → In (own_task coder x.from x.spec.rate x.first earlier f) (wanted coder p (Close tick ∷ h)) in
    let at : P (hears tick m.0) = λ later. elim later as (λ v. (f : List ℤ) (earlier : List (List ℤ)) → (mix m.0.spec.member tick ∷ m.0.heard) ≡ v ++ f ∷ earlier → p (earlier_self m.0 earlier) ≡ true
    → In (own_task coder m.0.from m.0.spec.rate m.0.first earlier f) (wanted coder p (Close tick ∷ h))) [
      | [] ↦ λ f earlier q u.
          let same : m.0.heard ≡ earlier = cc in
          let frame : mix m.0.spec.member tick ≡ f = cc in
          let Q : Task → Type 0 = λ x. In x here in
          let mine : p m.0 ≡ true = ap (λ hs. p (earlier_self m.0 hs)) same ∙ u in
          let place : task_of coder (closes h) tick m.0 ≡ own_task coder m.0.from m.0.spec.rate m.0.first m.0.heard (mix m.0.spec.member tick) =
          λ j. record { tick = sym (heard-ticks coder h m.0 m.1) j; triple = (task_of coder (closes h) tick m.0).triple } in
          in-append_right (own_task coder m.0.from m.0.spec.rate m.0.first earlier f) (wanted coder p h) here
          (subst Q (place ∙ ap (λ hs. own_task coder m.0.from m.0.spec.rate m.0.first hs (mix m.0.spec.member tick)) same
          ∙ ap (own_task coder m.0.from m.0.spec.rate m.0.first earlier) frame)
          (at-wanted coder tells (closes h) tick p (listeners coder h) m.0 m.1 mine))
      | y ∷ later' ↦ λ f earlier q u.
          let rest : m.0.heard ≡ later' ++ f ∷ earlier = cc in
          in-append_left (own_task coder m.0.from m.0.spec.rate m.0.first earlier f) (wanted coder p h) here
          (was-wanted coder tells p h m.0 m.1 later' f earlier rest u)
    ] in
    subst P m.2 at later f earlier e t
was-wanted coder tells p (Collect ∷ h) l i later f earlier e t = was-wanted coder tells p h l i later f earlier e t
was-wanted coder tells p (End ∷ h) l i later f earlier e t = was-wanted coder tells p h l i later f earlier e t
was-wanted coder tells p (Cut ∷ h) l i later f earlier e t = was-wanted coder tells p h l i later f earlier e t

-- what was wanted stays wanted
pub wanted-since : (coder : Coder) (p : Listener → Bool) (since h : Feed) (x : Task) → In x (wanted coder p h) → In x (wanted coder p (since ++ h))
wanted-since coder p [] h x w = w
wanted-since coder p (Close tick ∷ since) h x w =
    in-append_left x (wanted coder p (since ++ h)) (each_once coder (map (task_of coder (closes (since ++ h)) tick) (filter p (listeners coder (since ++ h))))) (wanted-since coder p since h x w)
wanted-since coder p (Join spec ∷ since) h x w = wanted-since coder p since h x w
wanted-since coder p (Leave m ∷ since) h x w = wanted-since coder p since h x w
wanted-since coder p (Collect ∷ since) h x w = wanted-since coder p since h x w
wanted-since coder p (End ∷ since) h x w = wanted-since coder p since h x w
wanted-since coder p (Cut ∷ since) h x w = wanted-since coder p since h x w

-- an own task of an earlier tick stands among those of a later one
pub own-earlier : (coder : Coder) (from : ℕ) (rate : Rate) (first : CodecState) (later : List (List ℤ)) (f : List ℤ) (earlier : List (List ℤ))
    → In (own_task coder from rate first earlier f) (own_tasks coder from rate first (later ++ f ∷ earlier))
own-earlier coder from rate first [] f earlier = inl refl
own-earlier coder from rate first (y ∷ later) f earlier = inr (own-earlier coder from rate first later f earlier)

-- of two places in one list, they are one, or the first is among those before the second, or the other way round
pub data Order (f : List ℤ) (earlier : List (List ℤ)) (g : List ℤ) (before : List (List ℤ)) : Type 0 where
  AreOne : f ≡ g → earlier ≡ before → Order f earlier g before
  IsBefore : (between : List (List ℤ)) → before ≡ between ++ f ∷ earlier → Order f earlier g before
  IsAfter : (between : List (List ℤ)) → earlier ≡ between ++ g ∷ before → Order f earlier g before

pub order : (a : List (List ℤ)) (f : List ℤ) (earlier b : List (List ℤ)) (g : List ℤ) (before : List (List ℤ)) → a ++ f ∷ earlier ≡ b ++ g ∷ before → Order f earlier g before
order [] f earlier [] g before e = AreOne (let q : f ≡ g = cc in q) (let q : earlier ≡ before = cc in q)
order [] f earlier (y ∷ b) g before e = IsAfter b (let q : earlier ≡ b ++ g ∷ before = cc in q)
order (x ∷ a) f earlier [] g before e = IsBefore a (let q : before ≡ a ++ f ∷ earlier = cc in q)
order (x ∷ a) f earlier (y ∷ b) g before e = order a f earlier b g before (let q : a ++ f ∷ earlier ≡ b ++ g ∷ before = cc in q)

-- a run that isn't finished isn't done
pub not-done : (coder : Coder) → Tells coder → (c : Core) → Kept coder c → (r : Run) → In r c.runs → is_finished r.stage ≡ false → is_done coder (collects c.feed) c.runs r.task ≡ true → ⊥
not-done coder tells c k r i open' d =
    elim (done-cases coder tells (collects c.feed) c.runs r.task d) [
      | inl lt ↦ (let le = run-late coder c k.carried r.task (in-map (λ r. r.task) r c.runs i) in omega arith)
      | inr fin ↦
          let f = finished-run c.runs r.task fin in
          both_ways (is_finished r.stage) open' (ap (λ r. is_finished r.stage) (one-run c.runs k.carried.once r f.0 i f.1 (sym f.3)) ∙ f.2)
    ]

pub waits-alone : (coder : Coder) → Tells coder → (c : Core) → Kept coder c → (l : Listener) (r s : Run) → WaitsAt coder c l r → WaitsAt coder c l s → r ≡ s
waits-alone coder tells c k l r s a b =
    let p = is_done coder (collects c.feed) c.runs in
    let own = λ (earlier : List (List ℤ)) (f : List ℤ). own_task coder l.from l.spec.rate l.first earlier f in
    let ir = contains-in c.runs r a.there in
    let is = contains-in c.runs s b.there in
    elim (order a.later a.frame a.earlier b.later b.frame b.earlier (sym a.heard ∙ b.heard)) [
      | AreOne f e ↦ one-run c.runs k.carried.once r s ir is (a.own ∙ ap (λ x. own x a.frame) e ∙ ap (own b.earlier) f ∙ sym b.own)
      | IsBefore between e ↦
          let P : List (List ℤ) → Type 0 = λ x. In (own a.earlier a.frame) (own_tasks coder l.from l.spec.rate l.first x) in
          let there = subst P (sym e) (own-earlier coder l.from l.spec.rate l.first between a.frame a.earlier) in
          absurd (not-done coder tells c k r ir a.unfinished (ap p a.own ∙ all-in p (own a.earlier a.frame) (own_tasks coder l.from l.spec.rate l.first b.earlier) b.passed there))
      | IsAfter between e ↦
          let P : List (List ℤ) → Type 0 = λ x. In (own b.earlier b.frame) (own_tasks coder l.from l.spec.rate l.first x) in
          let there = subst P (sym e) (own-earlier coder l.from l.spec.rate l.first between b.frame b.earlier) in
          absurd (not-done coder tells c k s is b.unfinished (ap p b.own ∙ all-in p (own b.earlier b.frame) (own_tasks coder l.from l.spec.rate l.first a.earlier) a.passed there))
    ]

pub waits-for : (coder : Coder) → Tells coder → (c : Core) → Kept coder c → (since h : Feed) → c.feed ≡ since ++ h → (l : Listener) → In l (listeners coder h)
    → has_passed coder (collects c.feed) c.runs l ≡ false → WaitsForOne coder c l
waits-for coder tells c k since h e l i t =
    let gone = collects c.feed in
    let p = is_done coder gone c.runs in
    let o = first-open coder p l.from l.spec.rate l.first l.heard t in
    let task = own_task coder l.from l.spec.rate l.first o.earlier o.frame in
    let W : Feed → Type 0 = λ x. In task (wanted coder (has_passed coder gone c.runs) x) in
    let want = subst W (sym e) (wanted-since coder (has_passed coder gone c.runs) since h task
    (was-wanted coder tells (has_passed coder gone c.runs) h l i o.later o.frame o.earlier o.split o.passed)) in
    let parts = or_parts (nat_lt task.tick gone) (has coder (finished_tasks c.runs) task) o.stops in
    let m = in-map_cases (λ r. r.task) task c.runs (k.all_numbered task (in-reached coder c.runs c.feed task want (ltb-false task.tick gone parts.0))) in
    let unfinished : is_finished m.0.stage ≡ false = elim (cases_Bool (is_finished m.0.stage)) [
      | inl u ↦ (let P : Task → Type 0 = λ x. In x (finished_tasks c.runs) in
          absurd (both_ways (p task) o.stops (done-finished coder tells gone c.runs task (subst P m.2 (run-finished c.runs m.0 m.1 u)))))
      | inr u ↦ u
    ] in
    let at : WaitsAt coder c l m.0 = record {
      later = o.later;
      frame = o.frame;
      earlier = o.earlier;
      heard = o.split;
      passed = o.passed;
      own = m.2;
      there = in-contains m.0 c.runs m.1;
      unfinished = unfinished;
    } in
    record { run = m.0; waits = at; alone = λ r w. waits-alone coder tells c k l r m.0 w at }
