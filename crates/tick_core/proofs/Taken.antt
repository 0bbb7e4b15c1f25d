-- How many results a Book has taken.
use Rattle.std.proofs.Common.{◌≡◌, ℕ, ◌+◌, ◌^◌, ◌<◌, ◌≤◌, inl, inr, Bool, true, not, List, [], ◌∷◌, ◌++◌, length, map, refl, sym, ◌∙◌, ap, arith}
use Rattle.std.specs.Prelude.{Result, Ok, Err, IfErr, is_ok, if◌then◌else◌}
use Rattle.std.specs.List.{filter}
use Rattle.std.proofs.lemmas.Bool.{cases_Bool, cond-true, cond-false, false≢true}
use Rattle.conference_spec.specs.declared.Stage.{Stage}
use Rattle.conference_spec.specs.declared.Stage.TheVariants.{Waiting, Out, Finished}
use Rattle.conference_spec.specs.declared.Task.{Task}
use Rattle.conference_spec.specs.Codec.{g726}
use Rattle.conference_spec.specs.Machine.{Core, Run, Publish, GiveBack, next, moved, with_stage, with_reached, numbered, unnumbered, claimed, waits, is_finished}
use Rattle.conference_spec.specs.Machine.{Claim as claims}
use Rattle.conference_spec.proofs.Members.{In}
use Rattle.conference_spec.proofs.Stages.{Rise, rise-above}
use Rattle.conference_spec.proofs.Steps.{find-in}
use Rattle.book_lists.proofs.Carrying.{moved-other, moved-same}
use Rattle.tick_core.specs.declared.book.Book.{Book}
use Rattle.tick_core.specs.declared.jobs.Claim.{Claim}
use Rattle.tick_core.specs.declared.jobs.Claim.TheVariants.{Job, Idle, Over}
use Rattle.tick_core.specs.Held.{Held}
use Rattle.tick_core.specs.Standing.{Stands, HasTaken, Claims, Publishes, GivesBack, TellsOver, IsOver, unfinished}
use Rattle.tick_core.proofs.Bounds.{stands-bounded}
use Rattle.tick_core.proofs.Twins.{kept-all, ended-all, issued-all}
use Rattle.tick_core.proofs.Places.{held-run}

abbrev one_if : Bool → ℕ
one_if b = if b then 1 else 0

unfinished-cons : (r : Run) (rs : List Run) → unfinished (r ∷ rs) ≡ one_if (not (is_finished r.stage)) + unfinished rs
unfinished-cons r rs =
    let keep = r ∷ filter (λ (q : Run). not (is_finished q.stage)) rs in
    let drop' = filter (λ (q : Run). not (is_finished q.stage)) rs in
    elim (cases_Bool (not (is_finished r.stage))) [
      | inl t ↦ (let e = ap length (cond-true (not (is_finished r.stage)) keep drop' t) in
          let f : one_if (not (is_finished r.stage)) ≡ 1 = ap one_if t in
          omega arith)
      | inr t ↦ (let e = ap length (cond-false (not (is_finished r.stage)) keep drop' t) in
          let f : one_if (not (is_finished r.stage)) ≡ 0 = ap one_if t in
          omega arith)
    ]

unfinished-append : (rs qs : List Run) → unfinished (rs ++ qs) ≡ unfinished rs + unfinished qs
unfinished-append [] qs = omega arith
unfinished-append (r ∷ rs) qs =
    let a = unfinished-cons r (rs ++ qs) in
    let b = unfinished-cons r rs in
    let ih = unfinished-append rs qs in
    omega arith

-- new numbers are unfinished
unfinished-numbered : (n : ℕ) (xs : List Task) → unfinished (numbered n xs) ≡ length xs
unfinished-numbered n [] = refl
unfinished-numbered n (x ∷ xs) =
    let r : Run = record { number = n + 1; task = x; stage = Waiting } in
    let a = unfinished-cons r (numbered (n + 1) xs) in
    let ih = unfinished-numbered (n + 1) xs in
    omega arith

-- runs of other numbers stay
others-stay : (low high n : ℕ) (stage : Stage) (rs : List Run) → Rise low high rs → n ≤ low → map (moved n stage) rs ≡ rs
others-stay low high n stage [] rise le = refl
others-stay low high n stage (r ∷ rs) rise le =
    let lt = rise.0 in
    let a = moved-other n stage r (λ e. omega arith) in
    let b = others-stay r.number high n stage rs rise.1 (omega arith) in
    (λ i. a i ∷ b i)

-- one run at another stage
moved-count : (low high : ℕ) (stage : Stage) (rs : List Run) → Rise low high rs → (r : Run) → In r rs
    → unfinished (map (moved r.number stage) rs) + one_if (not (is_finished r.stage)) ≡ unfinished rs + one_if (not (is_finished stage))
moved-count low high stage [] rise r i = absurd i
moved-count low high stage (q ∷ rs) rise r (inl e) =
    let n = ap (λ (x : Run). x.number) e in
    let a = moved-same r.number stage q n in
    let b = others-stay q.number high r.number stage rs rise.1 (omega arith) in
    let c = unfinished-cons q rs in
    let d = unfinished-cons (moved r.number stage q) (map (moved r.number stage) rs) in
    let f = ap (λ (x : Run). one_if (not (is_finished x.stage))) a in
    let g = ap unfinished b in
    let h = ap (λ (x : Run). one_if (not (is_finished x.stage))) e in
    omega arith
moved-count low high stage (q ∷ rs) rise r (inr i) =
    let lt = rise-above q.number high rs rise.1 r i in
    let a = moved-other r.number stage q (λ e. omega arith) in
    let ih = moved-count q.number high stage rs rise.1 r i in
    let c = unfinished-cons q rs in
    let d = unfinished-cons (moved r.number stage q) (map (moved r.number stage) rs) in
    let f = ap (λ (x : Run). one_if (not (is_finished x.stage))) a in
    omega arith

waits-busy : (s : Stage) → waits s ≡ true → not (is_finished s) ≡ true
waits-busy Waiting h = refl
waits-busy Out h = refl
waits-busy Finished h = cc

-- a claim takes no result
pub claim-taken : (j : Claim) (b b' : Book) (n : ℕ) → HasTaken b n → ((c : Core) → Stands b c → Claims j b' c) → HasTaken b' n
claim-taken j b b' n t does = go j (does t.core t.stands)
  where
    go : (j : Claim) → Claims j b' t.core → HasTaken b' n
    go (Job x) k =
        let c = t.core in
        let r = k.0 in
        let f = find-in (λ (q : Run). waits q.stage) c.runs r k.1 in
        let e : next g726 c claims ≡ with_stage c r.number Out = ap (claimed c) k.1 in
        let m = moved-count 0 c.issued Out c.runs (kept-all b t.core t.stands).carried.numbers r f.0 in
        let w = ap one_if (waits-busy r.stage f.1) in
        let u = ap (λ (d : Core). unfinished d.runs) e in
        let v = ap (λ (d : Core). d.issued) e in
        let before = t.count in
        record { core = next g726 c claims; stands = k.3; count = omega arith }
    go Idle k = record { core = t.core; stands = k.2; count = t.count }
    go Over k = record { core = t.core; stands = k.2; count = t.count }

out-busy : (s : Stage) → s ≡ Out → not (is_finished s) ≡ true
out-busy Waiting h = refl
out-busy Out h = refl
out-busy Finished h = cc

-- a publication takes one
pub publish-taken : (d : Held) (r : Result (Unit {0}) Held) (b b' : Book) (n : ℕ) → HasTaken b n → ((c : Core) → Stands b c → Publishes d r b' c)
    → HasTaken b' (n + (if is_ok r then 1 else 0))
publish-taken d r b b' n t does = go r (does t.core t.stands)
  where
    go : (r : Result (Unit {0}) Held) → Publishes d r b' t.core → HasTaken b' (n + (if is_ok r then 1 else 0))
    go (Ok u) k =
        let c = t.core in
        let held = held-run c.runs d.number d.task k.0 in
        let c1 = with_stage c d.number Finished in
        let new = unnumbered g726 c1.runs c1.feed in
        let e : next g726 c (Publish d.number d.task) ≡ with_reached g726 c1 = ap (λ b. if b then with_reached g726 c1 else c) k.0 in
        let m0 = moved-count 0 c.issued Finished c.runs (kept-all b t.core t.stands).carried.numbers held.run held.among in
        let q = ap (λ (n : ℕ). unfinished (map (moved n Finished) c.runs)) held.number in
        let w = ap one_if (out-busy held.run.stage held.stage) in
        let a = unfinished-append c1.runs (numbered c1.issued new) in
        let z = unfinished-numbered c1.issued new in
        let u = ap (λ (d : Core). unfinished d.runs) e in
        let v = ap (λ (d : Core). d.issued) e in
        let before = t.count in
        record { core = next g726 c (Publish d.number d.task); stands = k.1; count = omega arith }
    go (Err x) k = (let p : n + 0 ≡ n = omega arith in record { core = t.core; stands = k.2; count = (let before = t.count in omega arith) })

-- a job that is given back takes none away
pub give_back-taken : (d : Held) (r : Result (Unit {0}) Held) (b b' : Book) (n : ℕ) → HasTaken b n → ((c : Core) → Stands b c → GivesBack d r b' c)
    → HasTaken b' n
give_back-taken d r b b' n t does = go r (does t.core t.stands)
  where
    go : (r : Result (Unit {0}) Held) → GivesBack d r b' t.core → HasTaken b' n
    go (Ok u) k =
        let c = t.core in
        let held = held-run c.runs d.number d.task k.0 in
        let c1 = with_stage c d.number Waiting in
        let e : next g726 c (GiveBack d.number d.task) ≡ c1 = ap (λ b. if b then c1 else c) k.0 in
        let m0 = moved-count 0 c.issued Waiting c.runs (kept-all b t.core t.stands).carried.numbers held.run held.among in
        let q = ap (λ (n : ℕ). unfinished (map (moved n Waiting) c.runs)) held.number in
        let w = ap one_if (out-busy held.run.stage held.stage) in
        let u = ap (λ (d : Core). unfinished d.runs) e in
        let v = ap (λ (d : Core). d.issued) e in
        let before = t.count in
        record { core = next g726 c (GiveBack d.number d.task); stands = k.1; count = omega arith }
    go (Err x) k = record { core = t.core; stands = k.2; count = t.count }

-- what a claim says of the end
pub tells-over : (j : Claim) (b : Book) (c : Core) → Claims j b c → TellsOver j (IsOver b)
tells-over (Job j) b c k = tt
tells-over Idle b c k = (λ e. false≢true (sym k.1 ∙ (sym (ended-all b c k.2) ∙ e)))
tells-over Over b c k = ended-all b c k.2 ∙ k.1

-- what comes back is what was handed in
pub publish-back : (d : Held) (r : Result (Unit {0}) Held) (b : Book) (c : Core) → Publishes d r b c → IfErr r (λ e. e ≡ d)
publish-back d (Ok u) b c k = tt
publish-back d (Err e) b c k = k.1

pub give_back-back : (d : Held) (r : Result (Unit {0}) Held) (b : Book) (c : Core) → GivesBack d r b c → IfErr r (λ e. e ≡ d)
give_back-back d (Ok u) b c k = tt
give_back-back d (Err e) b c k = k.1

-- there are never as many as a counter can't hold
pub taken-fits : (b : Book) (n : ℕ) → HasTaken b n → n < 2 ^ 64
taken-fits b n t =
    let small = stands-bounded b t.stands.on t.stands.is in
    let most = small.issued in
    let same = issued-all b t.core t.stands in
    let count = t.count in
    omega arith
