-- A Book's turns: a tick is closed, its runs are made, and its packets are handed out.
use Rattle.std.proofs.Common.{◌≡◌, ◌+◌, ◌-◌, ◌<◌, inl, inr, true, false, not, ◌||◌, List, [], ◌∷◌, ◌++◌, length, map, refl, sym, ◌∙◌, ap, subst, arith, Some, None, Bool, ◌&&◌}
use Rattle.std.specs.Prelude.{◌==◌, nat_lt, nat_le, Contains}
use Rattle.std.specs.List.{filter, list_all, All}
use Rattle.std.proofs.lemmas.Bool.{cases_Bool, cond-true, cond-false, not_from_false, not_from_true, or_left, or_right, eq-eqb, eqb-true, lt-ltb, and_from}
use Rattle.std.proofs.lemmas.List.Elements.{All-append}
use Rattle.talk_mix.specs.declared.ticks.Tick.{Tick}
use Rattle.conference_spec.specs.declared.Entry.TheVariants.{Close, Collect}
use Rattle.conference_spec.specs.declared.Task.{Task}
use Rattle.conference_spec.specs.declared.Stage.TheVariants.{Out, Finished}
use Rattle.conference_spec.specs.Codec.{g726}
use Rattle.conference_spec.specs.Feed.{Listener, listeners, closes, collects}
use Rattle.conference_spec.specs.Tasks.{task_of, tasks_of, each_once, is_same_task, wanted, tasks}
use Rattle.conference_spec.specs.Machine.{Run, Core, waits, is_out, is_finished, has, run_tasks, finished_tasks, is_done, has_passed, reached, unnumbered, numbered, with_reached, moved, with_stage, next_waiting, holds_out, is_over, appended, accepts}
use Rattle.conference_spec.proofs.Members.{In, in-append_left, in-append_right, in-append_cases, in-filter, in-map, in-map_cases, in-any, in-all}
use Rattle.conference_spec.proofs.Wants.{same-decides, wants-at, at-wanted, wanted-tick, own-wanted, wanted-tasks}
use Rattle.conference_spec.proofs.Stages.{Rise, map-append, append-nil', tasks-numbered, finished-more, run-finished, has-in, in-has, done-collected, reached-parts, in-reached}
use Rattle.conference_spec.proofs.Steps.{find-in, filter-none}
use Rattle.conference_spec.proofs.Told.{contains-in, in-contains}
use Rattle.conference_spec.proofs.Equal.{g726-tells}
use Rattle.tick_core.specs.declared.book.Book.{Book}
use Rattle.tick_core.specs.declared.jobs.Claim.{Claim}
use Rattle.tick_core.specs.declared.jobs.Claim.TheVariants.{Job, Idle, Over}
use Rattle.tick_core.specs.Held.{Held}
use Rattle.tick_core.specs.Standing.{Stands, Claims}
use Rattle.desk_run.specs.BookSide.{IsWhole, HasRun, waiting}
use Rattle.desk_run.proofs.BookRuns.{all-at, all-of, finished-in, new-waits, moved-self, made, made-fewer, made-tasks, made-none_out}

-- ---- a run's turn ----

none-waits : (rs : List Run) → next_waiting rs ≡ None → length (filter (λ r. waits r.stage) rs) ≡ 0
none-waits [] e = refl
none-waits (r ∷ rs) e =
    let w = λ (q : Run). waits q.stage in
    elim (cases_Bool (w r)) [
      | inl t ↦ (let at = cond-true (w r) (Some r) (next_waiting rs) t in absurd cc)
      | inr t ↦
          let at = cond-false (w r) (Some r) (next_waiting rs) t in
          let none : next_waiting rs ≡ None = cc in
          ap length (cond-false (w r) (r ∷ filter w rs) (filter w rs) t) ∙ none-waits rs none
    ]

-- where a run waits, a claim gives one
pub claim-gives : (r : Claim) (new : Book) (c : Core) → 0 < waiting c → Claims r new c → ((x : Held) → r ≡ Job x → ⊥) → ⊥
claim-gives (Job x) new c lt k other = other x refl
claim-gives Idle new c lt k other = let e = none-waits c.runs k.0 in omega arith
claim-gives Over new c lt k other = let e = none-waits c.runs k.0 in omega arith

-- what was claimed is out
pub claimed-out : (rs : List Run) (r : Run) → next_waiting rs ≡ Some r → holds_out g726 (map (moved r.number Out) rs) r.number r.task ≡ true
claimed-out rs r e =
    let f = find-in (λ r. waits r.stage) rs r e in
    let p = λ (q : Run). (q.number == r.number) && (is_same_task g726 q.task r.task && is_out q.stage) in
    in-any p (moved r.number Out r) (map (moved r.number Out) rs) (in-map (moved r.number Out) r rs f.0)
    (ap p (moved-self r.number Out r refl)
    ∙ and_from (r.number == r.number) (is_same_task g726 r.task r.task && true) (eq-eqb r.number r.number refl)
    (and_from (is_same_task g726 r.task r.task) true ((same-decides g726 g726-tells r.task r.task).1 refl) refl))

-- where each task has its run, nothing is reached that has no number
whole-numbered : (c : Core) (rs : List Run) → run_tasks rs ≡ run_tasks c.runs → IsWhole c → unnumbered g726 rs c.feed ≡ []
whole-numbered c rs e w = filter-none (λ x. not (has g726 (run_tasks rs) x)) (reached g726 rs c.feed) (λ x i.
    let p = reached-parts g726 rs c.feed x i in
    let t = wanted-tasks g726 g726-tells (has_passed g726 (collects c.feed) rs) c.feed x p.0 in
    let there = contains-in (run_tasks c.runs) x (w.each_run x (in-contains x (tasks g726 c.feed) t) p.1) in
    not_from_true (has g726 (run_tasks rs) x) (in-has g726 g726-tells (run_tasks rs) x (subst (λ (ts : List Task). In x ts) (sym e) there)))

-- then numbers are given to nothing
nothing-new : (d : Core) → unnumbered g726 d.runs d.feed ≡ [] → with_reached g726 d ≡ d
nothing-new d e =
    let none : d.issued + 0 ≡ d.issued = omega arith in
    ap (λ (new : List Task). record { feed = d.feed; issued = d.issued + length new; runs = d.runs ++ numbered d.issued new }) e
    ∙ (λ i. record { feed = d.feed; issued = none i; runs = append-nil' d.runs i })

-- the run that waited first was claimed, done and published
pub turn-made : (b : Book) (c : Core) (r : Run) → Rise 0 c.issued c.runs → IsWhole c → next_waiting c.runs ≡ Some r
    → Stands b (with_reached g726 (with_stage (with_stage c r.number Out) r.number Finished)) → HasRun (waiting c - 1) c b
turn-made b c r rise w e st =
    let d : Core = record { feed = c.feed; issued = c.issued; runs = made r.number c.runs } in
    let f = find-in (λ r. waits r.stage) c.runs r e in
    let told = made-tasks r.number c.runs in
    let same = nothing-new d (whole-numbered c (made r.number c.runs) told w) in
    let less = made-fewer 0 c.issued c.runs rise r f.0 f.1 in
    record {
      core = d;
      stands = subst (λ (x : Core). Stands b x) same st;
      feed = refl;
      whole = record {
        each_run = λ x i le. subst (λ (ts : List Task). Contains ts x) (sym told) (w.each_run x i le);
        none_out = made-none_out r.number c.runs w.none_out;
      };
      left = omega arith;
    }

-- ---- a close ----

-- once numbers were given out, each task that is reached has its run
all-numbered : (c : Core) (x : Task) → In x (reached g726 (with_reached g726 c).runs c.feed) → In x (run_tasks (with_reached g726 c).runs)
all-numbered c x i =
    let new : List Task = unnumbered g726 c.runs c.feed in
    let free = λ (y : Task). not (has g726 (run_tasks c.runs) y) in
    let P : List Task → Type 0 = λ ts. In x ts in
    let told : run_tasks (c.runs ++ numbered c.issued new) ≡ run_tasks c.runs ++ new =
    map-append (λ (r : Run). r.task) c.runs (numbered c.issued new) ∙ ap (λ (ts : List Task). run_tasks c.runs ++ ts) (tasks-numbered c.issued new) in
    let passes : List Task → Listener → Bool = λ ts l. list_all (λ (y : Task). nat_lt y.tick (collects c.feed) || has g726 ts y) (tasks_of g726 l) in
    let at : reached g726 (c.runs ++ numbered c.issued new) c.feed ≡ reached g726 c.runs c.feed =
    ap (λ (ts : List Task). filter (λ (y : Task). nat_le (collects c.feed) y.tick) (wanted g726 (passes ts) c.feed)) (finished-more c.runs c.issued new) in
    subst P (sym told) (elim (cases_Bool (has g726 (run_tasks c.runs) x)) [
      | inl t ↦ in-append_left x (run_tasks c.runs) new (has-in g726 g726-tells (run_tasks c.runs) x t)
      | inr t ↦ in-append_right x (run_tasks c.runs) new (in-filter free x (reached g726 c.runs c.feed) (subst P at i) (not_from_false (has g726 (run_tasks c.runs) x) t))
    ])

-- a tick that is closed where none was left to be collected has all its runs
pub close-whole : (c : Core) (tick : Tick) → collects c.feed ≡ closes c.feed → All (λ r. is_finished r.stage ≡ true) c.runs
    → IsWhole (with_reached g726 (appended c (Close tick)))
close-whole c tick even fin =
    let h = c.feed in
    let d : Core = with_reached g726 (appended c (Close tick)) in
    let p = has_passed g726 (collects h) d.runs in
    let here = λ (q : Listener → Bool). each_once g726 (map (task_of g726 (closes h) tick) (filter q (listeners g726 h))) in
    let passed : (l : Listener) → In l (listeners g726 h) → p l ≡ true = λ l i.
    in-all (is_done g726 (collects h) d.runs) (tasks_of g726 l) (λ y j.
    let lt = wanted-tick g726 (λ l. true) h y (own-wanted g726 g726-tells h l i y j) in
    done-collected g726 (collects h) d.runs y (omega arith)) in
    record {
      each_run = λ x i le. in-contains x (run_tasks d.runs)
          (elim (in-append_cases x (tasks g726 h) (here (λ l. true)) (contains-in (tasks g726 (Close tick ∷ h)) x i)) [
            | inl a ↦ (let lt = wanted-tick g726 (λ l. true) h x a in absurd (omega arith))
            | inr a ↦
                let at = wants-at g726 (closes h) tick (λ l. true) (listeners g726 h) x a in
                let l = at.0 in
                let own = at-wanted g726 g726-tells (closes h) tick p (listeners g726 h) l at.1 (passed l at.1) in
                let mine : In x (here p) = subst (λ (y : Task). In y (here p)) at.3 own in
                all-numbered (appended c (Close tick)) x (in-reached g726 d.runs (Close tick ∷ h) x (in-append_right x (wanted g726 p h) (here p) mine) le)
          ]);
      none_out = All-append (λ r. is_out r.stage ≡ false) c.runs (numbered c.issued (unnumbered g726 c.runs (Close tick ∷ h)))
          (all-of (λ r. is_out r.stage ≡ false) c.runs (λ r i. finished-in r.stage (all-at (λ r. is_finished r.stage ≡ true) r c.runs fin i)))
          (all-of (λ r. is_out r.stage ≡ false) (numbered c.issued (unnumbered g726 c.runs (Close tick ∷ h))) (new-waits c.issued (unnumbered g726 c.runs (Close tick ∷ h))));
    }

-- ---- a collect ----

-- where each run is finished, the next tick can be handed out
pub whole-over : (c : Core) → IsWhole c → All (λ r. is_finished r.stage ≡ true) c.runs → collects c.feed < closes c.feed → accepts g726 c Collect ≡ true
whole-over c w fin lt =
    let k = collects c.feed in
    let done = finished_tasks c.runs in
    and_from (nat_lt k (closes c.feed)) (is_over g726 c.runs c.feed k) (lt-ltb k (closes c.feed) lt)
    (in-all (λ x. not (x.tick == k) || has g726 done x) (tasks g726 c.feed) (λ x i.
    elim (cases_Bool (x.tick == k)) [
      | inl t ↦
          let e = eqb-true x.tick k t in
          let there = contains-in (run_tasks c.runs) x (w.each_run x (in-contains x (tasks g726 c.feed) i) (omega arith)) in
          let m = in-map_cases (λ r. r.task) x c.runs there in
          let f = run-finished c.runs m.0 m.1 (all-at (λ r. is_finished r.stage ≡ true) m.0 c.runs fin m.1) in
          or_right (not (x.tick == k)) (has g726 done x) (in-has g726 g726-tells done x (subst (λ (y : Task). In y done) m.2 f))
      | inr t ↦ or_left (not (x.tick == k)) (has g726 done x) (not_from_false (x.tick == k) t)
    ]))
