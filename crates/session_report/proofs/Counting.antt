-- The runs of a tick, counted by their rates as they are made.
use Rattle.std.proofs.Common.{◌≡◌, ◌∙◌, ℕ, ◌+◌, ◌≤◌, Bool, true, false, not, ◌&&◌, cond, List, [], ◌∷◌, ◌++◌, length, map, filter, refl, sym, ap, subst, arith, inl, inr, Some}
use Rattle.std.specs.Prelude.{◌==◌, nat_le, Contains}
use Rattle.std.proofs.lemmas.Bool.{cond-true, cond-false, not_from_true, ne_eqb, le-leb, lt-leb}
use Rattle.g726_bits.specs.declared.Rate.{Rate}
use Rattle.talk_mix.specs.declared.ticks.Tick.{Tick}
use Rattle.conference_spec.specs.declared.Entry.TheVariants.{Close}
use Rattle.conference_spec.specs.declared.Task.{Task}
use Rattle.conference_spec.specs.declared.Stage.TheVariants.{Out, Finished}
use Rattle.conference_spec.specs.Codec.{g726}
use Rattle.conference_spec.specs.Feed.{Feed, Listener, listeners, closes, collects}
use Rattle.conference_spec.specs.Tasks.{task_of, tasks_of, each_once, wanted, tasks}
use Rattle.conference_spec.specs.Kept.{Holds}
use Rattle.conference_spec.specs.Machine.{Run, Core, waits, has, run_tasks, is_done, has_passed, reached, unnumbered, numbered, with_reached, moved, with_stage, next_waiting}
use Rattle.conference_spec.proofs.Members.{In, in-map, in-all}
use Rattle.conference_spec.proofs.Wants.{wants-at, wanted-tick, own-wanted, wanted-tasks}
use Rattle.conference_spec.proofs.Stages.{Rise, rise-above, rise-lower, append-nil', in-has, done-collected, reached-parts, filter-append'}
use Rattle.conference_spec.proofs.Steps.{find-in, filter-none}
use Rattle.conference_spec.proofs.Told.{contains-in, in-contains}
use Rattle.conference_spec.proofs.Equal.{g726-tells}
use Rattle.tick_core.specs.declared.book.Book.{Book}
use Rattle.tick_core.specs.Standing.{Stands}
use Rattle.desk_run.specs.BookSide.{IsWhole, waiting}
use Rattle.desk_run.proofs.BookRuns.{made, made-fewer, made-tasks, made-none_out, moved-self}
use Rattle.desk_run.proofs.BookFeed.{closed}
use Rattle.session_account.specs.Encoding.{is_rate, runs_in}
use Rattle.session_report.specs.Encoding.{HasMade, waiting_at}

-- it waits, and is of this rate
abbrev pub is_next : Rate → Run → Bool
is_next q r = waits r.stage && is_rate q r.task.triple.rate

length-cond : {X : Type 0} (b : Bool) (x : X) (xs : List X) → length (cond b (x ∷ xs) xs) ≡ length xs + cond b 1 0
length-cond true x xs = omega arith
length-cond false x xs = omega arith

-- ---- a run that is made ----

made-other : (n : ℕ) (r : Run) → (r.number ≡ n → ⊥) → moved n Finished (moved n Out r) ≡ r
made-other n r ne = ap (moved n Finished) (moved-other n r ne) ∙ moved-other-finished n r ne
  where
    moved-other : (n : ℕ) (r : Run) → (r.number ≡ n → ⊥) → moved n Out r ≡ r
    moved-other n r ne = cond-false (r.number == n) (record { number = r.number; task = r.task; stage = Out }) r (ne_eqb r.number n ne)

    moved-other-finished : (n : ℕ) (r : Run) → (r.number ≡ n → ⊥) → moved n Finished r ≡ r
    moved-other-finished n r ne = cond-false (r.number == n) (record { number = r.number; task = r.task; stage = Finished }) r (ne_eqb r.number n ne)

made-self : (n : ℕ) (r : Run) → r.number ≡ n → moved n Finished (moved n Out r) ≡ record { number = r.number; task = r.task; stage = Finished }
made-self n r e =
    ap (moved n Finished) (moved-self n Out r e) ∙ moved-self n Finished (record { number = r.number; task = r.task; stage = Out }) e

made-above : (n high : ℕ) (rs : List Run) → Rise n high rs → made n rs ≡ rs
made-above n high [] h = refl
made-above n high (r ∷ rs) h =
    let k = h.0 in
    let rest : Rise n high rs = rise-lower r.number n high rs (omega arith) h.1 in
    let one : moved n Finished (moved n Out r) ≡ r = made-other n r (λ e. omega arith) in
    ap (λ q. q ∷ made n rs) one ∙ ap (λ qs. r ∷ qs) (made-above n high rs rest)

-- of the runs of its rate that wait it is one less, and of each other rate just as many
made-counted : (q : Rate) (low high : ℕ) (rs : List Run) → Rise low high rs → (r : Run) → In r rs → waits r.stage ≡ true
    → length (filter (is_next q) (made r.number rs)) + cond (is_rate q r.task.triple.rate) 1 0 ≡ length (filter (is_next q) rs)
made-counted q low high [] h r i t = absurd i
made-counted q low high (x ∷ rs) h r (inl e) t =
    let n = r.number in
    let at : x.number ≡ n = ap (λ (y : Run). y.number) e in
    let done : Run = record { number = x.number; task = x.task; stage = Finished } in
    let rest : made n rs ≡ rs = made-above n high rs (subst (λ (m : ℕ). Rise m high rs) at h.1) in
    let whole : made n (x ∷ rs) ≡ done ∷ rs = ap (λ y. y ∷ made n rs) (made-self n x at) ∙ ap (λ ys. done ∷ ys) rest in
    let a : length (filter (is_next q) (made n (x ∷ rs))) ≡ length (filter (is_next q) rs) = ap (λ ys. length (filter (is_next q) ys)) whole in
    let mine : is_next q x ≡ is_rate q r.task.triple.rate = ap (is_next q) e ∙ ap (λ (b : Bool). b && is_rate q r.task.triple.rate) t in
    let one : ℕ = cond (is_rate q r.task.triple.rate) 1 0 in
    let b : length (filter (is_next q) (x ∷ rs)) ≡ length (filter (is_next q) rs) + one =
    length-cond (is_next q x) x (filter (is_next q) rs)
    ∙ ap (λ (b : Bool). length (filter (is_next q) rs) + cond b 1 0) mine in
    ap (λ (m : ℕ). m + one) a ∙ sym b
made-counted q low high (x ∷ rs) h r (inr i) t =
    let n = r.number in
    let above = rise-above x.number high rs h.1 r i in
    let ih = made-counted q x.number high rs h.1 r i t in
    let one : moved n Finished (moved n Out x) ≡ x = made-other n x (λ e. omega arith) in
    let whole : made n (x ∷ rs) ≡ x ∷ made n rs = ap (λ y. y ∷ made n rs) one in
    let more : ℕ = cond (is_next q x) 1 0 in
    let gone : ℕ = cond (is_rate q r.task.triple.rate) 1 0 in
    let a : length (filter (is_next q) (made n (x ∷ rs))) ≡ length (filter (is_next q) (made n rs)) + more =
    ap (λ ys. length (filter (is_next q) ys)) whole ∙ length-cond (is_next q x) x (filter (is_next q) (made n rs)) in
    let b : length (filter (is_next q) (x ∷ rs)) ≡ length (filter (is_next q) rs) + more = length-cond (is_next q x) x (filter (is_next q) rs) in
    omega (arith, a, b, ih)

-- where each task has its run, nothing is reached that has no number
whole-numbered : (c : Core) (rs : List Run) → run_tasks rs ≡ run_tasks c.runs → IsWhole c → unnumbered g726 rs c.feed ≡ []
whole-numbered c rs e w = filter-none (λ x. not (has g726 (run_tasks rs) x)) (reached g726 rs c.feed) (λ x i.
    let p = reached-parts g726 rs c.feed x i in
    let t = wanted-tasks g726 g726-tells (has_passed g726 (collects c.feed) rs) c.feed x p.0 in
    let there = contains-in (run_tasks c.runs) x (w.each_run x (in-contains x (tasks g726 c.feed) t) p.1) in
    not_from_true (has g726 (run_tasks rs) x) (in-has g726 g726-tells (run_tasks rs) x (subst (λ (ts : List Task). In x ts) (sym e) there)))

-- then numbers are given to nothing
nothing-new : (d : Core) → unnumbered g726 d.runs d.feed ≡ [] → with_reached g726 d ≡ d
nothing-new d e =
    let none : d.issued + 0 ≡ d.issued = omega arith in
    ap (λ (new : List Task). record { feed = d.feed; issued = d.issued + length new; runs = d.runs ++ numbered d.issued new }) e
    ∙ (λ i. record { feed = d.feed; issued = none i; runs = append-nil' d.runs i })

-- the run that waited first was claimed, done and published
pub turn-counted : (b : Book) (c : Core) (r : Run) → Rise 0 c.issued c.runs → IsWhole c → next_waiting c.runs ≡ Some r
    → Stands b (with_reached g726 (with_stage (with_stage c r.number Out) r.number Finished)) → HasMade r.task.triple.rate c b
turn-counted b c r rise w e st =
    let d : Core = record { feed = c.feed; issued = c.issued; runs = made r.number c.runs } in
    let f = find-in (λ r. waits r.stage) c.runs r e in
    let told = made-tasks r.number c.runs in
    let same = nothing-new d (whole-numbered c (made r.number c.runs) told w) in
    let less = made-fewer 0 c.issued c.runs rise r f.0 f.1 in
    record {
      made = record {
        core = d;
        stands = subst (λ (x : Core). Stands b x) same st;
        feed = refl;
        whole = record {
          each_run = λ x i le. subst (λ (ts : List Task). Contains ts x) (sym told) (w.each_run x i le);
          none_out = made-none_out r.number c.runs w.none_out;
        };
        left = omega arith;
      };
      counts = λ q. made-counted q 0 c.issued c.runs rise r f.0 f.1;
    }

-- ---- where none waits ----

fewer-by : (a b : Bool) (r : Run) (xs ys : List Run) → length xs ≤ length ys → length (cond (a && b) (r ∷ xs) xs) ≤ length (cond a (r ∷ ys) ys)
fewer-by true true r xs ys less = omega (arith, less)
fewer-by true false r xs ys less = omega (arith, less)
fewer-by false b r xs ys less = less

fewer : (q : Rate) (rs : List Run) → length (filter (is_next q) rs) ≤ length (filter (λ r. waits r.stage) rs)
fewer q [] = omega arith
fewer q (r ∷ rs) =
    fewer-by (waits r.stage) (is_rate q r.task.triple.rate) r (filter (is_next q) rs) (filter (λ r. waits r.stage) rs) (fewer q rs)

pub none-at : (q : Rate) (c : Core) → waiting c ≡ 0 → waiting_at q c ≡ 0
none-at q c none = omega (arith, fewer q c.runs)

-- ---- a close ----

keep-all : {X : Type 0} (p : X → Bool) (xs : List X) → ((x : X) → In x xs → p x ≡ true) → filter p xs ≡ xs
keep-all p [] h = refl
keep-all p (x ∷ xs) h = cond-true (p x) (x ∷ filter p xs) (filter p xs) (h x (inl refl)) ∙ ap (λ ys. x ∷ ys) (keep-all p xs (λ y i. h y (inr i)))

no-runs : (rs : List Run) → ((r : Run) → In r rs → ⊥) → rs ≡ []
no-runs [] none = refl
no-runs (r ∷ rs) none = absurd (none r (inl refl))

-- where each closed tick was collected, no runs are kept
none-kept : (c : Core) → Holds g726 c → collects c.feed ≡ closes c.feed → c.runs ≡ []
none-kept c holds even = no-runs c.runs (λ r i.
    let has_number = in-contains r.task (run_tasks c.runs) (in-map (λ (r : Run). r.task) r c.runs i) in
    let there = contains-in (reached g726 c.runs c.feed) r.task ((holds.reached_run r.task).1 has_number) in
    let parts = reached-parts g726 c.runs c.feed r.task there in
    let before = wanted-tick g726 (has_passed g726 (collects c.feed) c.runs) c.feed r.task parts.0 in
    omega (arith, parts.1, before, even))

-- then the tasks of a tick that is closed are just those that get numbers
new-tasks : (h : Feed) (tick : Tick) → collects h ≡ closes h
    → unnumbered g726 [] (Close tick ∷ h) ≡ each_once g726 (map (task_of g726 (closes h) tick) (listeners g726 h))
new-tasks h tick even =
    let p : Listener → Bool = has_passed g726 (collects h) [] in
    let late : Task → Bool = λ x. nat_le (collects h) x.tick in
    let here : List Listener → List Task = λ ls. each_once g726 (map (task_of g726 (closes h) tick) ls) in
    let passed : (l : Listener) → In l (listeners g726 h) → p l ≡ true = λ l i.
    in-all (is_done g726 (collects h) []) (tasks_of g726 l) (λ y j.
    let lt = wanted-tick g726 (λ l. true) h y (own-wanted g726 g726-tells h l i y j) in
    done-collected g726 (collects h) [] y (omega arith)) in
    keep-all (λ x. not (has g726 [] x)) (reached g726 [] (Close tick ∷ h)) (λ x i. refl)
    ∙ filter-append' late (wanted g726 p h) (here (filter p (listeners g726 h)))
    ∙ ap (λ (xs : List Task). xs ++ filter late (here (filter p (listeners g726 h))))
    (filter-none late (wanted g726 p h) (λ x i. let lt = wanted-tick g726 p h x i in lt-leb (collects h) x.tick (omega arith)))
    ∙ keep-all late (here (filter p (listeners g726 h))) (λ x i.
    let at = wants-at g726 (closes h) tick p (listeners g726 h) x i in
    let when : x.tick ≡ closes h = sym (ap (λ (y : Task). y.tick) at.3) in
    le-leb (collects h) x.tick (omega (arith, when, even)))
    ∙ ap here (keep-all p (listeners g726 h) passed)

numbered-at : (q : Rate) (n : ℕ) (xs : List Task)
    → length (filter (is_next q) (numbered n xs)) ≡ length (filter (λ (x : Task). is_rate q x.triple.rate) xs)
numbered-at q n [] = refl
numbered-at q n (x ∷ xs) =
    length-cond (is_rate q x.triple.rate) _ (filter (is_next q) (numbered (n + 1) xs))
    ∙ ap (λ (m : ℕ). m + cond (is_rate q x.triple.rate) 1 0) (numbered-at q (n + 1) xs)
    ∙ sym (length-cond (is_rate q x.triple.rate) x (filter (λ (x : Task). is_rate q x.triple.rate) xs))

-- the runs that wait once a tick is closed are just its own
pub closed-at : (q : Rate) (c : Core) (tick : Tick) → Holds g726 c → collects c.feed ≡ closes c.feed
    → waiting_at q (closed c tick) ≡ runs_in q tick c.feed
closed-at q c tick holds even =
    let h = c.feed in
    let none = none-kept c holds even in
    ap (λ (rs : List Run). length (filter (is_next q) (rs ++ numbered c.issued (unnumbered g726 rs (Close tick ∷ h))))) none
    ∙ numbered-at q c.issued (unnumbered g726 [] (Close tick ∷ h))
    ∙ ap (λ (xs : List Task). length (filter (λ (x : Task). is_rate q x.triple.rate) xs)) (new-tasks h tick even)
