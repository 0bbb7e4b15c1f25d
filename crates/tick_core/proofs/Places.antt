-- Open ticks by their numbers, and runs that are out.
use Rattle.std.proofs.Common.{suc, ◌≡◌, ℕ, ◌+◌, ◌-◌, ◌<◌, ◌≤◌, inl, inr, true, ◌&&◌, ◌==◌, List, [], ◌∷◌, ◌++◌, map, get_or, refl, ◌∙◌, ap, subst, arith}
use Rattle.std.specs.Prelude.{slice_get, Option, Some, IfSome}
use Rattle.std.proofs.lemmas.Bool.{and_from, and_parts, false≢true, cases_lt, eq-eqb}
use Rattle.std.proofs.lemmas.Bool.Decides.{Decides-eqb}
use Rattle.std.proofs.lemmas.Option.{get_or_from_slice_get}
use Rattle.conference_spec.specs.declared.Entry.TheVariants.{Join, Leave, Close, Collect, Cut, End}
use Rattle.conference_spec.specs.declared.Stage.{Stage}
use Rattle.conference_spec.specs.declared.Stage.TheVariants.{Waiting, Out, Finished}
use Rattle.conference_spec.specs.declared.Task.{Task}
use Rattle.conference_spec.specs.Codec.{g726}
use Rattle.conference_spec.specs.Feed.{Feed, closes}
use Rattle.conference_spec.specs.Tasks.{is_same_task}
use Rattle.conference_spec.specs.Machine.{Run, Core, holds_out, is_out}
use Rattle.conference_spec.proofs.Equal.{g726-tells}
use Rattle.conference_spec.proofs.Wants.{same-decides}
use Rattle.conference_spec.proofs.Members.{In, Once, in-any, any-in, in-map, in-map_cases}
use Rattle.triple_table.specs.Rows.{Row}
use Rattle.book_lists.specs.declared.seats.Ticket.{Ticket}
use Rattle.book_lists.specs.Levels.{Level, Opens, HasTicket, IsTicket, LevelsOnce, all_runs, run_of}
use Rattle.book_lists.proofs.Seating.{get-in}
use Rattle.book_lists.proofs.Carrying.{run-level, level-all}

-- the open tick of a number, at the place that it tells
pub record AtNumber (vs : List Level) (last n : ℕ) : Type 0 where
  pub level : Level
  pub there : slice_get vs (last - 1 - n) ≡ Some level
  pub number : level.number ≡ n

pub level-at : (gone : ℕ) (runs : List Run) (vs : List Level) (h : Feed) → Opens g726 gone runs vs h → (n : ℕ) → gone ≤ n → n < closes h
    → AtNumber vs (closes h) n
level-at gone runs [] h o n le lt = absurd (omega arith)
level-at gone runs (v ∷ vs) [] o n le lt = absurd o
level-at gone runs (v ∷ vs) (Close tick ∷ h) o n le lt =
    elim (cases_lt n (closes h)) [
      | inl early ↦ (let a = level-at gone runs vs h o.1 n le early in
          let e : suc (closes h - 1 - n) ≡ closes h + 1 - 1 - n = omega arith in
          record { level = a.level; there = subst (λ (k : ℕ). slice_get (v ∷ vs) k ≡ Some a.level) e a.there; number = a.number })
      | inr late ↦ (let e : 0 ≡ closes h + 1 - 1 - n = omega arith in
          let m = o.0.number in
          record { level = v; there = subst (λ (k : ℕ). slice_get (v ∷ vs) k ≡ Some v) e refl; number = omega arith })
    ]
level-at gone runs (v ∷ vs) (Join spec ∷ h) o n le lt = level-at gone runs (v ∷ vs) h o n le lt
level-at gone runs (v ∷ vs) (Leave m ∷ h) o n le lt = level-at gone runs (v ∷ vs) h o n le lt
level-at gone runs (v ∷ vs) (Collect ∷ h) o n le lt = level-at gone runs (v ∷ vs) h o n le lt
level-at gone runs (v ∷ vs) (Cut ∷ h) o n le lt = level-at gone runs (v ∷ vs) h o n le lt
level-at gone runs (v ∷ vs) (End ∷ h) o n le lt = level-at gone runs (v ∷ vs) h o n le lt

-- the open tick of a ticket
pub record TicketAt (vs : List Level) (last : ℕ) (t : Ticket) : Type 0 where
  pub level : Level
  pub there : slice_get vs (last - 1 - t.tick) ≡ Some level
  pub early : t.tick < last
  pub ticket : HasTicket level t

pub ticket-at : (gone : ℕ) (runs : List Run) (vs : List Level) (h : Feed) → Opens g726 gone runs vs h → (t : Ticket) → IsTicket vs t → TicketAt vs (closes h) t
ticket-at gone runs [] h o t it = absurd it
ticket-at gone runs (v ∷ vs) [] o t it = absurd o
ticket-at gone runs (v ∷ vs) (Close tick ∷ h) o t (inl ht) =
    let m = o.0.number in
    let w = ht.tick in
    let e : 0 ≡ closes h + 1 - 1 - t.tick = omega arith in
    record { level = v; there = subst (λ (k : ℕ). slice_get (v ∷ vs) k ≡ Some v) e refl; early = omega arith; ticket = ht }
ticket-at gone runs (v ∷ vs) (Close tick ∷ h) o t (inr it) =
    let a = ticket-at gone runs vs h o.1 t it in
    let lt = a.early in
    let e : suc (closes h - 1 - t.tick) ≡ closes h + 1 - 1 - t.tick = omega arith in
    record { level = a.level; there = subst (λ (k : ℕ). slice_get (v ∷ vs) k ≡ Some a.level) e a.there; early = omega arith; ticket = a.ticket }
ticket-at gone runs (v ∷ vs) (Join spec ∷ h) o t it = ticket-at gone runs (v ∷ vs) h o t it
ticket-at gone runs (v ∷ vs) (Leave m ∷ h) o t it = ticket-at gone runs (v ∷ vs) h o t it
ticket-at gone runs (v ∷ vs) (Collect ∷ h) o t it = ticket-at gone runs (v ∷ vs) h o t it
ticket-at gone runs (v ∷ vs) (Cut ∷ h) o t it = ticket-at gone runs (v ∷ vs) h o t it
ticket-at gone runs (v ∷ vs) (End ∷ h) o t it = ticket-at gone runs (v ∷ vs) h o t it

-- the run of a row is out, so the core holds it out
pub row-out : (c : Core) (newer vs : List Level) (v : Level) (at : ℕ) (r : Row) → ((q : Run) → In q (all_runs (newer ++ v ∷ vs)) → In q c.runs)
    → slice_get v.rows at ≡ Some r → r.stage ≡ Out
    → holds_out g726 c.runs r.number (record { tick = v.number; triple = r.triple }) ≡ true
row-out c newer vs v at r among there out =
    let q = run_of v.number r in
    let in' = among q (level-all newer vs v q (in-map (run_of v.number) r v.rows (get-in v.rows at r there))) in
    in-any (λ (p : Run). (p.number == r.number) && (is_same_task g726 p.task (record { tick = v.number; triple = r.triple }) && is_out p.stage)) q c.runs in'
    (and_from (r.number == r.number) (is_same_task g726 q.task q.task && is_out r.stage) (eq-eqb r.number r.number refl)
    (and_from (is_same_task g726 q.task q.task) (is_out r.stage) ((same-decides g726 g726-tells q.task q.task).1 refl) (ap is_out out)))

is-out : (s : Stage) → is_out s ≡ true → s ≡ Out
is-out Waiting h = absurd (false≢true h)
is-out Out h = refl
is-out Finished h = absurd (false≢true h)

-- what the core holds out has a row at its tick
pub record HeldRow (v : Level) (n : ℕ) (x : Task) : Type 0 where
  pub row : Row
  pub at : ℕ
  pub there : slice_get v.rows at ≡ Some row
  pub number : row.number ≡ n
  pub triple : row.triple ≡ x.triple
  pub stage : row.stage ≡ Out

in-get : {X : Type 0} (xs : List X) (x : X) → In x xs → (i : ℕ) × (slice_get xs i ≡ Some x)
in-get [] x h = absurd h
in-get (y ∷ xs) x (inl e) = (0, ap Some e)
in-get (y ∷ xs) x (inr h) = let r = in-get xs x h in (suc r.0, r.1)

pub record HeldRun (runs : List Run) (n : ℕ) (x : Task) : Type 0 where
  pub run : Run
  pub among : In run runs
  pub number : run.number ≡ n
  pub task : run.task ≡ x
  pub stage : run.stage ≡ Out

pub held-run : (runs : List Run) (n : ℕ) (x : Task) → holds_out g726 runs n x ≡ true → HeldRun runs n x
held-run runs n x h =
    let r = any-in (λ (p : Run). (p.number == n) && (is_same_task g726 p.task x && is_out p.stage)) runs h in
    let a = and_parts (r.0.number == n) (is_same_task g726 r.0.task x && is_out r.0.stage) r.2 in
    let b = and_parts (is_same_task g726 r.0.task x) (is_out r.0.stage) a.1 in
    record { run = r.0; among = r.1; number = (Decides-eqb r.0.number n).0 a.0; task = (same-decides g726 g726-tells r.0.task x).0 b.0; stage = is-out r.0.stage b.1 }

pub held-row : (gone : ℕ) (runs : List Run) (newer vs : List Level) (v : Level) (h : Feed) → Opens g726 gone runs (newer ++ v ∷ vs) h
    → (n : ℕ) (x : Task) → (r : HeldRun runs n x)
    → In r.run (all_runs (newer ++ v ∷ vs)) → x.tick ≡ v.number → HeldRow v n x
held-row gone runs newer vs v h o n x r among tick =
    let here = run-level g726 gone runs newer vs v h o r.run among (ap (λ (t : Task). t.tick) r.task ∙ tick) in
    let m = in-map_cases (run_of v.number) r.run v.rows here in
    let g = in-get v.rows m.0 m.1 in
    record {
      row = m.0;
      at = g.0;
      there = g.1;
      number = ap (λ (q : Run). q.number) m.2 ∙ r.number;
      triple = ap (λ (q : Run). q.task.triple) m.2 ∙ ap (λ (t : Task). t.triple) r.task;
      stage = ap (λ (q : Run). q.stage) m.2 ∙ r.stage;
    }

-- each level has each triple once
pub once-level_at : (newer vs : List Level) (v : Level) → LevelsOnce (newer ++ v ∷ vs) → Once (map (λ (r : Row). r.triple) v.rows)
once-level_at [] vs v o = o.0
once-level_at (w ∷ newer) vs v o = once-level_at newer vs v o.1

-- what stands at a place, read twice
pub same-level : (vs : List Level) (place i : ℕ) (v now : Level) → place ≡ i → slice_get vs i ≡ Some v → now ≡ get_or vs place now → now ≡ v
same-level vs place i v now e there is = is ∙ (ap (λ k. get_or vs k now) e ∙ get_or_from_slice_get vs i v now there)

pub at-row : (v now : Level) (at : ℕ) (row : Row) (P : Row → Type 0) → now ≡ v → slice_get v.rows at ≡ Some row → IfSome (slice_get now.rows at) P → P row
at-row v now at row P e there some =
    subst (λ (o : Option Row). IfSome o P) (ap (λ (w : Level). slice_get w.rows at) e ∙ there) some

-- what holds of the row at a place holds of the one that is known to stand there
pub row-of : (rows : List Row) (at : ℕ) (row : Row) (P : Row → Type 0) → slice_get rows at ≡ Some row → IfSome (slice_get rows at) P → P row
row-of rows at row P there some = subst (λ (o : Option Row). IfSome o P) there some
