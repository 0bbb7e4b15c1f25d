-- The runs that wait.
use Rattle.std.proofs.Common.{◌-◌, suc, zero, ◌≡◌, ℕ, ◌+◌, ◌≤◌, ◌<◌, ◌⊎◌, inl, inr, List, [], ◌∷◌, ◌++◌, length, map, refl, sym, ◌∙◌, ap, subst, arith, Some, length-append, append_assoc}
use Rattle.std.specs.Prelude.{slice_get}
use Rattle.std.proofs.lemmas.List.{map-append}
use Rattle.triple_table.specs.Rows.{Row}
use Rattle.conference_spec.specs.declared.Task.{Task}
use Rattle.conference_spec.specs.declared.Stage.TheVariants.{Waiting}
use Rattle.conference_spec.specs.Machine.{Run}
use Rattle.conference_spec.specs.Members.{In}
use Rattle.conference_spec.proofs.Members.{in-append_left, in-append_right, in-append_cases, in-map, in-map_cases}
use Rattle.book_lists.specs.Levels.{Level, run_of, level_runs, all_runs}
use Rattle.book_lists.proofs.Rowing.{rows_numbered}
use Rattle.book_lists.proofs.Seating.{get-front, get-in}
use Rattle.conference_spec.specs.declared.Stage.{Stage}
use Rattle.std.proofs.Common.{set}
use Rattle.book_lists.specs.declared.seats.Ticket.{Ticket}
use Rattle.triple_table.specs.Rows.{staged}
use Rattle.book_lists.specs.Levels.{with_rows}
use Rattle.book_lists.specs.Levels.{SameRuns, IsTicket, HasTicket, TicketsRise, IsQueue, tickets, new_tickets}
use Rattle.book_lists.proofs.Swept.{GrewTo}
use Rattle.book_lists.proofs.Carrying.{get-set}

pub rise-more : (low low' : ℕ) (ts : List Ticket) → low' ≤ low → TicketsRise low ts → TicketsRise low' ts
rise-more low low' [] le r = tt
rise-more low low' (t ∷ ts) le r = let a = r.0 in (omega arith, r.1)

pub rise-at : (low : ℕ) (ts : List Ticket) → TicketsRise low ts → (t : Ticket) → In t ts → low < t.number
rise-at low [] r t i = absurd i
rise-at low (s ∷ ts) r t (inl e) = let a = r.0 in let b = ap (λ q. q.number) e in (let P : ℕ → Type 0 = λ n. low < n in subst P b a)
rise-at low (s ∷ ts) r t (inr i) = let a = r.0 in let ih = rise-at s.number ts r.1 t i in omega arith

-- numbers up to high, then from high on
pub rise-append : (low high : ℕ) (ts us : List Ticket) → TicketsRise low ts → ((t : Ticket) → In t ts → t.number ≤ high) → low ≤ high
    → TicketsRise high us → TicketsRise low (ts ++ us)
rise-append low high [] us r below le u = rise-more high low us le u
rise-append low high (t ∷ ts) us r below le u =
    (r.0, rise-append t.number high ts us r.1 (λ s i. below s (inr i)) (below t (inl refl)) u)

pub rise-tickets : (tick at n count : ℕ) → TicketsRise n (tickets tick at n count)
rise-tickets tick at n zero = tt
rise-tickets tick at n (suc count) = (omega arith, rise-tickets tick (at + 1) (n + 1) count)

pub tickets-below : (tick at n count : ℕ) (t : Ticket) → In t (tickets tick at n count) → t.number ≤ n + count
tickets-below tick at n zero t i = absurd i
tickets-below tick at n (suc count) t (inl e) = let a : n + 1 ≡ t.number = ap (λ q. q.number) e in omega arith
tickets-below tick at n (suc count) t (inr i) = let ih = tickets-below tick (at + 1) (n + 1) count t i in omega arith

pub length-rows_numbered : (n : ℕ) (xs : List Task) → length (rows_numbered n xs) ≡ length xs
length-rows_numbered n [] = refl
length-rows_numbered n (x ∷ xs) = let ih = length-rows_numbered (n + 1) xs in omega arith

pub get-after : {X : Type 0} (xs ys : List X) (j : ℕ) → slice_get (xs ++ ys) (length xs + j) ≡ slice_get ys j
get-after [] ys j = let e : 0 + j ≡ j = omega arith in ap (slice_get ys) e
get-after {X} (x ∷ xs) ys j =
    let e : suc (length xs) + j ≡ suc (length xs + j) = omega arith in
    ap (slice_get (x ∷ (xs ++ ys))) e ∙ get-after xs ys j

-- each ticket of new rows has its row
pub tickets-each : (v : Level) (front : List Row) (n : ℕ) (xs : List Task) → v.rows ≡ front ++ rows_numbered n xs
    → (t : Ticket) → In t (tickets v.number (length front) n (length xs)) → HasTicket v t
tickets-each v front n [] e t i = absurd i
tickets-each v front n (x ∷ xs) e t (inl q) =
    let row : Row = record { triple = x.triple; number = n + 1; stage = Waiting } in
    let place : length front + 0 ≡ t.at = (let z : length front + 0 ≡ length front = omega arith in z ∙ ap (λ s. s.at) q) in
    record {
      tick = ap (λ s. s.tick) q;
      row = row;
      there = ap (slice_get v.rows) (sym place) ∙ ap (λ rs. slice_get rs (length front + 0)) e ∙ get-after front (rows_numbered n (x ∷ xs)) 0;
      number = ap (λ s. s.number) q;
      waiting = refl;
    }
tickets-each v front n (x ∷ xs) e t (inr i) =
    let row : Row = record { triple = x.triple; number = n + 1; stage = Waiting } in
    let front' = front ++ row ∷ [] in
    let e' : v.rows ≡ front' ++ rows_numbered (n + 1) xs = e ∙ sym (append_assoc front (row ∷ []) (rows_numbered (n + 1) xs)) in
    let len : length front + 1 ≡ length front' = (let a = length-append front (row ∷ []) in omega arith) in
    let P : ℕ → Type 0 = λ m. In t (tickets v.number m (n + 1) (length xs)) in
    tickets-each v front' (n + 1) xs e' t (subst P len i)

-- each new row has its ticket
pub tickets-all : (tick at n : ℕ) (xs : List Task) (r : Row) → In r (rows_numbered n xs) → In r.number (map (λ t. t.number) (tickets tick at n (length xs)))
tickets-all tick at n [] r i = absurd i
tickets-all tick at n (x ∷ xs) r (inl e) = inl (ap (λ q. q.number) e)
tickets-all tick at n (x ∷ xs) r (inr i) = inr (tickets-all tick (at + 1) (n + 1) xs r i)

-- ---- levels that got rows ----

pub count-new : (n n' : ℕ) (old new : List Level) → GrewTo n n' old new → n' ≡ n + length (new_tickets old new n)
count-new n n' [] [] g = omega arith
count-new n n' [] (v' ∷ vs') g = absurd g
count-new n n' (v ∷ vs) [] g = absurd g
count-new n n' (v ∷ vs) (v' ∷ vs') g =
    let ih = count-new n g.0 vs vs' g.5 in
    let older = new_tickets vs vs' n in
    let a = length-append older (tickets v.number (length v.rows) (n + length older) (length v'.rows - length v.rows)) in
    let b = length-tickets v.number (length v.rows) (n + length older) (length v'.rows - length v.rows) in
    let c : length v'.rows ≡ length v.rows + length g.1 = ap length g.3 ∙ length-append v.rows (rows_numbered g.0 g.1) ∙ ap (λ m. length v.rows + m) (length-rows_numbered g.0 g.1) in
    let d = g.4 in
    omega arith
  where
    length-tickets : (tick at n count : ℕ) → length (tickets tick at n count) ≡ count
    length-tickets tick at n zero = refl
    length-tickets tick at n (suc count) = let ih = length-tickets tick (at + 1) (n + 1) count in omega arith

-- the tickets that a level adds
pub level-tickets : (n : ℕ) (v v' : Level) (vs vs' : List Level) (m : ℕ) (xs : List Task) → m ≡ n + length (new_tickets vs vs' n)
    → v'.rows ≡ v.rows ++ rows_numbered m xs
    → new_tickets (v ∷ vs) (v' ∷ vs') n ≡ new_tickets vs vs' n ++ tickets v.number (length v.rows) m (length xs)
level-tickets n v v' vs vs' m xs e rows =
    let older = new_tickets vs vs' n in
    let c : length v'.rows ≡ length v.rows + length xs = ap length rows ∙ length-append v.rows (rows_numbered m xs) ∙ ap (λ j. length v.rows + j) (length-rows_numbered m xs) in
    let d : length v'.rows - length v.rows ≡ length xs = omega arith in
    ap (λ j. older ++ tickets v.number (length v.rows) j (length v'.rows - length v.rows)) (sym e)
    ∙ ap (λ j. older ++ tickets v.number (length v.rows) m j) d

pub new-below : (n n' : ℕ) (old new : List Level) → GrewTo n n' old new → (t : Ticket) → In t (new_tickets old new n) → t.number ≤ n'
new-below n n' [] [] g t i = absurd i
new-below n n' [] (v' ∷ vs') g t i = absurd i
new-below n n' (v ∷ vs) [] g t i = absurd i
new-below n n' (v ∷ vs) (v' ∷ vs') g t i =
    let c = count-new n g.0 vs vs' g.5 in
    let P : List Ticket → Type 0 = λ ts. In t ts in
    let d = g.4 in
    elim (in-append_cases t (new_tickets vs vs' n) (tickets v.number (length v.rows) g.0 (length g.1)) (subst P (level-tickets n v v' vs vs' g.0 g.1 c g.3) i)) [
      | inl a ↦ let ih = new-below n g.0 vs vs' g.5 t a in omega arith
      | inr b ↦ let k = tickets-below v.number (length v.rows) g.0 (length g.1) t b in omega arith
    ]

pub new-rise : (n n' : ℕ) (old new : List Level) → GrewTo n n' old new → TicketsRise n (new_tickets old new n)
new-rise n n' [] [] g = tt
new-rise n n' [] (v' ∷ vs') g = tt
new-rise n n' (v ∷ vs) [] g = tt
new-rise n n' (v ∷ vs) (v' ∷ vs') g =
    let c = count-new n g.0 vs vs' g.5 in
    subst (TicketsRise n) (sym (level-tickets n v v' vs vs' g.0 g.1 c g.3))
    (rise-append n g.0 (new_tickets vs vs' n) (tickets v.number (length v.rows) g.0 (length g.1)) (new-rise n g.0 vs vs' g.5)
    (new-below n g.0 vs vs' g.5) (omega arith) (rise-tickets v.number (length v.rows) g.0 (length g.1)))

-- an old ticket still has its row
pub ticket-grown : (n n' : ℕ) (old new : List Level) → GrewTo n n' old new → (t : Ticket) → IsTicket old t → IsTicket new t
ticket-grown n n' [] [] g t h = h
ticket-grown n n' [] (v' ∷ vs') g t h = absurd h
ticket-grown n n' (v ∷ vs) [] g t h = absurd g
ticket-grown n n' (v ∷ vs) (v' ∷ vs') g t (inl h) = inl (record {
  tick = g.2 ∙ h.tick;
  row = h.row;
  there = ap (λ rs. slice_get rs t.at) g.3 ∙ get-front v.rows (rows_numbered g.0 g.1) t.at h.row h.there;
  number = h.number;
  waiting = h.waiting;
})
ticket-grown n n' (v ∷ vs) (v' ∷ vs') g t (inr h) = inr (ticket-grown n g.0 vs vs' g.5 t h)

-- a new ticket has its row
pub ticket-new : (n n' : ℕ) (old new : List Level) → GrewTo n n' old new → (t : Ticket) → In t (new_tickets old new n) → IsTicket new t
ticket-new n n' [] [] g t i = i
ticket-new n n' [] (v' ∷ vs') g t i = absurd i
ticket-new n n' (v ∷ vs) [] g t i = absurd i
ticket-new n n' (v ∷ vs) (v' ∷ vs') g t i =
    let c = count-new n g.0 vs vs' g.5 in
    let P : List Ticket → Type 0 = λ ts. In t ts in
    elim (in-append_cases t (new_tickets vs vs' n) (tickets v.number (length v.rows) g.0 (length g.1)) (subst P (level-tickets n v v' vs vs' g.0 g.1 c g.3) i)) [
      | inl a ↦ inr (ticket-new n g.0 vs vs' g.5 t a)
      | inr b ↦ inl (tickets-each v' v.rows g.0 g.1 g.3 t (let Q : ℕ → Type 0 = λ k. In t (tickets k (length v.rows) g.0 (length g.1)) in subst Q (sym g.2) b))
    ]

-- a run of the new levels is a run of the old ones or has a new ticket
pub run-grown : (n n' : ℕ) (old new : List Level) → GrewTo n n' old new → (r : Run) → In r (all_runs new)
    → In r (all_runs old) ⊎ In r.number (map (λ t. t.number) (new_tickets old new n))
run-grown n n' [] [] g r i = inl i
run-grown n n' [] (v' ∷ vs') g r i = absurd g
run-grown n n' (v ∷ vs) [] g r i = absurd g
run-grown n n' (v ∷ vs) (v' ∷ vs') g r i =
    let c = count-new n g.0 vs vs' g.5 in
    let older = new_tickets vs vs' n in
    let mine = tickets v.number (length v.rows) g.0 (length g.1) in
    let told : map (λ t. t.number) (new_tickets (v ∷ vs) (v' ∷ vs') n) ≡ map (λ t. t.number) older ++ map (λ t. t.number) mine =
    ap (map (λ t. t.number)) (level-tickets n v v' vs vs' g.0 g.1 c g.3) ∙ map-append (λ t. t.number) older mine in
    let N : List ℕ → Type 0 = λ ns. In r.number ns in
    elim (in-append_cases r (all_runs vs') (level_runs v') i) [
      | inl a ↦ elim (run-grown n g.0 vs vs' g.5 r a) [
        | inl b ↦ inl (in-append_left r (all_runs vs) (level_runs v) b)
        | inr b ↦ inr (subst N (sym told) (in-append_left r.number (map (λ t. t.number) older) (map (λ t. t.number) mine) b))
      ]
      | inr a ↦
          let m = in-map_cases (run_of v'.number) r v'.rows a in
          let R : List Row → Type 0 = λ rs. In m.0 rs in
          elim (in-append_cases m.0 v.rows (rows_numbered g.0 g.1) (subst R g.3 m.1)) [
            | inl b ↦
                let L : Run → Type 0 = λ q. In q (level_runs v) in
                let is : run_of v.number m.0 ≡ r = ap (λ k. run_of k m.0) (sym g.2) ∙ m.2 in
                inl (in-append_right r (all_runs vs) (level_runs v) (subst L is (in-map (run_of v.number) m.0 v.rows b)))
            | inr b ↦
                let at : m.0.number ≡ r.number = ap (λ q. q.number) m.2 in
                let M : ℕ → Type 0 = λ j. In j (map (λ t. t.number) mine) in
                inr (subst N (sym told) (in-append_right r.number (map (λ t. t.number) older) (map (λ t. t.number) mine)
                (subst M at (tickets-all v.number (length v.rows) g.0 g.1 m.0 b))))
          ]
    ]

-- the queue with the new tickets is the queue of the new levels
pub queue-grown : (n n' : ℕ) (old new : List Level) (queue : List Ticket) (runs runs' : List Run) → GrewTo n n' old new
    → IsQueue queue old runs → ((t : Ticket) → In t queue → t.number ≤ n) → SameRuns runs (all_runs old) → SameRuns runs' (all_runs new)
    → IsQueue (queue ++ new_tickets old new n) new runs'
queue-grown n n' old new queue runs runs' g q below same same' = record {
  rise = rise-append 0 n queue (new_tickets old new n) q.rise below (omega arith) (new-rise n n' old new g);
  each = λ t i. elim (in-append_cases t queue (new_tickets old new n) i) [
    | inl a ↦ ticket-grown n n' old new g t (q.each t a)
    | inr a ↦ ticket-new n n' old new g t a
  ];
  all = λ r i w.
      let told = map-append (λ t. t.number) queue (new_tickets old new n) in
      let N : List ℕ → Type 0 = λ ns. In r.number ns in
      elim (run-grown n n' old new g r ((same' r).0 i)) [
        | inl a ↦ subst N (sym told) (in-append_left r.number (map (λ t. t.number) queue) (map (λ t. t.number) (new_tickets old new n)) (q.all r ((same r).1 a) w))
        | inr a ↦ subst N (sym told) (in-append_right r.number (map (λ t. t.number) queue) (map (λ t. t.number) (new_tickets old new n)) a)
      ];
}

-- a ticket's run is among the runs
pub ticket-run : (vs : List Level) (t : Ticket) → IsTicket vs t
    → (r : Run) × In r (all_runs vs) × (r.number ≡ t.number) × (r.stage ≡ Waiting) × (r.task.tick ≡ t.tick)
ticket-run [] t h = absurd h
ticket-run (v ∷ vs) t (inl h) = (
  run_of v.number h.row,
  in-append_right (run_of v.number h.row) (all_runs vs) (level_runs v) (in-map (run_of v.number) h.row v.rows (get-in v.rows t.at h.row h.there)),
  h.number,
  h.waiting,
  h.tick,
)
ticket-run (v ∷ vs) t (inr h) = let r = ticket-run vs t h in (r.0, in-append_left r.0 (all_runs vs) (level_runs v) r.1, r.2, r.3, r.4)

-- another row's stage leaves a ticket's row
pub ticket-staged : (newer vs : List Level) (v : Level) (at : ℕ) (r : Row) (stage : Stage) (t : Ticket) → slice_get v.rows at ≡ Some r
    → (HasTicket v t → t.at ≡ at → ⊥) → IsTicket (newer ++ v ∷ vs) t → IsTicket (newer ++ with_rows v (set v.rows at (staged r stage)) ∷ vs) t
ticket-staged [] vs v at r stage t there ne (inl h) =
    elim (get-set v.rows at r (staged r stage) t.at h.row there h.there) [
      | inl e ↦ inl (record { tick = h.tick; row = h.row; there = e; number = h.number; waiting = h.waiting })
      | inr e ↦ absurd (ne h (sym e.0))
    ]
ticket-staged [] vs v at r stage t there ne (inr h) = inr h
ticket-staged (w ∷ newer) vs v at r stage t there ne (inl h) = inl h
ticket-staged (w ∷ newer) vs v at r stage t there ne (inr h) = inr (ticket-staged newer vs v at r stage t there ne h)
