-- Claims, and jobs that are given back.
use Rattle.std.proofs.Common.{suc, zero, ◌≡◌, ℕ, ◌≤◌, ◌<◌, inl, inr, true, false, ◌||◌, List, [], ◌∷◌, ◌++◌, length, map, refl, sym, ◌∙◌, ap, subst, arith, Some, None}
use Rattle.std.specs.Prelude.{◌==◌, nat_lt, slice_get}
use Rattle.std.specs.List.{filter, list_all}
use Rattle.std.proofs.lemmas.Bool.{cases_Bool, cond-true, cond-false, both_ways, false≢true, eq-eqb}
use Rattle.triple_table.specs.Rows.{Row}
use Rattle.conference_spec.specs.declared.Stage.TheVariants.{Waiting, Out}
use Rattle.conference_spec.specs.Coding.{Coder}
use Rattle.conference_spec.specs.Feed.{Listener}
use Rattle.conference_spec.specs.Tasks.{tasks_of}
use Rattle.conference_spec.specs.Machine.{Run, is_finished, has_passed, has}
use Rattle.conference_spec.specs.Members.{In, Once}
use Rattle.conference_spec.proofs.Members.{in-append_left, in-append_right, in-append_cases, in-map, in-map_cases, in-filter, in-filter_parts}
use Rattle.conference_spec.proofs.Events.{length-map}
use Rattle.book_lists.specs.Levels.{Level, run_of, level_runs, all_runs}
use Rattle.book_lists.proofs.Seating.{get-in}
use Rattle.conference_spec.specs.declared.Stage.{Stage}
use Rattle.conference_spec.specs.Feed.{collects}
use Rattle.conference_spec.specs.Machine.{Core, moved, waits, with_stage}
use Rattle.conference_spec.proofs.Stages.{Rise, unique, moved-number}
use Rattle.std.proofs.lemmas.Bool.{eqb-true}
use Rattle.std.proofs.Common.{set}
use Rattle.book_lists.specs.declared.seats.Ticket.{Ticket}
use Rattle.triple_table.specs.Rows.{staged}
use Rattle.book_lists.specs.Levels.{with_rows}
use Rattle.book_lists.specs.Levels.{SameRuns, IsTicket, HasTicket, TicketsRise, IsQueue}
use Rattle.book_lists.proofs.Carrying.{moved-same}
use Rattle.conference_spec.specs.Machine.{is_out}
use Rattle.conference_spec.specs.Members.{Kept}
use Rattle.conference_spec.proofs.Stages.{waiting-open}
use Rattle.book_lists.specs.Levels.{Carries}
use Rattle.book_lists.specs.declared.seats.Rest.{Rest}
use Rattle.book_lists.proofs.Carrying.{same-moved, opens-staged, once-staged, opens-alike}
use Rattle.book_lists.proofs.Queues.{ticket-run, ticket-staged, rise-at}
use Rattle.std.specs.Prelude.{find}
use Rattle.conference_spec.specs.Machine.{next_waiting}
use Rattle.conference_spec.proofs.Members.{fewer}
use Rattle.conference_spec.proofs.Stages.{finished-same, out-open, rise-above, rise-filter}
use Rattle.std.proofs.lemmas.Bool.Decides.{Decides-eqb}
use Rattle.book_lists.proofs.Queues.{rise-more}

-- the first in order of number is the least
pub find-least : (low high : ℕ) (rs : List Run) → Rise low high rs → (r : Run) → In r rs → waits r.stage ≡ true
    → ((s : Run) → In s rs → waits s.stage ≡ true → r.number ≤ s.number) → find (λ s. waits s.stage) rs ≡ Some r
find-least low high [] h r i t least = absurd i
find-least low high (s ∷ rs) h r i t least =
    elim (cases_Bool (waits s.stage)) [
      | inl w ↦
          let le = least s (inl refl) w in
          cond-true (waits s.stage) (Some s) (find (λ s. waits s.stage) rs) w
          ∙ elim i [
            | inl e ↦ ap Some e
            | inr j ↦ absurd (let above = rise-above s.number high rs h.1 r j in omega arith)
          ]
      | inr w ↦
          cond-false (waits s.stage) (Some s) (find (λ s. waits s.stage) rs) w
          ∙ elim i [
            | inl e ↦ absurd (both_ways (waits s.stage) w (ap (λ q. waits q.stage) e ∙ t))
            | inr j ↦ find-least s.number high rs h.1 r j t (λ q k u. least q (inr k) u)
          ]
    ]

pub find-none : (rs : List Run) → ((s : Run) → In s rs → waits s.stage ≡ false) → find (λ s. waits s.stage) rs ≡ None
find-none [] h = refl
find-none (s ∷ rs) h = cond-false (waits s.stage) (Some s) (find (λ s. waits s.stage) rs) (h s (inl refl)) ∙ find-none rs (λ q i. h q (inr i))

-- nothing waits where the queue is empty
pub none-waits : (vs : List Level) (runs : List Run) → IsQueue [] vs runs → next_waiting runs ≡ None
none-waits vs runs q = find-none runs (λ s i. elim (cases_Bool (waits s.stage)) [ inl t ↦ absurd (q.all s i t) | inr t ↦ t ])

-- the levels round a ticket's level
pub record Located (vs : List Level) (t : Ticket) : Type 0 where
  pub newer : List Level
  pub level : Level
  pub older : List Level
  pub whole : vs ≡ newer ++ level ∷ older
  pub has : HasTicket level t

-- numbers in the rest of a queue are above the first
pub above-first : (low : ℕ) (ts : List Ticket) → TicketsRise low ts → (n : ℕ) → In n (map (λ t. t.number) ts) → low < n
above-first low ts r n i = let m = in-map_cases (λ t. t.number) n ts i in let P : ℕ → Type 0 = λ j. low < j in subst P m.2 (rise-at low ts r m.0 m.1)

pub passed-moved : (coder : Coder) (gone high : ℕ) (runs : List Run) (run : Run) (stage : Stage) → Rise 0 high runs → In run runs
    → is_finished run.stage ≡ false → is_finished stage ≡ false
    → (l : Listener) → has_passed coder gone (map (moved run.number stage) runs) l ≡ has_passed coder gone runs l
passed-moved coder gone high runs run stage rise i was is l =
    ap (λ ts. list_all (λ x. nat_lt x.tick gone || has coder ts x) (tasks_of coder l))
    (finished-same run.number stage runs is (λ q j e. ap (λ z. is_finished z.stage) (unique 0 high runs rise q run j i e) ∙ was))

-- the next waiting run is the first ticket's
pub next-ticket : (coder : Coder) (c : Core) (newer vs : List Level) (v : Level) (t : Ticket) (queue : List Ticket) (ht : HasTicket v t)
    → Kept coder c → SameRuns c.runs (all_runs (newer ++ v ∷ vs)) → IsQueue (t ∷ queue) (newer ++ v ∷ vs) c.runs
    → (In (run_of v.number ht.row) c.runs) × (next_waiting c.runs ≡ Some (run_of v.number ht.row))
next-ticket coder c newer vs v t queue ht k same q =
    let run = run_of v.number ht.row in
    let i : In run c.runs = (same run).1 (level-all' newer vs v run (in-map (run_of v.number) ht.row v.rows (get-in v.rows t.at ht.row ht.there))) in (
      i,
      find-least 0 c.issued c.runs k.carried.numbers run i (ap waits ht.waiting)
          (λ s j w.
          let n = ht.number in
          elim (q.all s j w) [
            | inl e ↦ omega arith
            | inr m ↦ let lt = above-first t.number queue q.rise.1 s.number m in omega arith
          ]),
    )
  where
    level-all' : (newer vs : List Level) (v : Level) (r : Run) → In r (level_runs v) → In r (all_runs (newer ++ v ∷ vs))
    level-all' [] vs v r i = in-append_right r (all_runs vs) (level_runs v) i
    level-all' (w ∷ newer) vs v r i = in-append_left r (all_runs (newer ++ v ∷ vs)) (level_runs w) (level-all' newer vs v r i)

-- a claim carries the core's step
pub claim-carries : (coder : Coder) (c : Core) (newer vs : List Level) (v : Level) (rests : List Rest) (t : Ticket) (queue : List Ticket) (issued : ℕ) (ht : HasTicket v t)
    → Kept coder c → Carries coder (newer ++ v ∷ vs) rests (t ∷ queue) issued c
    → Carries coder (newer ++ with_rows v (set v.rows t.at (staged ht.row Out)) ∷ vs) rests queue issued (with_stage c ht.row.number Out)
claim-carries coder c newer vs v rests t queue issued ht k car =
    let h = c.feed in
    let gone = collects h in
    let r = ht.row in
    let run = run_of v.number r in
    let runs1 : List Run = map (moved r.number Out) c.runs in
    let i = (next-ticket coder c newer vs v t queue ht k car.runs car.queue).0 in
    let rise = k.carried.numbers in
    let alike = passed-moved coder gone c.issued c.runs run Out rise i (waiting-open r.stage (ap waits ht.waiting)) refl in
    let first = car.queue.rise in
    record {
      opens = opens-alike coder gone c.runs runs1 alike (newer ++ with_rows v (set v.rows t.at (staged r Out)) ∷ vs) h (opens-staged coder gone c.runs newer vs v t.at r Out h ht.there car.opens);
      present = car.present;
      runs = same-moved coder gone c.issued c.runs newer vs v h t.at r Out car.opens car.once rise car.runs ht.there;
      once = once-staged newer vs v t.at r Out ht.there car.once;
      queue = record {
        rise = rise-more t.number 0 queue (omega arith) first.1;
        each = λ s j. ticket-staged newer vs v t.at r Out s ht.there
            (λ hs e.
            let both : Some hs.row ≡ Some r = sym hs.there ∙ ap (slice_get v.rows) e ∙ ht.there in
            let one : hs.row ≡ r = cc in
            let lt = rise-at t.number queue first.1 s j in
            let a = hs.number in
            let b = ht.number in
            let d = ap (λ q. q.number) one in
            omega arith)
            (car.queue.each s (inr j));
        all = λ x j w.
            let m = in-map_cases (moved r.number Out) x c.runs j in
            elim (cases_Bool (m.0.number == r.number)) [
              | inl e ↦ absurd (false≢true (sym (ap (λ y. waits y.stage) (sym m.2 ∙ moved-same r.number Out m.0 (eqb-true m.0.number r.number e))) ∙ w))
              | inr e ↦
                  let to : m.0 ≡ x = sym (cond-false (m.0.number == r.number) (record { number = m.0.number; task = m.0.task; stage = Out }) m.0 e) ∙ m.2 in
                  elim (car.queue.all m.0 m.1 (ap (λ y. waits y.stage) to ∙ w)) [
                    | inl n ↦ absurd (both_ways (m.0.number == r.number) e (eq-eqb m.0.number r.number (sym n ∙ sym ht.number)))
                    | inr n ↦ (let N : ℕ → Type 0 = λ z. In z (map (λ t. t.number) queue) in subst N (ap (λ y. y.number) to) n)
                  ]
            ];
      };
      issued_is = car.issued_is;
    }

-- a ticket put into its place
pub rise-insert : (low : ℕ) (a : List Ticket) (t : Ticket) (b : List Ticket) → TicketsRise low (a ++ b) → low < t.number
    → ((s : Ticket) → In s a → s.number < t.number) → ((s : Ticket) → In s b → t.number < s.number)
    → TicketsRise low (a ++ t ∷ b)
rise-insert low [] t [] r lt below above = (lt, tt)
rise-insert low [] t (s ∷ b) r lt below above = (lt, (above s (inl refl), r.1))
rise-insert low (s ∷ a) t b r lt below above = (r.0, rise-insert s.number a t b r.1 (below s (inl refl)) (λ q i. below q (inr i)) above)

-- a job that is given back carries the core's step
pub back-carries : (coder : Coder) (c : Core) (newer vs : List Level) (v : Level) (rests : List Rest) (a b : List Ticket) (t : Ticket) (issued : ℕ) (r : Row)
    → Kept coder c → Carries coder (newer ++ v ∷ vs) rests (a ++ b) issued c → slice_get v.rows t.at ≡ Some r → is_out r.stage ≡ true
    → t.number ≡ r.number → t.tick ≡ v.number
    → ((s : Ticket) → In s a → s.number < t.number) → ((s : Ticket) → In s b → t.number < s.number)
    → Carries coder (newer ++ with_rows v (set v.rows t.at (staged r Waiting)) ∷ vs) rests (a ++ t ∷ b) issued (with_stage c r.number Waiting)
back-carries coder c newer vs v rests a b t issued r k car there out number tick below above =
    let h = c.feed in
    let gone = collects h in
    let run = run_of v.number r in
    let runs1 : List Run = map (moved r.number Waiting) c.runs in
    let i : In run c.runs = (car.runs run).1 (level-all' newer vs v run (in-map (run_of v.number) r v.rows (get-in v.rows t.at r there))) in
    let rise = k.carried.numbers in
    let alike = passed-moved coder gone c.issued c.runs run Waiting rise i (out-open r.stage out) refl in
    let above0 = rise-above 0 c.issued c.runs rise run i in
    record {
      opens = opens-alike coder gone c.runs runs1 alike (newer ++ with_rows v (set v.rows t.at (staged r Waiting)) ∷ vs) h (opens-staged coder gone c.runs newer vs v t.at r Waiting h there car.opens);
      present = car.present;
      runs = same-moved coder gone c.issued c.runs newer vs v h t.at r Waiting car.opens car.once rise car.runs there;
      once = once-staged newer vs v t.at r Waiting there car.once;
      queue = record {
        rise = rise-insert 0 a t b car.queue.rise (omega arith) below above;
        each = λ s j. elim (in-append_cases s a (t ∷ b) j) [
          | inl x ↦ old-ticket newer vs v t.at r s there out (car.queue.each s (in-append_left s a b x))
          | inr x ↦ elim x [
            | inl e ↦ (let P : Ticket → Type 0 = λ z. IsTicket (newer ++ with_rows v (set v.rows t.at (staged r Waiting)) ∷ vs) z in
                subst P e (own-ticket newer vs v t r there number tick))
            | inr y ↦ old-ticket newer vs v t.at r s there out (car.queue.each s (in-append_right s a b y))
          ]
        ];
        all = λ x j w.
            let m = in-map_cases (moved r.number Waiting) x c.runs j in
            let N : ℕ → Type 0 = λ z. In z (map (λ t. t.number) (a ++ t ∷ b)) in
            elim (cases_Bool (m.0.number == r.number)) [
              | inl e ↦
                  let n : t.number ≡ x.number = number ∙ sym (eqb-true m.0.number r.number e) ∙ sym (moved-number r.number Waiting m.0) ∙ ap (λ y. y.number) m.2 in
                  subst N n (in-map (λ t. t.number) t (a ++ t ∷ b) (in-append_right t a (t ∷ b) (inl refl)))
              | inr e ↦
                  let to : m.0 ≡ x = sym (cond-false (m.0.number == r.number) (record { number = m.0.number; task = m.0.task; stage = Waiting }) m.0 e) ∙ m.2 in
                  let old = in-map_cases (λ t. t.number) m.0.number (a ++ b) (car.queue.all m.0 m.1 (ap (λ y. waits y.stage) to ∙ w)) in
                  subst N (old.2 ∙ ap (λ y. y.number) to) (in-map (λ t. t.number) old.0 (a ++ t ∷ b)
                  (elim (in-append_cases old.0 a b old.1) [ inl y ↦ in-append_left old.0 a (t ∷ b) y | inr y ↦ in-append_right old.0 a (t ∷ b) (inr y) ]))
            ];
      };
      issued_is = car.issued_is;
    }
  where
    level-all' : (newer vs : List Level) (v : Level) (r : Run) → In r (level_runs v) → In r (all_runs (newer ++ v ∷ vs))
    level-all' [] vs v r i = in-append_right r (all_runs vs) (level_runs v) i
    level-all' (w ∷ newer) vs v r i = in-append_left r (all_runs (newer ++ v ∷ vs)) (level_runs w) (level-all' newer vs v r i)

    old-ticket : (newer vs : List Level) (v : Level) (at : ℕ) (r : Row) (s : Ticket) → slice_get v.rows at ≡ Some r → is_out r.stage ≡ true → IsTicket (newer ++ v ∷ vs) s
        → IsTicket (newer ++ with_rows v (set v.rows at (staged r Waiting)) ∷ vs) s
    old-ticket newer vs v at r s there out it = ticket-staged newer vs v at r Waiting s there
        (λ hs e.
        let both : Some hs.row ≡ Some r = sym hs.there ∙ ap (slice_get v.rows) e ∙ there in
        let one : hs.row ≡ r = cc in
        false≢true (ap is_out (sym hs.waiting ∙ ap (λ q. q.stage) one) ∙ out))
        it

    own-ticket : (newer vs : List Level) (v : Level) (t : Ticket) (r : Row) → slice_get v.rows t.at ≡ Some r → t.number ≡ r.number → t.tick ≡ v.number
        → IsTicket (newer ++ with_rows v (set v.rows t.at (staged r Waiting)) ∷ vs) t
    own-ticket [] vs v t r there number tick =
        inl (record { tick = sym tick; row = staged r Waiting; there = get-same v.rows t.at r (staged r Waiting) there; number = sym number; waiting = refl })
      where
        get-same : (rows : List Row) (i : ℕ) (x y : Row) → slice_get rows i ≡ Some x → slice_get (set rows i y) i ≡ Some y
        get-same [] i x y e = cc
        get-same (w ∷ rows) i x y e = (let at : (i : ℕ) → slice_get (w ∷ rows) i ≡ Some x → slice_get (set (w ∷ rows) i y) i ≡ Some y = elim [ zero ↦ λ e. refl | suc i ↦ λ e. get-same rows i x y e ] in at i e)
    own-ticket (w ∷ newer) vs v t r there number tick = inr (own-ticket newer vs v t r there number tick)

-- as many tickets as waiting runs
pub count-waiting : (coder : Coder) (c : Core) (vs : List Level) (queue : List Ticket) → Kept coder c → SameRuns c.runs (all_runs vs) → IsQueue queue vs c.runs
    → length queue ≡ length (filter (λ r. waits r.stage) c.runs)
count-waiting coder c vs queue k same q =
    let w = filter (λ r. waits r.stage) c.runs in
    let num = λ (r : Run). r.number in
    let tnum = λ (t : Ticket). t.number in
    let a : length (map tnum queue) ≤ length (map num w) = fewer (λ x y. x == y) Decides-eqb (map tnum queue) (map num w) (once-numbers 0 queue q.rise)
    (λ n i.
    let m = in-map_cases tnum n queue i in
    let r = ticket-run vs m.0 (q.each m.0 m.1) in
    let P : ℕ → Type 0 = λ z. In z (map num w) in
    subst P (r.2 ∙ m.2) (in-map num r.0 w (in-filter (λ r. waits r.stage) r.0 c.runs ((same r.0).1 r.1) (ap waits r.3)))) in
    let b : length (map num w) ≤ length (map tnum queue) = fewer (λ x y. x == y) Decides-eqb (map num w) (map tnum queue) (once-runs' 0 c.issued w (rise-filter (λ r. waits r.stage) 0 c.issued c.runs k.carried.numbers))
    (λ n i.
    let m = in-map_cases num n w i in
    let f = in-filter_parts (λ r. waits r.stage) m.0 c.runs m.1 in
    let P : ℕ → Type 0 = λ z. In z (map tnum queue) in
    subst P m.2 (q.all m.0 f.0 f.1)) in
    let d = length-map tnum queue in
    let e = length-map num w in
    omega arith
  where
    once-numbers : (low : ℕ) (ts : List Ticket) → TicketsRise low ts → Once (map (λ t. t.number) ts)
    once-numbers low [] r = tt
    once-numbers low (t ∷ ts) r = ((λ i. let lt = above-first t.number ts r.1 t.number i in omega arith), once-numbers t.number ts r.1)

    once-runs' : (low high : ℕ) (rs : List Run) → Rise low high rs → Once (map (λ r. r.number) rs)
    once-runs' low high [] h = tt
    once-runs' low high (r ∷ rs) h =
        ((λ i. let m = in-map_cases (λ r. r.number) r.number rs i in let lt = rise-above r.number high rs h.1 m.0 m.1 in let e = m.2 in omega arith), once-runs' r.number high rs h.1)
