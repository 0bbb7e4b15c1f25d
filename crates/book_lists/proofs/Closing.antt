-- A close.
use Rattle.std.proofs.Common.{◌-◌, ◌≡◌, ℕ, ◌+◌, ◌≤◌, inl, inr, Bool, true, false, not, List, [], ◌∷◌, ◌++◌, length, map, refl, sym, ◌∙◌, ap, subst, arith, Option, Some, None, length-append, append_assoc}
use Rattle.std.specs.Prelude.{nat_le, slice_get}
use Rattle.std.specs.List.{filter, AllZip}
use Rattle.std.proofs.lemmas.Bool.{cases_Bool, cond-true, cond-false, not_from_false, not_from_true, both_ways, le-leb, leb-true}
use Rattle.std.proofs.lemmas.List.{append-nil}
use Rattle.g726_bits.specs.State.{CodecState}
use Rattle.talk_mix.specs.declared.ticks.Tick.{Tick}
use Rattle.talk_mix.specs.Mix.{mix}
use Rattle.triple_table.specs.Rows.{Row}
use Rattle.conference_spec.specs.declared.Entry.TheVariants.{Close}
use Rattle.conference_spec.specs.declared.Task.{Task}
use Rattle.conference_spec.specs.Coding.{Coder, Tells}
use Rattle.conference_spec.specs.Feed.{Feed, Listener, listeners, hears, closes}
use Rattle.conference_spec.specs.Tasks.{task_of, each_once, wanted}
use Rattle.conference_spec.specs.Machine.{Run, has_passed, has, run_tasks, numbered}
use Rattle.conference_spec.specs.Members.{In, Once}
use Rattle.conference_spec.proofs.Members.{in-append_left, in-append_right, in-append_cases, in-filter_parts}
use Rattle.conference_spec.proofs.Wants.{wanted-tick, once-in}
use Rattle.conference_spec.proofs.Stages.{has-in}
use Rattle.book_lists.specs.Levels.{Level, run_of, level_runs, all_runs, Knows, CameFrom, Sits, Opens, Placing}
use Rattle.book_lists.specs.declared.seats.Seat.{Seat}
use Rattle.book_lists.proofs.Rowing.{AllAt, rows_numbered, runs-numbered, row_tasks, placed_all, fresh, placed-all}
use Rattle.book_lists.proofs.Seating.{known_if, state_of, passed-before, zip-map}
use Rattle.book_lists.proofs.Sweeping.{filter-all, empty-from, news, news_at, news-close, LevelsTell, HeadTells, state-newest, sits-same}
use Rattle.conference_spec.specs.Feed.{collects}
use Rattle.conference_spec.specs.Machine.{Core}
use Rattle.book_lists.specs.declared.seats.Ticket.{Ticket}
use Rattle.book_lists.specs.Levels.{SameRuns, IsQueue, tickets, new_tickets}
use Rattle.book_lists.proofs.Swept.{GrewTo, grew-none, triples_of, all-in_at}
use Rattle.conference_spec.specs.Machine.{unnumbered, with_reached}
use Rattle.conference_spec.specs.Members.{Kept}
use Rattle.book_lists.specs.Levels.{Carries, Rests}
use Rattle.book_lists.specs.declared.seats.Rest.{Rest}
use Rattle.book_lists.proofs.Carrying.{levels-tell_from, opens-alike}
use Rattle.book_lists.proofs.Queues.{get-after, queue-grown}
use Rattle.conference_spec.specs.Machine.{appended}
use Rattle.conference_spec.proofs.Steps.{collects-closes}
use Rattle.conference_spec.proofs.Events.{run-wanted}
use Rattle.book_lists.specs.declared.seats.Origin.{Origin}
use Rattle.book_lists.specs.declared.seats.Origin.TheVariants.{Known, Earlier}
use Rattle.book_lists.specs.Levels.{OriginIs, place_of, state_of_rest, triple_of_rest, placed, placed_rest, placed_rests, HasFirstRun, BecomesSeat, rests_after}
use Rattle.book_lists.proofs.Swept.{once-fresh, fresh-at, all-at_map}
use Rattle.book_lists.proofs.Publishing.{all-run, passed-numbered, queue-below}

-- each present listener's known state is its own, where it has passed all its ticks
abbrev pub RestKnown : Coder → List Level → (Listener → Bool) → Rest → Listener → Type 0
RestKnown coder vs p r l = (r.spec ≡ l.spec) × (state_of_rest coder vs r.origin ≡ known_if (p l) (state_of coder l))

pub rest-known : (coder : Coder) (gone : ℕ) (runs : List Run) (vs : List Level) (h : Feed) (r : Rest) (l : Listener) → Opens coder gone runs vs h
    → HeadTells coder gone runs vs
    → Rests coder gone h r l → RestKnown coder vs (has_passed coder gone runs) r l
rest-known coder gone runs vs h r l o tell rests =
    let p = has_passed coder gone runs l in
    let st = state_of coder l in
    let by : (vs : List Level) → Opens coder gone runs vs h → HeadTells coder gone runs vs → (og : Origin) → OriginIs coder gone h og l → state_of_rest coder vs og ≡ known_if p st = elim [
      | [] ↦ λ o t. elim [
        | Known s ↦ λ is. ap Some is.1 ∙ sym (cond-true p (Some st) None (passed-before coder gone runs l is.0))
        | Earlier i ↦ λ is. absurd (let lt = is.1 in omega arith)
      ]
      | v ∷ vs ↦ λ o t. elim [
        | Known s ↦ λ is. ap Some is.1 ∙ sym (cond-true p (Some st) None (passed-before coder gone runs l is.0))
        | Earlier i ↦ λ is. state-newest coder gone runs v vs h t o i l is.0
      ]
    ] in
    (rests.spec, by vs o tell r.origin rests.origin)

pub placed-rests : (coder : Coder) (k : ℕ) (tick : Tick) (vs : List Level) (p : Listener → Bool) (rs : List Rest) (ls : List Listener) (q : Placing)
    → AllZip (RestKnown coder vs p) rs ls → placed_rests coder tick vs rs q ≡ placed_all coder (map (task_of coder k tick) (filter p ls)) q
placed-rests coder k tick vs p [] [] q z = refl
placed-rests coder k tick vs p [] (l ∷ ls) q z = absurd z
placed-rests coder k tick vs p (r ∷ rs) [] q z = absurd z
placed-rests coder k tick vs p (r ∷ rs) (l ∷ ls) q z =
    let st = state_of coder l in
    let t : triple_of_rest tick r st ≡ (task_of coder k tick l).triple = ap (λ c. record { rate = c.rate; state = st; mix = mix c.member tick }) z.0.0 in
    elim (cases_Bool (p l)) [
      | inl y ↦
          ap (λ o. placed_rests coder tick vs rs (placed_rest coder tick r o q)) (z.0.1 ∙ cond-true (p l) (Some st) None y)
          ∙ placed-rests coder k tick vs p rs ls (placed coder (triple_of_rest tick r st) q) z.1
          ∙ ap (λ x. placed_all coder (map (task_of coder k tick) (filter p ls)) (placed coder x q)) t
          ∙ sym (ap (λ xs. placed_all coder (map (task_of coder k tick) xs) q) (cond-true (p l) (l ∷ filter p ls) (filter p ls) y))
      | inr y ↦
          ap (λ o. placed_rests coder tick vs rs (placed_rest coder tick r o q)) (z.0.1 ∙ cond-false (p l) (Some st) None y)
          ∙ placed-rests coder k tick vs p rs ls q z.1
          ∙ sym (ap (λ xs. placed_all coder (map (task_of coder k tick) xs) q) (cond-false (p l) (l ∷ filter p ls) (filter p ls) y))
    ]

-- a new seat is its listener's
pub seat-first : (coder : Coder) (gone : ℕ) (runs : List Run) (vs : List Level) (rows : List Row) (k : ℕ) (tick : Tick) (h : Feed) (r : Rest) (s : Seat) (l : Listener)
    → RestKnown coder vs (has_passed coder gone runs) r l → Rests coder gone h r l → BecomesSeat coder tick vs rows r s → Sits coder gone runs rows k tick h s l
seat-first coder gone runs vs rows k tick h r s l kn rests seat =
    let p = has_passed coder gone runs l in
    let st = state_of coder l in
    let t = (task_of coder k tick l).triple in
    let same : triple_of_rest tick r st ≡ t = ap (λ c. record { rate = c.rate; state = st; mix = mix c.member tick }) kn.0 in
    let by : (b : Bool) → HasFirstRun tick rows r s.run (known_if b st) → Knows b s.run rows t = elim [
      | true ↦ λ u. let P : Option ℕ → Type 0 = λ o. Knows true o rows t in subst P (sym u.1) (record { row = u.2.row; there = u.2.there; same = u.2.same ∙ same })
      | false ↦ λ u. let P : Option ℕ → Type 0 = λ o. Knows false o rows t in subst P (sym u) tt
    ] in
    let from : (og : Origin) → OriginIs coder gone h og l → CameFrom coder gone h (place_of og) l = elim [ Known s ↦ λ is. is.0 | Earlier i ↦ λ is. is.0 ] in
    record {
      spec = seat.spec ∙ rests.spec;
      heard = seat.heard ∙ rests.heard;
      run = by p (let P : Option CodecState → Type 0 = HasFirstRun tick rows r s.run in subst P kn.1 seat.run);
      came = (let P : Option ℕ → Type 0 = λ o. CameFrom coder gone h o l in subst P (sym seat.earlier) (from r.origin rests.origin));
    }

-- the present listeners after a close
pub rests-after : (coder : Coder) (gone : ℕ) (tick : Tick) (h : Feed) → gone ≤ closes h
    → (front : List Listener) (rs : List Rest) (ls : List Listener) → listeners coder h ≡ front ++ ls
    → AllZip (Rests coder gone h) rs ls → AllZip (Rests coder gone (Close tick ∷ h)) (rests_after (length front) rs) (map (hears tick) ls)
rests-after coder gone tick h le front [] [] e z = tt
rests-after coder gone tick h le front [] (l ∷ ls) e z = absurd z
rests-after coder gone tick h le front (r ∷ rs) [] e z = absurd z
rests-after coder gone tick h le front (r ∷ rs) (l ∷ ls) e z =
    let place : slice_get (listeners coder h) (length front) ≡ Some l =
    (let n : length front ≡ length front + 0 = omega arith in ap (slice_get (listeners coder h)) n ∙ ap (λ xs. slice_get xs (length front + 0)) e ∙ get-after front (l ∷ ls) 0) in
    let n : length front + 1 ≡ length (front ++ l ∷ []) = (let a = length-append front (l ∷ []) in omega arith) in
    let P : ℕ → Type 0 = λ j. AllZip (Rests coder gone (Close tick ∷ h)) (rests_after j rs) (map (hears tick) ls) in (
      record {
        spec = z.0.spec;
        heard = (let a = z.0.heard in omega arith);
        origin = ((l, place, refl), omega arith);
      },
      subst P (sym n) (rests-after coder gone tick h le (front ++ l ∷ []) rs ls (e ∙ sym (append_assoc front (l ∷ []) ls)) z.1),
    )

pub same-new : (vs : List Level) (n : ℕ) → new_tickets vs vs n ≡ []
same-new [] n = refl
same-new (v ∷ vs) n =
    let none : length v.rows - length v.rows ≡ 0 = omega arith in
    ap (λ ts. ts ++ tickets v.number (length v.rows) (n + length ts) (length v.rows - length v.rows)) (same-new vs n)
    ∙ ap (tickets v.number (length v.rows) (n + 0)) none

-- a close carries the core's step
pub close-carries : (coder : Coder) → Tells coder
    → (c : Core) (vs : List Level) (rests : List Rest) (queue : List Ticket) (issued : ℕ) (tick : Tick) (seats : List Seat) (rows : List Row) (n' : ℕ)
    → Kept coder c → Carries coder vs rests queue issued c
    → record { rows = rows; issued = n' } ≡ placed_rests coder tick vs rests (record { rows = []; issued = issued })
    → AllZip (BecomesSeat coder tick vs rows) rests seats
    → Carries coder (record { number = closes c.feed; talkers = tick; seats = seats; rows = rows } ∷ vs) (rests_after 0 rests)
    (queue ++ tickets (closes c.feed) 0 issued (length rows)) n' (with_reached coder (appended c (Close tick)))
close-carries coder tells c vs rests queue issued tick seats rows n' k car placing seating =
    let h = c.feed in
    let gone = collects h in
    let runs = c.runs in
    let n = closes h in
    let p = has_passed coder gone runs in
    let ls = listeners coder h in
    let xs : List Task = map (task_of coder n tick) (filter p ls) in
    let f = fresh coder n [] xs in
    let le : gone ≤ n = collects-closes coder h k.carried.legal in
    let head : HeadTells coder gone runs vs = head-tells vs (levels-tell_from coder tells gone runs runs [] vs h car.opens car.runs car.once) in
    let known : AllZip (RestKnown coder vs p) rests ls =
    zip-map (Rests coder gone h) (RestKnown coder vs p) rests ls (λ r l i z. rest-known coder gone runs vs h r l car.opens head z) car.present in
    let placed_is : record { rows = rows; issued = n' } ≡ record { rows = rows_numbered issued f; issued = issued + length f } =
    placing ∙ placed-rests coder n tick vs p rests ls (record { rows = []; issued = issued }) known
    ∙ placed-all coder tells n xs (record { rows = []; issued = issued }) (all-at_map coder n tick (filter p ls)) in
    let rows_is : rows ≡ rows_numbered issued f = ap (λ q. q.rows) placed_is in
    let count : n' ≡ issued + length f = ap (λ q. q.issued) placed_is in
    let free = λ (x : Task). not (has coder (run_tasks runs) x) in
    let late = λ (x : Task). nat_le gone x.tick in
    let once_xs = each_once coder xs in
    let at_n : (x : Task) → In x once_xs → x.tick ≡ n = λ x i. all-in_at n xs (all-at_map coder n tick (filter p ls)) x (once-in coder x xs i) in
    let unrun : (x : Task) → In x once_xs → has coder (run_tasks runs) x ≡ false = λ x i.
    elim (cases_Bool (has coder (run_tasks runs) x)) [
      | inl t ↦ absurd (let w = wanted-tick coder (λ l. true) h x (run-wanted coder tells c k.carried x (has-in coder tells (run_tasks runs) x t)) in let e = at_n x i in omega arith)
      | inr t ↦ t
    ] in
    let none : news coder gone runs h ≡ [] =
    empty-from (news coder gone runs h) (λ x i.
    let a = in-filter_parts free x (filter late (wanted coder p h)) i in
    let b = in-filter_parts late x (wanted coder p h) a.0 in
    both_ways (free x) (not_from_true (has coder (run_tasks runs) x) (all-run coder tells c k x b.0 (leb-true gone x.tick b.1))) a.1) in
    let here : news_at coder gone runs n tick ls ≡ f =
    filter-all free (filter late once_xs) (λ x i. not_from_false (has coder (run_tasks runs) x) (unrun x (in-filter_parts late x once_xs i).0))
    ∙ filter-all late once_xs (λ x i. le-leb gone x.tick (let e = at_n x i in omega arith))
    ∙ sym (filter-all (λ x. not (has coder (row_tasks n []) x)) once_xs (λ x i. refl)) in
    let new : unnumbered coder runs (Close tick ∷ h) ≡ f = news-close coder gone runs tick h ∙ ap (λ ys. ys ++ news_at coder gone runs n tick ls) none ∙ here in
    let at : AllAt n f = fresh-at coder n [] xs (all-at_map coder n tick (filter p ls)) in
    let v : Level = record { number = n; talkers = tick; seats = seats; rows = rows } in
    let v0 : Level = record { number = n; talkers = tick; seats = seats; rows = [] } in
    let runs2 : List Run = runs ++ numbered c.issued f in
    let alike = passed-numbered coder gone runs c.issued f in
    let level : level_runs v ≡ numbered c.issued f = ap (map (run_of n)) rows_is ∙ runs-numbered n issued f at ∙ ap (λ j. numbered j f) car.issued_is in
    let same2 : SameRuns runs2 (all_runs (v ∷ vs)) = λ r.
    let L : List Run → Type 0 = λ rs. In r rs in (
      (λ i. elim (in-append_cases r runs (numbered c.issued f) i) [
        | inl a ↦ in-append_left r (all_runs vs) (level_runs v) ((car.runs r).0 a)
        | inr a ↦ in-append_right r (all_runs vs) (level_runs v) (subst L (sym level) a)
      ]),
      (λ i. elim (in-append_cases r (all_runs vs) (level_runs v) i) [
        | inl a ↦ in-append_left r runs (numbered c.issued f) ((car.runs r).1 a)
        | inr a ↦ in-append_right r runs (numbered c.issued f) (subst L level a)
      ]),
    ) in
    let same0 : SameRuns runs (all_runs (v0 ∷ vs)) = λ r.
    let L : List Run → Type 0 = λ rs. In r rs in
    let e : all_runs (v0 ∷ vs) ≡ all_runs vs = append-nil (all_runs vs) in
    ((λ i. subst L (sym e) ((car.runs r).0 i)), (λ i. (car.runs r).1 (subst L e i))) in
    let grew : GrewTo issued n' (v0 ∷ vs) (v ∷ vs) = (issued, f, refl, rows_is, count, grew-none issued vs) in
    let B : ℕ → Type 0 = λ j. (t : Ticket) → In t queue → t.number ≤ j in
    let q0 : IsQueue queue (v0 ∷ vs) runs = record { rise = car.queue.rise; each = λ t i. inr (car.queue.each t i); all = car.queue.all } in
    let q2 = queue-grown issued n' (v0 ∷ vs) (v ∷ vs) queue runs runs2 grew q0 (subst B (sym car.issued_is) (queue-below coder c vs queue k car.runs car.queue)) same0 same2 in
    let added : new_tickets (v0 ∷ vs) (v ∷ vs) issued ≡ tickets n 0 issued (length rows) =
    ap (λ ts. ts ++ tickets n 0 (issued + length ts) (length rows - 0)) (same-new vs issued)
    ∙ (let a : issued + 0 ≡ issued = omega arith in ap (λ j. tickets n 0 j (length rows - 0)) a)
    ∙ (let b : length rows - 0 ≡ length rows = omega arith in ap (tickets n 0 issued) b) in
    let Q : List Ticket → Type 0 = λ ts. IsQueue (queue ++ ts) (v ∷ vs) runs2 in
    let R : List Task → Type 0 = λ ys. Carries coder (v ∷ vs) (rests_after 0 rests) (queue ++ tickets n 0 issued (length rows)) n'
    (record { feed = Close tick ∷ h; issued = c.issued + length ys; runs = runs ++ numbered c.issued ys }) in
    subst R (sym new) (record {
      opens = (
        record {
          open' = le;
          number = refl;
          talkers = refl;
          seats = zip-map (Sits coder gone runs rows n tick h) (Sits coder gone runs2 rows n tick h) seats ls (λ s l i z. sits-same coder gone runs runs2 rows n tick h s l (alike l) z)
              (zip-flip (BecomesSeat coder tick vs rows) (λ r l. RestKnown coder vs p r l × Rests coder gone h r l) (Sits coder gone runs rows n tick h) rests seats ls
              (λ r s l b z. seat-first coder gone runs vs rows n tick h r s l z.0 z.1 b) seating (zip-pair (RestKnown coder vs p) (Rests coder gone h) rests ls known car.present));
        },
        opens-alike coder gone runs runs2 alike vs h car.opens,
      );
      present = rests-after coder gone tick h le [] rests ls refl car.present;
      runs = same2;
      once = ((let P : List Row → Type 0 = λ rs. Once (triples_of rs) in subst P (sym rows_is) (once-fresh coder tells n issued [] xs (all-at_map coder n tick (filter p ls)) tt)), car.once);
      queue = subst Q added q2;
      issued_is = count ∙ ap (λ j. j + length f) car.issued_is;
    })
  where
    head-tells : (vs : List Level) → LevelsTell coder (collects c.feed) c.runs vs → HeadTells coder (collects c.feed) c.runs vs
    head-tells [] t = tt
    head-tells (v ∷ vs) t = t.0.0

    zip-flip : {A B C : Type 0} (T : A → B → Type 0) (K : A → C → Type 0) (S : B → C → Type 0) (as' : List A) (bs : List B) (cs : List C)
        → ((a : A) (b : B) (c : C) → T a b → K a c → S b c) → AllZip T as' bs → AllZip K as' cs → AllZip S bs cs
    zip-flip T K S [] [] [] f t k = tt
    zip-flip T K S [] [] (y ∷ ys) f t k = absurd k
    zip-flip T K S [] (b ∷ bs) cs f t k = absurd t
    zip-flip T K S (a ∷ as') [] cs f t k = absurd t
    zip-flip T K S (a ∷ as') (b ∷ bs) [] f t k = absurd k
    zip-flip T K S (a ∷ as') (b ∷ bs) (y ∷ ys) f t k = (f a b y t.0 k.0, zip-flip T K S as' bs ys f t.1 k.1)

    zip-pair : {A B : Type 0} (R S : A → B → Type 0) (xs : List A) (ys : List B) → AllZip R xs ys → AllZip S xs ys → AllZip (λ a b. R a b × S a b) xs ys
    zip-pair R S [] [] r s = tt
    zip-pair R S [] (y ∷ ys) r s = absurd r
    zip-pair R S (x ∷ xs) [] r s = absurd r
    zip-pair R S (x ∷ xs) (y ∷ ys) r s = ((r.0, s.0), zip-pair R S xs ys r.1 s.1)
