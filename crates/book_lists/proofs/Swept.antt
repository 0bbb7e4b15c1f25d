-- A whole sweep.
use Rattle.std.proofs.Common.{suc, zero, ◌≡◌, ℕ, ◌+◌, ◌≤◌, ◌<◌, ◌⊎◌, inl, inr, Bool, true, false, not, ◌&&◌, List, [], ◌∷◌, ◌++◌, length, map, refl, sym, ◌∙◌, ap, subst, arith, Option, Some, None, length-append, MatchBool}
use Rattle.std.specs.Prelude.{nat_le, slice_get, is_some}
use Rattle.std.specs.List.{filter, AllZip}
use Rattle.std.proofs.lemmas.Bool.{cases_Bool, not_from_true, both_ways, false≢true, and_right, not-true}
use Rattle.std.proofs.lemmas.List.{append-nil, map-append}
use Rattle.g726_bits.specs.State.{CodecState}
use Rattle.g726_codec.specs.declared.Triple.{Triple}
use Rattle.talk_mix.specs.declared.ticks.Tick.{Tick}
use Rattle.talk_mix.specs.Mix.{mix}
use Rattle.triple_table.specs.Rows.{Row}
use Rattle.conference_spec.specs.declared.Entry.TheVariants.{Join, Leave, Close, Collect, Cut, End}
use Rattle.conference_spec.specs.declared.Task.{Task}
use Rattle.conference_spec.specs.Coding.{Coder, Tells}
use Rattle.conference_spec.specs.Feed.{Feed, Listener, listeners, hears, closes}
use Rattle.conference_spec.specs.Tasks.{task_of, own_task, each_once}
use Rattle.conference_spec.specs.Machine.{Run, is_finished, is_done, has_passed, has, run_tasks, numbered}
use Rattle.conference_spec.specs.Members.{In, Once}
use Rattle.conference_spec.proofs.Members.{once-append, once-filter, in-append_left, in-append_right, in-append_cases, in-map, in-map_cases, in-filter_parts}
use Rattle.conference_spec.proofs.Wants.{each-once, heard-ticks, once-in}
use Rattle.conference_spec.proofs.Stages.{in-has, done-cases}
use Rattle.conference_spec.proofs.Events.{finished-tasks}
use Rattle.book_lists.specs.Levels.{Level, run_of, level_runs, all_runs, IsNewest, CameFrom, Sits, IsLevel, Opens, placed_seats, state_of_seat, newly_known, TakesRun, LevelsOnce, Pulls, Sweeps}
use Rattle.book_lists.specs.declared.seats.Seat.{Seat}
use Rattle.book_lists.proofs.Rowing.{AllAt, rows_numbered, runs-numbered, numbered-append, row_tasks, fresh, placed-all}
use Rattle.book_lists.proofs.Seating.{known_if, state_of, get-in, RowsTell, next-state, passed-before, newly, known-at, KnownFor, placed-seats, sits-again, zip-again, zip-map}
use Rattle.book_lists.proofs.Sweeping.{news, news_at, news-close, RowsHave, LevelsTell, HeadTells, state-newest, Changes, level-same, opens-early, AllRun, all-run-tail, news-none_at, news-early, news-fresh}

-- the triples of a table
abbrev pub triples_of : List Row → List Triple
triples_of rows = map (λ r. r.triple) rows

-- from the oldest on, each level got rows with the next numbers after n, up to n'
abbrev pub GrewTo : ℕ → ℕ → List Level → List Level → Type 0
GrewTo n n' [] [] = n' ≡ n
GrewTo n n' [] (v' ∷ vs') = ⊥
GrewTo n n' (v ∷ vs) [] = ⊥
GrewTo n n' (v ∷ vs) (v' ∷ vs') =
    (m : ℕ) × (xs : List Task) × (v'.number ≡ v.number) × (v'.rows ≡ v.rows ++ rows_numbered m xs) × (n' ≡ m + length xs) × GrewTo n m vs vs'

pub grew-none : (n : ℕ) (vs : List Level) → GrewTo n n vs vs
grew-none n [] = refl
grew-none n (v ∷ vs) = (n, [], refl, sym (append-nil v.rows), omega arith, grew-none n vs)

-- after a sweep: the levels stand for the feed with the new runs, and what is new has the next numbers
pub record SweepTold (coder : Coder) (gone : ℕ) (runs runs' : List Run) (old new : List Level) (n n' : ℕ) (moved : Bool) (h : Feed) : Type 0 where
  pub opens : Opens coder gone runs' new h
  pub tell : HeadTells coder gone runs' new
  pub count : n' ≡ n + length (news coder gone runs' h)
  pub grown : (r : Run) → In r (all_runs new) → In r (all_runs old) ⊎ In r (numbered n (news coder gone runs' h))
  pub kept : (r : Run) → In r (all_runs old) ⊎ In r (numbered n (news coder gone runs' h)) → In r (all_runs new)
  pub grew : GrewTo n n' old new
  pub once : LevelsOnce old → LevelsOnce new
  pub still : moved ≡ false → (i : ℕ) (l : Listener) → IsNewest coder h i l → has_passed coder gone runs' l ≡ has_passed coder gone runs l

pub all-at_map : (coder : Coder) (k : ℕ) (tick : Tick) (ls : List Listener) → AllAt k (map (task_of coder k tick) ls)
all-at_map coder k tick [] = tt
all-at_map coder k tick (l ∷ ls) = (refl, all-at_map coder k tick ls)

pub all-in_at : (k : ℕ) (xs : List Task) → AllAt k xs → (x : Task) → In x xs → x.tick ≡ k
all-in_at k [] at x i = absurd i
all-in_at k (y ∷ xs) at x (inl e) = sym (ap (λ q. q.tick) e) ∙ at.0
all-in_at k (y ∷ xs) at x (inr i) = all-in_at k xs at.1 x i

pub all-at_in : (k : ℕ) (xs : List Task) → ((x : Task) → In x xs → x.tick ≡ k) → AllAt k xs
all-at_in k [] h = tt
all-at_in k (x ∷ xs) h = (h x (inl refl), all-at_in k xs (λ y i. h y (inr i)))

-- the fresh ones of tick k are of tick k
pub fresh-at : (coder : Coder) (k : ℕ) (rows : List Row) (xs : List Task) → AllAt k xs → AllAt k (fresh coder k rows xs)
fresh-at coder k rows xs at =
    all-at_in k (fresh coder k rows xs) (λ x i. at-in k xs at x (once-in coder x xs (in-filter_parts (λ x. not (has coder (row_tasks k rows) x)) x (each_once coder xs) i).0))
  where
    at-in : (k : ℕ) (xs : List Task) → AllAt k xs → (x : Task) → In x xs → x.tick ≡ k
    at-in k [] at x i = absurd i
    at-in k (y ∷ xs) at x (inl e) = (let P : Task → Type 0 = λ z. z.tick ≡ k in subst P e at.0)
    at-in k (y ∷ xs) at x (inr i) = at-in k xs at.1 x i

-- a level that took its states stands for its close, with what is new of its tick
pub record PullTold (coder : Coder) (gone : ℕ) (runs runs' : List Run) (v v' : Level) (n n' : ℕ) (tick : Tick) (h : Feed) : Type 0 where
  pub level : IsLevel coder gone runs' v' tick h
  pub rows : v'.rows ≡ v.rows ++ rows_numbered n (news_at coder gone runs' (closes h) tick (listeners coder h))
  pub count : n' ≡ n + length (news_at coder gone runs' (closes h) tick (listeners coder h))
  pub at : AllAt (closes h) (news_at coder gone runs' (closes h) tick (listeners coder h))
  pub once : Once (triples_of v.rows) → Once (triples_of v'.rows)

pub triples-numbered : (n : ℕ) (xs : List Task) → triples_of (rows_numbered n xs) ≡ map (λ x. x.triple) xs
triples-numbered n [] = refl
triples-numbered n (x ∷ xs) = ap (λ ts. x.triple ∷ ts) (triples-numbered (n + 1) xs)

pub once-triples : (k : ℕ) (xs : List Task) → AllAt k xs → Once xs → Once (map (λ x. x.triple) xs)
once-triples k [] at o = tt
once-triples k (x ∷ xs) at o = (
  (λ i. let m = in-map_cases (λ x. x.triple) x.triple xs i in
      o.0 (let P : Task → Type 0 = λ z. In z xs in subst P (λ j. record { tick = (at-tick xs at.1 m.0 m.1 ∙ sym at.0) j; triple = m.2 j }) m.1)),
  once-triples k xs at.1 o.1,
)
  where
    at-tick : (xs : List Task) → AllAt k xs → (y : Task) → In y xs → y.tick ≡ k
    at-tick [] a y i = absurd i
    at-tick (z ∷ xs) a y (inl e) = sym (ap (λ q. q.tick) e) ∙ a.0
    at-tick (z ∷ xs) a y (inr i) = at-tick xs a.1 y i

-- fresh triples keep a table without repeats
pub once-fresh : (coder : Coder) → Tells coder → (k n : ℕ) (rows : List Row) (xs : List Task) → AllAt k xs → Once (triples_of rows)
    → Once (triples_of (rows ++ rows_numbered n (fresh coder k rows xs)))
once-fresh coder tells k n rows xs at o =
    let free = λ (x : Task). not (has coder (row_tasks k rows) x) in
    let f = fresh coder k rows xs in
    let told : triples_of (rows ++ rows_numbered n f) ≡ triples_of rows ++ map (λ x. x.triple) f =
    map-append (λ r. r.triple) rows (rows_numbered n f) ∙ ap (λ ts. triples_of rows ++ ts) (triples-numbered n f) in
    subst Once (sym told)
    (once-append (triples_of rows) (map (λ x. x.triple) f) o
    (once-triples k f (fresh-at coder k rows xs at) (once-filter free (each_once coder xs) (each-once coder tells xs)))
    (λ t a b.
    let r = in-map_cases (λ r. r.triple) t rows a in
    let x = in-map_cases (λ x. x.triple) t f b in
    let p = in-filter_parts free x.0 (each_once coder xs) x.1 in
    let at' = all-in_at k f (fresh-at coder k rows xs at) x.0 x.1 in
    let P : Task → Type 0 = λ z. In z (row_tasks k rows) in
    let mine : record { tick = k; triple = r.0.triple } ≡ x.0 = λ j. record { tick = sym at' j; triple = (r.2 ∙ sym x.2) j } in
    both_ways (free x.0) (not_from_true (has coder (row_tasks k rows) x.0) (in-has coder tells (row_tasks k rows) x.0 (subst P mine (in-map (λ r. record { tick = k; triple = r.triple }) r.0 rows r.1)))) p.1))

pub pull-told : (coder : Coder) → Tells coder → (gone k : ℕ) (runs runs' : List Run) → Changes coder gone k runs runs'
    → (u v v' : Level) (us : List Level) (n n' : ℕ) (moved : Bool) (tick : Tick) (h : Feed)
    → RowsTell coder gone runs' u.number u.rows → Opens coder gone runs' (u ∷ us) h → IsLevel coder gone runs v tick h → RowsHave coder runs' v.number v.rows
    → AllRun coder gone runs (Close tick ∷ h) → Pulls coder u v n v' n' moved → PullTold coder gone runs runs' v v' n n' tick h
pull-told coder tells gone k runs runs' ch u v v' us n n' moved tick h t o lv have all pulls =
    let p = has_passed coder gone runs in
    let p' = has_passed coder gone runs' in
    let new = newly p p' in
    let ls = listeners coder h in
    let c = closes h in
    let known = newly_known coder u in
    let xs : List Task = map (task_of coder c tick) (filter new ls) in
    let have' : RowsHave coder runs' c v.rows = (let P : ℕ → Type 0 = λ j. RowsHave coder runs' j v.rows in subst P lv.number have) in
    let f = fresh coder c v.rows xs in
    let zipped : AllZip (KnownFor known new coder) v.seats ls =
    zip-map (Sits coder gone runs v.rows c tick h) (KnownFor known new coder) v.seats ls
    (λ s l i z. (z.spec, known-at coder gone runs runs' v.rows c tick h s l u (λ j nw. state-newest coder gone runs' u us h t o j l nw) (ch.more l) z)) lv.seats in
    let placing : record { rows = v'.rows; issued = n' } ≡ record { rows = v.rows ++ rows_numbered n f; issued = n + length f } =
    pulls.placing ∙ ap (λ w. placed_seats coder w known v.seats (record { rows = v.rows; issued = n })) lv.talkers
    ∙ placed-seats coder c tick known new v.seats ls (record { rows = v.rows; issued = n }) zipped
    ∙ placed-all coder tells c xs (record { rows = v.rows; issued = n }) (all-at_map coder c tick (filter new ls)) in
    let rows : v'.rows ≡ v.rows ++ rows_numbered n f = ap (λ q. q.rows) placing in
    let same : news_at coder gone runs' c tick ls ≡ f = news-fresh coder tells gone k runs runs' ch v.rows tick h lv.open' have' all in
    let T : Tick → List Row → Type 0 = λ w rs. AllZip (TakesRun w known rs) v.seats v'.seats in
    let takes : T tick (v.rows ++ rows_numbered n f) = subst (T tick) rows (subst (λ w. T w v'.rows) lv.talkers pulls.seats) in
    let seats : AllZip (Sits coder gone runs' (v.rows ++ rows_numbered n f) c tick h) v'.seats ls =
    zip-again (TakesRun tick known (v.rows ++ rows_numbered n f)) (Sits coder gone runs v.rows c tick h) (KnownFor known new coder) (Sits coder gone runs' (v.rows ++ rows_numbered n f) c tick h)
    v.seats v'.seats ls
    (λ s s' l i tk kn st. sits-again coder gone runs runs' v.rows (rows_numbered n f) c tick h known s s' l (ch.more l) kn tk st) takes zipped lv.seats in
    let S : List Row → Type 0 = λ rs. AllZip (Sits coder gone runs' rs c tick h) v'.seats ls in
    record {
      level = record { open' = lv.open'; number = pulls.number ∙ lv.number; talkers = pulls.talkers ∙ lv.talkers; seats = subst S (sym rows) seats };
      rows = rows ∙ ap (λ g. v.rows ++ rows_numbered n g) (sym same);
      count = ap (λ q. q.issued) placing ∙ ap (λ g. n + length g) (sym same);
      at = subst (AllAt c) (sym same) (fresh-at coder c v.rows xs (all-at_map coder c tick (filter new ls)));
      once = λ o. subst (λ rs. Once (triples_of rs)) (sym rows) (once-fresh coder tells c n v.rows xs (all-at_map coder c tick (filter new ls)) o);
    }

-- a new row isn't done, since its task has no run
pub rows-tell_more : (coder : Coder) → Tells coder → (gone k : ℕ) (runs : List Run) (rows : List Row) (n : ℕ) (xs : List Task) → AllAt k xs → gone ≤ k
    → ((x : Task) → In x xs → has coder (run_tasks runs) x ≡ false) → RowsTell coder gone runs k rows → RowsTell coder gone runs k (rows ++ rows_numbered n xs)
rows-tell_more coder tells gone k runs rows n xs at le none t = record {
  done = λ r i. elim (in-append_cases r rows (rows_numbered n xs) i) [ inl a ↦ t.done r a | inr b ↦ fresh-open n xs at none r b ];
}
  where
    fresh-open : (n : ℕ) (xs : List Task) → AllAt k xs → ((x : Task) → In x xs → has coder (run_tasks runs) x ≡ false) → (r : Row) → In r (rows_numbered n xs)
        → is_done coder gone runs (record { tick = k; triple = r.triple }) ≡ is_finished r.stage
    fresh-open n [] at none r i = absurd i
    fresh-open n (x ∷ xs) at none r (inr i) = fresh-open (n + 1) xs at.1 (λ y j. none y (inr j)) r i
    fresh-open n (x ∷ xs) at none r (inl e) =
        let mine : record { tick = k; triple = r.triple } ≡ x = λ j. record { tick = sym at.0 j; triple = sym (ap (λ q. q.triple) e) j } in
        let task : Task = record { tick = k; triple = r.triple } in
        let open' : is_done coder gone runs task ≡ false =
        elim (cases_Bool (is_done coder gone runs task)) [
          | inl d ↦ elim (done-cases coder tells gone runs task d) [
            | inl lt ↦ absurd (omega arith)
            | inr f ↦ (let P : Task → Type 0 = λ y. In y (run_tasks runs) in
                absurd (false≢true (sym (none x (inl refl)) ∙ in-has coder tells (run_tasks runs) x (subst P mine (finished-tasks runs task f)))))
          ]
          | inr d ↦ d
        ] in
        open' ∙ ap (λ q. is_finished q.stage) e

-- what is new has no run
pub news-none : (coder : Coder) (gone : ℕ) (runs : List Run) (k : ℕ) (tick : Tick) (ls : List Listener) (x : Task)
    → In x (news_at coder gone runs k tick ls) → has coder (run_tasks runs) x ≡ false
news-none coder gone runs k tick ls x i =
    let free = λ (x : Task). not (has coder (run_tasks runs) x) in
    not-true (has coder (run_tasks runs) x) (in-filter_parts free x (filter (λ x. nat_le gone x.tick) (each_once coder (map (task_of coder k tick) (filter (has_passed coder gone runs) ls)))) i).1

-- the runs of a level with new rows
pub level-grown : (v v' : Level) (k n : ℕ) (xs : List Task) → v.number ≡ k → v'.number ≡ k → AllAt k xs → v'.rows ≡ v.rows ++ rows_numbered n xs
    → level_runs v' ≡ level_runs v ++ numbered n xs
level-grown v v' k n xs e e' at rows =
    ap (λ rs. map (run_of v'.number) rs) rows
    ∙ map-append (run_of v'.number) v.rows (rows_numbered n xs)
    ∙ ap (λ j. map (run_of j) v.rows ++ map (run_of j) (rows_numbered n xs)) (e' ∙ sym e)
    ∙ ap (λ j. level_runs v ++ map (run_of j) (rows_numbered n xs)) e
    ∙ ap (λ rs. level_runs v ++ rs) (runs-numbered k n xs at)

-- each of the right is paired
pub zip-right : {A B : Type 0} (R : A → B → Type 0) (xs : List A) (ys : List B) → AllZip R xs ys → (y : B) → In y ys → {Z : Type 0} → ((x : A) → R x y → Z) → Z
zip-right R [] [] z y i f = absurd i
zip-right R [] (b ∷ ys) z y i f = absurd z
zip-right R (a ∷ xs) [] z y i f = absurd z
zip-right {A} R (a ∷ xs) (b ∷ ys) z y (inl e) f = f a (subst (R a) e z.0)
zip-right R (a ∷ xs) (b ∷ ys) z y (inr i) f = zip-right R xs ys z.1 y i f

-- a tick whose listeners pass as before passes on what it was
pub still-next : (coder : Coder) (gone k : ℕ) (runs runs' : List Run) → Changes coder gone k runs runs' → (tick : Tick) (h : Feed) → (closes h ≡ k → ⊥)
    → (m : Listener) → In m (listeners coder h) → has_passed coder gone runs' m ≡ has_passed coder gone runs m
    → has_passed coder gone runs' (hears tick m) ≡ has_passed coder gone runs (hears tick m)
still-next coder gone k runs runs' ch tick h ne m i e =
    let own = own_task coder m.from m.spec.rate m.first m.heard (mix m.spec.member tick) in
    ap (λ b. b && has_passed coder gone runs' m) (ch.only own (λ q. ne (sym (heard-ticks coder h m i) ∙ q)))
    ∙ ap (λ b. is_done coder gone runs own && b) e

pub none-if : (b : Bool) (s : CodecState) → known_if b s ≡ None → b ≡ false
none-if true s e = cc
none-if false s e = refl

pub zip-both : {A A' B : Type 0} (Q : A → A' → Type 0) (R : A → B → Type 0) (S : A' → B → Type 0) (xs : List A) (xs' : List A') (ys : List B) (i : ℕ) (y : B)
    → AllZip Q xs xs' → AllZip R xs ys → AllZip S xs' ys → slice_get ys i ≡ Some y → (x : A) × (x' : A') × Q x x' × R x y × S x' y
zip-both Q R S [] [] [] i y q r s e = cc
zip-both Q R S [] [] (b ∷ ys) i y q r s e = absurd r
zip-both Q R S [] (a' ∷ xs') ys i y q r s e = absurd q
zip-both Q R S (a ∷ xs) [] ys i y q r s e = absurd q
zip-both Q R S (a ∷ xs) (a' ∷ xs') [] i y q r s e = absurd r
zip-both {A} {A'} {B} Q R S (a ∷ xs) (a' ∷ xs') (b ∷ ys) i y q r s e =
    let at : (i : ℕ) → slice_get (b ∷ ys) i ≡ Some y → (x : A) × (x' : A') × Q x x' × R x y × S x' y = elim [
      | zero ↦ λ e. let g : b ≡ y = cc in (a, a', q.0, subst (R a) g r.0, subst (S a') g s.0)
      | suc i ↦ λ e. zip-both Q R S xs xs' ys i y q.1 r.1 s.1 e
    ] in
    at i e

-- after a tick that took its states: who hasn't moved on passes as before
pub still-pulled : (coder : Coder) → Tells coder → (gone k : ℕ) (runs runs' : List Run) → Changes coder gone k runs runs'
    → (u v v' : Level) (us : List Level) (n n' : ℕ) (moved : Bool) (tick : Tick) (h : Feed) → (closes h ≡ k → ⊥)
    → RowsTell coder gone runs' u.number u.rows → Opens coder gone runs' (u ∷ us) h → IsLevel coder gone runs v tick h
    → IsLevel coder gone runs' v' tick h → RowsTell coder gone runs' v'.number v'.rows → Pulls coder u v n v' n' moved → moved ≡ false
    → (i : ℕ) (l : Listener) → IsNewest coder (Close tick ∷ h) i l → has_passed coder gone runs' l ≡ has_passed coder gone runs l
still-pulled coder tells gone k runs runs' ch u v v' us n n' moved tick h ne t o lv lv' t' pulls quiet i l nw =
    let p = has_passed coder gone runs in
    let p' = has_passed coder gone runs' in
    let m = nw.0 in
    let c = closes h in
    let im = get-in (listeners coder h) i m nw.1 in
    let known = newly_known coder u in
    let Q : Seat → Seat → Type 0 = λ s s'. is_some (known s) ≡ true → state_of_seat coder v'.rows s'.run ≡ None in
    let z = zip-both Q (Sits coder gone runs v.rows c tick h) (Sits coder gone runs' v'.rows c tick h) v.seats v'.seats (listeners coder h) i m
    (pulls.quiet quiet) lv.seats lv'.seats nw.1 in
    let P : Listener → Type 0 = λ x. p' x ≡ p x in
    let kn = known-at coder gone runs runs' v.rows c tick h z.0 m u (λ j q. state-newest coder gone runs' u us h t o j m q) (ch.more m) z.3 in
    let told : RowsTell coder gone runs' c v'.rows = (let R : ℕ → Type 0 = λ j. RowsTell coder gone runs' j v'.rows in subst R lv'.number t') in
    let next = next-state coder gone runs' v'.rows tick h z.1 m im told z.4 in
    subst P nw.2
    (elim (cases_Bool (p m)) [
      | inl a ↦ still-next coder gone k runs runs' ch tick h ne m im (ch.more m a ∙ sym a)
      | inr a ↦ elim (cases_Bool (p' m)) [
        | inl b ↦
            let some : is_some (known z.0) ≡ true = ap is_some (kn ∙ ap (λ q. known_if (not q && p' m) (state_of coder m)) a ∙ ap (λ q. known_if q (state_of coder m)) b) in
            let none : p' (hears tick m) ≡ false = none-if (p' (hears tick m)) (state_of coder (hears tick m)) (sym next ∙ z.2 some) in
            none ∙ sym (and_right (is_done coder gone runs (own_task coder m.from m.spec.rate m.first m.heard (mix m.spec.member tick))) (p m) a)
        | inr b ↦ still-next coder gone k runs runs' ch tick h ne m im (b ∙ sym a)
      ]
    ])

-- where nothing moved before, nobody at the next tick newly passes
pub still-level : (coder : Coder) (gone k : ℕ) (runs runs' : List Run) → Changes coder gone k runs runs' → (rows : List Row) (c : ℕ) (tick : Tick) (h : Feed)
    → ((i : ℕ) (l : Listener) → IsNewest coder h i l → has_passed coder gone runs' l ≡ has_passed coder gone runs l)
    → (s : Seat) (l : Listener) → Sits coder gone runs rows c tick h s l → has_passed coder gone runs' l ≡ has_passed coder gone runs l
still-level coder gone k runs runs' ch rows c tick h still s l sits =
    let by : (o : Option ℕ) → CameFrom coder gone h o l → has_passed coder gone runs' l ≡ has_passed coder gone runs l = elim [
      | None ↦ λ q. passed-before coder gone runs' l q ∙ sym (passed-before coder gone runs l q)
      | Some i ↦ λ q. still i l q
    ] in
    by s.earlier sits.came

pub opens-number : (coder : Coder) (gone : ℕ) (runs : List Run) (v : Level) (vs : List Level) (h : Feed) → Opens coder gone runs (v ∷ vs) h
    → closes h ≡ v.number + 1
opens-number coder gone runs v vs [] o = absurd o
opens-number coder gone runs v vs (Close tick ∷ h) o = ap (λ n. n + 1) (sym o.0.number)
opens-number coder gone runs v vs (Join spec ∷ h) o = opens-number coder gone runs v vs h o
opens-number coder gone runs v vs (Leave m ∷ h) o = opens-number coder gone runs v vs h o
opens-number coder gone runs v vs (Collect ∷ h) o = opens-number coder gone runs v vs h o
opens-number coder gone runs v vs (End ∷ h) o = opens-number coder gone runs v vs h o
opens-number coder gone runs v vs (Cut ∷ h) o = opens-number coder gone runs v vs h o

-- the last of these levels is of tick k
abbrev pub EndsAt : ℕ → List Level → Type 0
EndsAt k [] = ⊥
EndsAt k (v ∷ []) = v.number ≡ k
EndsAt k (v ∷ u ∷ us) = EndsAt k (u ∷ us)

pub ends-late : (coder : Coder) (gone k : ℕ) (runs : List Run) (old older : List Level) (h : Feed) → EndsAt k old
    → Opens coder gone runs (old ++ older) h → k < closes h
ends-late coder gone k runs [] older h e o = absurd e
ends-late coder gone k runs (v ∷ []) older h e o = let n = opens-number coder gone runs v older h o in omega arith
ends-late coder gone k runs (v ∷ u ∷ us) older [] e o = absurd o
ends-late coder gone k runs (v ∷ u ∷ us) older (Close tick ∷ h) e o = let ih = ends-late coder gone k runs (u ∷ us) older h e o.1 in omega arith
ends-late coder gone k runs (v ∷ u ∷ us) older (Join spec ∷ h) e o = ends-late coder gone k runs (v ∷ u ∷ us) older h e o
ends-late coder gone k runs (v ∷ u ∷ us) older (Leave m ∷ h) e o = ends-late coder gone k runs (v ∷ u ∷ us) older h e o
ends-late coder gone k runs (v ∷ u ∷ us) older (Collect ∷ h) e o = ends-late coder gone k runs (v ∷ u ∷ us) older h e o
ends-late coder gone k runs (v ∷ u ∷ us) older (End ∷ h) e o = ends-late coder gone k runs (v ∷ u ∷ us) older h e o
ends-late coder gone k runs (v ∷ u ∷ us) older (Cut ∷ h) e o = ends-late coder gone k runs (v ∷ u ∷ us) older h e o

-- the step from what was told of the older levels to one more
pub more-told : (coder : Coder) (gone : ℕ) (runs runs' : List Run) (v v' : Level) (old new : List Level) (n m n' : ℕ) (xs : List Task) (was moved : Bool) (tick : Tick) (h : Feed)
    → SweepTold coder gone runs runs' old new n m was h → news_at coder gone runs' (closes h) tick (listeners coder h) ≡ xs
    → IsLevel coder gone runs' v' tick h → RowsTell coder gone runs' v'.number v'.rows → n' ≡ m + length xs
    → v.number ≡ closes h → AllAt (closes h) xs → v'.rows ≡ v.rows ++ rows_numbered m xs → (Once (triples_of v.rows) → Once (triples_of v'.rows))
    → (moved ≡ false → (i : ℕ) (l : Listener) → IsNewest coder (Close tick ∷ h) i l → has_passed coder gone runs' l ≡ has_passed coder gone runs l)
    → SweepTold coder gone runs runs' (v ∷ old) (v' ∷ new) n n' moved (Close tick ∷ h)
more-told coder gone runs runs' v v' old new n m n' xs was moved tick h ih same lv tell count place at rows once still =
    let runs_more : level_runs v' ≡ level_runs v ++ numbered m xs = level-grown v v' (closes h) m xs place lv.number at rows in
    let ns = news coder gone runs' h in
    let all : news coder gone runs' (Close tick ∷ h) ≡ ns ++ xs = news-close coder gone runs' tick h ∙ ap (λ ys. ns ++ ys) same in
    let numbers : numbered n (news coder gone runs' (Close tick ∷ h)) ≡ numbered n ns ++ numbered m xs =
    ap (numbered n) all ∙ numbered-append n ns xs ∙ ap (λ j. numbered n ns ++ numbered j xs) (sym ih.count) in
    let L : Run → List Run → Type 0 = λ r rs. In r rs in
    record {
      opens = (lv, ih.opens);
      tell = tell;
      count = let a = ap length all in let b = length-append ns xs in let c = ih.count in omega arith;
      grown = λ r i.
          elim (in-append_cases r (all_runs new) (level_runs v') i) [
            | inl a ↦ elim (ih.grown r a) [
              | inl b ↦ inl (in-append_left r (all_runs old) (level_runs v) b)
              | inr b ↦ inr (subst (L r) (sym numbers) (in-append_left r (numbered n ns) (numbered m xs) b))
            ]
            | inr a ↦ elim (in-append_cases r (level_runs v) (numbered m xs) (subst (L r) runs_more a)) [
              | inl b ↦ inl (in-append_right r (all_runs old) (level_runs v) b)
              | inr b ↦ inr (subst (L r) (sym numbers) (in-append_right r (numbered n ns) (numbered m xs) b))
            ]
          ];
      kept = λ r i.
          elim i [
            | inl a ↦ elim (in-append_cases r (all_runs old) (level_runs v) a) [
              | inl b ↦ in-append_left r (all_runs new) (level_runs v') (ih.kept r (inl b))
              | inr b ↦ in-append_right r (all_runs new) (level_runs v') (subst (L r) (sym runs_more) (in-append_left r (level_runs v) (numbered m xs) b))
            ]
            | inr a ↦ elim (in-append_cases r (numbered n ns) (numbered m xs) (subst (L r) numbers a)) [
              | inl b ↦ in-append_left r (all_runs new) (level_runs v') (ih.kept r (inr b))
              | inr b ↦ in-append_right r (all_runs new) (level_runs v') (subst (L r) (sym runs_more) (in-append_right r (level_runs v) (numbered m xs) b))
            ]
          ];
      grew = (m, xs, lv.number ∙ sym place, rows, count, ih.grew);
      once = λ o. (once o.0, ih.once o.1);
      still = still;
    }

pub sweep-told : (coder : Coder) → Tells coder → (gone k : ℕ) (runs runs' : List Run) → Changes coder gone k runs runs'
    → (old new older : List Level) (n n' : ℕ) (moved : Bool) (h : Feed)
    → Opens coder gone runs (old ++ older) h → LevelsTell coder gone runs' (old ++ older) → AllRun coder gone runs h → EndsAt k old
    → Sweeps coder old n new n' moved → SweepTold coder gone runs runs' (old ++ older) (new ++ older) n n' moved h
sweep-told coder tells gone k runs runs' ch [] new older n n' moved h o lt all ends sw = absurd sw
sweep-told coder tells gone k runs runs' ch (v ∷ []) new older n n' moved h o lt all ends sw =
    let le : closes h ≤ k + 1 = (let e = opens-number coder gone runs v older h o in omega arith) in
    let none : news coder gone runs' h ≡ [] = news-early coder tells gone k runs runs' ch h le all in
    let P : List Level → ℕ → Bool → Type 0 = λ ws m b. SweepTold coder gone runs runs' (v ∷ older) (ws ++ older) n m b h in
    let at : P (v ∷ []) n true = record {
      opens = opens-early coder tells gone k runs runs' ch (v ∷ older) h le o;
      tell = lt.0.0;
      count = let e = ap length none in omega arith;
      grown = λ r i. inl i;
      kept = λ r i. elim i [ inl a ↦ a | inr a ↦ absurd (let L : List Task → Type 0 = λ ts. In r (numbered n ts) in subst L none a) ];
      grew = grew-none n (v ∷ older);
      once = λ o. o;
      still = λ e. absurd (false≢true (sym e));
    } in
    subst (λ b. P new n' b) (sym sw.2) (subst (λ m. P new m true) (sym sw.1) (subst (λ ws. P ws n true) (sym sw.0) at))
sweep-told coder tells gone k runs runs' ch (v ∷ u ∷ us) new older n n' moved [] o lt all ends sw = absurd o
sweep-told coder tells gone k runs runs' ch (v ∷ u ∷ us) new older n n' moved (Close tick ∷ h) o lt all ends sw =
    let v' = sw.0 in
    let u' = sw.1 in
    let us' = sw.2 in
    let m = sw.3 in
    let was = sw.4 in
    let ih = sweep-told coder tells gone k runs runs' ch (u ∷ us) (u' ∷ us') older n m was h o.1 lt.1 (all-run-tail coder gone runs tick h all) ends sw.6 in
    let late = ends-late coder gone k runs (u ∷ us) older h ends o.1 in
    let ne : (closes h ≡ k → ⊥) = λ e. omega arith in
    let c = closes h in
    let P : List Level → ℕ → Bool → Type 0 = λ ws j b. SweepTold coder gone runs runs' (v ∷ u ∷ us ++ older) (ws ++ older) n j b (Close tick ∷ h) in
    let W : Bool → Type 0 = λ b. MatchBool b (Pulls coder u' v m v' n' moved) ((v' ≡ v) × (n' ≡ m) × (moved ≡ false)) → SweepTold coder gone runs runs' (u ∷ us ++ older) (u' ∷ us' ++ older) n m b h → P (v' ∷ u' ∷ us') n' moved in
    let by : (b : Bool) → W b = elim [
      | true ↦ λ pulls told.
          let pt = pull-told coder tells gone k runs runs' ch u' v v' (us' ++ older) m n' moved tick h told.tell told.opens o.0 lt.0.1 all pulls in
          let xs = news_at coder gone runs' c tick (listeners coder h) in
          let tell' : RowsTell coder gone runs' c v.rows = (let R : ℕ → Type 0 = λ j. RowsTell coder gone runs' j v.rows in subst R o.0.number lt.0.0) in
          let tell : RowsTell coder gone runs' v'.number v'.rows =
          (let R : ℕ → List Row → Type 0 = λ j rs. RowsTell coder gone runs' j rs in
          subst (λ j. R j v'.rows) (sym pt.level.number) (subst (R c) (sym pt.rows)
          (rows-tell_more coder tells gone c runs' v.rows m xs pt.at o.0.open' (λ x i. news-none coder gone runs' c tick (listeners coder h) x i) tell'))) in
          more-told coder gone runs runs' v v' (u ∷ us ++ older) (u' ∷ us' ++ older) n m n' xs true moved tick h told refl pt.level tell pt.count o.0.number pt.at pt.rows pt.once
          (λ q. still-pulled coder tells gone k runs runs' ch u' v v' (us' ++ older) m n' moved tick h ne told.tell told.opens o.0 pt.level tell pulls q)
      | false ↦ λ rest told.
          let still = told.still refl in
          let alike : (s : Seat) (l : Listener) → In l (listeners coder h) → Sits coder gone runs v.rows c tick h s l → has_passed coder gone runs' l ≡ has_passed coder gone runs l =
          λ s l i z. still-level coder gone k runs runs' ch v.rows c tick h still s l z in
          let lv : IsLevel coder gone runs' v tick h = level-same coder gone runs runs' v tick h alike o.0 in
          let each : (l : Listener) → In l (listeners coder h) → has_passed coder gone runs' l ≡ has_passed coder gone runs l =
          λ l i. zip-right (Sits coder gone runs v.rows c tick h) v.seats (listeners coder h) o.0.seats l i (λ s z. alike s l i z) in
          let none : news_at coder gone runs' c tick (listeners coder h) ≡ [] = news-none_at coder tells gone k runs runs' ch tick h each all in
          let at : SweepTold coder gone runs runs' (v ∷ u ∷ us ++ older) (v ∷ u' ∷ us' ++ older) n m false (Close tick ∷ h) =
          more-told coder gone runs runs' v v (u ∷ us ++ older) (u' ∷ us' ++ older) n m m [] false false tick h told none lv lt.0.0 (omega arith) o.0.number tt (sym (append-nil v.rows)) (λ q. q)
          (λ q i l nw. subst (λ x. has_passed coder gone runs' x ≡ has_passed coder gone runs x) nw.2
          (let im = get-in (listeners coder h) i nw.0 nw.1 in still-next coder gone k runs runs' ch tick h ne nw.0 im (each nw.0 im))) in
          subst (λ b. P (v' ∷ u' ∷ us') n' b) (sym rest.2) (subst (λ j. P (v' ∷ u' ∷ us') j false) (sym rest.1) (subst (λ w. P (w ∷ u' ∷ us') m false) (sym rest.0) at))
    ] in
    subst (λ ws. P ws n' moved) (sym sw.5) (by was sw.7 ih)
sweep-told coder tells gone k runs runs' ch (v ∷ u ∷ us) new older n n' moved (Join spec ∷ h) o lt all ends sw =
    let S : Feed → List Level → Type 0 = λ g ws. SweepTold coder gone runs runs' (v ∷ u ∷ us ++ older) (ws ++ older) n n' moved g in
    let t : S h (sw.0 ∷ sw.1 ∷ sw.2) = subst (S h) sw.5 (sweep-told coder tells gone k runs runs' ch (v ∷ u ∷ us) new older n n' moved h o lt all ends sw) in
    let t' : S (Join spec ∷ h) (sw.0 ∷ sw.1 ∷ sw.2) = record { opens = t.opens; tell = t.tell; count = t.count; grown = t.grown; kept = t.kept; grew = t.grew; once = t.once; still = t.still } in
    subst (S (Join spec ∷ h)) (sym sw.5) t'
sweep-told coder tells gone k runs runs' ch (v ∷ u ∷ us) new older n n' moved (Leave q ∷ h) o lt all ends sw =
    let S : Feed → List Level → Type 0 = λ g ws. SweepTold coder gone runs runs' (v ∷ u ∷ us ++ older) (ws ++ older) n n' moved g in
    let t : S h (sw.0 ∷ sw.1 ∷ sw.2) = subst (S h) sw.5 (sweep-told coder tells gone k runs runs' ch (v ∷ u ∷ us) new older n n' moved h o lt all ends sw) in
    let t' : S (Leave q ∷ h) (sw.0 ∷ sw.1 ∷ sw.2) = record { opens = t.opens; tell = t.tell; count = t.count; grown = t.grown; kept = t.kept; grew = t.grew; once = t.once; still = t.still } in
    subst (S (Leave q ∷ h)) (sym sw.5) t'
sweep-told coder tells gone k runs runs' ch (v ∷ u ∷ us) new older n n' moved (Collect ∷ h) o lt all ends sw =
    let S : Feed → List Level → Type 0 = λ g ws. SweepTold coder gone runs runs' (v ∷ u ∷ us ++ older) (ws ++ older) n n' moved g in
    let t : S h (sw.0 ∷ sw.1 ∷ sw.2) = subst (S h) sw.5 (sweep-told coder tells gone k runs runs' ch (v ∷ u ∷ us) new older n n' moved h o lt all ends sw) in
    let t' : S (Collect ∷ h) (sw.0 ∷ sw.1 ∷ sw.2) = record { opens = t.opens; tell = t.tell; count = t.count; grown = t.grown; kept = t.kept; grew = t.grew; once = t.once; still = t.still } in
    subst (S (Collect ∷ h)) (sym sw.5) t'
sweep-told coder tells gone k runs runs' ch (v ∷ u ∷ us) new older n n' moved (End ∷ h) o lt all ends sw =
    let S : Feed → List Level → Type 0 = λ g ws. SweepTold coder gone runs runs' (v ∷ u ∷ us ++ older) (ws ++ older) n n' moved g in
    let t : S h (sw.0 ∷ sw.1 ∷ sw.2) = subst (S h) sw.5 (sweep-told coder tells gone k runs runs' ch (v ∷ u ∷ us) new older n n' moved h o lt all ends sw) in
    let t' : S (End ∷ h) (sw.0 ∷ sw.1 ∷ sw.2) = record { opens = t.opens; tell = t.tell; count = t.count; grown = t.grown; kept = t.kept; grew = t.grew; once = t.once; still = t.still } in
    subst (S (End ∷ h)) (sym sw.5) t'
sweep-told coder tells gone k runs runs' ch (v ∷ u ∷ us) new older n n' moved (Cut ∷ h) o lt all ends sw =
    let S : Feed → List Level → Type 0 = λ g ws. SweepTold coder gone runs runs' (v ∷ u ∷ us ++ older) (ws ++ older) n n' moved g in
    let t : S h (sw.0 ∷ sw.1 ∷ sw.2) = subst (S h) sw.5 (sweep-told coder tells gone k runs runs' ch (v ∷ u ∷ us) new older n n' moved h o lt all ends sw) in
    let t' : S (Cut ∷ h) (sw.0 ∷ sw.1 ∷ sw.2) = record { opens = t.opens; tell = t.tell; count = t.count; grown = t.grown; kept = t.kept; grew = t.grew; once = t.once; still = t.still } in
    subst (S (Cut ∷ h)) (sym sw.5) t'
