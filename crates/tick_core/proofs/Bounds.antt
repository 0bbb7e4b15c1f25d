-- How much a Book can hold.
use Rattle.std.proofs.Common.{suc, zero, get_or, ◌≡◌, ℕ, ◌+◌, ◌*◌, ◌^◌, ◌≤◌, ◌<◌, inl, inr, true, false, not, ◌&&◌, List, [], ◌∷◌, length, map, refl, subst, arith, length-append}
use Rattle.std.specs.Prelude.{◌==◌, nat_lt}
use Rattle.std.specs.List.{filter, list_any, All, AllZip}
use Rattle.std.proofs.lemmas.Bool.{ltb-true, and_parts, not_from_false}
use Rattle.conference_spec.specs.declared.Entry.TheVariants.{Join, Leave, Close, Collect, Cut, End}
use Rattle.conference_spec.specs.declared.Task.{Task}
use Rattle.conference_spec.specs.Codec.{g726}
use Rattle.conference_spec.specs.Coding.{Coder}
use Rattle.conference_spec.specs.Feed.{Feed, Listener, listeners, begins, hears, closes, collects, ended, kept, cut, joined, is_legal, may_follow}
use Rattle.conference_spec.specs.Tasks.{task_of, is_same_task, each_once, tasks, due}
use Rattle.conference_spec.specs.Machine.{Run, Core, waits}
use Rattle.conference_spec.proofs.Members.{In, in-map, in-map_cases, in-filter, length-filter_parts, fewer}
use Rattle.conference_spec.proofs.Wants.{same-decides, heard-ticks}
use Rattle.conference_spec.proofs.Equal.{g726-tells}
use Rattle.conference_spec.proofs.Events.{length-map}
use Rattle.conference_spec.proofs.Steps.{Kept}
use Rattle.conference_spec.proofs.Told.{told}
use Rattle.book_lists.specs.declared.seats.Rest.{Rest}
use Rattle.book_lists.specs.declared.seats.Ticket.{Ticket}
use Rattle.book_lists.specs.Levels.{Level, Opens, Carries, Rests, all_runs, level_runs, run_of}
use Rattle.book_lists.proofs.Claiming.{count-waiting}
use Rattle.tick_core.specs.declared.book.Book.{Book}
use Rattle.tick_core.specs.Standing.{StandsOn}
use Rattle.book_feed.specs.Logged.{IsModest, closed_in, collected_in}
use Rattle.tick_core.proofs.Follows.{closed-is, collected-is, kept-is, is-modest}
use Rattle.tick_core.specs.Sweeping.{AllFit, all_seats, all_rows, all_unknown}
use Rattle.tick_core.proofs.Seats.{length-zip}

-- ---- a legal feed ----

pub few-listeners : (coder : Coder) (h : Feed) → is_legal coder h ≡ true → length (listeners coder h) ≤ 1024
few-listeners coder [] l = omega arith
few-listeners coder (Join spec ∷ h) l =
    let may = (and_parts (may_follow coder h (Join spec)) (is_legal coder h) l).0 in
    let room = (and_parts (not (list_any (λ m. m == spec.member) (joined h))) (nat_lt (length (listeners coder h)) 1024 && not (ended h)) may).1 in
    let lt = ltb-true (length (listeners coder h)) 1024 (and_parts (nat_lt (length (listeners coder h)) 1024) (not (ended h)) room).0 in
    let e = length-append (listeners coder h) (begins coder spec (closes h) ∷ []) in
    omega arith
few-listeners coder (Leave m ∷ h) l =
    let ih = few-listeners coder h (and_parts (may_follow coder h (Leave m)) (is_legal coder h) l).1 in
    let e = length-filter_parts (λ (x : Listener). not (x.spec.member == m)) (listeners coder h) in
    omega arith
few-listeners coder (Close tick ∷ h) l =
    let ih = few-listeners coder h (and_parts (may_follow coder h (Close tick)) (is_legal coder h) l).1 in
    let e = length-map (hears tick) (listeners coder h) in
    omega arith
few-listeners coder (Collect ∷ h) l = few-listeners coder h (and_parts (may_follow coder h Collect) (is_legal coder h) l).1
few-listeners coder (Cut ∷ h) l = few-listeners coder h (and_parts (may_follow coder h Cut) (is_legal coder h) l).1
few-listeners coder (End ∷ h) l = few-listeners coder h (and_parts (may_follow coder h End) (is_legal coder h) l).1

pub record IsBounded (n k s : ℕ) : Type 0 where
  pub closed : n ≤ 4320000
  pub collected : k ≤ n
  pub backlog : n ≤ k + 64
  pub since : s ≤ 18000

cut-late : (coder : Coder) (h : Feed) → is_legal coder h ≡ true → closes h ≤ closes (cut h) + 18000
cut-late coder [] l = omega arith
cut-late coder (Join spec ∷ h) l = cut-late coder h (and_parts (may_follow coder h (Join spec)) (is_legal coder h) l).1
cut-late coder (Leave m ∷ h) l = cut-late coder h (and_parts (may_follow coder h (Leave m)) (is_legal coder h) l).1
cut-late coder (Close tick ∷ h) l =
    let p = and_parts (may_follow coder h (Close tick)) (is_legal coder h) l in
    let q = and_parts (nat_lt (closes h) 4320000) (nat_lt (kept h) 18000 && (nat_lt (closes h) (collects h + 64) && not (ended h))) p.0 in
    let r = and_parts (nat_lt (kept h) 18000) (nat_lt (closes h) (collects h + 64) && not (ended h)) q.1 in
    let lt = ltb-true (kept h) 18000 r.0 in
    omega arith
cut-late coder (Collect ∷ h) l = cut-late coder h (and_parts (may_follow coder h Collect) (is_legal coder h) l).1
cut-late coder (Cut ∷ h) l = omega arith
cut-late coder (End ∷ h) l = cut-late coder h (and_parts (may_follow coder h End) (is_legal coder h) l).1

pub record IsCounted (h : Feed) : Type 0 where
  pub closed : closes h ≤ 4320000
  pub collected : collects h ≤ closes h
  pub backlog : closes h ≤ collects h + 64

pub closes-bounded : (coder : Coder) (h : Feed) → is_legal coder h ≡ true → IsCounted h
closes-bounded coder [] l = record { closed = omega arith; collected = omega arith; backlog = omega arith }
closes-bounded coder (Join spec ∷ h) l =
    let b = closes-bounded coder h (and_parts (may_follow coder h (Join spec)) (is_legal coder h) l).1 in
    record { closed = b.closed; collected = b.collected; backlog = b.backlog }
closes-bounded coder (Leave m ∷ h) l =
    let b = closes-bounded coder h (and_parts (may_follow coder h (Leave m)) (is_legal coder h) l).1 in
    record { closed = b.closed; collected = b.collected; backlog = b.backlog }
closes-bounded coder (Close tick ∷ h) l =
    let p = and_parts (may_follow coder h (Close tick)) (is_legal coder h) l in
    let q = and_parts (nat_lt (closes h) 4320000) (nat_lt (kept h) 18000 && (nat_lt (closes h) (collects h + 64) && not (ended h))) p.0 in
    let u = and_parts (nat_lt (kept h) 18000) (nat_lt (closes h) (collects h + 64) && not (ended h)) q.1 in
    let r = and_parts (nat_lt (closes h) (collects h + 64)) (not (ended h)) u.1 in
    let s = ltb-true (closes h) 4320000 q.0 in
    let t = ltb-true (closes h) (collects h + 64) r.0 in
    let b = closes-bounded coder h p.1 in
    record { closed = omega arith; collected = omega arith; backlog = omega arith }
closes-bounded coder (Collect ∷ h) l =
    let p = and_parts (may_follow coder h Collect) (is_legal coder h) l in
    let lt = ltb-true (collects h) (closes h) p.0 in
    let b = closes-bounded coder h p.1 in
    record { closed = b.closed; collected = omega arith; backlog = omega arith }
closes-bounded coder (Cut ∷ h) l =
    let b = closes-bounded coder h (and_parts (may_follow coder h Cut) (is_legal coder h) l).1 in
    record { closed = b.closed; collected = b.collected; backlog = b.backlog }
closes-bounded coder (End ∷ h) l =
    let b = closes-bounded coder h (and_parts (may_follow coder h End) (is_legal coder h) l).1 in
    record { closed = b.closed; collected = b.collected; backlog = b.backlog }

-- ---- open ticks ----

pub few-ticks : (coder : Coder) (gone : ℕ) (runs : List Run) (vs : List Level) (h : Feed) → gone ≤ closes h → Opens coder gone runs vs h
    → length vs + gone ≤ closes h
few-ticks coder gone runs [] h le o = omega arith
few-ticks coder gone runs (v ∷ vs) [] le o = absurd o
few-ticks coder gone runs (v ∷ vs) (Close tick ∷ h) le o = let ih = few-ticks coder gone runs vs h o.0.open' o.1 in omega arith
few-ticks coder gone runs (v ∷ vs) (Join spec ∷ h) le o = few-ticks coder gone runs (v ∷ vs) h le o
few-ticks coder gone runs (v ∷ vs) (Leave m ∷ h) le o = few-ticks coder gone runs (v ∷ vs) h le o
few-ticks coder gone runs (v ∷ vs) (Collect ∷ h) le o = few-ticks coder gone runs (v ∷ vs) h le o
few-ticks coder gone runs (v ∷ vs) (Cut ∷ h) le o = few-ticks coder gone runs (v ∷ vs) h le o
few-ticks coder gone runs (v ∷ vs) (End ∷ h) le o = few-ticks coder gone runs (v ∷ vs) h le o

pub few-seats : (coder : Coder) (gone : ℕ) (runs : List Run) (vs : List Level) (h : Feed) → Opens coder gone runs vs h → is_legal coder h ≡ true
    → all_seats vs ≤ 1024 * length vs
few-seats coder gone runs [] h o l = omega arith
few-seats coder gone runs (v ∷ vs) [] o l = absurd o
few-seats coder gone runs (v ∷ vs) (Close tick ∷ h) o l =
    let legal = (and_parts (may_follow coder h (Close tick)) (is_legal coder h) l).1 in
    let ih = few-seats coder gone runs vs h o.1 legal in
    let n = length-zip _ v.seats (listeners coder h) o.0.seats in
    let few = few-listeners coder h legal in
    omega arith
few-seats coder gone runs (v ∷ vs) (Join spec ∷ h) o l = few-seats coder gone runs (v ∷ vs) h o (and_parts (may_follow coder h (Join spec)) (is_legal coder h) l).1
few-seats coder gone runs (v ∷ vs) (Leave m ∷ h) o l = few-seats coder gone runs (v ∷ vs) h o (and_parts (may_follow coder h (Leave m)) (is_legal coder h) l).1
few-seats coder gone runs (v ∷ vs) (Collect ∷ h) o l = few-seats coder gone runs (v ∷ vs) h o (and_parts (may_follow coder h Collect) (is_legal coder h) l).1
few-seats coder gone runs (v ∷ vs) (Cut ∷ h) o l = few-seats coder gone runs (v ∷ vs) h o (and_parts (may_follow coder h Cut) (is_legal coder h) l).1
few-seats coder gone runs (v ∷ vs) (End ∷ h) o l = few-seats coder gone runs (v ∷ vs) h o (and_parts (may_follow coder h End) (is_legal coder h) l).1

-- ---- numbers ----

each-fewer : (coder : Coder) (xs : List Task) → length (each_once coder xs) ≤ length xs
each-fewer coder [] = omega arith
each-fewer coder (x ∷ xs) =
    let ih = each-fewer coder xs in
    let e = length-filter_parts (λ (y : Task). not (is_same_task coder x y)) (each_once coder xs) in
    omega arith

pub due-bounded : (coder : Coder) (h : Feed) → is_legal coder h ≡ true → due coder h ≤ 1024 * closes h
due-bounded coder [] l = omega arith
due-bounded coder (Close tick ∷ h) l =
    let legal = (and_parts (may_follow coder h (Close tick)) (is_legal coder h) l).1 in
    let ih = due-bounded coder h legal in
    let here = filter (λ (x : Listener). true) (listeners coder h) in
    let a = length-filter_parts (λ (x : Listener). true) (listeners coder h) in
    let b = length-map (task_of coder (closes h) tick) here in
    let d = each-fewer coder (map (task_of coder (closes h) tick) here) in
    let e = length-append (tasks coder h) (each_once coder (map (task_of coder (closes h) tick) here)) in
    let few = few-listeners coder h legal in
    omega arith
due-bounded coder (Join spec ∷ h) l = due-bounded coder h (and_parts (may_follow coder h (Join spec)) (is_legal coder h) l).1
due-bounded coder (Leave m ∷ h) l = due-bounded coder h (and_parts (may_follow coder h (Leave m)) (is_legal coder h) l).1
due-bounded coder (Collect ∷ h) l = due-bounded coder h (and_parts (may_follow coder h Collect) (is_legal coder h) l).1
due-bounded coder (Cut ∷ h) l = due-bounded coder h (and_parts (may_follow coder h Cut) (is_legal coder h) l).1
due-bounded coder (End ∷ h) l = due-bounded coder h (and_parts (may_follow coder h End) (is_legal coder h) l).1

pub issued-bounded : (c : Core) → Kept g726 c → c.issued ≤ due g726 c.feed
issued-bounded c k = (told g726 g726-tells c k).counted.at_most

-- ---- what was heard ----

zip-all : {A B : Type 0} (R : A → B → Type 0) (P : A → Type 0) (xs : List A) (ys : List B) → ((x : A) (y : B) → In y ys → R x y → P x)
    → AllZip R xs ys → All P xs
zip-all R P [] [] f z k d lt = absurd (omega arith)
zip-all R P [] (y ∷ ys) f z k d lt = absurd z
zip-all R P (x ∷ xs) [] f z k d lt = absurd z
zip-all R P (x ∷ xs) (y ∷ ys) f z k d lt =
    let at : (k : ℕ) → k < length (x ∷ xs) → P (get_or (x ∷ xs) k d) = elim [
      | zero ↦ λ lt. f x y (inl refl) z.0
      | suc k ↦ λ lt. zip-all R P xs ys (λ a b i. f a b (inr i)) z.1 k d (omega arith)
    ] in
    at k lt

pub heard-bounded : (coder : Coder) (vs : List Level) (rests : List Rest) (queue : List Ticket) (issued : ℕ) (c : Core) → is_legal coder c.feed ≡ true
    → Carries coder vs rests queue issued c → All (λ r. r.heard < 2 ^ 63) rests
heard-bounded coder vs rests queue issued c legal car =
    let b = closes-bounded coder c.feed legal in
    zip-all (Rests coder (collects c.feed) c.feed) (λ r. r.heard < 2 ^ 63) rests (listeners coder c.feed)
    (λ r l i z.
    let m = heard-ticks coder c.feed l i in
    let e = z.heard in
    omega arith)
    car.present

-- ---- runs that wait ----

rows-fit : (vs : List Level) → AllFit vs → all_rows vs + all_unknown vs ≤ all_seats vs
rows-fit [] f = omega arith
rows-fit (v ∷ vs) f = let ih = rows-fit vs f.1 in let a = f.0 in omega arith

length-runs : (vs : List Level) → length (all_runs vs) ≡ all_rows vs
length-runs [] = refl
length-runs (v ∷ vs) =
    let ih = length-runs vs in
    let a = length-append (all_runs vs) (level_runs v) in
    let b = length-map (run_of v.number) v.rows in
    omega arith

-- a seat for each run
pub few-runs : (c : Core) (vs : List Level) (rests : List Rest) (queue : List Ticket) (issued : ℕ) → Kept g726 c
    → Carries g726 vs rests queue issued c → AllFit vs → length c.runs + all_unknown vs ≤ all_seats vs
few-runs c vs rests queue issued k car fit =
    let task = λ (r : Run). r.task in
    let fewer' : length (map task c.runs) ≤ length (map task (all_runs vs)) =
    fewer (is_same_task g726) (same-decides g726 g726-tells) (map task c.runs) (map task (all_runs vs)) k.carried.once
    (λ x i.
    let m = in-map_cases task x c.runs i in
    subst (λ (y : Task). In y (map task (all_runs vs))) m.2 (in-map task m.0 (all_runs vs) ((car.runs m.0).0 m.1))) in
    let d = length-map task c.runs in
    let e = length-map task (all_runs vs) in
    let f = length-runs vs in
    let g = rows-fit vs fit in
    omega arith

-- a ticket for each waiting run
pub few-waiting : (c : Core) (vs : List Level) (rests : List Rest) (queue : List Ticket) (issued : ℕ) → Kept g726 c
    → Carries g726 vs rests queue issued c → AllFit vs → length queue + all_unknown vs ≤ all_seats vs
few-waiting c vs rests queue issued k car fit =
    let a = count-waiting g726 c vs queue k car.runs car.queue in
    let b = length-filter_parts (λ (r : Run). waits r.stage) c.runs in
    let few = few-runs c vs rests queue issued k car fit in
    omega arith

-- where a run doesn't wait there is room for its ticket
pub few-others : (c : Core) (vs : List Level) (rests : List Rest) (queue : List Ticket) (issued : ℕ) → Kept g726 c
    → Carries g726 vs rests queue issued c → AllFit vs → (r : Run) → In r c.runs → waits r.stage ≡ false → length queue < all_seats vs
few-others c vs rests queue issued k car fit r i busy =
    let p = λ (r : Run). waits r.stage in
    let a = count-waiting g726 c vs queue k car.runs car.queue in
    let b = length-filter_parts p c.runs in
    let few = few-runs c vs rests queue issued k car fit in
    let other = in-filter (λ (r : Run). not (p r)) r c.runs i (not_from_false (p r) busy) in
    let some = in-some (filter (λ (r : Run). not (p r)) c.runs) other in
    omega arith
  where
    in-some : (rs : List Run) → In r rs → 0 < length rs
    in-some [] h = absurd h
    in-some (q ∷ rs) h = omega arith

-- ---- all of it ----

-- what a Book can hold
pub record IsSmall (b : Book) : Type 0 where
  pub feed : IsBounded (closed_in b.log.feed) (collected_in b.log.feed) (closes b.log.feed.since)
  pub issued : b.queue.issued ≤ 4423680000
  pub waiting : length b.queue.tickets + all_unknown b.open_ticks.items ≤ b.queue.room
  pub seats : all_seats b.open_ticks.items ≤ 65536
  pub present : length b.present.items ≤ 1024
  pub heard : All (λ r. r.heard < 2 ^ 63) b.present.items
  pub open' : length b.open_ticks.items + collected_in b.log.feed ≤ closed_in b.log.feed

pub stands-bounded : (b : Book) (c : Core) → StandsOn b c → IsSmall b
stands-bounded b c s =
    let legal : is_legal g726 c.feed ≡ true = s.kept.carried.legal in
    let feed = closes-bounded g726 c.feed legal in
    let few-closes = feed.closed in
    let backlog = feed.backlog in
    let back = feed.collected in
    let late = cut-late g726 c.feed legal in
    let x = closed-is s.feed in
    let y = collected-is s.feed in
    let z = kept-is s.feed in
    let due' = due-bounded g726 c.feed legal in
    let number = issued-bounded c s.kept in
    let same = s.carries.issued_is in
    let wait = few-waiting c b.open_ticks.items b.present.items b.queue.tickets b.queue.issued s.kept s.carries s.roomy.fit in
    let room = s.roomy.tickets in
    let ticks = few-ticks g726 (collects c.feed) c.runs b.open_ticks.items c.feed feed.collected s.carries.opens in
    let seats' = few-seats g726 (collects c.feed) c.runs b.open_ticks.items c.feed s.carries.opens legal in
    let n = length-zip _ b.present.items (listeners g726 c.feed) s.carries.present in
    let few = few-listeners g726 c.feed legal in
    record {
      feed = record { closed = omega arith; collected = omega arith; backlog = omega arith; since = omega arith };
      issued = omega arith;
      waiting = omega arith;
      seats = omega arith;
      present = omega arith;
      heard = heard-bounded g726 b.open_ticks.items b.present.items b.queue.tickets b.queue.issued c legal s.carries;
      open' = omega arith;
    }

-- its log can count its entries
pub log-modest : (b : Book) (c : Core) → StandsOn b c → IsModest b.log.feed
log-modest b c s =
    let legal : is_legal g726 c.feed ≡ true = s.kept.carried.legal in
    let feed = closes-bounded g726 c.feed legal in
    is-modest s.feed legal feed.closed feed.collected
