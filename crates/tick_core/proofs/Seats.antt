-- Seats that are given at a close.
use Rattle.std.proofs.Common.{suc, zero, ◌≡◌, ℕ, ◌+◌, ◌<◌, List, [], ◌∷◌, ◌++◌, length, take, drop, get_or, set, refl, sym, ◌∙◌, ap, subst, arith, Option, Some, None, length-append, append_assoc, append-nil, add-one}
use Rattle.std.proofs.Math.Seq.{take-suc, drop-cons, get_or-append_seam, set-append_seam}
use Rattle.std.proofs.lemmas.List.{length-take-le}
use Rattle.std.specs.Prelude.{is_some, if◌then◌else◌}
use Rattle.std.specs.List.{AllZip}
use Rattle.g726_bits.specs.State.{CodecState}
use Rattle.g726_bits.specs.declared.Frame.{Frame}
use Rattle.talk_mix.specs.Mix.{mix}
use Rattle.talk_mix.specs.declared.ticks.Tick.{Tick}
use Rattle.triple_table.specs.Rows.{Row}
use Rattle.conference_spec.specs.Codec.{g726}
use Rattle.book_lists.specs.declared.seats.Seat.{Seat}
use Rattle.book_lists.specs.declared.seats.Rest.{Rest}
use Rattle.book_lists.specs.declared.seats.Ticket.{Ticket}
use Rattle.book_lists.specs.Levels.{Level, Placing, tickets, placed_rest, placed_rests, state_of_rest, rests_after, place_of, HasFirstRun, BecomesSeat, triple_of_rest}
use Rattle.book_lists.specs.declared.seats.Origin.TheVariants.{Earlier}
use Rattle.book_lists.proofs.Seating.{at-more, zip-map}
use Rattle.book_lists.proofs.Joining.{zip-push}
use Rattle.tick_core.specs.Queued.{Queued, Places}
use Rattle.tick_core.specs.Opened.{Numbers, GivesFirst, SeatsClosed, Settled, unknown}

-- ---- tickets and numbers ----

pub length-tickets : (k at n count : ℕ) → length (tickets k at n count) ≡ count
length-tickets k at n zero = refl
length-tickets k at n (suc count) = let ih = length-tickets k (at + 1) (n + 1) count in omega arith

pub tickets-append : (k at n a b : ℕ) → tickets k at n (a + b) ≡ tickets k at n a ++ tickets k (at + a) (n + a) b
tickets-append k at n zero b =
    let p : 0 + b ≡ b = omega arith in
    let q : at ≡ at + 0 = omega arith in
    let r : n ≡ n + 0 = omega arith in
    ap (tickets k at n) p ∙ ap (λ x. tickets k x n b) q ∙ ap (λ x. tickets k (at + 0) x b) r
tickets-append k at n (suc a) b =
    let p : suc a + b ≡ suc (a + b) = omega arith in
    let q : at + 1 + a ≡ at + suc a = omega arith in
    let r : n + 1 + a ≡ n + suc a = omega arith in
    let t : Ticket = record { number = n + 1; tick = k; at = at } in
    let here = tickets k (at + 1) (n + 1) a in
    ap (tickets k at n) p
    ∙ ap (λ ts. t ∷ ts) (tickets-append k (at + 1) (n + 1) a b)
    ∙ ap (λ x. t ∷ here ++ tickets k x (n + 1 + a) b) q
    ∙ ap (λ x. t ∷ here ++ tickets k (at + suc a) x b) r

-- there are as many new tickets as new rows
pub numbers-tickets : (k : ℕ) (rows : List Row) (q : Queued) (rows' : List Row) (q' : Queued) → Numbers k rows q rows' q'
    → length q'.tickets + length rows ≡ length q.tickets + length rows'
numbers-tickets k rows q rows' q' n =
    let new = tickets k (length rows) q.issued (length n.more) in
    let a = ap length n.waiting ∙ length-append q.tickets new in
    let b = length-tickets k (length rows) q.issued (length n.more) in
    let c = ap length n.grown ∙ length-append rows n.more in
    omega arith

-- and as many new numbers
pub numbers-issued : (k : ℕ) (rows : List Row) (q : Queued) (rows' : List Row) (q' : Queued) → Numbers k rows q rows' q'
    → q'.issued + length rows ≡ q.issued + length rows'
numbers-issued k rows q rows' q' n =
    let c = ap length n.grown ∙ length-append rows n.more in
    let d = n.count in
    omega arith

-- no row was added
pub numbers-none : (k : ℕ) (rows : List Row) (q : Queued) → Numbers k rows q rows q
numbers-none k rows q = record {
  more = [];
  grown = sym (append-nil rows);
  count = omega arith;
  waiting = sym (append-nil q.tickets);
  room = refl;
}

-- rows that were added twice
pub numbers-more : (k : ℕ) (rows : List Row) (q : Queued) (rows' : List Row) (q' : Queued) (rows'' : List Row) (q'' : Queued)
    → Numbers k rows q rows' q' → Numbers k rows' q' rows'' q'' → Numbers k rows q rows'' q''
numbers-more k rows q rows' q' rows'' q'' a b =
    let new = tickets k (length rows) q.issued (length a.more) in
    let at : length rows' ≡ length rows + length a.more = ap length a.grown ∙ length-append rows a.more in
    let joined : new ++ tickets k (length rows') q'.issued (length b.more) ≡ tickets k (length rows) q.issued (length (a.more ++ b.more)) =
    ap (λ x. new ++ tickets k x q'.issued (length b.more)) at
    ∙ ap (λ x. new ++ tickets k (length rows + length a.more) x (length b.more)) a.count
    ∙ sym (tickets-append k (length rows) q.issued (length a.more) (length b.more))
    ∙ ap (tickets k (length rows) q.issued) (sym (length-append a.more b.more)) in
    record {
      more = a.more ++ b.more;
      grown = b.grown ∙ ap (λ r. r ++ b.more) a.grown ∙ append_assoc rows a.more b.more;
      count = (let l = length-append a.more b.more in let x = a.count in let y = b.count in omega arith);
      waiting = b.waiting ∙ ap (λ ts. ts ++ tickets k (length rows') q'.issued (length b.more)) a.waiting
          ∙ append_assoc q.tickets new (tickets k (length rows') q'.issued (length b.more)) ∙ ap (λ ts. q.tickets ++ ts) joined;
      room = b.room ∙ a.room;
    }

-- ---- seats without a run ----

pub unknown-append : (ss ts : List Seat) → unknown (ss ++ ts) ≡ unknown ss + unknown ts
unknown-append [] ts = omega arith
unknown-append (s ∷ ss) ts = let ih = unknown-append ss ts in omega arith

pub unknown-one : (s : Seat) (ss : List Seat) → s.run ≡ None → unknown (s ∷ ss) ≡ 1 + unknown ss
unknown-one s ss e = ap (λ (o : Option ℕ). (if is_some o then 0 else 1) + unknown ss) e

pub take-more : {X : Type 0} (xs : List X) (i : ℕ) (x : X) → i < length xs → x ≡ get_or xs i x → take (i + 1) xs ≡ take i xs ++ x ∷ []
take-more {X} xs i x lt e = ap (λ n. take n xs) (add-one i) ∙ take-suc xs i x lt ∙ ap (λ y. take i xs ++ y ∷ []) (sym e)

pub length-zip : {A B : Type 0} (R : A → B → Type 0) (xs : List A) (ys : List B) → AllZip R xs ys → length ys ≡ length xs
length-zip R [] [] z = refl
length-zip R [] (y ∷ ys) z = absurd z
length-zip R (x ∷ xs) [] z = absurd z
length-zip R (x ∷ xs) (y ∷ ys) z = ap suc (length-zip R xs ys z.1)

-- the element at i, where the first i were replaced by others
pub record OneMore {X : Type 0} (old now front : List X) (i : ℕ) (x : X) : Type 0 where
  pub rest : drop i old ≡ x ∷ drop (i + 1) old
  pub first : take (i + 1) old ≡ take i old ++ x ∷ []
  pub put : (y : X) → set now i y ≡ (front ++ y ∷ []) ++ drop (i + 1) old

pub one-more : {X : Type 0} (old now front : List X) (i : ℕ) (x : X) → i < length old → now ≡ front ++ drop i old → length front ≡ length (take i old)
    → x ≡ get_or now i x
    → OneMore old now front i x
one-more {X} old now front i x lt e l is =
    let n : i ≡ length front = sym (l ∙ length-take-le i old (omega arith)) in
    let split : drop i old ≡ get_or old i x ∷ drop (suc i) old = drop-cons old i x lt in
    let there : now ≡ front ++ get_or old i x ∷ drop (suc i) old = e ∙ ap (λ d. front ++ d) split in
    let same : x ≡ get_or old i x =
    is ∙ ap (λ xs. get_or xs i x) there ∙ ap (λ k. get_or (front ++ get_or old i x ∷ drop (suc i) old) k x) n
    ∙ get_or-append_seam front (get_or old i x) (drop (suc i) old) x in
    let rest : drop i old ≡ x ∷ drop (i + 1) old =
    split ∙ ap (λ y. y ∷ drop (suc i) old) (sym same) ∙ ap (λ k. x ∷ drop k old) (sym (add-one i)) in
    let now' : now ≡ front ++ x ∷ drop (i + 1) old = e ∙ ap (λ d. front ++ d) rest in
    record {
      rest = rest;
      first = take-more old i x lt same;
      put = λ y. ap (λ xs. set xs i y) now' ∙ ap (λ k. set (front ++ x ∷ drop (i + 1) old) k y) n
          ∙ set-append_seam front x (drop (i + 1) old) y ∙ sym (append_assoc front (y ∷ []) (drop (i + 1) old));
    }

pub same-item : {X : Type 0} (old now front : List X) (i : ℕ) (x y : X) → OneMore old now front i x → OneMore old now front i y → x ≡ y
same-item old now front i x y a b = let e : x ∷ drop (i + 1) old ≡ y ∷ drop (i + 1) old = sym a.rest ∙ b.rest in cc

-- ---- after a close ----

pub length-rests_after : (j : ℕ) (rs : List Rest) → length (rests_after j rs) ≡ length rs
length-rests_after j [] = refl
length-rests_after j (r ∷ rs) = ap suc (length-rests_after (j + 1) rs)

pub rests_after-push : (j : ℕ) (rs : List Rest) (r : Rest)
    → rests_after j (rs ++ r ∷ []) ≡ rests_after j rs ++ record { spec = r.spec; heard = r.heard + 1; origin = Earlier (j + length rs) } ∷ []
rests_after-push j [] r = let e : j ≡ j + 0 = omega arith in ap (λ k. record { spec = r.spec; heard = r.heard + 1; origin = Earlier k } ∷ []) e
rests_after-push j (x ∷ rs) r =
    let first : Rest = record { spec = x.spec; heard = x.heard + 1; origin = Earlier j } in
    let e : j + 1 + length rs ≡ j + suc (length rs) = omega arith in
    ap (λ xs. first ∷ xs) (rests_after-push (j + 1) rs r)
    ∙ ap (λ k. first ∷ rests_after (j + 1) rs ++ record { spec = r.spec; heard = r.heard + 1; origin = Earlier k } ∷ []) e

-- one more is at its seat
pub rests_after-more : (old now : List Rest) (i : ℕ) (x : Rest) → i < length old → now ≡ rests_after 0 (take i old) ++ drop i old → x ≡ get_or now i x
    → set now i (record { spec = (get_or now i x).spec; heard = (get_or now i x).heard + 1; origin = Earlier i }) ≡ rests_after 0 (take (i + 1) old) ++ drop (i + 1) old
rests_after-more old now i x lt e is =
    let front = rests_after 0 (take i old) in
    let m = one-more old now front i x lt e (length-rests_after 0 (take i old)) is in
    let y : Rest = record { spec = x.spec; heard = x.heard + 1; origin = Earlier i } in
    let at : i ≡ 0 + length (take i old) = (let t = length-take-le i old (omega arith) in omega arith) in
    ap (λ r. set now i (record { spec = r.spec; heard = r.heard + 1; origin = Earlier i })) (sym is)
    ∙ m.put y
    ∙ ap (λ k. (front ++ record { spec = x.spec; heard = x.heard + 1; origin = Earlier k } ∷ []) ++ drop (i + 1) old) at
    ∙ ap (λ f. f ++ drop (i + 1) old) (sym (ap (rests_after 0) m.first ∙ rests_after-push 0 (take i old) x))

-- ---- after a collect ----

-- one more is settled
pub settled-more : (v : Level) (old now front after : List Rest) (i : ℕ) (x y : Rest) → OneMore old now front i x
    → AllZip (Settled v) (take i old) front → Settled v x y → after ≡ set now i y
    → (f : List Rest) × (after ≡ f ++ drop (i + 1) old) × AllZip (Settled v) (take (i + 1) old) f
settled-more v old now front after i x y m z s e =
    let P : List Rest → Type 0 = λ xs. AllZip (Settled v) xs (front ++ y ∷ []) in
    (front ++ y ∷ [], e ∙ m.put y, subst P (sym m.first) (zip-push (Settled v) (take i old) front x y z s))

-- ---- one present listener after another ----

pub placed_rests-push : (tick : Tick) (vs : List Level) (rs : List Rest) (r : Rest) (p : Placing)
    → placed_rests g726 tick vs (rs ++ r ∷ []) p ≡ placed_rest g726 tick r (state_of_rest g726 vs r.origin) (placed_rests g726 tick vs rs p)
placed_rests-push tick vs [] r p = refl
placed_rests-push tick vs (x ∷ rs) r p = placed_rests-push tick vs rs r (placed_rest g726 tick x (state_of_rest g726 vs x.origin) p)

first-run-more : (tick : Tick) (rows more : List Row) (r : Rest) (run : Option ℕ) (known : Option CodecState)
    → HasFirstRun tick rows r run known → HasFirstRun tick (rows ++ more) r run known
first-run-more tick rows more r run None h = h
first-run-more tick rows more r run (Some st) h = (h.0, h.1, at-more rows more h.0 (triple_of_rest tick r st) h.2)

pub becomes-more : (tick : Tick) (vs : List Level) (rows more rows' : List Row) (r : Rest) (s : Seat) → rows' ≡ rows ++ more
    → BecomesSeat g726 tick vs rows r s → BecomesSeat g726 tick vs rows' r s
becomes-more tick vs rows more rows' r s e b =
    let known = state_of_rest g726 vs r.origin in
    let P : List Row → Type 0 = λ rs. HasFirstRun tick rs r s.run known in
    record {
      spec = b.spec;
      heard = b.heard;
      earlier = b.earlier;
      run = subst P (sym e) (first-run-more tick rows more r s.run known b.run);
    }

-- none has become a seat
pub closed-none : (k : ℕ) (tick : Tick) (vs : List Level) (q : Queued) (ss : List Seat) (rows : List Row) → ss ≡ [] → rows ≡ [] → SeatsClosed k tick vs [] q ss rows q
closed-none k tick vs q ss rows no-seats no-rows =
    subst (λ (rs : List Row). SeatsClosed k tick vs [] q ss rs q) (sym no-rows)
    (subst (λ (xs : List Seat). SeatsClosed k tick vs [] q xs [] q) (sym no-seats)
    (record { placing = refl; become = tt; numbers = numbers-none k [] q; fits = omega arith }))

-- one more has become a seat
pub closed-push : (k : ℕ) (tick : Tick) (vs : List Level) (rests : List Rest) (r : Rest) (known : Option CodecState) (q : Queued) (ss : List Seat) (rows : List Row) (q' : Queued)
    (s : Seat) (rows' : List Row) (q'' : Queued) → known ≡ state_of_rest g726 vs r.origin
    → SeatsClosed k tick vs rests q ss rows q' → GivesFirst k tick r known rows q' rows' q'' s
    → SeatsClosed k tick vs (rests ++ r ∷ []) q (ss ++ s ∷ []) rows' q''
closed-push k tick vs rests r known q ss rows q' s rows' q'' e c g =
    let start : Placing = record { rows = []; issued = q.issued } in
    let H : Option CodecState → Type 0 = HasFirstRun tick rows' r s.run in
    record {
      placing = g.placing ∙ ap (λ o. placed_rest g726 tick r o (record { rows = rows; issued = q'.issued })) e
          ∙ ap (placed_rest g726 tick r (state_of_rest g726 vs r.origin)) c.placing
          ∙ sym (placed_rests-push tick vs rests r start);
      become = zip-push (BecomesSeat g726 tick vs rows') rests ss r s
          (zip-map (BecomesSeat g726 tick vs rows) (BecomesSeat g726 tick vs rows') rests ss
          (λ x y i b. becomes-more tick vs rows g.numbers.more rows' x y g.numbers.grown b) c.become)
          (record { spec = g.spec; heard = g.heard; earlier = g.earlier; run = subst H e g.run });
      numbers = numbers-more k [] q rows q' rows' q'' c.numbers g.numbers;
      fits = (let a = c.fits in let b = g.fits in let u = unknown-append ss (s ∷ []) in let l = length-append ss (s ∷ []) in omega arith);
    }

-- ---- a listener's first seat ----

-- with the run that its triple was placed at
pub first-placed : (k : ℕ) (tick : Tick) (r : Rest) (st : CodecState) (known : Option CodecState) (mixed : Frame) (rows : List Row) (q : Queued) (rows' : List Row) (q' : Queued)
    (rows'' : List Row) (q'' : Queued) (at : ℕ) (run earlier : Option ℕ)
    → known ≡ Some st → mixed ≡ mix r.spec.member tick → rows'' ≡ rows' → q'' ≡ q' → run ≡ Some at → earlier ≡ place_of r.origin
    → Places k (record { rate = r.spec.rate; state = st; mix = mixed }) rows q rows' q' at
    → GivesFirst k tick r known rows q rows'' q'' (record { spec = r.spec; heard = r.heard; earlier = earlier; run = run })
first-placed k tick r st known mixed rows q rows' q' rows'' q'' at run earlier e em er eq erun ee p =
    let T : Frame → Type 0 = λ m. Places k (record { rate = r.spec.rate; state = st; mix = m }) rows q rows' q' at in
    let p' : Places k (triple_of_rest tick r st) rows q rows' q' at = subst T em p in
    let s : Seat = record { spec = r.spec; heard = r.heard; earlier = earlier; run = run } in
    let G : Option CodecState → Type 0 = λ o. GivesFirst k tick r o rows q rows'' q'' s in
    let R : List Row → Type 0 = λ rs. GivesFirst k tick r (Some st) rows q rs q'' s in
    let Q : Queued → Type 0 = λ x. GivesFirst k tick r (Some st) rows q rows' x s in
    subst G (sym e) (subst R (sym er) (subst Q (sym eq) (record {
      placing = p'.placing;
      spec = refl;
      heard = refl;
      earlier = ee;
      run = (at, erun, p'.there);
      numbers = record { more = p'.more; grown = p'.grown; count = p'.count; waiting = p'.waiting; room = p'.room };
      fits = (
          let a = ap length p'.grown ∙ length-append rows p'.more in
          let b = p'.one in
          let c : unknown (s ∷ []) ≡ 0 + 0 = ap (λ (o : Option ℕ). (if is_some o then 0 else 1) + 0) erun in
          omega arith
          );
    })))

-- without a run
pub first-unknown : (k : ℕ) (tick : Tick) (r : Rest) (known : Option CodecState) (rows : List Row) (q : Queued)
    (rows'' : List Row) (q'' : Queued) (run earlier : Option ℕ)
    → known ≡ None → rows'' ≡ rows → q'' ≡ q → run ≡ None → earlier ≡ place_of r.origin
    → GivesFirst k tick r known rows q rows'' q'' (record { spec = r.spec; heard = r.heard; earlier = earlier; run = run })
first-unknown k tick r known rows q rows'' q'' run earlier e er eq erun ee =
    let s : Seat = record { spec = r.spec; heard = r.heard; earlier = earlier; run = run } in
    let G : Option CodecState → Type 0 = λ o. GivesFirst k tick r o rows q rows'' q'' s in
    let R : List Row → Type 0 = λ rs. GivesFirst k tick r None rows q rs q'' s in
    let Q : Queued → Type 0 = λ x. GivesFirst k tick r None rows q rows x s in
    subst G (sym e) (subst R (sym er) (subst Q (sym eq) (record {
      placing = refl;
      spec = refl;
      heard = refl;
      earlier = ee;
      run = erun;
      numbers = numbers-none k rows q;
      fits = (let c : unknown (s ∷ []) ≡ 1 + 0 = ap (λ (o : Option ℕ). (if is_some o then 0 else 1) + 0) erun in omega arith);
    })))
