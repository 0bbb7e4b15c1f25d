-- The place of a ticket among rising ones.
use Rattle.std.proofs.Common.{zero, suc, false, true, ◌≡◌, ◌≢◌, ℕ, ◌++◌, append-nil, ◌+◌, ◌<◌, ◌≤◌, ◌⊎◌, inl, inr, List, [], ◌∷◌, length, get_or, take, drop, refl, sym, ◌∙◌, ap, subst, arith}
use Rattle.std.specs.Prelude.{slice_get, Option, Some, IfSome, if◌then◌else◌}
use Rattle.std.specs.List.{All}
use Rattle.std.proofs.lemmas.List.Elements.{All-head, All-tail}
use Rattle.std.proofs.lemmas.Bool.{cases_Bool}
use Rattle.g726_codec.specs.declared.Triple.{Triple}
use Rattle.triple_table.specs.Rows.{Row, IsNewTriple}
use Rattle.conference_spec.specs.declared.Stage.TheVariants.{Waiting}
use Rattle.conference_spec.specs.Codec.{g726}
use Rattle.conference_spec.proofs.Equal.{g726-tells}
use Rattle.conference_spec.proofs.Members.{In, any-in, in-any}
use Rattle.book_lists.specs.declared.seats.Ticket.{Ticket}
use Rattle.book_lists.specs.Levels.{TicketsRise, has_row}
use Rattle.book_lists.proofs.Queues.{rise-at, get-after}
use Rattle.book_lists.proofs.Seating.{get-in}
use Rattle.tick_core.specs.Queued.{Queued, Places}

-- one more of the first ones
pub in-take : (ts : List Ticket) (i : ℕ) (x t : Ticket) → i < length ts → In t (take (i + 1) ts) → In t (take i ts) ⊎ (get_or ts i x ≡ t)
in-take [] i x t lt h = absurd (omega arith)
in-take (s ∷ ts) i x t lt h =
    let at : (i : ℕ) → i < length (s ∷ ts) → In t (take (suc i) (s ∷ ts)) → In t (take i (s ∷ ts)) ⊎ (get_or (s ∷ ts) i x ≡ t) = elim [
      | zero ↦ λ lt h. elim h [ inl e ↦ inr e | inr a ↦ absurd a ]
      | suc i ↦ λ lt h. elim h [
        | inl e ↦ inl (inl e)
        | inr a ↦ (let k' : suc i ≡ i + 1 = omega arith in
            let a' : In t (take (i + 1) ts) = subst (λ (k : ℕ). In t (take k ts)) k' a in
            elim (in-take ts i x t (omega arith) a') [ inl b ↦ inl (inr b) | inr e ↦ inr e ])
      ]
    ] in
    let e : i + 1 ≡ suc i = omega arith in
    at i lt (subst (λ (k : ℕ). In t (take k (s ∷ ts))) e h)

-- those from a place on are no lower than the one there
pub drop-least : (low : ℕ) (ts : List Ticket) (i : ℕ) (x : Ticket) → TicketsRise low ts → i < length ts → (t : Ticket) → In t (drop i ts)
    → (get_or ts i x).number ≤ t.number
drop-least low [] i x r lt t h = absurd (omega arith)
drop-least low (s ∷ ts) i x r lt t h =
    let at : (i : ℕ) → i < length (s ∷ ts) → In t (drop i (s ∷ ts)) → (get_or (s ∷ ts) i x).number ≤ t.number = elim [
      | zero ↦ λ lt h. elim h [ inl e ↦ (let q = ap (λ z. z.number) e in omega arith) | inr a ↦ (let q = rise-at s.number ts r.1 t a in omega arith) ]
      | suc i ↦ λ lt h. drop-least s.number ts i x r.1 (omega arith) t h
    ] in
    at i lt h

pub All-in : {X : Type 0} (P : X → Type 0) (xs : List X) → All P xs → (x : X) → In x xs → P x
All-in P [] all x h = absurd h
All-in P (y ∷ xs) all x (inl e) = subst P e (All-head P y xs all)
All-in P (y ∷ xs) all x (inr h) = All-in P xs (All-tail P y xs all) x h

-- one more row, or none, for a triple
pub no-row : (rows : List Row) (t : Triple) → IsNewTriple rows t → has_row g726 rows t ≡ false
no-row rows t new =
    elim (cases_Bool (has_row g726 rows t)) [
      | inl h ↦ (let r = any-in (λ (q : Row). g726.is_same q.triple t) rows h in
          absurd (All-in (λ (q : Row). q.triple ≢ t) rows new r.0 r.1 ((g726-tells r.0.triple t).0 r.2)))
      | inr h ↦ h
    ]

pub some-row : (rows : List Row) (t : Triple) (at : ℕ) (r : Row) → slice_get rows at ≡ Some r → r.triple ≡ t → has_row g726 rows t ≡ true
some-row rows t at r there same = in-any (λ (q : Row). g726.is_same q.triple t) r rows (get-in rows at r there) ((g726-tells r.triple t).1 same)

-- a new triple's run
pub places-new : (tick : ℕ) (t : Triple) (rows rows' : List Row) (q q' : Queued) (at number : ℕ) → IsNewTriple rows t → at ≡ length rows
    → rows' ≡ rows ++ record { triple = t; number = q.issued + 1; stage = Waiting } ∷ [] → IfSome (slice_get rows' at) (λ r. number ≡ r.number)
    → q'.issued ≡ q.issued + 1
    → q'.tickets ≡ q.tickets ++ record { number = number; tick = tick; at = at } ∷ [] → q'.room ≡ q.room → Places tick t rows q rows' q' at
places-new tick t rows rows' q q' at number new last grown named count waiting room =
    let r : Row = record { triple = t; number = q.issued + 1; stage = Waiting } in
    let past : length rows + 0 ≡ at = omega arith in
    let there : slice_get (rows ++ r ∷ []) at ≡ Some r = subst (λ (k : ℕ). slice_get (rows ++ r ∷ []) k ≡ Some r) past (get-after rows (r ∷ []) 0) in
    let there' : slice_get rows' at ≡ Some r = ap (λ (rs : List Row). slice_get rs at) grown ∙ there in
    let next : number ≡ q.issued + 1 = subst (λ (o : Option Row). IfSome o (λ r. number ≡ r.number)) there' named in
    let was : record { rows = rows'; issued = q'.issued } ≡ record { rows = rows ++ r ∷ []; issued = q.issued + 1 } = (λ i. record { rows = grown i; issued = count i }) in
    record {
      placing = was ∙ sym (ap (λ b. if b then record { rows = rows; issued = q.issued } else record { rows = rows ++ r ∷ []; issued = q.issued + 1 }) (no-row rows t new));
      there = record { row = r; there = there'; same = refl };
      more = r ∷ [];
      grown = grown;
      one = omega arith;
      count = count;
      waiting = waiting ∙ ap (λ (s : Ticket). q.tickets ++ s ∷ []) (λ i. record { number = next i; tick = tick; at = last i });
      room = room;
    }

-- the run of a triple that is there
pub places-there : (tick : ℕ) (t : Triple) (rows rows' : List Row) (q q' : Queued) (at : ℕ) (r : Row) → slice_get rows at ≡ Some r → r.triple ≡ t
    → rows' ≡ rows → q'.issued ≡ q.issued → q'.tickets ≡ q.tickets → q'.room ≡ q.room → Places tick t rows q rows' q' at
places-there tick t rows rows' q q' at r there same kept count waiting room =
    let was : record { rows = rows'; issued = q'.issued } ≡ record { rows = rows; issued = q.issued } = (λ i. record { rows = kept i; issued = count i }) in
    let new : Row = record { triple = t; number = q.issued + 1; stage = Waiting } in
    record {
      placing = was ∙ sym (ap (λ b. if b then record { rows = rows; issued = q.issued } else record { rows = rows ++ new ∷ []; issued = q.issued + 1 }) (some-row rows t at r there same));
      there = record { row = r; there = ap (λ (rs : List Row). slice_get rs at) kept ∙ there; same = same };
      more = [];
      grown = kept ∙ sym (append-nil rows);
      one = omega arith;
      count = count ∙ sym (plus-none q.issued);
      waiting = waiting ∙ sym (append-nil q.tickets);
      room = room;
    }
  where
    plus-none : (n : ℕ) → n + 0 ≡ n
    plus-none n = omega arith
