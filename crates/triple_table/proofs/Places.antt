-- Rows of a table by their triples and slots.
use Rattle.std.proofs.Common.{◌⊎◌, zero, suc, ◌≡◌, ◌≢◌, ℕ, ◌<◌, false, List, [], ◌∷◌, ◌++◌, length, set, get_or, Option, Some, None, MatchOption, IfSome, inl, inr, length-set, refl, sym, ◌∙◌, ap, subst, arith, is_some}
use Rattle.std.specs.Prelude.{slice_get, position}
use Rattle.std.specs.List.{list_any, AllZip, AllByRecursion}
use Rattle.std.proofs.lemmas.Bool.{false≢true, or_parts}
use Rattle.std.proofs.lemmas.List.Elements.{All-from_recursion}
use Rattle.std.proofs.lemmas.List.Quantifiers.{position-Some}
use Rattle.std.proofs.lemmas.Option.{slice_get-get_or, slice_get_cases}
use Rattle.g726_codec.specs.declared.Triple.{Triple}
use Rattle.g726_codec.specs.declared.Encoded.{Encoded}
use Rattle.conference_spec.specs.declared.Stage.TheVariants as stages
use Rattle.conference_spec.specs.Codec.{is_same_triple, g726}
use Rattle.conference_spec.proofs.Equal.{triple-decides}
use Rattle.triple_table.specs.declared.Slot.{Slot}
use Rattle.triple_table.specs.declared.Progress.{Progress}
use Rattle.triple_table.specs.declared.Progress.TheVariants as progress
use Rattle.triple_table.specs.Rows.{Row, IsNewTriple, IsRowOf, staged}
use Rattle.triple_table.specs.Inside.{row_of, rows_of, SlotFits, Fits, IsSlotOf, MadeBy, stage_of}

pub length-rows : (ts : List Triple) (ss : List Slot) → length ts ≡ length ss → length (rows_of ts ss) ≡ length ss
length-rows [] [] e = refl
length-rows [] (s ∷ ss) e = absurd (omega arith)
length-rows (t ∷ ts) [] e = absurd (omega arith)
length-rows (t ∷ ts) (s ∷ ss) e = let ih = length-rows ts ss (omega arith) in omega arith

-- no key is this triple, so no row is of it
pub absent : (ts : List Triple) (ss : List Slot) (t : Triple) → list_any (is_same_triple t) ts ≡ false → AllByRecursion (λ r. r.triple ≢ t) (rows_of ts ss)
absent [] ss t h = tt
absent (k ∷ ts) [] t h = tt
absent (k ∷ ts) (s ∷ ss) t h =
    let p = or_parts (is_same_triple t k) (list_any (is_same_triple t) ts) h in
    ((λ e. false≢true (sym p.0 ∙ (triple-decides t k).1 (sym e))), absent ts ss t p.1)

-- the row at a key's place
pub row-at : (ts : List Triple) (ss : List Slot) (i : ℕ) (k : Triple) → length ts ≡ length ss → slice_get ts i ≡ Some k
    → (s : Slot) × (slice_get ss i ≡ Some s) × (slice_get (rows_of ts ss) i ≡ Some (row_of k s))
row-at [] ss i k e h = cc
row-at (t ∷ ts) [] i k e h = absurd (omega arith)
row-at (t ∷ ts) (s ∷ ss) i k e h =
    let at : (i : ℕ) → slice_get (t ∷ ts) i ≡ Some k → (q : Slot) × (slice_get (s ∷ ss) i ≡ Some q) × (slice_get (rows_of (t ∷ ts) (s ∷ ss)) i ≡ Some (row_of k q)) = elim [
      | zero ↦ λ h. let q : t ≡ k = cc in (s, refl, ap (λ z. Some (row_of z s)) q)
      | suc i ↦ λ h. row-at ts ss i k (omega arith) h
    ] in
    at i h

-- what a look-up says
pub found : (ts : List Triple) (ss : List Slot) (t : Triple) (r : Option ℕ) → length ts ≡ length ss → r ≡ position (is_same_triple t) ts → is_some r ≡ list_any (is_same_triple t) ts
    → MatchOption r (IsNewTriple (rows_of ts ss) t) (λ at. IsRowOf (rows_of ts ss) at t)
found ts ss t None e at any = All-from_recursion (λ r. r.triple ≢ t) (rows_of ts ss) (absent ts ss t (sym any))
found ts ss t (Some i) e at any =
    let p = position-Some (is_same_triple t) ts i t (sym at) in
    let k = get_or ts i t in
    let q = row-at ts ss i k e (slice_get-get_or ts i t p.0) in
    record { row = row_of k q.0; there = q.2; same = sym ((triple-decides t k).0 p.1) }

-- one more row
pub rows-append : (ts : List Triple) (ss : List Slot) (t : Triple) (s : Slot) → length ts ≡ length ss → rows_of (ts ++ t ∷ []) (ss ++ s ∷ []) ≡ rows_of ts ss ++ row_of t s ∷ []
rows-append [] [] t s e = refl
rows-append [] (q ∷ ss) t s e = absurd (omega arith)
rows-append (k ∷ ts) [] t s e = absurd (omega arith)
rows-append (k ∷ ts) (q ∷ ss) t s e = ap (λ rs. row_of k q ∷ rs) (rows-append ts ss t s (omega arith))

pub fits-append : (ts : List Triple) (ss : List Slot) (t : Triple) (s : Slot) → AllZip SlotFits ts ss → SlotFits t s → AllZip SlotFits (ts ++ t ∷ []) (ss ++ s ∷ [])
fits-append [] [] t s z f = (f, tt)
fits-append [] (q ∷ ss) t s z f = absurd z
fits-append (k ∷ ts) [] t s z f = absurd z
fits-append (k ∷ ts) (q ∷ ss) t s z f = (z.0, fits-append ts ss t s z.1 f)

-- another slot at a place
pub rows-set : (ts : List Triple) (ss : List Slot) (i : ℕ) (k : Triple) (s : Slot) → length ts ≡ length ss → slice_get ts i ≡ Some k → rows_of ts (set ss i s) ≡ set (rows_of ts ss) i (row_of k s)
rows-set [] ss i k s e h = cc
rows-set (t ∷ ts) [] i k s e h = absurd (omega arith)
rows-set (t ∷ ts) (q ∷ ss) i k s e h =
    let at : (i : ℕ) → slice_get (t ∷ ts) i ≡ Some k → rows_of (t ∷ ts) (set (q ∷ ss) i s) ≡ set (rows_of (t ∷ ts) (q ∷ ss)) i (row_of k s) = elim [
      | zero ↦ λ h. let z : t ≡ k = cc in ap (λ x. row_of x s ∷ rows_of ts ss) z
      | suc i ↦ λ h. ap (λ rs. row_of t q ∷ rs) (rows-set ts ss i k s (omega arith) h)
    ] in
    at i h

pub fits-set : (ts : List Triple) (ss : List Slot) (i : ℕ) (k : Triple) (s : Slot) → AllZip SlotFits ts ss → slice_get ts i ≡ Some k → SlotFits k s → AllZip SlotFits ts (set ss i s)
fits-set [] [] i k s z h f = cc
fits-set [] (q ∷ ss) i k s z h f = cc
fits-set (t ∷ ts) [] i k s z h f = absurd z
fits-set (t ∷ ts) (q ∷ ss) i k s z h f =
    let at : (i : ℕ) → slice_get (t ∷ ts) i ≡ Some k → AllZip SlotFits (t ∷ ts) (set (q ∷ ss) i s) = elim [
      | zero ↦ λ h. let e : t ≡ k = cc in ((let P : Triple → Type 0 = λ x. SlotFits x s in subst P (sym e) f), z.1)
      | suc i ↦ λ h. (z.0, fits-set ts ss i k s z.1 h f)
    ] in
    at i h

-- the key and the slot of a row
pub key-at : (ts : List Triple) (ss : List Slot) (i : ℕ) (r : Row) → AllZip SlotFits ts ss → slice_get (rows_of ts ss) i ≡ Some r
    → (k : Triple) × (s : Slot) × (slice_get ts i ≡ Some k) × (slice_get ss i ≡ Some s) × (r ≡ row_of k s) × SlotFits k s
key-at [] ss i r z h = cc
key-at (t ∷ ts) [] i r z h = absurd z
key-at (t ∷ ts) (s ∷ ss) i r z h =
    let at : (i : ℕ) → slice_get (rows_of (t ∷ ts) (s ∷ ss)) i ≡ Some r → (k : Triple) × (q : Slot) × (slice_get (t ∷ ts) i ≡ Some k) × (slice_get (s ∷ ss) i ≡ Some q) × (r ≡ row_of k q) × SlotFits k q = elim [
      | zero ↦ λ h. (t, s, refl, refl, (let e : row_of t s ≡ r = cc in sym e), z.0)
      | suc i ↦ λ h. key-at ts ss i r z.1 h
    ] in
    at i h

-- what holds of the value that is there
pub read-some : {X : Type 0} (o : Option X) (x : X) (P : X → Type 0) → o ≡ Some x → IfSome o P → P x
read-some o x P e h = let Q : Option _ → Type 0 = λ q. IfSome q P in subst Q e h

pub show-some : {X : Type 0} (o : Option X) (x : X) (P : X → Type 0) → o ≡ Some x → P x → IfSome o P
show-some o x P e h = let Q : Option _ → Type 0 = λ q. IfSome q P in subst Q (sym e) h

-- there is something below the length
pub some-below : {X : Type 0} (xs : List X) (i : ℕ) → i < length xs → (x : X) × (slice_get xs i ≡ Some x)
some-below xs i lt = elim (slice_get_cases xs i).1 [ inl a ↦ (a.0, a.2) | inr a ↦ absurd (let le = a.0 in omega arith) ]

pub slot-there : (ts : List Triple) (ss : List Slot) (i : ℕ) (s : Slot) → AllZip SlotFits ts ss → slice_get ss i ≡ Some s → IsSlotOf (rows_of ts ss) i s
slot-there [] [] i s z h = cc
slot-there [] (q ∷ ss) i s z h = absurd z
slot-there (t ∷ ts) [] i s z h = cc
slot-there (t ∷ ts) (q ∷ ss) i s z h =
    let at : (i : ℕ) → slice_get (q ∷ ss) i ≡ Some s → IsSlotOf (rows_of (t ∷ ts) (q ∷ ss)) i s = elim [
      | zero ↦ λ h. let e : q ≡ s = cc in record { triple = t; there = ap (λ x. Some (row_of t x)) e; fits = (let P : Slot → Type 0 = SlotFits t in subst P e z.0) }
      | suc i ↦ λ h. let r = slot-there ts ss i s z.1 h in record { triple = r.triple; there = r.there; fits = r.fits }
    ] in
    at i h

-- what a change of one slot's progress leaves
pub record Replaced (ts : List Triple) (ss ss' : List Slot) (at : ℕ) (new old : Progress) : Type 0 where
  pub pairs : length ts ≡ length ss'
  pub fits : AllZip SlotFits ts ss'
  pub before : IfSome (slice_get (rows_of ts ss) at) (λ r. (stage_of old ≡ r.stage) × Fits r.triple r.number old)
  pub rows : IfSome (slice_get (rows_of ts ss) at) (λ r. rows_of ts ss' ≡ set (rows_of ts ss) at (staged r (stage_of new)))

pub length-set' : {X : Type 0} (xs : List X) (i : ℕ) (x : X) → length (set xs i x) ≡ length xs
length-set' xs i x = length-set xs i x

pub replaced : (ts : List Triple) (ss ss' : List Slot) (at : ℕ) (new old : Progress) → length ts ≡ length ss → AllZip SlotFits ts ss → at < length ss
    → IfSome (slice_get (rows_of ts ss) at) (λ r. Fits r.triple r.number new) → IfSome (slice_get ss at) (λ s. old ≡ s.progress)
    → IfSome (slice_get ss at) (λ s. ss' ≡ set ss at (record s { progress = new })) → Replaced ts ss ss' at new old
replaced ts ss ss' at new old e z lt f b c =
    let s = some-below ss at lt in
    let k = some-below ts at (omega arith) in
    let q = slot-there ts ss at s.0 z s.1 in
    let r = row-at ts ss at k.0 e k.1 in
    let same : Some r.0 ≡ Some s.0 = sym r.1 ∙ s.1 in
    let one : r.0 ≡ s.0 = cc in
    let there : slice_get (rows_of ts ss) at ≡ Some (row_of k.0 s.0) = r.2 ∙ ap (λ x. Some (row_of k.0 x)) one in
    let slot : Slot = record { number = s.0.number; progress = new } in
    let changed : ss' ≡ set ss at slot = read-some (slice_get ss at) s.0 (λ s. ss' ≡ set ss at (record s { progress = new })) s.1 c in
    let was : old ≡ s.0.progress = read-some (slice_get ss at) s.0 (λ s. old ≡ s.progress) s.1 b in
    let fit : Fits k.0 s.0.number new = read-some (slice_get (rows_of ts ss) at) (row_of k.0 s.0) (λ r. Fits r.triple r.number new) there f in
    let key-fits : SlotFits k.0 s.0 = (let g = key-at ts ss at (row_of k.0 s.0) z there in
    let a : Some g.0 ≡ Some k.0 = sym g.2 ∙ k.1 in let a' : g.0 ≡ k.0 = cc in
    let d : Some g.1 ≡ Some s.0 = sym g.3 ∙ s.1 in let d' : g.1 ≡ s.0 = cc in
    let P : Triple → Slot → Type 0 = SlotFits in subst (P k.0) d' (subst (λ x. P x g.1) a' g.5)) in
    let F : Progress → Type 0 = λ p. Fits k.0 s.0.number p in
    record {
      pairs = e ∙ sym (ap length changed ∙ length-set' ss at slot);
      fits = (let P : List Slot → Type 0 = λ xs. AllZip SlotFits ts xs in subst P (sym changed) (fits-set ts ss at k.0 slot z k.1 fit));
      before = show-some (slice_get (rows_of ts ss) at) (row_of k.0 s.0) (λ r. (stage_of old ≡ r.stage) × Fits r.triple r.number old) there (ap stage_of was, subst F (sym was) key-fits);
      rows = show-some (slice_get (rows_of ts ss) at) (row_of k.0 s.0) (λ r. rows_of ts ss' ≡ set (rows_of ts ss) at (staged r (stage_of new))) there
          (ap (rows_of ts) changed ∙ rows-set ts ss at k.0 slot e k.1);
    }

-- two rows at one place are one
pub one-there : (rows : List Row) (at : ℕ) (q r : Row) → slice_get rows at ≡ Some q → slice_get rows at ≡ Some r → q ≡ r
one-there rows at q r a b = let e : Some q ≡ Some r = sym a ∙ b in cc

-- a triple that has a row isn't new
pub not-new : (rows : List Row) (t : Triple) (at : ℕ) → IsRowOf rows at t → IsNewTriple rows t → ⊥
not-new rows t at is new =
    elim (slice_get_cases rows at).1 [
      | inl a ↦
          let e : Some is.row ≡ Some a.0 = sym is.there ∙ a.2 in
          let one : a.0 ≡ is.row = cc in
          new at a.0 a.1 (ap (λ r. r.triple) (a.3 ∙ one) ∙ is.same)
      | inr a ↦ (let e : Some is.row ≡ None = sym is.there ∙ a.1 in cc)
    ]

-- what a look-up says of a place that it found
pub found-at : (ts : List Triple) (ss : List Slot) (t : Triple) (r : Option ℕ) (at : ℕ) → r ≡ Some at → MatchOption r (IsNewTriple (rows_of ts ss) t) (λ at. IsRowOf (rows_of ts ss) at t) → IsRowOf (rows_of ts ss) at t
found-at ts ss t r at e h = let P : Option ℕ → Type 0 = λ o. MatchOption o (IsNewTriple (rows_of ts ss) t) (λ at. IsRowOf (rows_of ts ss) at t) in subst P e h

pub found-none : (ts : List Triple) (ss : List Slot) (t : Triple) (r : Option ℕ) → r ≡ None → MatchOption r (IsNewTriple (rows_of ts ss) t) (λ at. IsRowOf (rows_of ts ss) at t) → IsNewTriple (rows_of ts ss) t
found-none ts ss t r e h = let P : Option ℕ → Type 0 = λ o. MatchOption o (IsNewTriple (rows_of ts ss) t) (λ at. IsRowOf (rows_of ts ss) at t) in subst P e h

pub has-room : (rows : List Row) (t : Triple) (room : ℕ) → IsNewTriple rows t → (length rows < room) ⊎ ((at : ℕ) × IsRowOf rows at t) → length rows < room
has-room rows t room new h = elim h [ inl a ↦ a | inr a ↦ absurd (not-new rows t a.0 a.1 new) ]

-- what a run has made of a row's triple fits the row
pub made-fits : (e : Encoded) (p : Progress) (t : Triple) (n : ℕ) → MadeBy e p → record { rate = e.rate; state = e.before; mix = e.mix } ≡ t → Fits t n p
made-fits e (progress.Waiting permit) t n m s = absurd m
made-fits e progress.Out t n m s = absurd m
made-fits e (progress.Finished state payload) t n m s =
    let P : Triple → Type 0 = λ u. (state ≡ (g726.encoded u.rate u.state u.mix).0) × (payload ≡ (g726.encoded u.rate u.state u.mix).1) in
    subst P s m

pub made-stage : (e : Encoded) (p : Progress) → MadeBy e p → stage_of p ≡ stages.Finished
made-stage e (progress.Waiting permit) m = absurd m
made-stage e progress.Out m = absurd m
made-stage e (progress.Finished state payload) m = refl
