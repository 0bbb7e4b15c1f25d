-- A packet's samples laid into the places, one after another, and past them.
use Rattle.std.proofs.Common.{◌≡◌, ◌≢◌, ◌<◌, ◌≤◌, ◌+◌, ◌-◌, ◌*◌, ◌^◌, ℕ, zero, suc, ℤ, Bool, true, false, refl, sym, ◌∙◌, ap, arith, List, [], ◌∷◌, ◌++◌, length, get_or, Option, cond, min, max}
use Rattle.std.proofs.Common.{None, Some, slice_get, is_none, nat_le, add-one, inl, inr, get_or-set_same, get_or-set_other, subst, take, drop, map, append_assoc, take_all}
use Rattle.std.proofs.Common.{length-append, length-drop, length-take-le, get_or-take, take-take, take-append-drop}
use Rattle.std.proofs.Math.ListN.{set, length-set}
use Rattle.std.specs.List.{between}
use Rattle.std.proofs.lemmas.Bool.{cases_lt}
use Rattle.std.proofs.lemmas.Bool.Decides.{nat_tests}
use Rattle.std.proofs.lemmas.Option.{slice_get_past}
use Rattle.std.proofs.lemmas.List.{get_or_append_left, get_or-append_right, get_or_past, ext_get_or, map-append, length-map}
use Rattle.std.proofs.lemmas.Slice.{between_is}
use mir.Val.{bool_byte}
use Rattle.circular_buffer.specs.Buffer.{Buffer, buffer, keep_last}
use Rattle.circular_buffer.proofs.Places.{slice_get-drop, slice_get-take}
use Rattle.jitter_line.specs.Histories.{cover, or_else, new_at, new_of, one_if_none}
use Rattle.jitter_line.specs.Rings.{Holds}

-- the places after the first j samples
pub record Laid (old new : List (Option ℤ)) (offset : ℕ) (samples : List ℤ) (j : ℕ) : Type 0 where
  pub below : (i : ℕ) → i + 2 ^ 31 < offset → get_or new i None ≡ get_or old i None
  pub above : (i : ℕ) → offset + j ≤ i + 2 ^ 31 → get_or new i None ≡ get_or old i None
  pub laid : (i : ℕ) → offset ≤ i + 2 ^ 31 → i + 2 ^ 31 < offset + j → get_or new i None ≡ or_else (get_or old i None) (slice_get samples (i + 2 ^ 31 - offset))

-- the same, with what else the loop keeps
pub record Going (old : List (Option ℤ)) (ring : Buffer (Option ℤ)) (offset : ℕ) (samples : List ℤ) (n j : ℕ) : Type 0 where
  pub count : length ring.items ≡ length old
  pub capacity : ring.capacity ≡ 3200
  pub few : n ≤ j
  pub laid : Laid old ring.items offset samples j
  pub new : n ≡ new_of (λ i. get_or old i None) offset j

laid_none : (old : List (Option ℤ)) (offset : ℕ) (samples : List ℤ) → Laid old old offset samples 0
laid_none old offset samples = record { below = λ i h. refl; above = λ i h. refl; laid = λ i h k. absurd (omega arith) }

-- a sample at a place
laid_at : (old new : List (Option ℤ)) (offset : ℕ) (samples : List ℤ) (j place : ℕ) (x : ℤ) → Laid old new offset samples j →
    offset + j ≡ place + 2 ^ 31 → place < length new → slice_get samples j ≡ Some x →
    Laid old (set new place (or_else (get_or new place None) (Some x))) offset samples (j + 1)
laid_at old new offset samples j place x before here within is = record {
  below = λ i h. let other : i ≢ place = omega arith in rw get_or-set_other (before.below i h);
  above = λ i h. let other : i ≢ place = omega arith in rw get_or-set_other (before.above i (omega arith));
  laid = λ i h k. elim (cases_lt (i + 2 ^ 31) (offset + j)) [
    | inl earlier ↦ let other : i ≢ place = omega arith in rw get_or-set_other (before.laid i h earlier)
    | inr there ↦
        let same : i ≡ place = omega arith in
        let index : place + 2 ^ 31 - offset ≡ j = omega arith in
        let there_is : slice_get samples (place + 2 ^ 31 - offset) ≡ Some x = ap (slice_get samples) index ∙ is in
        let old_is : get_or new place None ≡ get_or old place None = before.above place (omega arith) in
        rw (same, get_or-set_same, old_is, there_is) refl
  ];
}

pub or_else-None : (o : Option ℤ) → or_else o None ≡ o
or_else-None None = refl
or_else-None (Some x) = refl

pub reached : (a b : ℕ) → a ≤ b → nat_le a b ≡ true
reached a b h = grind (arith, nat_tests)

pub not_yet : (a b : ℕ) → b < a → nat_le a b ≡ false
not_yet a b h = grind (arith, nat_tests)

-- after all samples
laid_all : (old new : List (Option ℤ)) (offset : ℕ) (samples : List ℤ) → Laid old new offset samples (length samples) → (i : ℕ) →
    get_or new i None ≡ or_else (get_or old i None) (cover offset samples i)
laid_all old new offset samples after i =
    elim (cases_lt (i + 2 ^ 31) offset) [
      | inl before ↦ let test : nat_le offset (i + 2 ^ 31) ≡ false = not_yet offset (i + 2 ^ 31) before in rw test (after.below i before ∙ sym (or_else-None (get_or old i None)))
      | inr from ↦
          let test : nat_le offset (i + 2 ^ 31) ≡ true = reached offset (i + 2 ^ 31) from in
          elim (cases_lt (i + 2 ^ 31) (offset + length samples)) [
            | inl within ↦ rw test (after.laid i from within)
            | inr past ↦ rw (test, slice_get_past samples (i + 2 ^ 31 - offset) (omega arith)) (after.above i past ∙ sym (or_else-None (get_or old i None)))
          ]
    ]

-- ---- how many are new

new_more : (places : ℕ → Option ℤ) (offset j : ℕ) → new_of places offset (j + 1) ≡ new_of places offset j + new_at places (offset + j)
new_more places offset j = rw add-one refl

new_before : (places : ℕ → Option ℤ) (at : ℕ) → at < 2 ^ 31 → new_at places at ≡ 0
new_before places at early = rw (not_yet (2 ^ 31) at early) refl

new_place : (places : ℕ → Option ℤ) (at place : ℕ) → at ≡ place + 2 ^ 31 → new_at places at ≡ one_if_none (places place)
new_place places at place here =
    let index : at - 2 ^ 31 ≡ place = omega arith in
    rw (reached (2 ^ 31) at (omega arith), index) refl

one_by_test : (o : Option ℤ) → bool_byte (is_none o) ≡ one_if_none o
one_by_test None = refl
one_by_test (Some x) = refl

at_most_one : (b : Bool) → bool_byte b ≤ 1
at_most_one true = omega arith
at_most_one false = omega arith

-- ---- the loop

pub going_none : (old : List (Option ℤ)) (ring : Buffer (Option ℤ)) (offset : ℕ) (samples : List ℤ) → old ≡ ring.items → ring.capacity ≡ 3200 →
    Going old ring offset samples 0 0
going_none old ring offset samples same capacity = record {
  count = sym (ap length same);
  capacity = capacity;
  few = omega arith;
  laid = subst (λ (new : List (Option ℤ)). Laid old new offset samples 0) same (laid_none old offset samples);
  new = refl;
}

pub going_at : (old : List (Option ℤ)) (ring : Buffer (Option ℤ)) (offset : ℕ) (samples : List ℤ) (n j place : ℕ) (x : ℤ) (is_new : Bool) →
    Going old ring offset samples n j → offset + j ≡ place + 2 ^ 31 → place < length old → slice_get samples j ≡ Some x →
    is_new ≡ is_none (get_or ring.items place None) →
    Going old (buffer (set ring.items place (or_else (get_or ring.items place None) (Some x))) ring.capacity) offset samples (n + bool_byte is_new) (j + 1)
going_at old ring offset samples n j place x is_new before here within is fresh = record {
  count = simp length-set before.count;
  capacity = before.capacity;
  few = omega (arith, before.few, at_most_one is_new);
  laid = laid_at old ring.items offset samples j place x before.laid here (omega (arith, before.count)) is;
  new =
      let was : get_or ring.items place None ≡ get_or old place None = before.laid.above place (omega arith) in
      let one : bool_byte is_new ≡ one_if_none (get_or old place None) = ap bool_byte (fresh ∙ ap is_none was) ∙ one_by_test (get_or old place None) in
      omega (arith, before.new, new_more (λ i. get_or old i None) offset j, new_place (λ i. get_or old i None) (offset + j) place here);
}

pub going_all : (old : List (Option ℤ)) (ring : Buffer (Option ℤ)) (offset : ℕ) (samples : List ℤ) (n j : ℕ) → Going old ring offset samples n j →
    j ≡ length samples → (i : ℕ) → get_or ring.items i None ≡ or_else (get_or old i None) (cover offset samples i)
going_all old ring offset samples n j after end =
    laid_all old ring.items offset samples (subst (λ (k : ℕ). Laid old ring.items offset samples k) end after.laid)

-- ---- how many are new of the first few, and of the rest

pub new_few : (places : ℕ → Option ℤ) (offset n : ℕ) → new_of places offset n ≤ n
new_few places offset zero = omega arith
new_few places offset (suc n) = omega (arith, new_few places offset n, one_at_most (nat_le (2 ^ 31) (offset + n)) (places (offset + n - 2 ^ 31)))
  where
    one_at_most : (b : Bool) (o : Option ℤ) → cond b (one_if_none o) 0 ≤ 1
    one_at_most true None = omega arith
    one_at_most true (Some x) = omega arith
    one_at_most false o = omega arith

-- samples before the position are not new
new_early : (places : ℕ → Option ℤ) (offset n : ℕ) → offset + n ≤ 2 ^ 31 → new_of places offset n ≡ 0
new_early places offset zero early = refl
new_early places offset (suc n) early =
    let before = new_early places offset n (omega arith) in
    omega (arith, before, new_before places (offset + n) (omega arith))

new_from : (places : ℕ → Option ℤ) (offset early n m : ℕ) → offset + early ≤ 2 ^ 31 → m ≡ early + n → new_of places offset m ≡ new_of places (offset + early) n
new_from places offset early zero m within is =
    let same : m ≡ early = omega arith in
    rw same (new_early places offset early within)
new_from places offset early (suc n) m within is =
    let same : m ≡ early + n + 1 = omega arith in
    let there : offset + (early + n) ≡ offset + early + n = omega arith in
    rw (same, new_more places offset (early + n), there, new_from places offset early n (early + n) within refl) refl

new_same : (p q : ℕ → Option ℤ) (offset n : ℕ) → ((i : ℕ) → p i ≡ q i) → new_of p offset n ≡ new_of q offset n
new_same p q offset zero same = refl
new_same p q offset (suc n) same = rw (new_same p q offset n same, same (offset + n - 2 ^ 31)) refl

-- past what is held each sample is new
new_past : (places : ℕ → Option ℤ) (place k n m : ℕ) → m ≡ k + n → ((i : ℕ) → place + k ≤ i → places i ≡ None) →
    new_of places (place + 2 ^ 31) m ≡ new_of places (place + 2 ^ 31) k + n
new_past places place k zero m is none =
    let same : m ≡ k = omega arith in
    rw same (omega arith)
new_past places place k (suc n) m is none =
    let same : m ≡ k + n + 1 = omega arith in
    let before = new_past places place k n (k + n) refl none in
    let last = new_place places (place + 2 ^ 31 + (k + n)) (place + (k + n)) (omega arith) in
    let one : one_if_none (places (place + (k + n))) ≡ 1 = ap one_if_none (none (place + (k + n)) (omega arith)) in
    let more = new_more places (place + 2 ^ 31) (k + n) in
    rw same (omega (arith, before, last, one, more))

-- ---- a packet from the position on

-- without the samples before the position
pub cover_ahead : (offset early place : ℕ) (samples : List ℤ) (i : ℕ) → early ≡ 2 ^ 31 - offset → place ≡ offset - 2 ^ 31 →
    cover (place + 2 ^ 31) (drop early samples) i ≡ cover offset samples i
cover_ahead offset early place samples i early_is place_is = elim (cases_lt offset (2 ^ 31)) [
  | inl before ↦
      let first : nat_le (place + 2 ^ 31) (i + 2 ^ 31) ≡ true = reached (place + 2 ^ 31) (i + 2 ^ 31) (omega arith) in
      let second : nat_le offset (i + 2 ^ 31) ≡ true = reached offset (i + 2 ^ 31) (omega arith) in
      rw (first, second) (slice_get-drop early samples (i + 2 ^ 31 - (place + 2 ^ 31)) (i + 2 ^ 31 - offset) (omega arith))
  | inr from ↦
      let none : early ≡ 0 = omega arith in
      let there : place + 2 ^ 31 ≡ offset = omega arith in
      rw (none, there) refl
]

pub new_ahead : (places : ℕ → Option ℤ) (offset early place n m : ℕ) → early ≡ 2 ^ 31 - offset → place ≡ offset - 2 ^ 31 → m ≡ early + n →
    new_of places offset m ≡ new_of places (place + 2 ^ 31) n
new_ahead places offset early place n m early_is place_is is = elim (cases_lt offset (2 ^ 31)) [
  | inl before ↦
      let there : offset + early ≡ place + 2 ^ 31 = omega arith in
      new_from places offset early n m (omega arith) is ∙ ap (λ (at : ℕ). new_of places at n) there
  | inr from ↦
      let same : m ≡ n = omega arith in
      let there : place + 2 ^ 31 ≡ offset = omega arith in
      rw (same, there) refl
]

-- ---- the samples on places that the ring has, and those past them

-- the ring after the places before a packet are there, after the samples that share its places, and after the rest
pub record Laying (old reached_to shared_by : List (Option ℤ)) (place : ℕ) (samples : List ℤ) (k : ℕ) : Type 0 where
  pub few : length old ≤ length reached_to
  pub from : place ≤ length reached_to
  pub shares : k ≡ min (length samples) (length reached_to - place)
  pub same : (i : ℕ) → get_or reached_to i None ≡ get_or old i None
  pub long : length shared_by ≡ length reached_to
  pub shared : (i : ℕ) → get_or shared_by i None ≡ or_else (get_or reached_to i None) (cover (place + 2 ^ 31) (take k samples) i)

get_or-map-Some : (xs : List ℤ) (i : ℕ) → get_or (map Some xs) i None ≡ slice_get xs i
get_or-map-Some [] i = refl
get_or-map-Some (x ∷ xs) zero = refl
get_or-map-Some (x ∷ xs) (suc i) = get_or-map-Some xs i

cover_taken : (place k n : ℕ) (samples : List ℤ) (i : ℕ) → k ≡ min (length samples) (n - place) → place ≤ n → i < n →
    cover (place + 2 ^ 31) (take k samples) i ≡ cover (place + 2 ^ 31) samples i
cover_taken place k n samples i shares from below = elim (cases_lt i place) [
  | inl before ↦ rw (not_yet (place + 2 ^ 31) (i + 2 ^ 31) (omega arith)) refl
  | inr at ↦
      let test : nat_le (place + 2 ^ 31) (i + 2 ^ 31) ≡ true = reached (place + 2 ^ 31) (i + 2 ^ 31) (omega arith) in
      let index : i + 2 ^ 31 - (place + 2 ^ 31) ≡ i - place = omega arith in
      rw (test, index) (elim (cases_lt (i - place) k) [
        | inl within ↦ slice_get-take k samples (i - place) within
        | inr past ↦ rw (take_all k samples (omega arith)) refl
      ])
]

pub laid_whole : (old reached_to shared_by : List (Option ℤ)) (place : ℕ) (samples : List ℤ) (k : ℕ) → Laying old reached_to shared_by place samples k → (i : ℕ) →
    get_or (shared_by ++ map Some (drop k samples)) i None ≡ or_else (get_or old i None) (cover (place + 2 ^ 31) samples i)
laid_whole old reached_to shared_by place samples k l i = elim (cases_lt i (length shared_by)) [
  | inl below ↦
      get_or_append_left shared_by (map Some (drop k samples)) None i below
      ∙ l.shared i
      ∙ ap (λ (o : Option ℤ). or_else o (cover (place + 2 ^ 31) (take k samples) i)) (l.same i)
      ∙ ap (λ (o : Option ℤ). or_else (get_or old i None) o) (cover_taken place k (length reached_to) samples i l.shares l.from (omega (arith, l.long)))
  | inr past ↦
      let none : get_or old i None ≡ None = get_or_past old i None (omega (arith, l.few, l.long)) in
      let test : nat_le (place + 2 ^ 31) (i + 2 ^ 31) ≡ true = reached (place + 2 ^ 31) (i + 2 ^ 31) (omega (arith, l.from, l.long)) in
      let index : i + 2 ^ 31 - (place + 2 ^ 31) ≡ i - place = omega arith in
      get_or-append_right shared_by (map Some (drop k samples)) (length shared_by) i None refl past
      ∙ get_or-map-Some (drop k samples) (i - length shared_by)
      ∙ rw (none, test, index) (elim (cases_lt (length samples) (length reached_to - place)) [
        | inl short ↦
            let all : length samples ≤ k = omega (arith, l.shares) in
            slice_get_past (drop k samples) (i - length shared_by) (omega (arith, length-drop k samples))
            ∙ sym (slice_get_past samples (i - place) (omega (arith, l.long, l.from)))
        | inr long ↦ slice_get-drop k samples (i - length shared_by) (i - place) (omega (arith, l.shares, l.long, l.from))
      ])
]

pub new_whole : (old reached_to shared_by : List (Option ℤ)) (place : ℕ) (samples : List ℤ) (k : ℕ) → Laying old reached_to shared_by place samples k →
    new_of (λ i. get_or old i None) (place + 2 ^ 31) (length samples) ≡ new_of (λ i. get_or reached_to i None) (place + 2 ^ 31) k + (length samples - k)
new_whole old reached_to shared_by place samples k l =
    let first : new_of (λ i. get_or old i None) (place + 2 ^ 31) k ≡ new_of (λ i. get_or reached_to i None) (place + 2 ^ 31) k =
    new_same (λ i. get_or old i None) (λ i. get_or reached_to i None) (place + 2 ^ 31) k (λ i. sym (l.same i)) in
    elim (cases_lt (length samples) (length reached_to - place)) [
      | inl short ↦
          let all : length samples ≡ k = omega (arith, l.shares) in
          rw all (omega (arith, first))
      | inr long ↦
          let whole = new_past (λ i. get_or old i None) place k (length samples - k) (length samples) (omega (arith, l.shares))
          (λ i past. get_or_past old i None (omega (arith, l.few, l.shares, l.from))) in
          omega (arith, first, whole)
    ]

pub holds_same : {ring : Buffer (Option ℤ)} {p : ℕ → Option ℤ} (q : ℕ → Option ℤ) → Holds ring p → ((i : ℕ) → p i ≡ q i) → Holds ring q
holds_same q holds same = record { count = holds.count; capacity = holds.capacity; at = λ i. holds.at i ∙ same i }

pub laying : (old reached_to shared_by : List (Option ℤ)) (place : ℕ) (samples first : List ℤ) (k : ℕ) → length reached_to ≡ max place (length old) →
    k ≡ min (length samples) (length reached_to - place) → ((i : ℕ) → get_or reached_to i None ≡ get_or old i None) → length shared_by ≡ length reached_to →
    first ≡ take k samples → ((i : ℕ) → get_or shared_by i None ≡ or_else (get_or reached_to i None) (cover (place + 2 ^ 31) first i)) →
    Laying old reached_to shared_by place samples k
laying old reached_to shared_by place samples first k reached shares same long is shared = record {
  few = omega (arith, reached);
  from = omega (arith, reached);
  shares = shares;
  same = same;
  long = long;
  shared = λ i. shared i ∙ ap (λ (xs : List ℤ). or_else (get_or reached_to i None) (cover (place + 2 ^ 31) xs i)) is;
}

pub laid_holds : (old reached_to shared_by : List (Option ℤ)) (place : ℕ) (samples rest : List ℤ) (k : ℕ) → Laying old reached_to shared_by place samples k →
    length old ≤ 3200 → place + length samples ≤ 3200 → length reached_to ≡ max place (length old) → rest ≡ drop k samples →
    Holds (buffer (shared_by ++ map Some rest) 3200) (λ i. or_else (get_or old i None) (cover (place + 2 ^ 31) samples i))
laid_holds old reached_to shared_by place samples rest k l few within reached is = record {
  count =
      let whole : length (shared_by ++ map Some rest) ≡ length shared_by + length (map Some rest) = length-append shared_by (map Some rest) in
      let mapped : length (map Some rest) ≡ length rest = length-map rest Some in
      let left : length rest ≡ length samples - k = ap length is ∙ length-drop k samples in
      omega (arith, whole, mapped, left, l.long, l.shares, reached, few, within);
  capacity = refl;
  at = λ i. ap (λ (xs : List ℤ). get_or (shared_by ++ map Some xs) i None) is ∙ laid_whole old reached_to shared_by place samples k l i;
}

pub new_most : (p : ℕ → Option ℤ) (offset n k : ℕ) (samples first : List ℤ) → n ≡ new_of p offset (length first) → first ≡ take k samples →
    k ≤ length samples → n ≤ k
new_most p offset n k samples first new is within =
    let few = new_few p offset (length first) in
    let long : length first ≡ k = ap length is ∙ length-take-le k samples within in
    omega (arith, new, few, long)

pub new_laid : (old reached_to shared_by : List (Option ℤ)) (place : ℕ) (samples first : List ℤ) (k n : ℕ) → Laying old reached_to shared_by place samples k →
    n ≡ new_of (λ i. get_or reached_to i None) (place + 2 ^ 31) (length first) → first ≡ take k samples →
    n + (length samples - k) ≡ new_of (λ i. get_or old i None) (place + 2 ^ 31) (length samples)
new_laid old reached_to shared_by place samples first k n l new is =
    let long : length first ≡ k = ap length is ∙ length-take-le k samples (omega (arith, l.shares)) in
    let there = ap (λ (m : ℕ). new_of (λ i. get_or reached_to i None) (place + 2 ^ 31) m) long in
    ap (λ (m : ℕ). m + (length samples - k)) (new ∙ there) ∙ sym (new_whole old reached_to shared_by place samples k l)

pub lay_places : {ring : Buffer (Option ℤ)} (old : List (Option ℤ)) (offset early place : ℕ) (samples rest : List ℤ) → early ≡ 2 ^ 31 - offset →
    place ≡ offset - 2 ^ 31 → rest ≡ drop early samples → Holds ring (λ i. or_else (get_or old i None) (cover (place + 2 ^ 31) rest i)) →
    Holds ring (λ i. or_else (get_or old i None) (cover offset samples i))
lay_places old offset early place samples rest early_is place_is is holds =
    holds_same (λ i. or_else (get_or old i None) (cover offset samples i)) holds
    (λ i. ap (λ (o : Option ℤ). or_else (get_or old i None) o)
    (ap (λ (xs : List ℤ). cover (place + 2 ^ 31) xs i) is ∙ cover_ahead offset early place samples i early_is place_is))

pub lay_new : (p : ℕ → Option ℤ) (offset early place : ℕ) (samples rest : List ℤ) → early ≡ 2 ^ 31 - offset → place ≡ offset - 2 ^ 31 →
    rest ≡ drop early samples → early ≤ length samples → new_of p (place + 2 ^ 31) (length rest) ≡ new_of p offset (length samples)
lay_new p offset early place samples rest early_is place_is is within =
    let long : length rest ≡ length samples - early = ap length is ∙ length-drop early samples in
    sym (new_ahead p offset early place (length rest) (length samples) early_is place_is (omega (arith, long, within)))

-- ---- places appended

-- empty places up to a number
pub record Reaching (old : List (Option ℤ)) (ring : Buffer (Option ℤ)) (count n : ℕ) : Type 0 where
  pub long : length ring.items ≡ n
  pub capacity : ring.capacity ≡ 3200
  pub least : length old ≤ n
  pub most : n ≤ max count (length old)
  pub same : (i : ℕ) → get_or ring.items i None ≡ get_or old i None

push_none : (xs : List (Option ℤ)) (i : ℕ) → get_or (xs ++ None ∷ []) i None ≡ get_or xs i None
push_none [] zero = refl
push_none [] (suc i) = refl
push_none (x ∷ xs) zero = refl
push_none (x ∷ xs) (suc i) = push_none xs i

pub reaching_more : (old : List (Option ℤ)) (ring : Buffer (Option ℤ)) (count n : ℕ) → Reaching old ring count n → n < count → count ≤ 3200 →
    Reaching old (buffer (keep_last ring.capacity (ring.items ++ None ∷ [])) ring.capacity) count (n + 1)
reaching_more old ring count n before below room =
    let long : length (ring.items ++ None ∷ []) ≡ n + 1 = length-append ring.items (None ∷ []) ∙ omega (arith, before.long) in
    let all : length (ring.items ++ None ∷ []) - ring.capacity ≡ 0 = omega (arith, long, before.capacity) in
    rw all (record {
      long = long;
      capacity = before.capacity;
      least = omega (arith, before.least);
      most = omega (arith, before.most);
      same = λ i. push_none ring.items i ∙ before.same i;
    })

-- samples, a frame at a time
pub appended_more : (old : List (Option ℤ)) (samples : List ℤ) (from end : ℕ) → from ≤ end →
    (old ++ map Some (take from samples)) ++ map Some (between from end samples) ≡ old ++ map Some (take end samples)
appended_more old samples from end order =
    append_assoc old (map Some (take from samples)) (map Some (between from end samples))
    ∙ ap (λ (xs : List (Option ℤ)). old ++ xs) (sym (map-append Some (take from samples) (between from end samples)) ∙ ap (map Some) (seam samples from end order))
  where
    seam : (xs : List ℤ) (from end : ℕ) → from ≤ end → take from xs ++ between from end xs ≡ take end xs
    seam xs from end order =
        rw (between_is xs from end) (ap (λ (ys : List ℤ). ys ++ drop from (take end xs)) (sym (take-take from end xs order)) ∙ take-append-drop from (take end xs))

pub appended_frame : (old : List (Option ℤ)) (samples : List ℤ) (k end : ℕ) → 160 * k < length samples → end ≡ min (length samples) (160 * k + 160) →
    (old ++ map Some (take (160 * k) samples)) ++ map Some (between (160 * k) end samples) ≡ old ++ map Some (take (160 * (k + 1)) samples)
appended_frame old samples k end within is =
    appended_more old samples (160 * k) end (omega (arith, is))
    ∙ ap (λ (xs : List ℤ). old ++ map Some xs) (elim (cases_lt (length samples) (160 * k + 160)) [
      | inl short ↦ take_all end samples (omega (arith, is)) ∙ sym (take_all (160 * (k + 1)) samples (omega arith))
      | inr long ↦ ap (λ (n : ℕ). take n samples) (omega (arith, is))
    ])

-- samples written over empty places
pub written_all : (places : List (Option ℤ)) (samples : List ℤ) → length samples ≤ length places →
    ((k : ℕ) → k < length samples → get_or places k None ≡ slice_get samples k) → take (length samples) places ≡ map Some samples
written_all places samples within each =
    ext_get_or None (take (length samples) places) (map Some samples)
    (length-take-le (length samples) places within ∙ sym (length-map samples Some))
    (λ i below. let here : i < length samples = omega (arith, below, length-take-le (length samples) places within) in
    get_or-take (length samples) places i None here ∙ each i here ∙ sym (get_or-map-Some samples i))

pub framed : (ring : Buffer (Option ℤ)) (places first : List (Option ℤ)) (samples : List ℤ) (n : ℕ) → first ≡ take (length samples) places →
    length places ≡ 160 → length samples ≤ 160 → ((k : ℕ) → k < length samples → get_or places k None ≡ slice_get samples k) →
    n ≡ min (length first) (ring.capacity - length ring.items) → length ring.items + length samples ≤ 3200 → ring.capacity ≡ 3200 →
    buffer (ring.items ++ take n first) ring.capacity ≡ buffer (ring.items ++ map Some samples) 3200
framed ring places first samples n is long few each count room capacity =
    let written : first ≡ map Some samples = is ∙ written_all places samples (omega (arith, long, few)) each in
    let size : length first ≡ length samples = ap length written ∙ length-map samples Some in
    let all : take n first ≡ first = take_all n first (omega (arith, count, size, room, capacity)) in
    ap (λ (xs : List (Option ℤ)). buffer (ring.items ++ xs) ring.capacity) (all ∙ written)
    ∙ ap (λ (m : ℕ). buffer (ring.items ++ map Some samples) m) capacity
