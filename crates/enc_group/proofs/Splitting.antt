-- The steps of a split: its beginning, one part more, and its end.
use Rattle.std.proofs.Common.{◌≡◌, ◌≢◌, ◌⊎◌, ℕ, ◌+◌, ◌-◌, ◌<◌, ◌≤◌, ◌||◌, ◌&&◌, ◌==◌, not, Bool, true, false, cond, if◌then◌else◌, List, [], ◌∷◌}
use Rattle.std.proofs.Common.{◌++◌, map, filter, find, length, Option, Some, None, IfSome, is_some, refl, sym, ap, subst, ◌∙◌, inl, inr, arith, length-append, append_assoc}
use Rattle.std.specs.Prelude.{slice_get}
use Rattle.std.specs.List.{list_any, AllByRecursion}
use Rattle.std.proofs.lemmas.Bool.{false≢true, eqb-true, eqb-false, eq-eqb, ne_eqb, and_parts, or_parts}
use Rattle.std.proofs.lemmas.List.{length-map, map-append, append-nil}
use Rattle.g726_bits.specs.declared.Frame.{Frame}
use Rattle.talk_mix.specs.Voices.{Voice}
use Rattle.talk_mix.specs.Mix.{mix}
use Rattle.enc_group.specs.declared.Seat.{Seat}
use Rattle.enc_group.specs.Part.{Part}
use Rattle.enc_group.specs.Groups.{Grouping, group_at, group_in, members, sits, Sets}
use Rattle.enc_group.specs.Mixes.{is_same, heard, mixes_at, each_once, part_of, divided, parted, has_key, KeysDiffer}
use Rattle.enc_group.proofs.Passing.{bool-cases, or-left, or-right, or-rest, all-of, all-mono, all-push, any-some, any-map}
use Rattle.enc_group.proofs.People.{goes, parted-yes, parted-no, first-stays, apart}
use Rattle.enc_group.proofs.Mixing.{same-is, same-refl, same-turned, differ-turned, filter-yes, filter-no, each_once-filter, isnt, few-parts}
use Rattle.enc_group.proofs.Dividing.{Dividing, has_mix, left_of, apart_from, left-now, seat-divided, map-map, mixes-yes, mixes-no}

not-true : (b : Bool) → not b ≡ true → b ≡ false
not-true true e = sym e
not-true false e = refl

not-false : (b : Bool) → not b ≡ false → b ≡ true
not-false true e = refl
not-false false e = sym e

-- what a search finds is what a filter keeps first
find-first : {X : Type 0} (p : X → Bool) (xs : List X) (f : X) → find p xs ≡ Some f → (r : List X) × (filter p xs ≡ f ∷ r)
find-first p [] f e = cc
find-first p (x ∷ xs) f e =
    elim (bool-cases (p x)) [
      | inl t ↦
          (let same : x ≡ f = let q = sym (ap (λ (b : Bool). cond b (Some x) (find p xs)) t) ∙ e in cc in
          (filter p xs, filter-yes p x xs t ∙ ap (λ z. z ∷ filter p xs) same))
      | inr n ↦
          (let later = find-first p xs f (sym (ap (λ (b : Bool). cond b (Some x) (find p xs)) n) ∙ e) in
          (later.0, filter-no p x xs n ∙ later.1))
    ]

find-passes : {X : Type 0} (p : X → Bool) (xs : List X) (f : X) → find p xs ≡ Some f → p f ≡ true
find-passes p [] f e = cc
find-passes p (x ∷ xs) f e =
    elim (bool-cases (p x)) [
      | inl t ↦
          (let same : x ≡ f = let q = sym (ap (λ (b : Bool). cond b (Some x) (find p xs)) t) ∙ e in cc in
          ap p (sym same) ∙ t)
      | inr n ↦ find-passes p xs f (sym (ap (λ (b : Bool). cond b (Some x) (find p xs)) n) ∙ e)
    ]

find-none : {X : Type 0} (p : X → Bool) (xs : List X) → find p xs ≡ None → filter p xs ≡ []
find-none p [] e = refl
find-none p (x ∷ xs) e =
    elim (bool-cases (p x)) [
      | inl t ↦ let q = sym (ap (λ (b : Bool). cond b (Some x) (find p xs)) t) ∙ e in cc
      | inr n ↦ filter-no p x xs n ∙ find-none p xs (sym (ap (λ (b : Bool). cond b (Some x) (find p xs)) n) ∙ e)
    ]

first-passes : {X : Type 0} (p : X → Bool) (xs : List X) (f : X) (r : List X) → filter p xs ≡ f ∷ r → p f ≡ true
first-passes p [] f r e = cc
first-passes p (x ∷ xs) f r e =
    elim (bool-cases (p x)) [
      | inl t ↦
          (let same : x ≡ f = let q = sym (filter-yes p x xs t) ∙ e in cc in
          ap p (sym same) ∙ t)
      | inr n ↦ first-passes p xs f r (sym (filter-no p x xs n) ∙ e)
    ]

-- whoever is found hears it
pub find-goes : (p : Frame → Bool) (key : ℕ) (tick : List Voice) (f : Frame) (seats : List Seat) → find p (mixes_at key tick seats) ≡ Some f → list_any (goes key f tick) seats ≡ true
find-goes p key tick f [] e = cc
find-goes p key tick f (s ∷ ss) e =
    let m : Frame = heard tick s in
    let rest = list_any (goes key f tick) ss in
    elim (bool-cases (sits key s)) [
      | inl t ↦
          (let e' = sym (ap (find p) (mixes-yes key tick s ss t)) ∙ e in
          elim (bool-cases (p m)) [
            | inl y ↦
                (let same : m ≡ f = let q = sym (ap (λ (b : Bool). cond b (Some m) (find p (mixes_at key tick ss))) y) ∙ e' in cc in
                or-left (goes key f tick s) rest (ap (λ (b : Bool). b && is_same m f) t ∙ ap (is_same m) (sym same) ∙ same-refl m))
            | inr n ↦ or-right (goes key f tick s) rest (find-goes p key tick f ss (sym (ap (λ (b : Bool). cond b (Some m) (find p (mixes_at key tick ss))) n) ∙ e'))
          ])
      | inr n ↦ or-right (goes key f tick s) rest (find-goes p key tick f ss (sym (ap (find p) (mixes-no key tick s ss n)) ∙ e))
    ]

has_mix-more : (parts : List Part) (p : Part) (g : Frame) → has_mix parts g ≡ false → has_mix (parts ++ p ∷ []) g ≡ is_same p.1 g
has_mix-more [] p g e = turn (is_same p.1 g)
  where
    turn : (b : Bool) → (b || false) ≡ b
    turn true = refl
    turn false = refl
has_mix-more (q ∷ qs) p g e =
    let both = or_parts (is_same q.1 g) (has_mix qs g) e in
    ap (λ (b : Bool). b || has_mix (qs ++ p ∷ []) g) both.0 ∙ has_mix-more qs p g both.1

has_mix-still : (parts : List Part) (p : Part) (g : Frame) → has_mix parts g ≡ true → has_mix (parts ++ p ∷ []) g ≡ true
has_mix-still [] p g e = absurd (false≢true e)
has_mix-still (q ∷ qs) p g e =
    elim (bool-cases (is_same q.1 g)) [
      | inl t ↦ or-left (is_same q.1 g) (has_mix (qs ++ p ∷ []) g) t
      | inr n ↦ or-right (is_same q.1 g) (has_mix (qs ++ p ∷ []) g) (has_mix-still qs p g (or-rest (is_same q.1 g) (has_mix qs g) n e))
    ]

-- with one part more, fewer are left
left-more : (parts : List Part) (p : Part) (gs : List Frame) → left_of (parts ++ p ∷ []) gs ≡ filter (isnt p.1) (left_of parts gs)
left-more parts p [] = refl
left-more parts p (g ∷ gs) =
    let later = left-more parts p gs in
    let new : Frame → Bool = λ f. not (has_mix (parts ++ p ∷ []) f) in
    let old : Frame → Bool = λ f. not (has_mix parts f) in
    elim (bool-cases (has_mix parts g)) [
      | inl t ↦ filter-no new g gs (ap not (has_mix-still parts p g t)) ∙ later ∙ sym (ap (filter (isnt p.1)) (filter-no old g gs (ap not t)))
      | inr n ↦
          (let side = ap (filter (isnt p.1)) (filter-yes old g gs (ap not n)) in
          elim (bool-cases (is_same p.1 g)) [
            | inl y ↦ filter-no new g gs (ap not (has_mix-more parts p g n ∙ y)) ∙ later ∙ sym (side ∙ filter-no (isnt p.1) g (left_of parts gs) (ap not y))
            | inr z ↦ filter-yes new g gs (ap not (has_mix-more parts p g n ∙ z)) ∙ ap (λ q. g ∷ q) later ∙ sym (side ∙ filter-yes (isnt p.1) g (left_of parts gs) (ap not z))
          ])
    ]

left-all : (gs : List Frame) → left_of [] gs ≡ gs
left-all [] = refl
left-all (g ∷ gs) = ap (λ z. g ∷ z) (left-all gs)

-- one part more takes the first frame that is left
once-more : (parts : List Part) (into : ℕ) (f : Frame) (all r : List Frame) → left_of parts all ≡ f ∷ r → each_once all ≡ map (λ (p : Part). p.1) parts ++ each_once (left_of parts all)
    → each_once all ≡ map (λ (p : Part). p.1) (parts ++ (into, f) ∷ []) ++ each_once (left_of (parts ++ (into, f) ∷ []) all)
once-more parts into f all r first mixes =
    let p : Part = (into, f) in
    let tail = each_once (filter (isnt f) r) in
    let here : each_once (left_of parts all) ≡ f ∷ tail = ap each_once first ∙ ap (λ z. f ∷ z) (sym (each_once-filter (isnt f) r)) in
    let left : left_of (parts ++ p ∷ []) all ≡ filter (isnt f) r = left-more parts p all ∙ ap (filter (isnt f)) first ∙ filter-no (isnt f) f r (ap not (same-refl f)) in
    let names = map-append (λ (p : Part). p.1) parts (p ∷ []) in
    mixes ∙ ap (λ z. map (λ (p : Part). p.1) parts ++ z) here
    ∙ sym (append_assoc (map (λ (p : Part). p.1) parts) (f ∷ []) tail)
    ∙ ap (λ z. z ++ tail) (sym names)
    ∙ ap (λ z. map (λ (p : Part). p.1) (parts ++ p ∷ []) ++ each_once z) (sym left)

key-none : (into : ℕ) (parts : List Part) → AllByRecursion (λ p. p.0 ≢ into) parts → has_key parts into ≡ false
key-none into [] a = refl
key-none into (p ∷ ps) a = ap (λ (b : Bool). cond b true (has_key ps into)) (ne_eqb p.0 into a.0) ∙ key-none into ps a.1

key-parts : (p : Part) (ps : List Part) (k : ℕ) → has_key (p ∷ ps) k ≡ false → (p.0 ≢ k) × (has_key ps k ≡ false)
key-parts p ps k e =
    elim (bool-cases (p.0 == k)) [
      | inl t ↦ absurd (false≢true (sym e ∙ ap (λ (b : Bool). cond b true (has_key ps k)) t))
      | inr n ↦ (eqb-false p.0 k n, sym (ap (λ (b : Bool). cond b true (has_key ps k)) n) ∙ e)
    ]

key-step : (p : Part) (ps : List Part) (k : ℕ) → p.0 ≢ k → has_key ps k ≡ false → has_key (p ∷ ps) k ≡ false
key-step p ps k ne e = ap (λ (b : Bool). cond b true (has_key ps k)) (ne_eqb p.0 k ne) ∙ e

key-push : (ps : List Part) (p : Part) (k : ℕ) → has_key ps k ≡ false → p.0 ≢ k → has_key (ps ++ p ∷ []) k ≡ false
key-push [] p k e ne = key-step p [] k ne refl
key-push (q ∷ qs) p k e ne = let both = key-parts q qs k e in key-step q (qs ++ p ∷ []) k both.0 (key-push qs p k both.1 ne)

key-split : (ps : List Part) (p : Part) (k : ℕ) → has_key (ps ++ p ∷ []) k ≡ false → (has_key ps k ≡ false) × (p.0 ≢ k)
key-split [] p k e = (refl, (key-parts p [] k e).0)
key-split (q ∷ qs) p k e =
    let both = key-parts q (qs ++ p ∷ []) k e in
    let later = key-split qs p k both.1 in
    (key-step q qs k both.0 later.0, later.1)

differ-push : (ps : List Part) (p : Part) → KeysDiffer ps → has_key ps p.0 ≡ false → KeysDiffer (ps ++ p ∷ [])
differ-push [] p d e = (refl, tt)
differ-push (q ∷ qs) p d e =
    let both = key-parts q qs p.0 e in
    (key-push qs p q.0 d.0 (λ x. both.0 (sym x)), differ-push qs p d.1 both.1)

module _ (old now : Grouping) (key : ℕ) (tick : List Voice) (first : Frame) (parts : List Part) (d : Dividing old now key tick first parts) where
  -- those at the key who don't hear the first mix hear the mix of no part
  left-is : apart_from first (mixes_at key tick now.seats) ≡ left_of parts (mixes_at key tick old.seats)
  left-is =
      let differ = subst KeysDiffer d.begins d.differ in
      ap (λ z. apart_from first (mixes_at key tick z)) d.seats
      ∙ ap (λ ps. apart_from first (mixes_at key tick (map (divided key tick ps) old.seats))) d.begins
      ∙ left-now key tick first d.rest differ.0 old.seats
      ∙ ap (λ ps. left_of ps (mixes_at key tick old.seats)) (sym d.begins)

  -- there is room for one part more
  pub split-room : (f : Frame) → find (λ g. not (is_same g first)) (mixes_at key tick now.seats) ≡ Some f → length parts < length tick + 1
  split-room f found =
      let head = find-first (λ g. not (is_same g first)) (mixes_at key tick now.seats) f found in
      let some = ap length (ap each_once (sym left-is ∙ head.1)) in
      let all = ap length d.mixes in
      let a = length-append (map (λ (p : Part). p.1) parts) (each_once (left_of parts (mixes_at key tick old.seats))) in
      let b = length-map parts (λ (p : Part). p.1) in
      let few = few-parts key tick old.seats in
      omega (arith, some, all, a, b, few)

  pub split-apart : (f : Frame) → find (λ g. not (is_same g first)) (mixes_at key tick now.seats) ≡ Some f → is_same first f ≡ false
  split-apart f found = differ-turned f first (not-true (is_same f first) (find-passes (λ g. not (is_same g first)) (mixes_at key tick now.seats) f found))

  pub split-there : group_at now key ≡ group_at old key
  split-there = (subst (AllByRecursion (λ (p : Part). group_at now p.0 ≡ group_at old key)) d.begins d.copies).0

  -- one part more
  pub split-more : (new : Grouping) (into : ℕ) (f : Frame) → is_some (group_at old key) ≡ true → find (λ g. not (is_same g first)) (mixes_at key tick now.seats) ≡ Some f
      → group_at now into ≡ None → Sets now.groups new.groups into (group_at now key) → new.seats ≡ map (parted key into f tick) now.seats → new.spare ≡ now.spare
      → Dividing old new key tick first (parts ++ (into, f) ∷ [])
  split-more new into f there found fresh sets seats spare =
      let p : Part = (into, f) in
      let head = find-first (λ g. not (is_same g first)) (mixes_at key tick now.seats) f found in
      let left : left_of parts (mixes_at key tick old.seats) ≡ f ∷ head.0 = sym left-is ∙ head.1 in
      let none : has_mix parts f ≡ false = not-true (has_mix parts f) (first-passes (λ g. not (has_mix parts g)) (mixes_at key tick old.seats) f head.0 left) in
      let other : AllByRecursion (λ (q : Part). q.0 ≢ into) parts =
      all-mono (λ (q : Part). group_at now q.0 ≡ group_at old key) (λ (q : Part). q.0 ≢ into) (λ q e. apart now.groups into q.0 fresh (ap is_some e ∙ there)) parts d.copies in
      let free : has_key parts into ≡ false = key-none into parts other in
      record {
        rest = d.rest ++ p ∷ [];
        begins = ap (λ z. z ++ p ∷ []) d.begins;
        seats = seats ∙ ap (map (parted key into f tick)) d.seats
            ∙ map-map (parted key into f tick) (divided key tick parts) (divided key tick (parts ++ p ∷ [])) (seat-divided key into f tick parts none) old.seats;
        mixes = once-more parts into f (mixes_at key tick old.seats) head.0 left d.mixes;
        stays = subst (λ z. list_any (goes key first tick) z ≡ true) (sym seats)
            (any-map (goes key first tick) (parted key into f tick) now.seats
            ∙ any-some (goes key first tick) (λ s. goes key first tick (parted key into f tick s)) now.seats
            (all-of (λ (s : Seat). goes key first tick s ≡ true → goes key first tick (parted key into f tick s) ≡ true)
            (λ s t. ap (goes key first tick) (parted-no key into f tick s (first-stays key first f tick (split-apart f found) s t)) ∙ t) now.seats) d.stays);
        differ = differ-push parts p d.differ free;
        copies = all-push (λ (q : Part). group_at new q.0 ≡ group_at old key) parts p
            (all-mono (λ (q : Part). group_at now q.0 ≡ group_at old key) (λ (q : Part). group_at new q.0 ≡ group_at old key)
            (λ q e. sets.others q.0 (apart now.groups into q.0 fresh (ap is_some e ∙ there)) ∙ e) parts d.copies)
            (sets.here ∙ split-there);
        fresh = all-push (λ (q : Part). q.0 ≢ key → group_at old q.0 ≡ None) parts p d.fresh (λ ne. sym (d.others into free) ∙ fresh);
        others = λ k e. let both = key-split parts p k e in sets.others k (λ x. both.1 (sym x)) ∙ d.others k both.0;
        spare = spare ∙ d.spare;
      }

  -- nobody is left
  pub split-end : find (λ g. not (is_same g first)) (mixes_at key tick now.seats) ≡ None → map (λ (p : Part). p.1) parts ≡ each_once (mixes_at key tick old.seats)
  split-end none =
      let nobody = sym left-is ∙ find-none (λ g. not (is_same g first)) (mixes_at key tick now.seats) none in
      sym (d.mixes ∙ ap (λ z. map (λ (p : Part). p.1) parts ++ each_once z) nobody ∙ append-nil (map (λ (p : Part). p.1) parts))

  pub split-keeps : IfSome (slice_get parts 0) (λ p. p.0 ≡ key)
  split-keeps = subst (λ ps. IfSome (slice_get ps 0) (λ (p : Part). p.0 ≡ key)) (sym d.begins) refl

-- at the beginning all are in the first one's part
first-heard : (l : ℕ) (tick : List Voice) (ss : List Seat) → slice_get (map (λ (s : Seat). s.listener) ss) 0 ≡ Some l → (r : List Frame) × (map (heard tick) ss ≡ mix l tick ∷ r)
first-heard l tick [] e = cc
first-heard l tick (s ∷ ss) e =
    let same : s.listener ≡ l = cc in
    (map (heard tick) ss, ap (λ z. mix z tick ∷ map (heard tick) ss) same)

undivided : (key : ℕ) (tick : List Voice) (first : Frame) (s : Seat) → divided key tick ((key, first) ∷ []) s ≡ s
undivided key tick first s =
    let R : Seat = record { listener = s.listener; key = part_of key (heard tick s) ((key, first) ∷ []) } in
    elim (bool-cases (sits key s)) [
      | inl t ↦
          (let e : part_of key (heard tick s) ((key, first) ∷ []) ≡ s.key = own (is_same first (heard tick s)) ∙ sym (eqb-true s.key key t) in
          ap (λ (b : Bool). cond b R s) t ∙ λ i. record { listener = s.listener; key = e i })
      | inr n ↦ ap (λ (b : Bool). cond b R s) n
    ]
  where
    own : (b : Bool) → cond b key key ≡ key
    own true = refl
    own false = refl

map-same : (f : Seat → Seat) → ((s : Seat) → f s ≡ s) → (seats : List Seat) → map f seats ≡ seats
map-same f e [] = refl
map-same f e (s ∷ ss) =
    let here = e s in
    let later = map-same f e ss in
    cc

pub split-begins : (old : Grouping) (key : ℕ) (tick : List Voice) (l : ℕ) → slice_get (members old key) 0 ≡ Some l → Dividing old old key tick (mix l tick) ((key, mix l tick) ∷ [])
split-begins old key tick l e =
    let first : Frame = mix l tick in
    let all = mixes_at key tick old.seats in
    let head = first-heard l tick (filter (sits key) old.seats) e in
    let found : find (λ g. is_same g first) all ≡ Some first =
    ap (find (λ g. is_same g first)) head.1 ∙ ap (λ (b : Bool). cond b (Some first) (find (λ g. is_same g first) head.0)) (same-refl first) in
    record {
      rest = [];
      begins = refl;
      seats = sym (map-same (divided key tick ((key, first) ∷ [])) (undivided key tick first) old.seats);
      mixes = once-more [] key first all head.0 (left-all all ∙ head.1) (ap each_once (sym (left-all all)));
      stays = find-goes (λ g. is_same g first) key tick first old.seats found;
      differ = (refl, tt);
      copies = (refl, tt);
      fresh = ((λ ne. absurd (ne refl)), tt);
      others = λ other e. refl;
      spare = refl;
    }
