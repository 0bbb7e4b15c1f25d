-- A group is divided: a part is taken out of it, until all who are left hear what the first one hears.
use Rattle.std.proofs.Common.{◌≡◌, ◌≢◌, ◌⊎◌, ℕ, ◌+◌, ◌<◌, ◌≤◌, ◌||◌, ◌&&◌, ◌==◌, not, Bool, true, false, cond, if◌then◌else◌, List, [], ◌∷◌, ◌++◌}
use Rattle.std.proofs.Common.{map, filter, find, length, Option, Some, None, is_some, refl, sym, ap, subst, ◌∙◌, inl, inr, arith, length-append, append_assoc}
use Rattle.std.specs.List.{list_any, AllByRecursion}
use Rattle.std.proofs.lemmas.Bool.{false≢true, eqb-true, eqb-false, eq-eqb, ne_eqb, and_parts, or_parts}
use Rattle.std.proofs.lemmas.Bool.Decides.{eqb_tells}
use Rattle.std.proofs.lemmas.List.{length-map, map-append}
use Rattle.g726_bits.specs.declared.Frame.{Frame}
use Rattle.talk_mix.specs.Voices.{Voice}
use Rattle.enc_group.specs.declared.Group.{Group}
use Rattle.enc_group.specs.declared.Seat.{Seat}
use Rattle.enc_group.specs.Part.{Part}
use Rattle.enc_group.specs.Groups.{Grouping, group_at, group_in, sits, Sets}
use Rattle.enc_group.specs.Mixes.{is_same, heard, mixes_at, each_once, part_of, divided, parted, has_key, KeysDiffer}
use Rattle.enc_group.proofs.Passing.{bool-cases, or-left, or-right, or-rest, all-of, all-mono, all-push, any-some, any-map}
use Rattle.enc_group.proofs.People.{goes, parted-yes, parted-no, first-stays, listeners-same}
use Rattle.enc_group.proofs.Mixing.{same-is, same-refl, same-turned, differ-turned, filter-yes, filter-no, each_once-filter, isnt, few-parts}

-- the frame is the mix of a part
abbrev pub has_mix : List Part → Frame → Bool
has_mix parts f = list_any (λ p. is_same p.1 f) parts

-- the frames that are the mix of no part
abbrev pub left_of : List Part → List Frame → List Frame
left_of parts fs = filter (λ f. not (has_mix parts f)) fs

-- how far a group is divided
pub record Dividing (old now : Grouping) (key : ℕ) (tick : List Voice) (first : Frame) (parts : List Part) : Type 0 where
  pub rest : List Part
  pub begins : parts ≡ (key, first) ∷ rest
  pub seats : now.seats ≡ map (divided key tick parts) old.seats
  pub mixes : each_once (mixes_at key tick old.seats) ≡ map (λ p. p.1) parts ++ each_once (left_of parts (mixes_at key tick old.seats))
  pub stays : list_any (λ s. sits key s && is_same (heard tick s) first) now.seats ≡ true
  pub differ : KeysDiffer parts
  pub copies : AllByRecursion (λ p. group_at now p.0 ≡ group_at old key) parts
  pub fresh : AllByRecursion (λ p. p.0 ≢ key → group_at old p.0 ≡ None) parts
  pub others : (other : ℕ) → has_key parts other ≡ false → group_at now other ≡ group_at old other
  pub spare : now.spare ≡ old.spare

divided-yes : (key : ℕ) (tick : List Voice) (parts : List Part) (s : Seat) → sits key s ≡ true → divided key tick parts s ≡ record { listener = s.listener; key = part_of key (heard tick s) parts }
divided-yes key tick parts s t = let R : Seat = record { listener = s.listener; key = part_of key (heard tick s) parts } in ap (λ (b : Bool). cond b R s) t

divided-no : (key : ℕ) (tick : List Voice) (parts : List Part) (s : Seat) → sits key s ≡ false → divided key tick parts s ≡ s
divided-no key tick parts s f = let R : Seat = record { listener = s.listener; key = part_of key (heard tick s) parts } in ap (λ (b : Bool). cond b R s) f

-- a split leaves the join order
pub order-divided : (key : ℕ) (tick : List Voice) (parts : List Part) (seats : List Seat) → map (λ s. s.listener) (map (divided key tick parts) seats) ≡ map (λ s. s.listener) seats
order-divided key tick parts seats =
    listeners-same (divided key tick parts) (λ s.
    elim (bool-cases (sits key s)) [
      | inl t ↦ ap (λ (z : Seat). z.listener) (divided-yes key tick parts s t)
      | inr f ↦ ap (λ (z : Seat). z.listener) (divided-no key tick parts s f)
    ]) seats

-- the part of a mix that is there stays, and that of another mix comes with it
part-kept : (other : ℕ) (f : Frame) (parts : List Part) (p : Part) → has_mix parts f ≡ true → part_of other f (parts ++ p ∷ []) ≡ part_of other f parts
part-kept other f [] p e = absurd (false≢true e)
part-kept other f (q ∷ qs) p e =
    elim (bool-cases (is_same q.1 f)) [
      | inl t ↦ ap (λ (b : Bool). cond b q.0 (part_of other f (qs ++ p ∷ []))) t ∙ sym (ap (λ (b : Bool). cond b q.0 (part_of other f qs)) t)
      | inr n ↦ ap (λ z. cond (is_same q.1 f) q.0 z) (part-kept other f qs p (or-rest (is_same q.1 f) (has_mix qs f) n e))
    ]

part-none : (other : ℕ) (f : Frame) (parts : List Part) → has_mix parts f ≡ false → part_of other f parts ≡ other
part-none other f [] e = refl
part-none other f (q ∷ qs) e =
    let both = or_parts (is_same q.1 f) (has_mix qs f) e in
    ap (λ (b : Bool). cond b q.0 (part_of other f qs)) both.0 ∙ part-none other f qs both.1

part-last : (other : ℕ) (f : Frame) (parts : List Part) (p : Part) → has_mix parts f ≡ false → part_of other f (parts ++ p ∷ []) ≡ cond (is_same p.1 f) p.0 other
part-last other f [] p e = refl
part-last other f (q ∷ qs) p e =
    let both = or_parts (is_same q.1 f) (has_mix qs f) e in
    ap (λ (b : Bool). cond b q.0 (part_of other f (qs ++ p ∷ []))) both.0 ∙ part-last other f qs p both.1

-- a part of these has no other key than these
part-among : (key other : ℕ) (f : Frame) (parts : List Part) → has_key parts key ≡ false → has_mix parts f ≡ true → part_of other f parts ≢ key
part-among key other f [] k e = λ q. false≢true e
part-among key other f (p ∷ ps) k e =
    let here = p.0 == key in
    elim (bool-cases here) [
      | inl t ↦ absurd (false≢true (sym k ∙ ap (λ (b : Bool). cond b true (has_key ps key)) t))
      | inr n ↦
          (let k' = sym (ap (λ (b : Bool). cond b true (has_key ps key)) n) ∙ k in
          elim (bool-cases (is_same p.1 f)) [
            | inl y ↦ λ q. eqb-false p.0 key n (sym (ap (λ (b : Bool). cond b p.0 (part_of other f ps)) y) ∙ q)
            | inr z ↦ λ q. part-among key other f ps k' (or-rest (is_same p.1 f) (has_mix ps f) z e) (sym (ap (λ (b : Bool). cond b p.0 (part_of other f ps)) z) ∙ q)
          ])
    ]

not-both : (a b : Bool) → b ≡ false → (a && b) ≡ false
not-both true b e = e
not-both false b e = refl

both-pass : (a b : Bool) → a ≡ true → b ≡ true → (a && b) ≡ true
both-pass true b t e = e
both-pass false b t e = absurd (false≢true t)

-- taking one more part out divides each seat by one part more
pub seat-divided : (key into : ℕ) (f : Frame) (tick : List Voice) (parts : List Part) → has_mix parts f ≡ false → (s : Seat)
    → parted key into f tick (divided key tick parts s) ≡ divided key tick (parts ++ (into, f) ∷ []) s
seat-divided key into f tick parts new s =
    elim (bool-cases (sits key s)) [
      | inr n ↦
          ap (parted key into f tick) (divided-no key tick parts s n)
          ∙ parted-no key into f tick s (ap (λ (b : Bool). b && is_same (heard tick s) f) n)
          ∙ sym (divided-no key tick (parts ++ (into, f) ∷ []) s n)
      | inl t ↦
          ap (parted key into f tick) (divided-yes key tick parts s t)
          ∙ inside (bool-cases (has_mix parts (heard tick s)))
          ∙ sym (divided-yes key tick (parts ++ (into, f) ∷ []) s t)
    ]
  where
    inside : (has_mix parts (heard tick s) ≡ true) ⊎ (has_mix parts (heard tick s) ≡ false)
        → parted key into f tick (record { listener = s.listener; key = part_of key (heard tick s) parts })
        ≡ record { listener = s.listener; key = part_of key (heard tick s) (parts ++ (into, f) ∷ []) }
    inside (inl there) =
        let m : Frame = heard tick s in
        let at : ℕ → Seat = λ k. record { listener = s.listener; key = k } in
        let apart : is_same m f ≡ false = elim (bool-cases (is_same m f)) [
          | inl y ↦ absurd (false≢true (sym new ∙ ap (has_mix parts) (sym (same-is m f y)) ∙ there))
          | inr n ↦ n
        ] in
        parted-no key into f tick (at (part_of key m parts)) (not-both (sits key (at (part_of key m parts))) (is_same m f) apart)
        ∙ ap at (sym (part-kept key m parts (into, f) there))
    inside (inr none) =
        let m : Frame = heard tick s in
        let at : ℕ → Seat = λ k. record { listener = s.listener; key = k } in
        let own : part_of key m parts ≡ key = part-none key m parts none in
        let there : sits key (at (part_of key m parts)) ≡ true = eq-eqb (part_of key m parts) key own in
        elim (bool-cases (is_same m f)) [
          | inl y ↦
              parted-yes key into f tick (at (part_of key m parts)) (both-pass (sits key (at (part_of key m parts))) (is_same m f) there y)
              ∙ ap at (sym (part-last key m parts (into, f) none ∙ ap (λ (b : Bool). cond b into key) (same-turned m f y)))
          | inr n ↦
              parted-no key into f tick (at (part_of key m parts)) (not-both (sits key (at (part_of key m parts))) (is_same m f) n)
              ∙ ap at (own ∙ sym (part-last key m parts (into, f) none ∙ ap (λ (b : Bool). cond b into key) (differ-turned m f n)))
        ]

pub map-map : (f g h : Seat → Seat) → ((s : Seat) → f (g s) ≡ h s) → (seats : List Seat) → map f (map g seats) ≡ map h seats
map-map f g h e [] = refl
map-map f g h e (s ∷ ss) =
    let first = e s in
    let later = map-map f g h e ss in
    cc

pub mixes-yes : (key : ℕ) (tick : List Voice) (t : Seat) (ts : List Seat) → sits key t ≡ true → mixes_at key tick (t ∷ ts) ≡ heard tick t ∷ mixes_at key tick ts
mixes-yes key tick t ts e = ap (map (heard tick)) (filter-yes (sits key) t ts e)

pub mixes-no : (key : ℕ) (tick : List Voice) (t : Seat) (ts : List Seat) → sits key t ≡ false → mixes_at key tick (t ∷ ts) ≡ mixes_at key tick ts
mixes-no key tick t ts e = ap (map (heard tick)) (filter-no (sits key) t ts e)

-- the frames that aren't this one
abbrev pub apart_from : Frame → List Frame → List Frame
apart_from first fs = filter (λ f. not (is_same f first)) fs

-- the same at one seat more
left-seat : (key : ℕ) (tick : List Voice) (first : Frame) (rest : List Part) → has_key rest key ≡ false → (s : Seat) (ss new : List Seat)
    → apart_from first (mixes_at key tick new) ≡ left_of ((key, first) ∷ rest) (mixes_at key tick ss)
    → apart_from first (mixes_at key tick (divided key tick ((key, first) ∷ rest) s ∷ new)) ≡ left_of ((key, first) ∷ rest) (mixes_at key tick (s ∷ ss))
left-seat key tick first rest ne s ss new later = seat (bool-cases (sits key s))
  where
    inner : (is_same first (heard tick s) ≡ true) ⊎ (is_same first (heard tick s) ≡ false)
        → apart_from first (mixes_at key tick (record { listener = s.listener; key = part_of key (heard tick s) ((key, first) ∷ rest) } ∷ new))
        ≡ left_of ((key, first) ∷ rest) (heard tick s ∷ mixes_at key tick ss)
    inner (inl y) =
        let ps : List Part = (key, first) ∷ rest in
        let f : Frame = heard tick s in
        let to : Seat = record { listener = s.listener; key = part_of key f ps } in
        let own : part_of key f ps ≡ key = ap (λ (b : Bool). cond b key (part_of key f rest)) y in
        ap (apart_from first) (mixes-yes key tick to new (eq-eqb (part_of key f ps) key own))
        ∙ filter-no (λ g. not (is_same g first)) f (mixes_at key tick new) (ap not (same-turned first f y))
        ∙ later
        ∙ sym (filter-no (λ g. not (has_mix ps g)) f (mixes_at key tick ss) (ap not (or-left (is_same first f) (has_mix rest f) y)))
    inner (inr n) =
        let ps : List Part = (key, first) ∷ rest in
        let f : Frame = heard tick s in
        let to : Seat = record { listener = s.listener; key = part_of key f ps } in
        let step : part_of key f ps ≡ part_of key f rest = ap (λ (b : Bool). cond b key (part_of key f rest)) n in
        elim (bool-cases (has_mix rest f)) [
          | inl there ↦
              (let gone : sits key to ≡ false = ne_eqb (part_of key f ps) key (λ q. part-among key key f rest ne there (sym step ∙ q)) in
              ap (apart_from first) (mixes-no key tick to new gone)
              ∙ later
              ∙ sym (filter-no (λ g. not (has_mix ps g)) f (mixes_at key tick ss) (ap not (or-right (is_same first f) (has_mix rest f) there))))
          | inr none ↦
              (let own : part_of key f ps ≡ key = step ∙ part-none key f rest none in
              let out : has_mix ps f ≡ false = ap (λ (b : Bool). b || has_mix rest f) n ∙ none in
              ap (apart_from first) (mixes-yes key tick to new (eq-eqb (part_of key f ps) key own))
              ∙ filter-yes (λ g. not (is_same g first)) f (mixes_at key tick new) (ap not (differ-turned first f n))
              ∙ ap (λ z. f ∷ z) later
              ∙ sym (filter-yes (λ g. not (has_mix ps g)) f (mixes_at key tick ss) (ap not out)))
        ]

    seat : (sits key s ≡ true) ⊎ (sits key s ≡ false)
        → apart_from first (mixes_at key tick (divided key tick ((key, first) ∷ rest) s ∷ new)) ≡ left_of ((key, first) ∷ rest) (mixes_at key tick (s ∷ ss))
    seat (inl t) =
        let ps : List Part = (key, first) ∷ rest in
        ap (λ z. apart_from first (mixes_at key tick (z ∷ new))) (divided-yes key tick ps s t)
        ∙ inner (bool-cases (is_same first (heard tick s)))
        ∙ ap (left_of ps) (sym (mixes-yes key tick s ss t))
    seat (inr f) =
        let ps : List Part = (key, first) ∷ rest in
        ap (λ z. apart_from first (mixes_at key tick (z ∷ new))) (divided-no key tick ps s f)
        ∙ ap (apart_from first) (mixes-no key tick s new f)
        ∙ later
        ∙ ap (left_of ps) (sym (mixes-no key tick s ss f))

-- who is left at the key hears the mix of no part, or the first one's
pub left-now : (key : ℕ) (tick : List Voice) (first : Frame) (rest : List Part) → has_key rest key ≡ false → (seats : List Seat)
    → apart_from first (mixes_at key tick (map (divided key tick ((key, first) ∷ rest)) seats)) ≡ left_of ((key, first) ∷ rest) (mixes_at key tick seats)
left-now key tick first rest ne [] = refl
left-now key tick first rest ne (s ∷ ss) = left-seat key tick first rest ne s ss (map (divided key tick ((key, first) ∷ rest)) ss) (left-now key tick first rest ne ss)
