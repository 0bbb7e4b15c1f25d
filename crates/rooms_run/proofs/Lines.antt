-- The lines of rooms, written one after the other.
use Rattle.std.proofs.Common.{◌≡◌, ℕ, zero, suc, ◌+◌, ◌<◌, ◌≤◌, List, [], ◌∷◌, ◌++◌, length, take, drop, map, get_or, Option, Some, None, append-nil, append_assoc, refl, sym, ap, ◌∙◌, subst, arith}
use Rattle.std.proofs.lemmas.List.{take_more, length-map, map-append, length-take-le, take-append-drop}
use Rattle.edge_io.specs.Told.{Grows, GrowsByFront}
use Rattle.rtp_dump.proofs.Written.{front_then_front, front_of_first}
use Rattle.rooms_run.specs.declared.closing.Outcome.{Outcome}
use Rattle.rooms_run.specs.declared.ends.RoomEnd.{RoomEnd}
use Rattle.rooms_run.specs.Texts.{room_line, rooms_text}

pub grows-then : (old mid new : Option (List ℕ)) (p q : List ℕ) → Grows old mid p → Grows mid new q → Grows old new (p ++ q)
grows-then None mid new p q first second = subst (λ (m : Option (List ℕ)). Grows m new q) first second
grows-then (Some held) mid new p q first second =
    let is : new ≡ Some ((held ++ p) ++ q) = subst (λ (m : Option (List ℕ)). Grows m new q) first second in
    is ∙ ap Some (append_assoc held p q)

text-append : (n : ℕ) (xs ys : List RoomEnd) → rooms_text n (xs ++ ys) ≡ rooms_text n xs ++ rooms_text (n + length xs) ys
text-append n [] ys = (let same : n ≡ n + 0 = omega arith in ap (λ (k : ℕ). rooms_text k ys) same)
text-append n (x ∷ xs) ys =
    let same : n + 1 + length xs ≡ n + suc (length xs) = omega arith in
    ap (λ (t : List ℕ). room_line n x ++ t) (text-append (n + 1) xs ys ∙ ap (λ (k : ℕ). rooms_text (n + 1) xs ++ rooms_text k ys) same)
    ∙ sym (append_assoc (room_line n x) (rooms_text (n + 1) xs) (rooms_text (n + suc (length xs)) ys))

-- the ends of these outcomes
abbrev pub ends_of : List Outcome → List RoomEnd
ends_of os = map (λ o. o.end) os

-- the lines of the first rooms, one more
text-more : (os : List Outcome) (i : ℕ) (o : Outcome) → i < length os → get_or os i o ≡ o
    → rooms_text 1 (ends_of (take (i + 1) os)) ≡ rooms_text 1 (ends_of (take i os)) ++ room_line (i + 1) o.end
text-more os i o within is =
    let taken : take (i + 1) os ≡ take i os ++ o ∷ [] = take_more os i o within ∙ ap (λ (p : Outcome). take i os ++ p ∷ []) is in
    let long : length (ends_of (take i os)) ≡ i = length-map (take i os) (λ (p : Outcome). p.end) ∙ length-take-le i os (omega arith) in
    let place : 1 + length (ends_of (take i os)) ≡ i + 1 = omega arith in
    ap (λ (ps : List Outcome). rooms_text 1 (ends_of ps)) taken
    ∙ ap (rooms_text 1) (map-append (λ (p : Outcome). p.end) (take i os) (o ∷ []))
    ∙ text-append 1 (ends_of (take i os)) (o.end ∷ [])
    ∙ ap (λ (t : List ℕ). rooms_text 1 (ends_of (take i os)) ++ t) (append-nil (room_line (1 + length (ends_of (take i os))) o.end))
    ∙ ap (λ (k : ℕ). rooms_text 1 (ends_of (take i os)) ++ room_line k o.end) place

pub told-more : (old mid new : Option (List ℕ)) (os : List Outcome) (i : ℕ) (o : Outcome) → i < length os → get_or os i o ≡ o
    → Grows old mid (rooms_text 1 (ends_of (take i os))) → Grows mid new (room_line (i + 1) o.end) → Grows old new (rooms_text 1 (ends_of (take (i + 1) os)))
told-more old mid new os i o within is before line =
    subst (λ (t : List ℕ). Grows old new t) (sym (text-more os i o within is)) (grows-then old mid new (rooms_text 1 (ends_of (take i os))) (room_line (i + 1) o.end) before line)

-- the lines of the first rooms, and those of the others
text-parts : (os : List Outcome) (i : ℕ) → rooms_text 1 (ends_of os) ≡ rooms_text 1 (ends_of (take i os)) ++ rooms_text (1 + length (ends_of (take i os))) (ends_of (drop i os))
text-parts os i =
    ap (λ (ps : List Outcome). rooms_text 1 (ends_of ps)) (sym (take-append-drop i os))
    ∙ ap (rooms_text 1) (map-append (λ (p : Outcome). p.end) (take i os) (drop i os))
    ∙ text-append 1 (ends_of (take i os)) (ends_of (drop i os))

pub told-front : (old mid new : Option (List ℕ)) (os : List Outcome) (i : ℕ) (o : Outcome) → i < length os → get_or os i o ≡ o
    → Grows old mid (rooms_text 1 (ends_of (take i os))) → GrowsByFront mid new (room_line (i + 1) o.end) → GrowsByFront old new (rooms_text 1 (ends_of os))
told-front old mid new os i o within is before line =
    let here : GrowsByFront old new (rooms_text 1 (ends_of (take (i + 1) os))) =
    subst (λ (t : List ℕ). GrowsByFront old new t) (sym (text-more os i o within is))
    (front_then_front old mid new (rooms_text 1 (ends_of (take i os))) (room_line (i + 1) o.end) before line) in
    subst (λ (t : List ℕ). GrowsByFront old new t) (sym (text-parts os (i + 1)))
    (front_of_first old new (rooms_text 1 (ends_of (take (i + 1) os))) (rooms_text (1 + length (ends_of (take (i + 1) os))) (ends_of (drop (i + 1) os))) here)

-- a line of two parts
pub parts-whole : (old mid new : Option (List ℕ)) (p q r : List ℕ) → p ++ q ≡ r → Grows old mid p → Grows mid new q → Grows old new r
parts-whole old mid new p q r is first second = subst (λ (t : List ℕ). Grows old new t) is (grows-then old mid new p q first second)

pub parts-front : (old mid new : Option (List ℕ)) (p q r : List ℕ) → p ++ q ≡ r → Grows old mid p → GrowsByFront mid new q → GrowsByFront old new r
parts-front old mid new p q r is first second = subst (λ (t : List ℕ). GrowsByFront old new t) is (front_then_front old mid new p q first second)

pub parts-first : (old new : Option (List ℕ)) (p q r : List ℕ) → p ++ q ≡ r → GrowsByFront old new p → GrowsByFront old new r
parts-first old new p q r is first = subst (λ (t : List ℕ). GrowsByFront old new t) is (front_of_first old new p q first)
