-- The records of a session are lawful ones, and few.
use Rattle.std.proofs.Common.{◌≡◌, ℕ, zero, suc, ◌+◌, ◌*◌, ◌++◌, ◌∷◌, [], List, Bool, true, false, cond, map, filter, arith, length, ◌<◌, ◌≤◌, length-append, if◌then◌else◌}
use Rattle.std.specs.Prelude.{replicate, ◌%◌, ◌==◌}
use Rattle.std.specs.List.{range_with_len, flat_map, AllByRecursion}
use Rattle.std.proofs.lemmas.List.{length-replicate}
use Rattle.std.proofs.lemmas.List.FromFn.{length-map-range_with_len}
use Rattle.rtp_dump.specs.declared.item.DumpItem.{DumpItem}
use Rattle.rtp_dump.specs.Spelling.{Fits}
use Rattle.demo_gen.specs.declared.turns.Turn.{Turn}
use Rattle.demo_gen.specs.Members.{talks, member_count}
use Rattle.demo_gen.specs.Turns.{turn, turns_in, turns_before, tick_count, copies}
use Rattle.demo_gen.specs.Draws.{draw, draws}
use Rattle.demo_gen.specs.Capture.{item, items_from, items}

module _ {X : Type 0} (P : X → Type 0) where
  all_append : (xs ys : List X) → AllByRecursion P xs → AllByRecursion P ys → AllByRecursion P (xs ++ ys)
  all_append [] ys a b = b
  all_append (x ∷ xs) ys a b = (a.0, all_append xs ys a.1 b)

  all_replicate : (n : ℕ) (x : X) → P x → AllByRecursion P (replicate n x)
  all_replicate zero x p = tt
  all_replicate (suc n) x p = (p, all_replicate n x p)

  all_filter : (test : X → Bool) (xs : List X) → AllByRecursion P xs → AllByRecursion P (filter test xs)
  all_filter test [] all = tt
  all_filter test (x ∷ xs) all =
      elim (test x) as (λ b. AllByRecursion P (cond b (x ∷ filter test xs) (filter test xs))) [
        | true ↦ (all.0, all_filter test xs all.1)
        | false ↦ all_filter test xs all.1
      ]

few_filter : {X : Type 0} (test : X → Bool) (xs : List X) → length (filter test xs) ≤ length xs
few_filter test [] = omega arith
few_filter test (x ∷ xs) =
    let rest : length (filter test xs) ≤ length xs = few_filter test xs in
    elim (test x) as (λ b. length (cond b (x ∷ filter test xs) (filter test xs)) ≤ suc (length xs)) [
      | true ↦ omega arith
      | false ↦ omega arith
    ]

-- a turn of a tick before this one
abbrev pub IsBefore : ℕ → Turn → Type 0
IsBefore ticks t = t.tick < ticks

turns_of_tick : (ticks tick : ℕ) (members : List ℕ) → tick < ticks → AllByRecursion (IsBefore ticks) (map (turn tick) members)
turns_of_tick ticks tick [] early = tt
turns_of_tick ticks tick (m ∷ members) early = (early, turns_of_tick ticks tick members early)

turns_in-before : (ticks n tick : ℕ) → tick < ticks → AllByRecursion (IsBefore ticks) (turns_in n tick)
unfolding turns_in
turns_in-before ticks n tick early =
    all_filter (IsBefore ticks) (λ (t : Turn). talks t.tick t.member) (map (turn tick) (range_with_len 1 n))
    (turns_of_tick ticks tick (range_with_len 1 n) early)

turns_in-few : (n tick : ℕ) → length (turns_in n tick) ≤ n
unfolding turns_in
turns_in-few n tick =
    omega (arith, few_filter (λ (t : Turn). talks t.tick t.member) (map (turn tick) (range_with_len 1 n)), length-map-range_with_len (turn tick) 1 n)

turns_from-before : (ticks a n : ℕ) → a + n ≤ ticks → AllByRecursion (IsBefore ticks) (flat_map (turns_in member_count) (range_with_len a n))
turns_from-before ticks a zero within = tt
turns_from-before ticks a (suc n) within =
    all_append (IsBefore ticks) (turns_in member_count a) (flat_map (turns_in member_count) (range_with_len (a + 1) n))
    (turns_in-before ticks member_count a (omega arith)) (turns_from-before ticks (a + 1) n (omega arith))

turns_from-few : (a n : ℕ) → length (flat_map (turns_in member_count) (range_with_len a n)) ≤ 12 * n
turns_from-few a zero = omega arith
turns_from-few a (suc n) =
    omega (arith, length-append (turns_in member_count a) (flat_map (turns_in member_count) (range_with_len (a + 1) n)), turns_in-few member_count a, turns_from-few (a + 1) n)

pub turns_before-before : (n : ℕ) → AllByRecursion (IsBefore n) (turns_before n)
unfolding turns_before
turns_before-before n = turns_from-before n 0 n (omega arith)

pub turns_before-few : (n : ℕ) → length (turns_before n) ≤ 12 * n
unfolding turns_before
turns_before-few n = turns_from-few 0 n

length-draws : (x place count : ℕ) → length (draws x place count) ≡ count
unfolding draws
length-draws x place count = length-map-range_with_len (draw x) place count

item-fits : (t : Turn) (speech : List ℕ) → length speech ≡ 160 → t.tick < 1500 → Fits (item t speech)
item-fits t speech long early = record { plen = omega arith; offset = omega arith; octets = omega arith }

one_or_two : (b : Bool) → (if b then 2 else 1) ≤ 2
one_or_two true = omega arith
one_or_two false = omega arith

items_from-fit : (x place : ℕ) (turns : List Turn) → AllByRecursion (IsBefore 1500) turns → AllByRecursion Fits (items_from x place turns)
items_from-fit x place [] early = tt
items_from-fit x place (t ∷ turns) early =
    let one : DumpItem = item t (draws x (160 * place) 160) in
    all_append Fits (replicate (copies t) one) (items_from x (place + 1) turns)
    (all_replicate Fits (copies t) one (item-fits t _ (length-draws x (160 * place) 160) early.0))
    (items_from-fit x (place + 1) turns early.1)

items_from-few : (x place : ℕ) (turns : List Turn) → length (items_from x place turns) ≤ 2 * length turns
items_from-few x place [] = omega arith
items_from-few x place (t ∷ turns) =
    let one : DumpItem = item t (draws x (160 * place) 160) in
    omega (
      arith,
      length-append (replicate (copies t) one) (items_from x (place + 1) turns),
      length-replicate (copies t) one,
      one_or_two (t.tick % 50 == 7),
      items_from-few x (place + 1) turns,
    )

pub items-fit : (number : ℕ) → AllByRecursion Fits (items number)
items-fit number = items_from-fit number 0 (turns_before tick_count) (turns_before-before tick_count)

pub items-few : (number : ℕ) → length (items number) ≤ 268435456
items-few number =
    omega (arith, items_from-few number 0 (turns_before tick_count), turns_before-few tick_count)
