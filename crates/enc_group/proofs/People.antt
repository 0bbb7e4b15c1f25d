-- Each call keeps the groups and the seats together.
use Rattle.std.proofs.Common.{◌≡◌, ◌≢◌, ◌⊎◌, ℕ, ◌+◌, ◌<◌, ◌≤◌, ◌||◌, ◌&&◌, ◌==◌, not, Bool, true, false, cond, if◌then◌else◌, List, [], ◌∷◌, ◌++◌}
use Rattle.std.proofs.Common.{map, filter, find, length, Option, Some, None, is_some, IfSome, IsSome, count_by, refl, sym, ap, subst, ◌∙◌, inl, inr, arith}
use Rattle.std.specs.List.{list_any, AllByRecursion}
use Rattle.std.proofs.lemmas.Bool.{false≢true, eqb-true, eqb-false, eq-eqb, ne_eqb, and_parts}
use Rattle.std.proofs.lemmas.Bool.Decides.{eqb_tells}
use Rattle.g726_bits.specs.declared.Frame.{Frame}
use Rattle.talk_mix.specs.Voices.{Voice}
use Rattle.conference_spec.proofs.Equal.{frame-decides}
use Rattle.enc_group.specs.declared.Group.{Group}
use Rattle.enc_group.specs.declared.Seat.{Seat}
use Rattle.enc_group.specs.Groups.{group_in, sits, is_of, key_in, without, moved, EachOnce, Sets}
use Rattle.enc_group.specs.Mixes.{is_same, heard, parted}
use Rattle.enc_group.specs.Inside.{ArePeopled}
use Rattle.enc_group.proofs.Passing.{bool-cases, or-left, or-right, or-rest, all-of, all-mono, all-both, all-map, all-push, all-filter, any-some}
use Rattle.enc_group.proofs.Passing.{any-kept, any-map, any-push, any-last, length-filter_less}
use Rattle.enc_group.proofs.Counts.{count-le_seats}

Slots : Type 0
Slots = List (Option Group)

pub none-is : {X : Type 0} (o : Option X) → is_some o ≡ false → o ≡ None
none-is None e = refl
none-is (Some x) e = absurd (false≢true (sym e))

-- a key that has nothing isn't one that has something
pub apart : (groups : List (Option Group)) (a b : ℕ) → group_in groups a ≡ None → is_some (group_in groups b) ≡ true → b ≢ a
apart groups a b none some e = false≢true (sym (ap is_some (ap (group_in groups) e ∙ none)) ∙ some)

-- the same keys have groups
pub people-same : (old new : List (Option Group)) (seats : List Seat) → ((key : ℕ) → is_some (group_in new key) ≡ is_some (group_in old key)) → ArePeopled old seats → ArePeopled new seats
people-same old new seats h p =
    record {
      seated = all-mono (λ (s : Seat). is_some (group_in old s.key) ≡ true) (λ (s : Seat). is_some (group_in new s.key) ≡ true) (λ s e. h s.key ∙ e) seats p.seated;
      peopled = λ key e. p.peopled key (sym (h key) ∙ e);
      once = p.once;
    }

pub people-put : (old new : List (Option Group)) (seats : List Seat) (key : ℕ) (g : Group) → Sets old new key (Some g) → is_some (group_in old key) ≡ true → ArePeopled old seats → ArePeopled new seats
people-put old new seats key g sets there p =
    people-same old new seats (λ k.
    elim (eqb_tells k key) [
      | inl q ↦ ap is_some (ap (group_in new) q.1 ∙ sets.here) ∙ sym (ap (λ z. is_some (group_in old z)) q.1 ∙ there)
      | inr q ↦ ap is_some (sets.others k q.1)
    ]) p

pub listeners-same : (f : Seat → Seat) → ((s : Seat) → (f s).listener ≡ s.listener) → (seats : List Seat) → map (λ s. s.listener) (map f seats) ≡ map (λ s. s.listener) seats
listeners-same f h [] = refl
listeners-same f h (s ∷ ss) =
    let first = h s in
    let later = listeners-same f h ss in
    cc

moved-yes : (from into : ℕ) (s : Seat) → sits from s ≡ true → moved from into s ≡ record { listener = s.listener; key = into }
moved-yes from into s t = let R : Seat = record { listener = s.listener; key = into } in ap (λ (b : Bool). cond b R s) t

moved-no : (from into : ℕ) (s : Seat) → sits from s ≡ false → moved from into s ≡ s
moved-no from into s f = let R : Seat = record { listener = s.listener; key = into } in ap (λ (b : Bool). cond b R s) f

-- a merge leaves the join order
pub order-moved : (from into : ℕ) (seats : List Seat) → map (λ s. s.listener) (map (moved from into) seats) ≡ map (λ s. s.listener) seats
order-moved from into seats =
    listeners-same (moved from into) (λ s.
    elim (bool-cases (sits from s)) [
      | inl t ↦ ap (λ (z : Seat). z.listener) (moved-yes from into s t)
      | inr f ↦ ap (λ (z : Seat). z.listener) (moved-no from into s f)
    ]) seats

-- two groups are made one
pub people-merged : (old new : List (Option Group)) (seats : List Seat) (from into : ℕ) → Sets old new from None → from ≢ into
    → is_some (group_in old into) ≡ true → ArePeopled old seats → ArePeopled new (map (moved from into) seats)
people-merged old new seats from into sets differ there p =
    record {
      seated = all-map (λ (s : Seat). is_some (group_in new s.key) ≡ true) (moved from into) seats
          (all-mono (λ (s : Seat). is_some (group_in old s.key) ≡ true) (λ (s : Seat). is_some (group_in new (moved from into s).key) ≡ true) seat seats p.seated);
      peopled = λ k e. any-map (sits k) (moved from into) seats
          ∙ any-some (sits k) (λ s. sits k (moved from into s)) seats (all-of (λ (s : Seat). sits k s ≡ true → sits k (moved from into s) ≡ true) (stays k (other k e)) seats)
          (p.peopled k (sym (ap is_some (sets.others k (other k e))) ∙ e));
      once = subst EachOnce (sym (listeners-same (moved from into) same-listener seats)) p.once;
    }
  where
    other : (k : ℕ) → is_some (group_in new k) ≡ true → k ≢ from
    other k e = apart new from k sets.here e

    seat : (s : Seat) → is_some (group_in old s.key) ≡ true → is_some (group_in new (moved from into s).key) ≡ true
    seat s e =
        elim (bool-cases (sits from s)) [
          | inl t ↦ ap (λ (z : Seat). is_some (group_in new z.key)) (moved-yes from into s t) ∙ ap is_some (sets.others into (λ q. differ (sym q))) ∙ there
          | inr f ↦ ap (λ (z : Seat). is_some (group_in new z.key)) (moved-no from into s f) ∙ ap is_some (sets.others s.key (eqb-false s.key from f)) ∙ e
        ]

    stays : (k : ℕ) → k ≢ from → (s : Seat) → sits k s ≡ true → sits k (moved from into s) ≡ true
    stays k ne s t =
        let f : sits from s ≡ false = ne_eqb s.key from (λ q. ne (sym (eqb-true s.key k t) ∙ q)) in
        ap (sits k) (moved-no from into s f) ∙ t

    same-listener : (s : Seat) → (moved from into s).listener ≡ s.listener
    same-listener s =
        elim (bool-cases (sits from s)) [
          | inl t ↦ ap (λ (z : Seat). z.listener) (moved-yes from into s t)
          | inr f ↦ ap (λ (z : Seat). z.listener) (moved-no from into s f)
        ]

abbrev pub goes : ℕ → Frame → List Voice → Seat → Bool
goes key f tick s = sits key s && is_same (heard tick s) f

pub parted-yes : (key into : ℕ) (f : Frame) (tick : List Voice) (s : Seat) → goes key f tick s ≡ true → parted key into f tick s ≡ record { listener = s.listener; key = into }
parted-yes key into f tick s t = let R : Seat = record { listener = s.listener; key = into } in ap (λ (b : Bool). cond b R s) t

pub parted-no : (key into : ℕ) (f : Frame) (tick : List Voice) (s : Seat) → goes key f tick s ≡ false → parted key into f tick s ≡ s
parted-no key into f tick s n = let R : Seat = record { listener = s.listener; key = into } in ap (λ (b : Bool). cond b R s) n

-- who hears the first mix doesn't hear the other one
pub first-stays : (key : ℕ) (first f : Frame) (tick : List Voice) → is_same first f ≡ false → (s : Seat) → goes key first tick s ≡ true → goes key f tick s ≡ false
first-stays key first f tick differ s t =
    elim (bool-cases (goes key f tick s)) [
      | inl y ↦
          (let a = (frame-decides (heard tick s) first).0 (and_parts (sits key s) (is_same (heard tick s) first) t).1 in
          let b = (frame-decides (heard tick s) f).0 (and_parts (sits key s) (is_same (heard tick s) f) y).1 in
          absurd (false≢true (sym differ ∙ (frame-decides first f).1 (sym a ∙ b))))
      | inr n ↦ n
    ]

-- who sits elsewhere stays
other-stays : (key : ℕ) (f : Frame) (tick : List Voice) (s : Seat) → sits key s ≡ false → goes key f tick s ≡ false
other-stays key f tick s n = ap (λ (b : Bool). b && is_same (heard tick s) f) n

elsewhere : (k key : ℕ) → k ≢ key → (s : Seat) → sits k s ≡ true → sits key s ≡ false
elsewhere k key ne s t = ne_eqb s.key key (λ q. ne (sym (eqb-true s.key k t) ∙ q))

module _ (old : List (Option Group)) (seats : List Seat) (key : ℕ) (first f : Frame) (tick : List Voice)
    (there : is_some (group_in old key) ≡ true) (stays : list_any (goes key first tick) seats ≡ true)
    (some : list_any (goes key f tick) seats ≡ true) (differ : is_same first f ≡ false) (p : ArePeopled old seats) where
  -- each group keeps one who doesn't go
  kept : (r : Seat → Bool) → ((s : Seat) → goes key f tick s ≡ false → r s ≡ true) → (k : ℕ) → is_some (group_in old k) ≡ true → list_any (sits k) (filter r seats) ≡ true
  kept r h k e =
      elim (eqb_tells k key) [
        | inl q ↦ any-kept (goes key first tick) r (sits k) seats
            (all-of (λ (s : Seat). goes key first tick s ≡ true → (r s ≡ true) × (sits k s ≡ true))
            (λ s t. (h s (first-stays key first f tick differ s t), ap (λ z. s.key == z) q.1 ∙ (and_parts (sits key s) (is_same (heard tick s) first) t).0)) seats) stays
        | inr q ↦ any-kept (sits k) r (sits k) seats
            (all-of (λ (s : Seat). sits k s ≡ true → (r s ≡ true) × (sits k s ≡ true))
            (λ s t. (h s (other-stays key f tick s (elsewhere k key q.1 s t)), t)) seats) (p.peopled k e)
      ]

  -- there is room for one more group
  pub room-for_part : count_by is_some old < length seats
  room-for_part =
      let few = count-le_seats (filter (λ s. not (goes key f tick s)) seats) old (kept (λ s. not (goes key f tick s)) (λ s n. ap not n)) in
      let less = length-filter_less (goes key f tick) seats some in
      omega arith

  -- a part becomes a group of its own
  pub people-parted : (new : List (Option Group)) (into : ℕ) (g : Group) → Sets old new into (Some g) → group_in old into ≡ None → ArePeopled new (map (parted key into f tick) seats)
  people-parted new into g sets fresh =
      record {
        seated = all-map (λ (s : Seat). is_some (group_in new s.key) ≡ true) (parted key into f tick) seats
            (all-mono (λ (s : Seat). is_some (group_in old s.key) ≡ true) (λ (s : Seat). is_some (group_in new (parted key into f tick s).key) ≡ true) seat seats p.seated);
        peopled = λ k e. any-map (sits k) (parted key into f tick) seats ∙ people k e;
        once = subst EachOnce (sym (listeners-same (parted key into f tick) same-listener seats)) p.once;
      }
    where
      seat : (s : Seat) → is_some (group_in old s.key) ≡ true → is_some (group_in new (parted key into f tick s).key) ≡ true
      seat s e =
          elim (bool-cases (goes key f tick s)) [
            | inl t ↦ ap (λ (z : Seat). is_some (group_in new z.key)) (parted-yes key into f tick s t) ∙ ap is_some sets.here
            | inr n ↦ ap (λ (z : Seat). is_some (group_in new z.key)) (parted-no key into f tick s n) ∙ ap is_some (sets.others s.key (apart old into s.key fresh e)) ∙ e
          ]

      stay : (k : ℕ) (s : Seat) → goes key f tick s ≡ false → sits k s ≡ true → sits k (parted key into f tick s) ≡ true
      stay k s n t = ap (sits k) (parted-no key into f tick s n) ∙ t

      people : (k : ℕ) → is_some (group_in new k) ≡ true → list_any (λ s. sits k (parted key into f tick s)) seats ≡ true
      people k e =
          elim (eqb_tells k into) [
            | inl q ↦ any-some (goes key f tick) (λ s. sits k (parted key into f tick s)) seats
                (all-of (λ (s : Seat). goes key f tick s ≡ true → sits k (parted key into f tick s) ≡ true)
                (λ s t. ap (sits k) (parted-yes key into f tick s t) ∙ eq-eqb into k (sym q.1)) seats) some
            | inr q ↦
                (let was : is_some (group_in old k) ≡ true = sym (ap is_some (sets.others k q.1)) ∙ e in
                elim (eqb_tells k key) [
                  | inl r ↦ any-some (goes key first tick) (λ s. sits k (parted key into f tick s)) seats
                      (all-of (λ (s : Seat). goes key first tick s ≡ true → sits k (parted key into f tick s) ≡ true)
                      (λ s t. stay k s (first-stays key first f tick differ s t) (ap (λ z. s.key == z) r.1 ∙ (and_parts (sits key s) (is_same (heard tick s) first) t).0)) seats) stays
                  | inr r ↦ any-some (sits k) (λ s. sits k (parted key into f tick s)) seats
                      (all-of (λ (s : Seat). sits k s ≡ true → sits k (parted key into f tick s) ≡ true)
                      (λ s t. stay k s (other-stays key f tick s (elsewhere k key r.1 s t)) t) seats) (p.peopled k was)
                ])
          ]

      same-listener : (s : Seat) → (parted key into f tick s).listener ≡ s.listener
      same-listener s =
          elim (bool-cases (goes key f tick s)) [
            | inl t ↦ ap (λ (z : Seat). z.listener) (parted-yes key into f tick s t)
            | inr n ↦ ap (λ (z : Seat). z.listener) (parted-no key into f tick s n)
          ]
