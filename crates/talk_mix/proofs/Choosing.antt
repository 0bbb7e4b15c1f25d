-- The chosen are the first three of the loud voices, the foremost first.
use Rattle.std.proofs.Common.{◌≡◌, ◌≢◌, ◌<◌, ◌≤◌, ◌+◌, ◌&&◌, ◌||◌, ◌==◌, ℕ, suc, Bool, true, false, not, nat_lt, nat_le, cond, refl, sym, ◌∙◌, ap, arith, List, [], ◌∷◌, ◌++◌, take, length, get_or, inl, inr}
use Rattle.std.specs.Prelude.{filter}
use Rattle.std.proofs.lemmas.Bool.{cases_Bool}
use Rattle.std.proofs.lemmas.Bool.Decides.{nat_tests}
use Rattle.std.proofs.lemmas.List.Elements.{filter-append}
use Rattle.std.proofs.Common.{append-nil, length-take, subst}
use Rattle.std.proofs.Math.Seq.{take-length}
use Rattle.std.proofs.lemmas.List.{get_or-take, get_or_default}
use Rattle.std.proofs.lemmas.Grind.{take_at_read}
use Rattle.talk_mix.specs.Voices.{Voice, IsNew, EachNew, MembersDiffer}
use Rattle.talk_mix.specs.Choice.{loudness, is_ahead, is_loud, put_by, sorted_by, is_lower, chosen}
use Rattle.talk_mix.proofs.Ranking.{IsOrder, Agree, before, before-cons, sorted-snoc, filter-sorted, count-sorted, in_order-sorted, filter-agree, first_ones, take-put, differ-filter, differ-take, differ-sorted, new-filter}

-- ---- the two orders

order_lower : IsOrder is_lower
order_lower = record { goes_on = λ a b c p q. grind (arith, nat_tests, p, q); just_one = λ a b other. grind (arith, nat_tests, other) }

-- a loudness and a number ahead of others
abbrev pub goes_first : ℕ → ℕ → ℕ → ℕ → Bool
goes_first loud number other_loud other_number = nat_lt other_loud loud || loud == other_loud && nat_lt number other_number

first_goes_on : (k a l b m c : ℕ) → goes_first k a l b ≡ true → goes_first l b m c ≡ true → goes_first k a m c ≡ true
first_goes_on k a l b m c p q = grind (arith, nat_tests)

first_just_one : (k a l b : ℕ) → a ≢ b → goes_first k a l b ≡ not (goes_first l b k a)
first_just_one k a l b other = grind (arith, nat_tests)

first_never : (k a : ℕ) → goes_first k a k a ≡ false
first_never k a = grind (arith, nat_tests)

order_ahead : IsOrder is_ahead
order_ahead = record {
  goes_on = λ a b c p q. first_goes_on (loudness a.1) a.0 (loudness b.1) b.0 (loudness c.1) c.0 p q;
  just_one = λ a b other. first_just_one (loudness a.1) a.0 (loudness b.1) b.0 other;
}

never_ahead : (v : Voice) → is_ahead v v ≡ false
never_ahead v = first_never (loudness v.1) v.0

-- ---- only loud voices count

quiet_behind : (w v : Voice) → is_loud w ≡ false → is_loud v ≡ true → is_ahead w v ≡ false
quiet_behind w v quiet loud = quieter (loudness w.1) w.0 (loudness v.1) v.0 quiet loud
  where
    quieter : (k a l b : ℕ) → nat_le 1600 k ≡ false → nat_le 1600 l ≡ true → goes_first k a l b ≡ false
    quieter k a l b quiet loud = grind (arith, nat_tests)

before-loud : (v : Voice) (vs : List Voice) → is_loud v ≡ true → before is_ahead vs v ≡ before is_ahead (filter is_loud vs) v
before-loud v [] loud = refl
before-loud v (w ∷ ws) loud =
    elim (cases_Bool (is_loud w)) [
      | inl also ↦ rw also (before-cons is_ahead w v ws _ refl ∙ ap (λ (k : ℕ). cond (is_ahead w v) 1 0 + k) (before-loud v ws loud) ∙ sym (before-cons is_ahead w v (filter is_loud ws) _ refl))
      | inr quiet ↦ rw quiet (omega (arith, before-cons is_ahead w v ws false (quiet_behind w v quiet loud), before-loud v ws loud))
    ]

filter-and : (p q : Voice → Bool) (vs : List Voice) → filter (λ v. p v && q v) vs ≡ filter q (filter p vs)
filter-and p q [] = refl
filter-and p q (v ∷ vs) =
    elim (p v) as (λ b. cond (b && q v) (v ∷ filter (λ w. p w && q w) vs) (filter (λ w. p w && q w) vs) ≡ filter q (cond b (v ∷ filter p vs) (filter p vs))) [
      | true ↦ rw (filter-and p q vs) refl
      | false ↦ filter-and p q vs
    ]

agree_loud : (voices vs : List Voice) → Agree (λ v. nat_lt (before is_ahead voices v) 3) (λ v. nat_lt (before is_ahead (filter is_loud voices) v) 3) (filter is_loud vs)
agree_loud voices [] = tt
agree_loud voices (v ∷ vs) =
    elim (cases_Bool (is_loud v)) [
      | inl loud ↦ rw loud (ap (λ (k : ℕ). nat_lt k 3) (before-loud v voices loud), agree_loud voices vs)
      | inr quiet ↦ rw quiet (agree_loud voices vs)
    ]

-- ---- what the scan finds

-- the first three of the loud voices
abbrev pub front : List Voice → List Voice
front voices = take 3 (sorted_by is_ahead (filter is_loud voices))

agree_sorted : (vs ws : List Voice) → Agree (λ v. nat_lt (before is_ahead vs v) 3) (λ v. nat_lt (before is_ahead (sorted_by is_ahead vs) v) 3) ws
agree_sorted vs [] = tt
agree_sorted vs (w ∷ ws) =
    (ap (λ (k : ℕ). nat_lt k 3) (sym (count-sorted is_ahead (λ u. is_ahead u w) vs)), agree_sorted vs ws)

first_three : (vs : List Voice) → EachNew vs → filter (λ v. nat_lt (before is_ahead vs v) 3) (sorted_by is_ahead vs) ≡ take 3 (sorted_by is_ahead vs)
first_three vs d =
    filter-agree _ _ (sorted_by is_ahead vs) (agree_sorted vs (sorted_by is_ahead vs))
    ∙ first_ones is_ahead 3 (sorted_by is_ahead vs) order_ahead never_ahead (differ-sorted is_ahead vs d) (in_order-sorted is_ahead vs order_ahead d)

chosen_is : (voices : List Voice) → EachNew voices → chosen voices ≡ sorted_by is_lower (front voices)
unfolding chosen
chosen_is voices d =
    let differ : EachNew (filter is_loud voices) = differ-filter is_loud voices d in
    ap (sorted_by is_lower) (filter-and is_loud (λ v. nat_lt (before is_ahead voices v) 3) voices ∙ filter-agree _ _ (filter is_loud voices) (agree_loud voices voices))
    ∙ sym (filter-sorted is_lower is_ahead (λ v. nat_lt (before is_ahead (filter is_loud voices) v) 3) (filter is_loud voices) order_lower differ)
    ∙ ap (sorted_by is_lower) (first_three (filter is_loud voices) differ)

front_differs : (voices : List Voice) → EachNew voices → EachNew (front voices)
front_differs voices d = differ-take 3 _ (differ-sorted is_ahead _ (differ-filter is_loud voices d))

filter-push_passed : (p : Voice → Bool) (v : Voice) (vs : List Voice) → p v ≡ true → filter p (vs ++ v ∷ []) ≡ filter p vs ++ v ∷ []
filter-push_passed p v vs passed = filter-append p vs (v ∷ []) ∙ rw passed refl

filter-push_failed : (p : Voice → Bool) (v : Voice) (vs : List Voice) → p v ≡ false → filter p (vs ++ v ∷ []) ≡ filter p vs
filter-push_failed p v vs failed = filter-append p vs (v ∷ []) ∙ rw failed (append-nil (filter p vs))

-- ---- a step of the scan over a list in which members differ

new_from_pairs : (v : Voice) (vs : List Voice) → ((j : ℕ) (d : Voice) → j < length vs → v.0 ≢ (get_or vs j d).0) → IsNew v vs
new_from_pairs v [] apart = tt
new_from_pairs v (w ∷ ws) apart = (apart 0 w (omega arith), new_from_pairs v ws (λ j d within. apart (suc j) d (omega arith)))

each_new : (vs : List Voice) → MembersDiffer vs → EachNew vs
each_new [] apart = tt
each_new (v ∷ vs) apart =
    (new_from_pairs v vs (λ j d within. apart 0 (suc j) d (omega arith) (omega arith)), each_new vs (λ i j d before within. apart (suc i) (suc j) d (omega arith) (omega arith)))

take_next : (vs : List Voice) (i : ℕ) (v : Voice) → i < length vs → v ≡ get_or vs i v → take i vs ++ v ∷ [] ≡ take (i + 1) vs
take_next vs i v within here = ap (λ (w : Voice). take i vs ++ w ∷ []) here ∙ sym ((take_at_read vs i v within).1)

new_at : (vs : List Voice) (i : ℕ) (v : Voice) → MembersDiffer vs → i < length vs → v ≡ get_or vs i v → IsNew v (take i vs)
new_at vs i v apart within here =
    new_from_pairs v (take i vs) (λ j d earlier same.
    let below : j < i = omega (arith, length-take {A = Voice}) in
    let there : v ≡ get_or vs i d = here ∙ get_or_default vs i v d within in
    apart j i d below within (ap (λ (w : Voice). w.0) (sym (get_or-take i vs j d below)) ∙ sym same ∙ ap (λ (w : Voice). w.0) there))

-- the scan has come to a voice: the front before it and after it
pub front_more_loud : (vs : List Voice) (i : ℕ) (v : Voice) → MembersDiffer vs → i < length vs → v ≡ get_or vs i v → is_loud v ≡ true → take 3 (put_by is_ahead v (front (take i vs))) ≡ front (take (i + 1) vs)
front_more_loud vs i v apart within here loud =
    take-put is_ahead 3 v (sorted_by is_ahead (filter is_loud (take i vs)))
    ∙ ap (take 3) (sym (sorted-snoc is_ahead v (filter is_loud (take i vs)) order_ahead (new-filter is_loud v (take i vs) (new_at vs i v apart within here))))
    ∙ ap (λ (ws : List Voice). take 3 (sorted_by is_ahead ws)) (sym (filter-push_passed is_loud v (take i vs) loud))
    ∙ ap front (take_next vs i v within here)

pub front_more_quiet : (vs : List Voice) (i : ℕ) (v : Voice) → i < length vs → v ≡ get_or vs i v → is_loud v ≡ false → front (take i vs) ≡ front (take (i + 1) vs)
front_more_quiet vs i v within here quiet =
    ap (λ (ws : List Voice). take 3 (sorted_by is_ahead ws)) (sym (filter-push_failed is_loud v (take i vs) quiet))
    ∙ ap front (take_next vs i v within here)

pub loud_from : (v : Voice) (n : ℕ) → n ≡ loudness v.1 → 1600 ≤ n → is_loud v ≡ true
loud_from v n is enough = test (loudness v.1) (omega arith)
  where
    test : (k : ℕ) → 1600 ≤ k → nat_le 1600 k ≡ true
    test k enough = grind (arith, nat_tests)

pub quiet_from : (v : Voice) (n : ℕ) → n ≡ loudness v.1 → n < 1600 → is_loud v ≡ false
quiet_from v n is few = test (loudness v.1) (omega arith)
  where
    test : (k : ℕ) → k < 1600 → nat_le 1600 k ≡ false
    test k few = grind (arith, nat_tests)

pub chosen_at_end : (vs : List Voice) (i : ℕ) (found : List Voice) → MembersDiffer vs → length vs ≤ i → i ≤ length vs → found ≡ front (take i vs) → sorted_by is_lower found ≡ chosen vs
chosen_at_end vs i found apart all within is =
    let end : i ≡ length vs = omega arith in
    ap (sorted_by is_lower) (is ∙ ap (λ (k : ℕ). front (take k vs)) end ∙ ap front (take-length vs)) ∙ sym (chosen_is vs (each_new vs apart))

pub found_differ : (vs : List Voice) (i : ℕ) (found : List Voice) → MembersDiffer vs → found ≡ front (take i vs) → EachNew found
found_differ vs i found apart is = subst EachNew (sym is) (front_differs (take i vs) (differ-take i vs (each_new vs apart)))
