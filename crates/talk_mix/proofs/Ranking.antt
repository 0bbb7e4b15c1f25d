-- Voices put in order, and what a scan that keeps the first few of them finds.
use Rattle.std.proofs.Common.{◌≡◌, ◌≢◌, ◌+◌, ℕ, zero, suc, Bool, true, false, not, nat_lt, cond, refl, sym, ◌∙◌, ap, arith, List, [], ◌∷◌, ◌++◌, take, inl, inr}
use Rattle.std.specs.Prelude.{filter, count_by}
use Rattle.std.proofs.lemmas.Bool.{cases_Bool}
use Rattle.std.proofs.lemmas.Bool.Decides.{nat_tests}
use Rattle.std.proofs.lemmas.List.Sums.{sum_by-cons}
use Rattle.talk_mix.specs.Voices.{Voice, IsNew, EachNew}
use Rattle.talk_mix.specs.Choice.{put_by, sorted_by}

-- of two members' voices just one precedes the other
pub record IsOrder (lt : Voice → Voice → Bool) : Type 0 where
  pub goes_on : (a b c : Voice) → lt a b ≡ true → lt b c ≡ true → lt a c ≡ true
  pub just_one : (a b : Voice) → a.0 ≢ b.0 → lt a b ≡ not (lt b a)

opposite : (lt : Voice → Voice → Bool) (a b : Voice) (t : Bool) → IsOrder lt → a.0 ≢ b.0 → lt b a ≡ t → lt a b ≡ not t
opposite lt a b t order other is = order.just_one a b other ∙ ap not is

not_before : (lt : Voice → Voice → Bool) (a b c : Voice) → IsOrder lt → lt a b ≡ true → lt c b ≡ false → lt c a ≡ false
not_before lt a b c order above below =
    elim (cases_Bool (lt c a)) [
      | inl ahead ↦ let there : lt c b ≡ true = order.goes_on c a b ahead above in cc
      | inr behind ↦ behind
    ]

-- ---- the order in which voices are put is no matter

put-put : (lt : Voice → Voice → Bool) (a b : Voice) (ws : List Voice) → IsOrder lt → a.0 ≢ b.0 → put_by lt a (put_by lt b ws) ≡ put_by lt b (put_by lt a ws)
put-put lt a b [] order other =
    elim (cases_Bool (lt b a)) [
      | inl first ↦ let second : lt a b ≡ false = opposite lt a b true order other first in simp (first, second)
      | inr first ↦ let second : lt a b ≡ true = opposite lt a b false order other first in simp (first, second)
    ]
put-put lt a b (w ∷ ws) order other =
    let later : put_by lt a (put_by lt b ws) ≡ put_by lt b (put_by lt a ws) = put-put lt a b ws order other in
    elim (cases_Bool (lt a w)) [
      | inl a_w ↦ elim (cases_Bool (lt b w)) [
        | inl b_w ↦ elim (cases_Bool (lt b a)) [
          | inl b_a ↦ let a_b : lt a b ≡ false = opposite lt a b true order other b_a in simp (a_w, b_w, b_a, a_b)
          | inr b_a ↦ let a_b : lt a b ≡ true = opposite lt a b false order other b_a in simp (a_w, b_w, b_a, a_b)
        ]
        | inr b_w ↦ let b_a : lt b a ≡ false = not_before lt a w b order a_w b_w in simp (a_w, b_w, b_a)
      ]
      | inr a_w ↦ elim (cases_Bool (lt b w)) [
        | inl b_w ↦ let a_b : lt a b ≡ false = not_before lt b w a order b_w a_w in simp (a_w, b_w, a_b)
        | inr b_w ↦ simp (a_w, b_w, later)
      ]
    ]

pub sorted-snoc : (lt : Voice → Voice → Bool) (x : Voice) (vs : List Voice) → IsOrder lt → IsNew x vs → sorted_by lt (vs ++ x ∷ []) ≡ put_by lt x (sorted_by lt vs)
sorted-snoc lt x [] order new = refl
sorted-snoc lt x (v ∷ vs) order new =
    ap (put_by lt v) (sorted-snoc lt x vs order new.1) ∙ put-put lt v x (sorted_by lt vs) order (λ same. new.0 (sym same))

-- ---- new members stay new

new-put : (lt : Voice → Voice → Bool) (x v : Voice) (vs : List Voice) → x.0 ≢ v.0 → IsNew x vs → IsNew x (put_by lt v vs)
new-put lt x v [] other new = (other, tt)
new-put lt x v (w ∷ ws) other new =
    elim (lt v w) as (λ b. IsNew x (cond b (v ∷ w ∷ ws) (w ∷ put_by lt v ws))) [
      | true ↦ (other, new)
      | false ↦ (new.0, new-put lt x v ws other new.1)
    ]

new-sorted : (lt : Voice → Voice → Bool) (x : Voice) (vs : List Voice) → IsNew x vs → IsNew x (sorted_by lt vs)
new-sorted lt x [] new = tt
new-sorted lt x (v ∷ vs) new = new-put lt x v (sorted_by lt vs) new.0 (new-sorted lt x vs new.1)

pub new-filter : (p : Voice → Bool) (x : Voice) (vs : List Voice) → IsNew x vs → IsNew x (filter p vs)
new-filter p x [] new = tt
new-filter p x (v ∷ vs) new =
    elim (p v) as (λ b. IsNew x (cond b (v ∷ filter p vs) (filter p vs))) [
      | true ↦ (new.0, new-filter p x vs new.1)
      | false ↦ new-filter p x vs new.1
    ]

pub new-take : (n : ℕ) (x : Voice) (vs : List Voice) → IsNew x vs → IsNew x (take n vs)
new-take zero x vs new = tt
new-take (suc n) x [] new = tt
new-take (suc n) x (v ∷ vs) new = (new.0, new-take n x vs new.1)

pub differ-take : (n : ℕ) (vs : List Voice) → EachNew vs → EachNew (take n vs)
differ-take zero vs d = tt
differ-take (suc n) [] d = tt
differ-take (suc n) (v ∷ vs) d = (new-take n v vs d.0, differ-take n vs d.1)

differ-put : (lt : Voice → Voice → Bool) (x : Voice) (vs : List Voice) → IsNew x vs → EachNew vs → EachNew (put_by lt x vs)
differ-put lt x [] new d = (tt, tt)
differ-put lt x (v ∷ vs) new d =
    elim (lt x v) as (λ b. EachNew (cond b (x ∷ v ∷ vs) (v ∷ put_by lt x vs))) [
      | true ↦ (new, d)
      | false ↦ (new-put lt v x vs (λ same. new.0 (sym same)) d.0, differ-put lt x vs new.1 d.1)
    ]

pub differ-sorted : (lt : Voice → Voice → Bool) (vs : List Voice) → EachNew vs → EachNew (sorted_by lt vs)
differ-sorted lt [] d = tt
differ-sorted lt (v ∷ vs) d = differ-put lt v (sorted_by lt vs) (new-sorted lt v vs d.0) (differ-sorted lt vs d.1)

pub differ-filter : (p : Voice → Bool) (vs : List Voice) → EachNew vs → EachNew (filter p vs)
differ-filter p [] d = tt
differ-filter p (v ∷ vs) d =
    elim (p v) as (λ b. EachNew (cond b (v ∷ filter p vs) (filter p vs))) [
      | true ↦ (new-filter p v vs d.0, differ-filter p vs d.1)
      | false ↦ differ-filter p vs d.1
    ]

-- ---- a filter after a sort, brought into another order

keep : (Voice → Voice → Bool) → (Voice → Bool) → Voice → List Voice → List Voice
keep lt p v vs = cond (p v) (put_by lt v vs) vs

filter-cons : (lt : Voice → Voice → Bool) (p : Voice → Bool) (v : Voice) (vs : List Voice) → sorted_by lt (filter p (v ∷ vs)) ≡ keep lt p v (sorted_by lt (filter p vs))
unfolding keep
filter-cons lt p v vs =
    elim (p v) as (λ b. sorted_by lt (cond b (v ∷ filter p vs) (filter p vs)) ≡ cond b (put_by lt v (sorted_by lt (filter p vs))) (sorted_by lt (filter p vs))) [
      | true ↦ refl
      | false ↦ refl
    ]

keep-keep : (lt : Voice → Voice → Bool) (p : Voice → Bool) (x v : Voice) (vs : List Voice) → IsOrder lt → x.0 ≢ v.0 → keep lt p v (keep lt p x vs) ≡ keep lt p x (keep lt p v vs)
unfolding keep
keep-keep lt p x v vs order other =
    elim (p v) as (λ b. cond b (put_by lt v (cond (p x) (put_by lt x vs) vs)) (cond (p x) (put_by lt x vs) vs) ≡ cond (p x) (put_by lt x (cond b (put_by lt v vs) vs)) (cond b (put_by lt v vs) vs)) [
      | true ↦ elim (p x) as (λ b. put_by lt v (cond b (put_by lt x vs) vs) ≡ cond b (put_by lt x (put_by lt v vs)) (put_by lt v vs)) [
        | true ↦ put-put lt v x vs order (λ same. other (sym same))
        | false ↦ refl
      ]
      | false ↦ refl
    ]

filter-put : (lt first : Voice → Voice → Bool) (p : Voice → Bool) (x : Voice) (vs : List Voice) → IsOrder lt → IsNew x vs → sorted_by lt (filter p (put_by first x vs)) ≡ sorted_by lt (filter p (x ∷ vs))
filter-put lt first p x [] order new = refl
filter-put lt first p x (v ∷ vs) order new =
    elim (first x v) as (λ b. sorted_by lt (filter p (cond b (x ∷ v ∷ vs) (v ∷ put_by first x vs))) ≡ sorted_by lt (filter p (x ∷ v ∷ vs))) [
      | true ↦ refl
      | false ↦ filter-cons lt p v (put_by first x vs)
          ∙ ap (keep lt p v) (filter-put lt first p x vs order new.1 ∙ filter-cons lt p x vs)
          ∙ keep-keep lt p x v (sorted_by lt (filter p vs)) order new.0
          ∙ ap (keep lt p x) (sym (filter-cons lt p v vs))
          ∙ sym (filter-cons lt p x (v ∷ vs))
    ]

pub filter-sorted : (lt first : Voice → Voice → Bool) (p : Voice → Bool) (vs : List Voice) → IsOrder lt → EachNew vs → sorted_by lt (filter p (sorted_by first vs)) ≡ sorted_by lt (filter p vs)
filter-sorted lt first p [] order d = refl
filter-sorted lt first p (v ∷ vs) order d =
    filter-put lt first p v (sorted_by first vs) order (new-sorted first v vs d.0)
    ∙ filter-cons lt p v (sorted_by first vs)
    ∙ ap (keep lt p v) (filter-sorted lt first p vs order d.1)
    ∙ sym (filter-cons lt p v vs)

-- ---- a count after a sort

count-put : (lt : Voice → Voice → Bool) (q : Voice → Bool) (x : Voice) (vs : List Voice) → count_by q (put_by lt x vs) ≡ count_by q (x ∷ vs)
count-put lt q x [] = refl
count-put lt q x (v ∷ vs) =
    elim (lt x v) as (λ b. count_by q (cond b (x ∷ v ∷ vs) (v ∷ put_by lt x vs)) ≡ count_by q (x ∷ v ∷ vs)) [
      | true ↦ refl
      | false ↦
          let one : ℕ = cond (q x) 1 0 in
          omega (arith, count-put lt q x vs, sum_by-cons (λ w. cond (q w) 1 0) v (put_by lt x vs), sum_by-cons (λ w. cond (q w) 1 0) x vs, sum_by-cons (λ w. cond (q w) 1 0) x (v ∷ vs), sum_by-cons (λ w. cond (q w) 1 0) v vs)
    ]

pub count-sorted : (lt : Voice → Voice → Bool) (q : Voice → Bool) (vs : List Voice) → count_by q (sorted_by lt vs) ≡ count_by q vs
count-sorted lt q [] = refl
count-sorted lt q (v ∷ vs) =
    count-put lt q v (sorted_by lt vs)
    ∙ (let tail = count-sorted lt q vs in omega (arith, sum_by-cons (λ w. cond (q w) 1 0) v (sorted_by lt vs), sum_by-cons (λ w. cond (q w) 1 0) v vs))

-- ---- a sorted list: each voice precedes those after it

abbrev pub Precedes : (Voice → Voice → Bool) → Voice → List Voice → Type 0
Precedes lt v [] = Unit {0}
Precedes lt v (w ∷ ws) = (lt v w ≡ true) × Precedes lt v ws

abbrev pub IsInOrder : (Voice → Voice → Bool) → List Voice → Type 0
IsInOrder lt [] = Unit {0}
IsInOrder lt (v ∷ vs) = Precedes lt v vs × IsInOrder lt vs

precedes-put : (lt : Voice → Voice → Bool) (v x : Voice) (vs : List Voice) → lt v x ≡ true → Precedes lt v vs → Precedes lt v (put_by lt x vs)
precedes-put lt v x [] above p = (above, tt)
precedes-put lt v x (w ∷ ws) above p =
    elim (lt x w) as (λ b. Precedes lt v (cond b (x ∷ w ∷ ws) (w ∷ put_by lt x ws))) [
      | true ↦ (above, p)
      | false ↦ (p.0, precedes-put lt v x ws above p.1)
    ]

precedes_all : (lt : Voice → Voice → Bool) (x w : Voice) (ws : List Voice) → IsOrder lt → lt x w ≡ true → Precedes lt w ws → Precedes lt x ws
precedes_all lt x w [] order above p = tt
precedes_all lt x w (y ∷ ys) order above p = (order.goes_on x w y above p.0, precedes_all lt x w ys order above p.1)

in_order-put : (lt : Voice → Voice → Bool) (x : Voice) (vs : List Voice) → IsOrder lt → IsNew x vs → IsInOrder lt vs → IsInOrder lt (put_by lt x vs)
in_order-put lt x [] order new s = (tt, tt)
in_order-put lt x (w ∷ ws) order new s =
    elim (cases_Bool (lt x w)) [
      | inl above ↦ rw above ((above, precedes_all lt x w ws order above s.0), s)
      | inr below ↦
          let first : lt w x ≡ true = opposite lt w x false order (λ same. new.0 (sym same)) below in
          rw below (precedes-put lt w x ws first s.0, in_order-put lt x ws order new.1 s.1)
    ]

pub in_order-sorted : (lt : Voice → Voice → Bool) (vs : List Voice) → IsOrder lt → EachNew vs → IsInOrder lt (sorted_by lt vs)
in_order-sorted lt [] order d = tt
in_order-sorted lt (v ∷ vs) order d =
    in_order-put lt v (sorted_by lt vs) order (new-sorted lt v vs d.0) (in_order-sorted lt vs order d.1)

-- ---- the first n of a sorted list

-- the two tests agree on each voice
abbrev pub Agree : (Voice → Bool) → (Voice → Bool) → List Voice → Type 0
Agree p q [] = Unit {0}
Agree p q (v ∷ vs) = (p v ≡ q v) × Agree p q vs

pub filter-agree : (p q : Voice → Bool) (vs : List Voice) → Agree p q vs → filter p vs ≡ filter q vs
filter-agree p q [] same = refl
filter-agree p q (v ∷ vs) same = simp (same.0, filter-agree p q vs same.1)

-- how many of these precede the voice
abbrev pub before : (Voice → Voice → Bool) → List Voice → Voice → ℕ
before lt vs v = count_by (λ w. lt w v) vs

pub before-cons : (lt : Voice → Voice → Bool) (w v : Voice) (ws : List Voice) (b : Bool) → lt w v ≡ b → before lt (w ∷ ws) v ≡ cond b 1 0 + before lt ws v
before-cons lt w v ws b is = sum_by-cons (λ u. cond (lt u v) 1 0) w ws ∙ ap (λ (t : Bool). cond t 1 0 + before lt ws v) is

none_before : (lt : Voice → Voice → Bool) (v : Voice) (vs : List Voice) → IsOrder lt → IsNew v vs → Precedes lt v vs → before lt vs v ≡ 0
none_before lt v [] order new p = refl
none_before lt v (w ∷ ws) order new p =
    let behind : lt w v ≡ false = opposite lt w v true order (λ same. new.0 (sym same)) p.0 in
    omega (arith, before-cons lt w v ws false behind, none_before lt v ws order new.1 p.1)

lt_suc : (k n : ℕ) → nat_lt (1 + k) (suc n) ≡ nat_lt k n
lt_suc k n = grind (arith, nat_tests)

lt_zero : (k : ℕ) → nat_lt k 0 ≡ false
lt_zero k = grind (arith, nat_tests)

lt_some : (n : ℕ) → nat_lt 0 (suc n) ≡ true
lt_some n = grind (arith, nat_tests)

-- behind a voice that precedes them all, one more precedes each
agree_behind : (lt : Voice → Voice → Bool) (v : Voice) (vs ws : List Voice) (n : ℕ) → Precedes lt v ws → Agree (λ w. nat_lt (before lt (v ∷ vs) w) (suc n)) (λ w. nat_lt (before lt vs w) n) ws
agree_behind lt v vs [] n p = tt
agree_behind lt v vs (w ∷ ws) n p =
    (ap (λ (k : ℕ). nat_lt k (suc n)) (before-cons lt v w vs true p.0) ∙ lt_suc (before lt vs w) n, agree_behind lt v vs ws n p.1)

filter_none : (f : Voice → ℕ) (vs : List Voice) → filter (λ v. nat_lt (f v) 0) vs ≡ []
filter_none f [] = refl
filter_none f (v ∷ vs) = simp (lt_zero (f v), filter_none f vs)

pub first_ones : (lt : Voice → Voice → Bool) (n : ℕ) (vs : List Voice) → IsOrder lt → ((v : Voice) → lt v v ≡ false) → EachNew vs → IsInOrder lt vs → filter (λ v. nat_lt (before lt vs v) n) vs ≡ take n vs
first_ones lt zero vs order never d s = filter_none (before lt vs) vs
first_ones lt (suc n) [] order never d s = refl
first_ones lt (suc n) (v ∷ vs) order never d s =
    let first : before lt (v ∷ vs) v ≡ 0 = omega (arith, before-cons lt v v vs false (never v), none_before lt v vs order d.0 s.0) in
    let rest : filter (λ w. nat_lt (before lt (v ∷ vs) w) (suc n)) vs ≡ take n vs = filter-agree _ _ vs (agree_behind lt v vs vs n s.0) ∙ first_ones lt n vs order never d.1 s.1 in
    let test : nat_lt (before lt (v ∷ vs) v) (suc n) ≡ true = ap (λ (k : ℕ). nat_lt k (suc n)) first ∙ lt_some n in
    rw test (ap (λ ws. v ∷ ws) rest)

take_fewer : (n : ℕ) (vs : List Voice) → take n (take (suc n) vs) ≡ take n vs
take_fewer zero vs = refl
take_fewer (suc n) [] = refl
take_fewer (suc n) (v ∷ vs) = ap (λ ws. v ∷ ws) (take_fewer n vs)

take_behind : (n : ℕ) (v : Voice) (vs : List Voice) → take n (v ∷ take n vs) ≡ take n (v ∷ vs)
take_behind zero v vs = refl
take_behind (suc n) v vs = ap (λ ws. v ∷ ws) (take_fewer n vs)

pub take-put : (lt : Voice → Voice → Bool) (n : ℕ) (x : Voice) (vs : List Voice) → take n (put_by lt x (take n vs)) ≡ take n (put_by lt x vs)
take-put lt zero x vs = refl
take-put lt (suc n) x [] = refl
take-put lt (suc n) x (v ∷ vs) =
    elim (lt x v) as (λ b. take (suc n) (cond b (x ∷ v ∷ take n vs) (v ∷ put_by lt x (take n vs))) ≡ take (suc n) (cond b (x ∷ v ∷ vs) (v ∷ put_by lt x vs))) [
      | true ↦ ap (λ ws. x ∷ ws) (take_behind n v vs)
      | false ↦ ap (λ ws. v ∷ ws) (take-put lt n x vs)
    ]
