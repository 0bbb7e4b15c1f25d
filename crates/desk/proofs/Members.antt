-- Numbers that differ from one another.
use Rattle.std.proofs.Common.{◌≡◌, ◌≢◌, ℕ, zero, suc, Bool, true, false, cond, not, List, [], ◌∷◌, ◌++◌, map, filter, refl, ap, ◌∙◌, sym, subst, arith, length, take, get_or, set, ◌+◌, ◌<◌, ◌≤◌, length-append, length-take-le}
use Rattle.std.proofs.lemmas.List.{map-append}
use Rattle.std.specs.Prelude.{◌==◌}
use Rattle.std.specs.List.{All, AllByRecursion}
use Rattle.std.proofs.lemmas.List.Kept.{AllPairs-cons}
use Rattle.talk_mix.specs.Voices.{Voice, MembersDiffer}
use Rattle.desk.specs.declared.channel.Channel.{Channel}
use Rattle.desk.specs.Kept.{EachOther, IsSound, members}

pub map_filter : {X Y : Type 0} (f : X → Y) (p : Y → Bool) (xs : List X) → map f (filter (λ x. p (f x)) xs) ≡ filter p (map f xs)
map_filter f p [] = refl
map_filter {X = X} {Y = Y} f p (x ∷ xs) =
    elim (p (f x)) as (λ b. map f (cond b (x ∷ filter (λ x. p (f x)) xs) (filter (λ x. p (f x)) xs)) ≡ cond b (f x ∷ filter p (map f xs)) (filter p (map f xs))) [
      | true ↦ ap (λ (ys : List Y). f x ∷ ys) (map_filter f p xs)
      | false ↦ map_filter f p xs
    ]

all_filter : {X : Type 0} (P : X → Type 0) (p : X → Bool) (xs : List X) → AllByRecursion P xs → AllByRecursion P (filter p xs)
all_filter P p [] all = tt
all_filter P p (x ∷ xs) all =
    elim (p x) as (λ b. AllByRecursion P (cond b (x ∷ filter p xs) (filter p xs))) [
      | true ↦ (all.0, all_filter P p xs all.1)
      | false ↦ all_filter P p xs all.1
    ]

all_push : {X : Type 0} (P : X → Type 0) (xs : List X) (y : X) → AllByRecursion P xs → P y → AllByRecursion P (xs ++ y ∷ [])
all_push P [] y all last = (last, tt)
all_push P (x ∷ xs) y all last = (all.0, all_push P xs y all.1 last)

pub all_at : {X : Type 0} (P : X → Type 0) (xs : List X) (k : ℕ) (d : X) → AllByRecursion P xs → k < length xs → P (get_or xs k d)
all_at P [] k d all within = absurd (omega arith)
all_at P (x ∷ xs) zero d all within = all.0
all_at P (x ∷ xs) (suc k) d all within = all_at P xs k d all.1 (omega arith)

pub other_filter : (p : ℕ → Bool) (ns : List ℕ) → EachOther ns → EachOther (filter p ns)
other_filter p [] differ = tt
other_filter p (n ∷ ns) differ =
    elim (p n) as (λ b. EachOther (cond b (n ∷ filter p ns) (filter p ns))) [
      | true ↦ (all_filter (λ (o : ℕ). o ≢ n) p ns differ.0, other_filter p ns differ.1)
      | false ↦ other_filter p ns differ.1
    ]

pub other_push : (ns : List ℕ) (m : ℕ) → EachOther ns → AllByRecursion (λ n. n ≢ m) ns → EachOther (ns ++ m ∷ [])
other_push [] m differ free = (tt, tt)
other_push (n ∷ ns) m differ free =
    (all_push (λ (o : ℕ). o ≢ n) ns m differ.0 (λ e. free.0 (sym e)), other_push ns m differ.1 free.1)

-- a number that is none of the speakers' is no voice's
others_speak : (n : ℕ) (vs : List Voice) → AllByRecursion (λ o. o ≢ n) (map (λ (v : Voice). v.0) vs) → All (λ (w : Voice). n ≢ w.0) vs
others_speak n [] all k d within = absurd (omega arith)
others_speak n (v ∷ vs) all zero d within = λ e. all.0 (sym e)
others_speak n (v ∷ vs) all (suc k) d within = others_speak n vs all.1 k d (omega arith)

pub voices_differ : (vs : List Voice) → EachOther (map (λ (v : Voice). v.0) vs) → MembersDiffer vs
voices_differ [] differ = λ i j d below within. absurd (omega arith)
voices_differ (v ∷ vs) differ =
    AllPairs-cons (λ (a b : Voice). a.0 ≢ b.0) v vs (others_speak v.0 vs differ.0) (voices_differ vs differ.1)

-- the member at a place is another than this, where all are
pub other_at : (n : ℕ) (cs : List Channel) (k : ℕ) (d : Channel) → AllByRecursion (λ o. o ≢ n) (members cs) → k < length cs → (get_or cs k d).member ≢ n
other_at n [] k d all within = absurd (omega arith)
other_at n (c ∷ cs) zero d all within = all.0
other_at n (c ∷ cs) (suc k) d all within = other_at n cs k d all.1 (omega arith)

-- a channel that takes the place of one of the same member
pub members_set : (cs : List Channel) (place : ℕ) (c new : Channel) → c ≡ get_or cs place c → new.member ≡ c.member
    → members (set cs place new) ≡ members cs
members_set [] place c new is same = refl
members_set (d ∷ cs) zero c new is same = ap (λ (n : ℕ). n ∷ members cs) (same ∙ ap (λ (x : Channel). x.member) is)
members_set (d ∷ cs) (suc place) c new is same = ap (λ (ns : List ℕ). d.member ∷ ns) (members_set cs place c new is same)

pub sound_push : (cs : List Channel) (vs : List Voice) (c : Channel) (v : Voice) → IsSound cs vs
    → AllByRecursion (λ n. n ≢ c.member) (members cs) → IsSound (cs ++ c ∷ []) (vs ++ v ∷ [])
sound_push cs vs c v sound free =
    let more : members (cs ++ c ∷ []) ≡ members cs ++ c.member ∷ [] = map-append (λ (c : Channel). c.member) cs (c ∷ []) in
    record {
      differ = subst EachOther (sym more) (other_push (members cs) c.member sound.differ free);
      room = length-append vs (v ∷ []) ∙ ap (λ (n : ℕ). n + 1) sound.room ∙ sym (length-append cs (c ∷ []));
    }

kept_le : (m : ℕ) (cs : List Channel) → length (filter (λ (c : Channel). not (c.member == m)) cs) ≤ length cs
kept_le m [] = omega arith
kept_le m (c ∷ cs) =
    let rest = kept_le m cs in
    elim (not (c.member == m)) as (λ b. length (cond b (c ∷ filter (λ (c : Channel). not (c.member == m)) cs) (filter (λ (c : Channel). not (c.member == m)) cs)) ≤ suc (length cs)) [
      | true ↦ omega (arith, rest)
      | false ↦ omega (arith, rest)
    ]

pub sound_filter : (m : ℕ) (cs kept : List Channel) (vs left : List Voice) → IsSound cs vs
    → kept ≡ filter (λ (c : Channel). not (c.member == m)) cs → left ≡ take (length kept) vs → IsSound kept left
sound_filter m cs kept vs left sound is_kept is_left =
    let test : ℕ → Bool = λ n. not (n == m) in
    let fewer : members kept ≡ filter test (members cs) = ap members is_kept ∙ map_filter (λ (c : Channel). c.member) test cs in
    let most : length kept ≤ length cs = subst (λ (ks : List Channel). length ks ≤ length cs) (sym is_kept) (kept_le m cs) in
    record {
      differ = subst EachOther (sym fewer) (other_filter test (members cs) sound.differ);
      room = ap length is_left ∙ length-take-le (length kept) vs (omega (arith, most, sound.room));
    }

pub pushed : {X : Type 0} (xs new : List X) (x : X) (ok : Bool) → new ≡ cond ok (xs ++ x ∷ []) xs → ok ≡ true → new ≡ xs ++ x ∷ []
pushed {X = X} xs new x ok is took = is ∙ ap (λ (b : Bool). cond b (xs ++ x ∷ []) xs) took
