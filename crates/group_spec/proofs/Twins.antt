-- Cores that have done the same since equal bases have the same groups.
use Rattle.std.proofs.Common.{◌≡◌, ℕ, ◌+◌, ◌≤◌, ◌<◌, ◌⊎◌, inl, inr, Bool, true, false, ◌||◌, cond, List, [], ◌∷◌, length, refl, sym, ◌∙◌, ap, arith, Option, Some, None}
use Rattle.std.specs.Prelude.{ℤ, nat_lt, is_none, unwrap_or}
use Rattle.std.specs.List.{filter, filter_map, cons_option, list_all, AllZip}
use Rattle.std.specs.Option.{option_map, option_or}
use Rattle.std.proofs.lemmas.Bool.{cases_Bool, cond-true, cond-false, and_from, ltb-false, leb-false, or_parts}
use Rattle.g726_bits.specs.declared.Rate.{Rate}
use Rattle.g726_bits.specs.State.{CodecState}
use Rattle.conference_spec.specs.declared.Task.{Task}
use Rattle.conference_spec.specs.Coding.{Coder}
use Rattle.conference_spec.specs.Feed.{Feed, Guest, guests, closes, collects}
use Rattle.conference_spec.specs.Packets.{packets_at}
use Rattle.conference_spec.specs.Tasks.{own_task, own_tasks, tasks_of}
use Rattle.conference_spec.specs.Base.{AreTwins}
use Rattle.conference_spec.specs.Machine.{Core, is_done}
use Rattle.conference_spec.specs.Members.{In}
use Rattle.conference_spec.proofs.Stages.{done-collected}
use Rattle.conference_spec.proofs.Sends.{dated}
use Rattle.conference_spec.proofs.Alike.{AreGuests, late}
use Rattle.conference_spec.proofs.Since.{Both, matters}
use Rattle.conference_spec.proofs.Twins.{twins-both}
use Rattle.group_spec.specs.Groups.{Placed, oldest_open, awaited, place_after, placed_of, placed, grouped, groups, rest_at, rest_of}
use Rattle.group_spec.proofs.Awaiting.{oldest-none}

-- ---- tasks of ticks that are collected ----

-- where all that a listener was to be run lies at ticks below some that are done, it is done
pub own-early : (coder : Coder) (from : ℕ) (rate : Rate) (first : CodecState) (p : Task → Bool) (gone : ℕ) → ((x : Task) → x.tick < gone → p x ≡ true)
    → (heard : List (List ℤ)) → (length heard ≡ 0) ⊎ (from + length heard ≤ gone) → list_all p (own_tasks coder from rate first heard) ≡ true
own-early coder from rate first p gone all [] le = refl
own-early coder from rate first p gone all (f ∷ heard) le =
    let before : from + length heard < gone = elim le [ inl none ↦ absurd (omega arith) | inr le ↦ omega arith ] in
    let x = own_task coder from rate first heard f in
    and_from (p x) (list_all p (own_tasks coder from rate first heard)) (all x before) (own-early coder from rate first p gone all heard (inr (omega arith)))

or-none : {X : Type 0} (o : Option X) → option_or o None ≡ o
or-none None = refl
or-none (Some x) = refl

oldest-through : (p q : Task → Bool) (xs : List Task) → ((x : Task) → q x ≡ false → p x ≡ true) → oldest_open p xs ≡ oldest_open p (filter q xs)
oldest-through p q [] all = refl
oldest-through p q (x ∷ xs) all =
    let ih = oldest-through p q xs all in
    let o = λ (b : Bool). cond b None (Some x) in
    elim (cases_Bool (q x)) [
      | inl t ↦ ap (λ r. option_or r (o (p x))) ih ∙ sym (ap (oldest_open p) (cond-true (q x) (x ∷ filter q xs) (filter q xs) t))
      | inr t ↦
          ap (λ b. option_or (oldest_open p xs) (o b)) (all x t) ∙ or-none (oldest_open p xs) ∙ ih
          ∙ sym (ap (oldest_open p) (cond-false (q x) (x ∷ filter q xs) (filter q xs) t))
    ]

-- ---- guests that are alike ----

abbrev placed_as : ℕ → Option Task → Option Placed
placed_as m o = option_map (λ x. record { member = m; place = x }) o

alike-placed : (coder : Coder) (m : ℕ) (c d : Core) → Both coder m c.feed d.feed → c.runs ≡ d.runs → (g k : Guest) → AreGuests coder m g k
    → placed_of coder c g ≡ placed_of coder d k
alike-placed coder m c d b runs g k z =
    let p = is_done coder (collects c.feed) c.runs in
    let least = b.least_gone in
    let all : (x : Task) → late m x ≡ false → p x ≡ true = λ x t. let lt = leb-false m x.tick t in done-collected coder (collects c.feed) c.runs x (omega arith) in
    let same : awaited coder c g.listener ≡ awaited coder d k.listener =
    oldest-through p (late m) (tasks_of coder g.listener) all
    ∙ ap (oldest_open p) z.1.tasks
    ∙ sym (oldest-through p (late m) (tasks_of coder k.listener) all)
    ∙ (λ i. oldest_open (is_done coder (b.collected i) (runs i)) (tasks_of coder k.listener)) in
    let rest : rest_of coder c g.listener ≡ rest_of coder d k.listener = λ i. rest_at (b.closed i) (z.1.spec i).rate (z.1.state i) in
    λ i. placed_as (z.1.spec i).member (place_after (rest i) (is_none (z.0 i)) (same i))

-- whoever doesn't matter any more shares nothing
idle-free : (coder : Coder) (m : ℕ) (c : Core) → m ≤ collects c.feed → (g : Guest) → In g (guests coder c.feed) → matters coder m g ≡ false → placed_of coder c g ≡ None
idle-free coder m c le g i t =
    let l = g.listener in
    let gone = or_parts (is_none g.left) (nat_lt m (unwrap_or g.left 0) || nat_lt 0 (length (packets_at coder m l))) t in
    let rest = or_parts (nat_lt m (unwrap_or g.left 0)) (nat_lt 0 (length (packets_at coder m l))) gone.1 in
    let early = ltb-false m (unwrap_or g.left 0) rest.0 in
    let at = (dated coder c.feed g i).gone gone.0 in
    let done = is_done coder (collects c.feed) c.runs in
    let free : awaited coder c l ≡ None =
    oldest-none done (tasks_of coder l) (own-early coder l.from l.spec.rate l.first done (collects c.feed) (λ x lt. done-collected coder (collects c.feed) c.runs x lt) l.heard (inr (omega arith))) in
    ap (placed_as l.spec.member) (ap (place_after (rest_of coder c l) (is_none g.left)) free ∙ ap (λ b. place_after (rest_of coder c l) b None) gone.0)

kept-through : {X Y : Type 0} (f : X → Option Y) (p : X → Bool) (xs : List X) → ((x : X) → In x xs → p x ≡ false → f x ≡ None) → filter_map f xs ≡ filter_map f (filter p xs)
kept-through f p [] none = refl
kept-through f p (x ∷ xs) none =
    let ih = kept-through f p xs (λ y i. none y (inr i)) in
    elim (cases_Bool (p x)) [
      | inl t ↦ ap (cons_option (f x)) ih ∙ sym (ap (filter_map f) (cond-true (p x) (x ∷ filter p xs) (filter p xs) t))
      | inr t ↦ ap (λ o. cons_option o (filter_map f xs)) (none x (inl refl) t) ∙ ih ∙ sym (ap (filter_map f) (cond-false (p x) (x ∷ filter p xs) (filter p xs) t))
    ]

zip-same : {A B Y : Type 0} (R : A → B → Type 0) (f : A → Option Y) (h : B → Option Y) (xs : List A) (ys : List B) → ((x : A) (y : B) → R x y → f x ≡ h y)
    → AllZip R xs ys → filter_map f xs ≡ filter_map h ys
zip-same R f h [] [] same z = refl
zip-same R f h [] (y ∷ ys) same z = absurd z
zip-same R f h (x ∷ xs) [] same z = absurd z
zip-same R f h (x ∷ xs) (y ∷ ys) same z = λ i. cons_option (same x y z.0 i) (zip-same R f h xs ys same z.1 i)

pub twins-placed : (coder : Coder) (p q s : Feed) (c d : Core) → AreTwins coder p q s c d → placed coder c ≡ placed coder d
twins-placed coder p q s c d t =
    let m = closes p in
    let b = twins-both coder p q s c d t in
    let least = b.least_gone in
    let same = b.collected in
    kept-through (placed_of coder c) (matters coder m) (guests coder c.feed) (λ g i u. idle-free coder m c least g i u)
    ∙ zip-same (AreGuests coder m) (placed_of coder c) (placed_of coder d) (filter (matters coder m) (guests coder c.feed)) (filter (matters coder m) (guests coder d.feed))
    (λ g k z. alike-placed coder m c d b t.runs g k z) b.sides
    ∙ sym (kept-through (placed_of coder d) (matters coder m) (guests coder d.feed) (λ g i u. idle-free coder m d (omega arith) g i u))

pub twins-groups : (coder : Coder) (p q s : Feed) (c d : Core) → AreTwins coder p q s c d → groups coder c ≡ groups coder d
twins-groups coder p q s c d t =
    let b = twins-both coder p q s c d t in
    λ i. grouped coder (b.closed i) (twins-placed coder p q s c d t i)
