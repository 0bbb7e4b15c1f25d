-- The feed that a roster's commands make: what a command adds may follow.
use Rattle.std.proofs.Common.{◌≡◌, ℕ, ◌≤◌, ◌<◌, Bool, true, false, cond, not, ◌&&◌, List, [], ◌∷◌, ◌++◌, map, refl, ap, ◌∙◌, sym, arith, length, length-append, Some, None, inl, inr}
use Rattle.std.specs.Prelude.{if◌then◌else◌, is_some, Option, ◌==◌, ◌||◌, nat_lt, nat_le}
use Rattle.std.specs.List.{filter, list_any}
use Rattle.std.proofs.lemmas.Bool.{cases_Bool, cond_both, cond-true, cond-false, not_from_true, not_from_false, lt-ltb}
use Rattle.std.proofs.lemmas.Bool.Decides.{nat_tests}
use Rattle.std.proofs.lemmas.List.{append-nil}
use Rattle.std.proofs.lemmas.List.Elements.{filter-append}
use Rattle.roster_text.specs.declared.commands.Talk.{Talk}
use Rattle.roster_text.specs.declared.commands.Listen.{Listen}
use Rattle.roster_text.specs.declared.commands.Command.{Command}
use Rattle.roster_text.specs.declared.commands.Command.TheVariants as command
use Rattle.roster_text.specs.declared.commands.Timed.{Timed}
use Rattle.roster_text.specs.declared.faults.RosterKind.TheVariants as kinds
use Rattle.roster_text.specs.Places.{after, present, without, joined, is_join_of, misplaced, most_members, passes, talking, listening, talks_on, listens_on}
use Rattle.talk_mix.specs.declared.ticks.Tick.{Tick}
use Rattle.conference_spec.specs.declared.Entry.TheVariants.{Join, Leave}
use Rattle.conference_spec.specs.Coding.{Coder}
use Rattle.conference_spec.specs.Feed.{Feed, Listener, listeners, begins, hears, closes, ended, may_follow, joined as joined_feed}
use Rattle.session_spec.specs.Talkers.{Events, Applies, Hears, Ticks, Cuts, heard_now}
use Rattle.session_spec.specs.Events.{spec_of, listens, feed_of}
use Rattle.session_spec.proofs.Following.{listens-is, never-ended}
use Rattle.roster_desk.specs.Applied.{applied, Follow}
use Rattle.roster_desk.proofs.Talking.{joins}

-- ---- who ever joined ----

joins_past : (m : ℕ) (past : List Timed) → joins m (map (λ (t : Timed). t.command) past) ≡ joined m past
joins_past m [] = refl
joins_past m (t ∷ past) = ap (λ (b : Bool). is_join_of m t.command || b) (joins_past m past)

neither : (a b : Bool) → (a || b) ≡ false → (a ≡ false) × (b ≡ false)
neither true b e = cc
neither false b e = (refl, e)

-- whom no command lets join hasn't joined the conference
new_in_feed : (m : ℕ) (h : Events) → joins m (applied h) ≡ false → list_any (λ q. q == m) (joined_feed (feed_of h)) ≡ false
new_in_feed m [] new = refl
new_in_feed m (Applies (command.Join n talk None) ∷ h) new =
    new_in_feed m h (neither (n == m) (joins m (applied h)) new).1
new_in_feed m (Applies (command.Join n talk (Some listen)) ∷ h) new =
    let parts = neither (n == m) (joins m (applied h)) new in
    rw parts.0 (new_in_feed m h parts.1)
new_in_feed m (Applies (command.Leave n) ∷ h) new =
    let P : Feed → Type 0 = λ e. list_any (λ q. q == m) (joined_feed (e ++ feed_of h)) ≡ false in
    cond_both (listens n h) (Leave n ∷ []) [] P (λ t. new_in_feed m h new) (λ t. new_in_feed m h new)
new_in_feed m (Hears plen octets ∷ h) new = new_in_feed m h new
new_in_feed m (Ticks ∷ h) new = new_in_feed m h new
new_in_feed m (Cuts ∷ h) new = new_in_feed m h new

-- ---- who listens now ----

-- whether a member listens, by its number
abbrev Sits : Type 0
Sits = ℕ × Bool

abbrev own : Bool → ℕ → List ℕ
own listening m = if listening then m ∷ [] else []

-- the members that are present after these commands, the newest first, with whether they listen
abbrev sitting : List Command → List Sits
sitting [] = []
sitting (command.Join m talk listen ∷ cs) = (m, is_some listen) ∷ sitting cs
sitting (command.Leave m ∷ cs) = filter (λ (s : Sits). not (s.0 == m)) (sitting cs)

-- those of them who listen, in the order of their joins
abbrev heard_by : List Sits → List ℕ
heard_by [] = []
heard_by (s ∷ rest) = heard_by rest ++ own s.1 s.0

abbrev but : ℕ → List ℕ → List ℕ
but m ns = filter (λ (n : ℕ). not (n == m)) ns

own_few : (o : Bool) (m : ℕ) → length (own o m) ≤ 1
own_few false m = omega arith
own_few true m = omega arith

few : (ss : List Sits) → length (heard_by ss) ≤ length ss
few [] = omega arith
few (s ∷ ss) =
    let ih = few ss in
    let one = own_few s.1 s.0 in
    let both = length-append (heard_by ss) (own s.1 s.0) in
    omega arith

own_gone : (o : Bool) (n m : ℕ) → (n == m) ≡ true → but m (own o n) ≡ []
own_gone false n m e = refl
own_gone true n m e = cond-false (not (n == m)) (n ∷ []) [] (not_from_true (n == m) e)

own_kept : (o : Bool) (n m : ℕ) → (n == m) ≡ false → but m (own o n) ≡ own o n
own_kept false n m e = refl
own_kept true n m e = cond-true (not (n == m)) (n ∷ []) [] (not_from_false (n == m) e)

heard_without : (m : ℕ) (ss : List Sits) → heard_by (filter (λ (s : Sits). not (s.0 == m)) ss) ≡ but m (heard_by ss)
heard_without m [] = refl
heard_without m (s ∷ ss) =
    let ih = heard_without m ss in
    let rest = filter (λ (x : Sits). not (x.0 == m)) ss in
    let parted = filter-append (λ (n : ℕ). not (n == m)) (heard_by ss) (own s.1 s.0) in
    elim (cases_Bool (s.0 == m)) [
      | inl t ↦
          ap heard_by (cond-false (not (s.0 == m)) (s ∷ rest) rest (not_from_true (s.0 == m) t))
          ∙ ih
          ∙ sym (append-nil (but m (heard_by ss)))
          ∙ ap (λ (l : List ℕ). but m (heard_by ss) ++ l) (sym (own_gone s.1 s.0 m t))
          ∙ sym parted
      | inr t ↦
          ap heard_by (cond-true (not (s.0 == m)) (s ∷ rest) rest (not_from_false (s.0 == m) t))
          ∙ ap (λ (l : List ℕ). l ++ own s.1 s.0) ih
          ∙ ap (λ (l : List ℕ). but m (heard_by ss) ++ l) (sym (own_kept s.1 s.0 m t))
          ∙ sym parted
    ]

abbrev members_of : List Listener → List ℕ
members_of ls = map (λ (l : Listener). l.spec.member) ls

members_push : (ls : List Listener) (l : Listener) → members_of (ls ++ l ∷ []) ≡ members_of ls ++ l.spec.member ∷ []
members_push [] l = refl
members_push (k ∷ ls) l = ap (λ (ns : List ℕ). k.spec.member ∷ ns) (members_push ls l)

members_hear : (tick : Tick) (ls : List Listener) → members_of (map (hears tick) ls) ≡ members_of ls
members_hear tick [] = refl
members_hear tick (l ∷ ls) = ap (λ (ns : List ℕ). l.spec.member ∷ ns) (members_hear tick ls)

members_but : (m : ℕ) (ls : List Listener) → members_of (filter (λ l. not (l.spec.member == m)) ls) ≡ but m (members_of ls)
members_but m [] = refl
members_but m (l ∷ ls) =
    let ih = members_but m ls in
    let rest = filter (λ (x : Listener). not (x.spec.member == m)) ls in
    elim (not (l.spec.member == m)) as (λ b. members_of (cond b (l ∷ rest) rest) ≡ cond b (l.spec.member ∷ but m (members_of ls)) (but m (members_of ls))) [
      | true ↦ ap (λ (ns : List ℕ). l.spec.member ∷ ns) ih
      | false ↦ ih
    ]

none_but : (m : ℕ) (ls : List Listener) → list_any (λ l. l.spec.member == m) ls ≡ false → but m (members_of ls) ≡ members_of ls
none_but m [] none = refl
none_but m (l ∷ ls) none =
    let parts = neither (l.spec.member == m) (list_any (λ (x : Listener). x.spec.member == m) ls) none in
    cond-true (not (l.spec.member == m)) (l.spec.member ∷ but m (members_of ls)) (but m (members_of ls)) (not_from_false (l.spec.member == m) parts.0)
    ∙ ap (λ (ns : List ℕ). l.spec.member ∷ ns) (none_but m ls parts.1)

listeners_are : (coder : Coder) (h : Events) → members_of (listeners coder (feed_of h)) ≡ heard_by (sitting (applied h))
listeners_are coder [] = refl
listeners_are coder (Applies (command.Join n talk None) ∷ h) = listeners_are coder h ∙ sym (append-nil (heard_by (sitting (applied h))))
listeners_are coder (Applies (command.Join n talk (Some listen)) ∷ h) =
    members_push (listeners coder (feed_of h)) (begins coder (spec_of n listen) (closes (feed_of h)))
    ∙ ap (λ (ns : List ℕ). ns ++ n ∷ []) (listeners_are coder h)
listeners_are coder (Applies (command.Leave n) ∷ h) =
    let ls = listeners coder (feed_of h) in
    let gone = ap (but n) (listeners_are coder h) ∙ sym (heard_without n (sitting (applied h))) in
    let P : Feed → Type 0 = λ e. members_of (listeners coder (e ++ feed_of h)) ≡ heard_by (filter (λ (s : Sits). not (s.0 == n)) (sitting (applied h))) in
    cond_both (listens n h) (Leave n ∷ []) [] P
    (λ t. members_but n ls ∙ gone)
    (λ t. sym (none_but n ls (sym (listens-is coder n h) ∙ t)) ∙ gone)
listeners_are coder (Hears plen octets ∷ h) = listeners_are coder h
listeners_are coder (Ticks ∷ h) = members_hear (heard_now h) (listeners coder (feed_of h)) ∙ listeners_are coder h
listeners_are coder (Cuts ∷ h) = listeners_are coder h

length_map : {X Y : Type 0} (f : X → Y) (xs : List X) → length (map f xs) ≡ length xs
length_map f [] = refl
length_map f (x ∷ xs) = let ih = length_map f xs in omega arith

-- ---- a roster's seats, which have no name here, by their members ----

numbers_without : (m : ℕ) (ss : _) → map (λ s. s.member) (without m ss) ≡ but m (map (λ s. s.member) ss)
numbers_without m [] = refl
numbers_without m (s ∷ ss) =
    let ih = numbers_without m ss in
    elim (s.member == m) as (λ b. map (λ x. x.member) (cond b (without m ss) (s ∷ without m ss))
    ≡ cond (not b) (s.member ∷ but m (map (λ x. x.member) ss)) (but m (map (λ x. x.member) ss))) [
      | true ↦ ih
      | false ↦ ap (λ (ns : List ℕ). s.member ∷ ns) ih
    ]

numbers_filter : (m : ℕ) (ss : List Sits) → map (λ (s : Sits). s.0) (filter (λ (s : Sits). not (s.0 == m)) ss) ≡ but m (map (λ (s : Sits). s.0) ss)
numbers_filter m [] = refl
numbers_filter m (s ∷ ss) =
    let ih = numbers_filter m ss in
    let rest = filter (λ (x : Sits). not (x.0 == m)) ss in
    elim (not (s.0 == m)) as (λ b. map (λ (x : Sits). x.0) (cond b (s ∷ rest) rest)
    ≡ cond b (s.0 ∷ but m (map (λ (x : Sits). x.0) ss)) (but m (map (λ (x : Sits). x.0) ss))) [
      | true ↦ ap (λ (ns : List ℕ). s.0 ∷ ns) ih
      | false ↦ ih
    ]

numbers_after : (c : Command) (cs : List Command) (past : List Timed) → map (λ (s : Sits). s.0) (sitting cs) ≡ map (λ s. s.member) (present past)
    → map (λ (s : Sits). s.0) (sitting (c ∷ cs)) ≡ map (λ s. s.member) (after c (present past))
numbers_after (command.Join m talk listen) cs past e = ap (λ (ns : List ℕ). m ∷ ns) e
numbers_after (command.Leave m) cs past e = numbers_filter m (sitting cs) ∙ ap (but m) e ∙ sym (numbers_without m (present past))

numbers_past : (past : List Timed) → map (λ (s : Sits). s.0) (sitting (map (λ (t : Timed). t.command) past)) ≡ map (λ s. s.member) (present past)
numbers_past [] = refl
numbers_past (t ∷ past) = numbers_after t.command (map (λ (x : Timed). x.command) past) past (numbers_past past)

sitting_past : (past : List Timed) → length (sitting (map (λ (t : Timed). t.command) past)) ≡ length (present past)
sitting_past past =
    sym (length_map (λ (s : Sits). s.0) (sitting (map (λ (t : Timed). t.command) past)))
    ∙ ap (λ (ns : List ℕ). length ns) (numbers_past past)
    ∙ length_map (λ s. s.member) (present past)

-- at most as many listen as are present
pub few_listen : (coder : Coder) (h : Events) (past : List Timed) → Follow h past → length (listeners coder (feed_of h)) ≤ length (present past)
few_listen coder h past follow =
    let one = length_map (λ (l : Listener). l.spec.member) (listeners coder (feed_of h)) in
    let two = ap (λ (ns : List ℕ). length ns) (listeners_are coder h) in
    let three = few (sitting (applied h)) in
    let four = ap (λ (ss : List Sits). length ss) (ap sitting follow) in
    let five = sitting_past past in
    omega arith

-- ---- what may follow ----

placed_join : (a b c : Bool) → cond a (Some kinds.Used) (cond b (Some kinds.SsrcTaken) (cond c (Some kinds.Full) None)) ≡ None → (a ≡ false) × (c ≡ false)
placed_join true b c e = cc
placed_join false true c e = cc
placed_join false false true e = cc
placed_join false false false e = (refl, refl)

all_three : (a b c : Bool) → a ≡ false → b ≡ true → c ≡ false → not a && (b && not c) ≡ true
all_three a b c p q r = rw (p, q, r) refl

pub may_join : (coder : Coder) (m : ℕ) (talk : Option Talk) (listen : Listen) (h : Events) (past : List Timed)
    → misplaced past (command.Join m talk (Some listen)) ≡ None → Follow h past → may_follow coder (feed_of h) (Join (spec_of m listen)) ≡ true
may_join coder m talk listen h past none follow =
    let parts = placed_join (joined m past)
    (passes (λ n. talking n (present past)) (talks_on talk) || passes (λ n. listening n (present past)) (listens_on (Some listen)))
    (nat_le most_members (length (present past))) none in
    let room : length (present past) < 1024 = (let full : nat_le 1024 (length (present past)) ≡ false = parts.1 in grind (arith, nat_tests)) in
    let fewer = few_listen coder h past follow in
    all_three (list_any (λ q. q == m) (joined_feed (feed_of h))) (nat_lt (length (listeners coder (feed_of h))) 1024) (ended (feed_of h))
    (new_in_feed m h (ap (joins m) follow ∙ joins_past m past ∙ parts.0))
    (lt-ltb (length (listeners coder (feed_of h))) 1024 (omega arith))
    (never-ended h)
