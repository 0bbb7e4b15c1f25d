-- Who talks after a roster's commands has joined by one of them.
use Rattle.std.proofs.Common.{◌≡◌, ◌≢◌, ℕ, Bool, true, false, cond, not, List, [], ◌∷◌, ◌++◌, map, filter, refl, ap, ◌∙◌, sym, subst, Some, None, eq-eqb, append_assoc, ◌+◌, ◌<◌, suc, length, get_or, take, drop}
use Rattle.std.specs.Prelude.{Option, reverse, ◌==◌, ◌||◌, slice_get}
use Rattle.std.specs.List.{AllByRecursion}
use Rattle.std.proofs.lemmas.List.{reverse-append, take-append-drop, take_more}
use mathlib.Core.List.{reverse-cons}
use Rattle.jitter_line.specs.Histories.{Puts}
use Rattle.roster_text.specs.declared.commands.Talk.{Talk}
use Rattle.roster_text.specs.declared.commands.Listen.{Listen}
use Rattle.roster_text.specs.declared.commands.Command.{Command}
use Rattle.roster_text.specs.declared.commands.Command.TheVariants.{Join, Leave}
use Rattle.roster_text.specs.declared.commands.Timed.{Timed}
use Rattle.roster_text.specs.declared.faults.RosterKind.{RosterKind}
use Rattle.roster_text.specs.declared.faults.RosterKind.TheVariants as kinds
use Rattle.roster_text.specs.Orders.{EachPlaced}
use Rattle.roster_text.specs.Places.{misplaced, joined, is_join_of}
use Rattle.session_spec.specs.Talkers.{Talker, Events, Applies, Hears, Ticks, Cuts, Way, Stops, ToLine, talkers, given, pulled, way, begins}
use Rattle.roster_desk.specs.Applied.{applied, Follow, HasApplied}
use Rattle.roster_desk.specs.Left.{Planned}
use Rattle.roster_desk.proofs.Leaving.{planned}
use Rattle.desk.specs.Standing.{Admits}
use Rattle.std.proofs.Math.Seq.{drop-cons}
use Rattle.std.proofs.lemmas.Option.{get_or_from_slice_get}

-- one of these commands lets the member join
abbrev pub joins : ℕ → List Command → Bool
joins m [] = false
joins m (c ∷ cs) = is_join_of m c || joins m cs

joins_past : (m : ℕ) (past : List Timed) → joins m (map (λ (t : Timed). t.command) past) ≡ joined m past
joins_past m [] = refl
joins_past m (t ∷ past) = ap (λ (b : Bool). is_join_of m t.command || b) (joins_past m past)

module _ (P : Talker → Type 0) where
  all_push : (ts : List Talker) (t : Talker) → AllByRecursion P ts → P t → AllByRecursion P (ts ++ t ∷ [])
  all_push [] t all last = (last, tt)
  all_push (u ∷ ts) t all last = (all.0, all_push ts t all.1 last)

  all_filter : (test : Talker → Bool) (ts : List Talker) → AllByRecursion P ts → AllByRecursion P (filter test ts)
  all_filter test [] all = tt
  all_filter test (t ∷ ts) all =
      elim (test t) as (λ b. AllByRecursion P (cond b (t ∷ filter test ts) (filter test ts))) [
        | true ↦ (all.0, all_filter test ts all.1)
        | false ↦ all_filter test ts all.1
      ]

  all_map : (f : Talker → Talker) (ts : List Talker) → ((t : Talker) → P t → P (f t)) → AllByRecursion P ts → AllByRecursion P (map f ts)
  all_map f [] kept all = tt
  all_map f (t ∷ ts) kept all = (kept t all.0, all_map f ts kept all.1)

all_weaker : (P Q : Talker → Type 0) (ts : List Talker) → ((t : Talker) → P t → Q t) → AllByRecursion P ts → AllByRecursion Q ts
all_weaker P Q [] weaker all = tt
all_weaker P Q (t ∷ ts) weaker all = (weaker t all.0, all_weaker P Q ts weaker all.1)

or_true : (a b : Bool) → b ≡ true → (a || b) ≡ true
or_true true b e = refl
or_true false b e = e

first_true : (a b : Bool) → a ≡ true → (a || b) ≡ true
first_true a b e = rw e refl

same_member : (w : Way) (t : Talker) → (given w t).member ≡ t.member
same_member (Stops refusal) t = refl
same_member (ToLine member line p) t =
    let heard : Talker = record t { line = Puts p ∷ t.line } in
    elim (t.member == member) as (λ b. (cond b heard t).member ≡ t.member) [ true ↦ refl | false ↦ refl ]

-- the talker has joined by one of these commands
abbrev HasJoined : List Command → Talker → Type 0
HasJoined cs t = joins t.member cs ≡ true

more_commands : (c : Command) (cs : List Command) (ts : List Talker) → AllByRecursion (HasJoined cs) ts → AllByRecursion (HasJoined (c ∷ cs)) ts
more_commands c cs ts all =
    all_weaker (HasJoined cs) (HasJoined (c ∷ cs)) ts (λ t e. or_true (is_join_of t.member c) (joins t.member cs) e) all

-- who talks has joined
talkers_joined : (h : Events) → AllByRecursion (HasJoined (applied h)) (talkers h)
talkers_joined [] = tt
talkers_joined (Applies (Join m None listen) ∷ h) = more_commands (Join m None listen) (applied h) (talkers h) (talkers_joined h)
talkers_joined (Applies (Join m (Some talk) listen) ∷ h) =
    let c : Command = Join m (Some talk) listen in
    all_push (HasJoined (c ∷ applied h)) (talkers h) (begins m talk) (more_commands c (applied h) (talkers h) (talkers_joined h))
    (first_true (m == m) (joins m (applied h)) (eq-eqb m m refl))
talkers_joined (Applies (Leave m) ∷ h) =
    all_filter (HasJoined (Leave m ∷ applied h)) (λ t. not (t.member == m)) (talkers h) (more_commands (Leave m) (applied h) (talkers h) (talkers_joined h))
talkers_joined (Hears plen octets ∷ h) =
    all_map (HasJoined (applied h)) (given (way (talkers h) plen octets)) (talkers h)
    (λ t e. subst (λ (n : ℕ). joins n (applied h) ≡ true) (sym (same_member (way (talkers h) plen octets) t)) e) (talkers_joined h)
talkers_joined (Ticks ∷ h) = all_map (HasJoined (applied h)) pulled (talkers h) (λ t e. e) (talkers_joined h)
talkers_joined (Cuts ∷ h) = talkers_joined h

not_used : (b : Bool) (rest : Option RosterKind) → cond b (Some kinds.Used) rest ≡ None → b ≡ false
not_used true rest e = cc
not_used false rest e = refl

new_member : (past : List Timed) (m : ℕ) (talk : Option Talk) (listen : Option Listen) → misplaced past (Join m talk listen) ≡ None → joined m past ≡ false
new_member past m talk listen none = not_used (joined m past) _ none

placed_at : (xs ys : List Timed) (c : Timed) → EachPlaced (xs ++ c ∷ ys) → misplaced ys c.command ≡ None
placed_at [] ys c placed = placed.0
placed_at (x ∷ xs) ys c placed = placed_at xs ys c placed.1

-- nobody who talks has the number of a member that may join now
pub none_talks : (past : List Timed) (m : ℕ) (talk : Option Talk) (listen : Option Listen) (h : Events) → misplaced past (Join m talk listen) ≡ None
    → Follow h past → AllByRecursion (λ t. t.member ≢ m) (talkers h)
none_talks past m talk listen h none follow =
    let new : joins m (applied h) ≡ false =
    ap (joins m) follow ∙ joins_past m past ∙ new_member past m talk listen none in
    all_weaker (HasJoined (applied h)) (λ t. t.member ≢ m) (talkers h)
    (λ t e same. let both : true ≡ false = sym e ∙ ap (λ (n : ℕ). joins n (applied h)) same ∙ new in cc) (talkers_joined h)

admitted : (past : List Timed) (c : Command) (h : Events) → misplaced past c ≡ None → Follow h past → Admits (talkers h) c
admitted past (Join m None listen) h none follow = tt
admitted past (Join m (Some talk) listen) h none follow = none_talks past m (Some talk) listen h none follow
admitted past (Leave m) h none follow = tt

-- what stands before a command of a roster
pub placed_told : (timed before after : List Timed) (c : Timed) → timed ≡ before ++ c ∷ after → EachPlaced (reverse timed)
    → misplaced (reverse before) c.command ≡ None
placed_told timed before after c parted placed =
    let in_order : reverse timed ≡ reverse after ++ c ∷ reverse before =
    ap reverse parted ∙ reverse-append before (c ∷ after)
    ∙ ap (λ (l : List Timed). l ++ reverse before) (reverse-cons c after)
    ∙ append_assoc (reverse after) (c ∷ []) (reverse before) in
    placed_at (reverse after) (reverse before) c (subst EachPlaced in_order placed)

-- a command of a roster may stand after those before it
pub placed_here : (timed : List Timed) (place : ℕ) (t : Timed) → EachPlaced (reverse timed) → slice_get timed place ≡ Some t → place < length timed
    → misplaced (reverse (take place timed)) t.command ≡ None
placed_here timed place t placed at within =
    let is : get_or timed place t ≡ t = get_or_from_slice_get timed place t t at in
    let parted : timed ≡ take place timed ++ t ∷ drop (suc place) timed =
    sym (take-append-drop place timed)
    ∙ ap (λ (l : List Timed). take place timed ++ l) (drop-cons timed place t within ∙ ap (λ (x : Timed). x ∷ drop (suc place) timed) is) in
    placed_told timed (take place timed) (drop (suc place) timed) t parted placed

-- a command that a roster's plan hands out may be applied, and then the plan's commands are applied
pub applied_next : (timed : List Timed) (place : ℕ) (plan : Planned) (t : Timed) (h : Events) → planned timed place ≡ plan
    → EachPlaced (reverse timed) → slice_get timed place ≡ Some t → place < length timed → HasApplied plan h
    → Admits (talkers h) t.command × HasApplied (planned timed (place + 1)) (Applies t.command ∷ h)
applied_next timed place plan t h seen placed at within follows =
    let here : HasApplied (planned timed place) h = subst (λ (p : Planned). HasApplied p h) (sym seen) follows in
    let is : get_or timed place t ≡ t = get_or_from_slice_get timed place t t at in
    let more : reverse (take (place + 1) timed) ≡ t ∷ reverse (take place timed) =
    ap reverse (take_more timed place t within ∙ ap (λ (x : Timed). take place timed ++ x ∷ []) is)
    ∙ reverse-append (take place timed) (t ∷ []) in (
      admitted (reverse (take place timed)) t.command h (placed_here timed place t placed at within) here,
      ap (λ (cs : List Command). t.command ∷ cs) here ∙ sym (ap (map (λ (x : Timed). x.command)) more),
    )
