-- The commands of a tick that are left, one after the other.
use Rattle.std.proofs.Common.{◌≡◌, ℕ, suc, ◌+◌, ◌≤◌, ◌<◌, Bool, true, false, cond, List, [], ◌∷◌, ◌++◌, filter, refl, ap, ◌∙◌, sym, subst, arith, length, get_or, take, drop, add-one, ◌*◌, Some}
use Rattle.std.specs.Prelude.{nat_lt, nat_le, ◌&&◌, slice_get}
use Rattle.std.specs.List.{AllByRecursion}
use Rattle.std.proofs.Math.Seq.{drop-cons}
use Rattle.std.proofs.Math.ListN.{drop_of_length-le}
use Rattle.std.proofs.lemmas.Option.{get_or_from_slice_get}
use Rattle.std.proofs.lemmas.List.{take-append-drop, take_more}
use Rattle.std.proofs.lemmas.List.Elements.{filter-append}
use Rattle.std.proofs.lemmas.Bool.{lt-ltb, le-ltb}
use Rattle.std.proofs.lemmas.Bool.Decides.{nat_tests}
use Rattle.roster_text.specs.declared.commands.Timed.{Timed}
use Rattle.roster_text.specs.Orders.{Rises}
use Rattle.session_spec.specs.Events.{begin_of, commands_of}
use Rattle.roster_desk.specs.Left.{Planned, Left, Gives}
use Rattle.roster_desk.proofs.Rising.{all_push, all_weaker, all_from}

abbrev pub planned : List Timed → ℕ → Planned
planned timed given = record { timed = timed; given = given }

abbrev before : ℕ → List Timed → List Timed
before m ts = filter (λ (c : Timed). nat_lt c.at m) ts

abbrev between : ℕ → ℕ → List Timed → List Timed
between m n ts = filter (λ (c : Timed). nat_le m c.at && nat_lt c.at n) ts

none_before : (m : ℕ) (ts : List Timed) → AllByRecursion (λ u. m ≤ u.at) ts → before m ts ≡ []
none_before m [] late = refl
none_before m (t ∷ ts) late =
    let e : nat_lt t.at m ≡ false = le-ltb t.at m late.0 in
    rw e (none_before m ts late.1)

none_between : (m n : ℕ) (ts : List Timed) → AllByRecursion (λ u. u.at < m) ts → between m n ts ≡ []
none_between m n [] early = refl
none_between m n (t ∷ ts) early =
    let low : t.at < m = early.0 in
    let e : nat_le m t.at ≡ false = grind (arith, nat_tests) in
    rw e (none_between m n ts early.1)

between_late : (m n : ℕ) (ts : List Timed) → AllByRecursion (λ u. m ≤ u.at) ts → between m n ts ≡ before n ts
between_late m n [] late = refl
between_late m n (t ∷ ts) late =
    let high : m ≤ t.at = late.0 in
    let e : nat_le m t.at ≡ true = grind (arith, nat_tests) in
    rw (e, between_late m n ts late.1) refl

next_due : (m n given : ℕ) (timed : List Timed) → AllByRecursion (λ u. u.at < m) (take given timed) → AllByRecursion (λ u. m ≤ u.at) (drop given timed)
    → between m n timed ≡ before n (drop given timed)
next_due m n given timed past late =
    ap (between m n) (sym (take-append-drop given timed))
    ∙ filter-append (λ (c : Timed). nat_le m c.at && nat_lt c.at n) (take given timed) (drop given timed)
    ∙ ap (λ (l : List Timed). l ++ between m n (drop given timed)) (none_between m n (take given timed) past)
    ∙ between_late m n (drop given timed) late

-- no command of the tick is left, and all of the next are
pub left_none : (timed : List Timed) (given tick : ℕ) (cs : List Timed) → Left (planned timed given) tick cs
    → AllByRecursion (λ u. begin_of (tick + 1) ≤ u.at) (drop given timed)
    → (cs ≡ []) × Left (planned timed given) (tick + 1) (commands_of timed (tick + 1))
left_none timed given tick cs left late = (
  left.due ∙ none_before (begin_of (tick + 1)) (drop given timed) late,
  record {
    due = next_due (begin_of (tick + 1)) (begin_of (tick + 1 + 1)) given timed left.past late;
    past = all_weaker (λ c. c.at < begin_of (tick + 1)) (λ c. c.at < begin_of (tick + 1 + 1)) (take given timed) (λ c low. omega arith) left.past;
  },
)

-- the next command is of the tick
pub left_some : (timed : List Timed) (given tick : ℕ) (cs : List Timed) (t : Timed) → Left (planned timed given) tick cs
    → given < length timed → get_or timed given t ≡ t → t.at < begin_of (tick + 1) → Gives (planned timed (given + 1)) tick cs t.command
left_some timed given tick cs t left within is early =
    let m : ℕ = begin_of (tick + 1) in
    let e : nat_lt t.at m ≡ true = lt-ltb t.at m early in
    let rest : List Timed = before m (drop (given + 1) timed) in
    let parted : drop given timed ≡ t ∷ drop (given + 1) timed =
    drop-cons timed given t within ∙ ap (λ (x : Timed). x ∷ drop (suc given) timed) is
    ∙ ap (λ (n : ℕ). t ∷ drop n timed) (sym (add-one given)) in
    record {
      first = t;
      others = rest;
      is = left.due ∙ ap (before m) parted ∙ ap (λ (b : Bool). cond b (t ∷ rest) rest) e;
      command_is = refl;
      left = record {
        due = refl;
        past =
            subst (AllByRecursion (λ c. c.at < m)) (sym (take_more timed given t within ∙ ap (λ (x : Timed). take given timed ++ x ∷ []) is))
            (all_push (λ c. c.at < m) (take given timed) t left.past early);
      };
    }

-- the same, of a plan that is seen so
pub none_ended : (timed : List Timed) (given : ℕ) (plan : Planned) (tick : ℕ) (cs : List Timed) → planned timed given ≡ plan → Left plan tick cs
    → length timed ≤ given → (cs ≡ []) × Left plan (tick + 1) (commands_of plan.timed (tick + 1))
none_ended timed given plan tick cs seen left ended =
    let here : Left (planned timed given) tick cs = subst (λ (p : Planned). Left p tick cs) (sym seen) left in
    let nothing : AllByRecursion (λ u. begin_of (tick + 1) ≤ u.at) (drop given timed) =
    subst (AllByRecursion (λ u. begin_of (tick + 1) ≤ u.at)) (sym (drop_of_length-le timed ended)) tt in
    subst (λ (p : Planned). (cs ≡ []) × Left p (tick + 1) (commands_of p.timed (tick + 1))) seen (left_none timed given tick cs here nothing)

pub none_late : (timed : List Timed) (given : ℕ) (plan : Planned) (tick : ℕ) (cs : List Timed) (t : Timed) → planned timed given ≡ plan → Left plan tick cs
    → Rises timed → slice_get timed given ≡ Some t → given < length timed → 20 * (tick + 1) ≤ t.at
    → (cs ≡ []) × Left plan (tick + 1) (commands_of plan.timed (tick + 1))
none_late timed given plan tick cs t seen left rises at within late =
    let here : Left (planned timed given) tick cs = subst (λ (p : Planned). Left p tick cs) (sym seen) left in
    subst (λ (p : Planned). (cs ≡ []) × Left p (tick + 1) (commands_of p.timed (tick + 1))) seen
    (left_none timed given tick cs here
    (all_from (begin_of (tick + 1)) given timed t rises within (get_or_from_slice_get timed given t t at) late))

pub some_next : (timed : List Timed) (given : ℕ) (plan : Planned) (tick : ℕ) (cs : List Timed) (t : Timed) → planned timed given ≡ plan → Left plan tick cs
    → slice_get timed given ≡ Some t → given < length timed → t.at < 20 * (tick + 1)
    → Gives (planned timed (given + 1)) tick cs t.command
some_next timed given plan tick cs t seen left at within early =
    let here : Left (planned timed given) tick cs = subst (λ (p : Planned). Left p tick cs) (sym seen) left in
    left_some timed given tick cs t here within (get_or_from_slice_get timed given t t at) early
