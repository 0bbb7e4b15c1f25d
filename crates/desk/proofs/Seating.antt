-- Talkers that join and leave.
use Rattle.std.proofs.Common.{◌≡◌, ◌≢◌, ℕ, true, false, cond, not, List, [], ◌∷◌, ◌++◌, filter, ◌∙◌, sym, subst, Some, Ok, Err, OnOk}
use Rattle.std.specs.Prelude.{◌==◌, Option, Result}
use Rattle.std.specs.List.{AllByRecursion}
use Rattle.roster_text.specs.declared.commands.Talk.{Talk}
use Rattle.roster_text.specs.declared.commands.Listen.{Listen}
use Rattle.roster_text.specs.declared.commands.Command.TheVariants.{Join, Leave}
use Rattle.session_spec.specs.Talkers.{Talker, Events, Applies, begins, talkers}
use Rattle.desk.specs.declared.channel.Channel.{Channel}
use Rattle.desk.specs.Channels.{StandsFor, EachStands}
use Rattle.desk.specs.Kept.{Kept, members}
use Rattle.desk.specs.Standing.{Stands, Seats}

pub stands_push : (cs : List Channel) (ts : List Talker) (c : Channel) (t : Talker) → EachStands cs ts → StandsFor c t
    → EachStands (cs ++ c ∷ []) (ts ++ t ∷ [])
stands_push [] [] c t each one = (one, tt)
stands_push [] (u ∷ ts) c t each one = absurd each
stands_push (d ∷ cs) [] c t each one = absurd each
stands_push (d ∷ cs) (u ∷ ts) c t each one = (each.0, stands_push cs ts c t each.1 one)

pub stands_filter : (m : ℕ) (cs : List Channel) (ts : List Talker) → EachStands cs ts
    → EachStands (filter (λ c. not (c.member == m)) cs) (filter (λ t. not (t.member == m)) ts)
stands_filter m [] [] each = tt
stands_filter m [] (t ∷ ts) each = absurd each
stands_filter m (c ∷ cs) [] each = absurd each
stands_filter m (c ∷ cs) (t ∷ ts) each =
    let kept : List Channel = filter (λ (c : Channel). not (c.member == m)) cs in
    let left : List Talker = filter (λ (t : Talker). not (t.member == m)) ts in
    let rest : EachStands kept left = stands_filter m cs ts each.1 in
    let by_member : (n : ℕ) → EachStands (cond (not (n == m)) (c ∷ kept) kept) (cond (not (n == m)) (t ∷ left) left) =
    λ (n : ℕ). elim (not (n == m)) as (λ b. EachStands (cond b (c ∷ kept) kept) (cond b (t ∷ left) left)) [
      | true ↦ (each.0, rest)
      | false ↦ rest
    ] in
    subst (λ (n : ℕ). EachStands (cond (not (n == m)) (c ∷ kept) kept) (cond (not (t.member == m)) (t ∷ left) left)) (sym each.0.member) (by_member t.member)

pub free_channels : (m : ℕ) (cs : List Channel) (ts : List Talker) → EachStands cs ts → AllByRecursion (λ (t : Talker). t.member ≢ m) ts
    → AllByRecursion (λ n. n ≢ m) (members cs)
free_channels m [] [] each free = tt
free_channels m [] (t ∷ ts) each free = absurd each
free_channels m (c ∷ cs) [] each free = absurd each
free_channels m (c ∷ cs) (t ∷ ts) each free = (λ e. free.0 (sym each.0.member ∙ e), free_channels m cs ts each.1 free.1)

pub joined_stands : (old new : Kept) (m : ℕ) (talk : Talk) (listen : Option Listen) (h : Events) → Seats old new m talk → Stands old h
    → Stands new (Applies (Join m (Some talk) listen) ∷ h)
joined_stands old new m talk listen h seats stands = record {
  lines = rw seats.channels (stands_push old.channels (talkers h) seats.channel (begins m talk) stands.lines seats.stands);
  count = seats.refused ∙ stands.count;
}

pub joined_ok : {E : Type 0} (r : Result (Unit {0}) E) (old new : Kept) (m : ℕ) (talk : Talk) (listen : Option Listen) → OnOk r (Seats old new m talk)
    → OnOk r ((h : Events) → Stands old h → Stands new (Applies (Join m (Some talk) listen) ∷ h))
joined_ok (Ok done) old new m talk listen seats = λ h stands. joined_stands old new m talk listen h seats stands
joined_ok (Err e) old new m talk listen seats = tt

pub left_stands : (old new : Kept) (m : ℕ) (h : Events) → new.channels ≡ filter (λ c. not (c.member == m)) old.channels
    → new.refused ≡ old.refused → Stands old h → Stands new (Applies (Leave m) ∷ h)
left_stands old new m h channels refused stands = record {
  lines = rw channels (stands_filter m old.channels (talkers h) stands.lines);
  count = refused ∙ stands.count;
}
