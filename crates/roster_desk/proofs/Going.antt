-- The commands of a tick, one after the other.
use Rattle.std.proofs.Common.{◌≡◌, ℕ, ◌+◌, ◌≤◌, List, [], ◌∷◌, refl, ap, ◌∙◌, sym, subst, arith, length, drop}
use Rattle.std.specs.Prelude.{nat_lt, filter}
use Rattle.std.proofs.lemmas.Bool.{cond_both}
use Rattle.roster_text.specs.declared.commands.Command.{Command}
use Rattle.roster_text.specs.declared.commands.Timed.{Timed}
use Rattle.conference_spec.specs.Feed.{Feed, closes}
use Rattle.session_spec.specs.Talkers.{Events, Applies, Cuts}
use Rattle.session_spec.specs.Events.{feed_of, begin_of, commands_of, after_commands, begins_with_cut, after_cut}
use Rattle.session_spec.proofs.Following.{commands-closes}
use Rattle.desk.specs.Standing.{Stands}
use Rattle.roster_desk.specs.Applied.{HasApplied}
use Rattle.roster_desk.specs.Left.{Planned, Left, Gives}
use Rattle.roster_desk.specs.declared.serving.RosterDesk.{RosterDesk}
use Rattle.roster_desk.specs.Serving.{Begins, Runs}

-- these commands of a tick are left, and the others of it were applied
pub record Going (R : Feed → Type 0) (d : RosterDesk) (tick : ℕ) (all : List Timed) (h : Events) : Type 0 where
  pub cs : List Timed
  pub now : Events
  pub left : Left d.plan tick cs
  pub applied : HasApplied d.plan now
  pub stands : Stands d.desk now
  pub conference : R (feed_of now)
  pub rest : after_commands cs now ≡ after_commands all h

-- a cut is nothing to the desk and its plan
pub going_start : (R : Feed → Type 0) (d : RosterDesk) (tick : ℕ) (h : Events) → Begins d h → closes (feed_of h) ≡ tick → R (feed_of (after_cut tick h))
    → Going R d tick (commands_of d.plan.timed tick) (after_cut tick h)
going_start R d tick h begins e r =
    let s = begins.stands in
    record {
      cs = commands_of d.plan.timed tick;
      now = after_cut tick h;
      left = subst (λ (k : ℕ). Left d.plan k (commands_of d.plan.timed k)) e begins.left;
      applied = cond_both (begins_with_cut tick) (Cuts ∷ h) h (HasApplied d.plan) (λ t. begins.applied) (λ t. begins.applied);
      stands = cond_both (begins_with_cut tick) (Cuts ∷ h) h (Stands d.desk) (λ t. record { lines = s.lines; count = s.count }) (λ t. s);
      conference = r;
      rest = refl;
    }

-- one more command was handed out and applied
pub going_more : (R R2 : Feed → Type 0) (old new : RosterDesk) (tick : ℕ) (all : List Timed) (h : Events) (c : Command)
    → (going : Going R old tick all h) → Gives new.plan tick going.cs c → HasApplied new.plan (Applies c ∷ going.now)
    → Stands new.desk (Applies c ∷ going.now) → R2 (feed_of (Applies c ∷ going.now)) → Going R2 new tick all h
going_more R R2 old new tick all h c going gives follows stands r = record {
  cs = gives.others;
  now = Applies c ∷ going.now;
  left = gives.left;
  applied = follows;
  stands = stands;
  conference = r;
  rest =
      ap (λ (x : Command). after_commands gives.others (Applies x ∷ going.now)) (sym gives.command_is)
      ∙ ap (λ (l : List Timed). after_commands l going.now) (sym gives.is)
      ∙ going.rest;
}

-- none is left, and the plan stays
pub going_end : (R : Feed → Type 0) (d : RosterDesk) (plan : Planned) (tick : ℕ) (all : List Timed) (h : Events) → plan ≡ d.plan
    → (going : Going R d tick all h) → (going.cs ≡ []) × Left plan (tick + 1) (commands_of d.plan.timed (tick + 1))
    → closes (feed_of h) ≡ tick
    → Runs (record { plan = plan; desk = d.desk }) (after_commands all h) × R (feed_of (after_commands all h))
going_end R d plan tick all h stays going ended e =
    let same : going.now ≡ after_commands all h = ap (λ (l : List Timed). after_commands l going.now) (sym ended.0) ∙ going.rest in
    let count : tick ≡ closes (feed_of (after_commands all h)) = sym (commands-closes all h ∙ e) in
    let left : Left d.plan (tick + 1) (commands_of d.plan.timed (tick + 1)) =
    subst (λ (p : Planned). Left p (tick + 1) (commands_of d.plan.timed (tick + 1))) stays ended.1 in
    let runs : Runs d (after_commands all h) = record {
      stands = subst (Stands d.desk) same going.stands;
      applied = subst (HasApplied d.plan) same going.applied;
      left = subst (λ (k : ℕ). Left d.plan (k + 1) (commands_of d.plan.timed (k + 1))) count left;
    } in (
      subst (λ (p : Planned). Runs (record { plan = p; desk = d.desk }) (after_commands all h)) (sym stays) runs,
      subst (λ (x : Events). R (feed_of x)) same going.conference,
    )

-- the commands of a tick that are left, by the plan alone
abbrev pub left_of : Planned → ℕ → List Timed
left_of plan tick = filter (λ (c : Timed). nat_lt c.at (begin_of (tick + 1))) (drop plan.given plan.timed)

pub left_falls : (old new : Planned) (tick : ℕ) (cs : List Timed) (c : Command) → Left old tick cs → Gives new tick cs c
    → length (left_of new tick) + 1 ≤ length (left_of old tick)
left_falls old new tick cs c left gives =
    let one = ap (λ (l : List Timed). length l) (sym left.due ∙ gives.is) in
    let two = ap (λ (l : List Timed). length l) gives.left.due in
    omega arith
