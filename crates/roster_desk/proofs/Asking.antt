-- What a roster's commands ask of a conference.
use Rattle.std.proofs.Common.{◌≡◌, ℕ, ◌<◌, ◌≤◌, Bool, true, false, cond, List, [], ◌∷◌, ◌++◌, zero, suc, length, get_or, subst, sym, ap, ◌∙◌, arith, Option, Some, None, refl}
use Rattle.std.specs.Prelude.{reverse, take, slice_get}
use Rattle.std.specs.List.{AllByRecursion}
use Rattle.std.proofs.lemmas.Option.{get_or_from_slice_get}
use Rattle.roster_text.specs.declared.commands.Command.{Command}
use Rattle.roster_text.specs.declared.commands.Command.TheVariants.{Join, Leave}
use Rattle.roster_text.specs.declared.commands.Talk.{Talk}
use Rattle.roster_text.specs.declared.commands.Listen.{Listen}
use Rattle.roster_text.specs.declared.commands.Timed.{Timed}
use Rattle.roster_text.specs.Places.{misplaced}
use Rattle.roster_text.specs.Roster.{Told, IsRoster}
use Rattle.roster_text.specs.Ranges.{IsBundle, IsInRange}
use Rattle.roster_text.proofs.Ordering.{roster_in_order, roster_in_range}
use Rattle.conference_spec.specs.declared.Entry.TheVariants as enter
use Rattle.conference_spec.specs.Codec.{g726}
use Rattle.conference_spec.specs.declared.JoinSpec.{JoinSpec}
use Rattle.conference_spec.specs.Feed.{Feed, ended, may_follow}
use Rattle.session_spec.specs.Talkers.{Events, Applies}
use Rattle.session_spec.specs.Events.{feed_of, listens, spec_of}
use Rattle.session_spec.proofs.Following.{listens-is, never-ended}
use Rattle.desk_run.specs.Handing.{leaving}
use Rattle.roster_desk.specs.Applied.{Follow, HasApplied, MayListen}
use Rattle.roster_desk.specs.Left.{Planned}
use Rattle.roster_desk.proofs.Feeding.{may_join}
use Rattle.roster_desk.proofs.Leaving.{planned}
use Rattle.roster_desk.proofs.Talking.{placed_here}

asked : (past : List Timed) (c : Command) (h : Events) → misplaced past c ≡ None → Follow h past → IsInRange c → MayListen h c
asked past (Join m talk None) h none follow fits = tt
asked past (Join m talk (Some listen)) h none follow (talks, (own, bundle)) =
    (own.1, bundle, may_join g726 m talk listen h past none follow)
asked past (Leave m) h none follow fits = tt

at_place : (P : Timed → Type 0) (ts : List Timed) (place : ℕ) (t : Timed) → AllByRecursion P ts → place < length ts → P (get_or ts place t)
at_place P [] place t all within = absurd (omega arith)
at_place P (u ∷ ts) zero t all within = all.0
at_place P (u ∷ ts) (suc place) t all within = at_place P ts place t all.1 (omega arith)

-- a listener that a roster's plan lets join may join the conference
pub may_listen : (told : Told) (place : ℕ) (plan : Planned) (t : Timed) (h : Events) → planned told.timed place ≡ plan → IsRoster told
    → slice_get told.timed place ≡ Some t → place < length told.timed → HasApplied plan h → MayListen h t.command
may_listen told place plan t h seen spelled at within follows =
    let here : HasApplied (planned told.timed place) h = subst (λ (p : Planned). HasApplied p h) (sym seen) follows in
    let fits : IsInRange t.command =
    subst (λ (x : Timed). IsInRange x.command) (get_or_from_slice_get told.timed place t t at)
    (at_place (λ x. IsInRange x.command) told.timed place t (roster_in_range told spelled) within) in
    asked (reverse (take place told.timed)) t.command h (placed_here told.timed place t (roster_in_order told spelled).placed at within) here fits

goes-on : (b : Bool) (m : ℕ) (f : Feed) → cond b (enter.Leave m ∷ f) f ≡ cond b (enter.Leave m ∷ []) [] ++ f
goes-on true m f = refl
goes-on false m f = refl

-- where a member goes, the session's feed goes on as the conference's does
left_feed : (m : ℕ) (h : Events) → leaving m (feed_of h) ≡ feed_of (Applies (Leave m) ∷ h)
left_feed m h =
    let f = feed_of h in
    ap (λ (b : Bool). cond b (enter.Leave m ∷ f) f) (sym (listens-is g726 m h)) ∙ goes-on (listens m h) m f

-- what a conference may be told of a command
pub told_join : (R : Feed → ℕ → Type 0) (c : Command) (m : ℕ) (talk : Option Talk) (o : Option Listen) (listen : Listen) (spec : JoinSpec)
    → c ≡ Join m talk o → o ≡ Some listen → spec ≡ spec_of m listen → (h : Events) × (n : ℕ) × MayListen h c × R (feed_of h) n
    → (spec.pt ≤ 127) × IsBundle spec.ticks × ((f : Feed) × (n : ℕ) × R f n × (may_follow g726 f (enter.Join spec) ≡ true))
told_join R c m talk o listen spec is_join listens_so is_spec (h, n, may, r) =
    let is : c ≡ Join m talk (Some listen) = is_join ∙ ap (Join m talk) listens_so in
    let here : MayListen h (Join m talk (Some listen)) = subst (MayListen h) is may in (
      subst (λ (s : JoinSpec). s.pt ≤ 127) (sym is_spec) here.0,
      subst (λ (s : JoinSpec). IsBundle s.ticks) (sym is_spec) here.1,
      (feed_of h, n, r, subst (λ (s : JoinSpec). may_follow g726 (feed_of h) (enter.Join s) ≡ true) (sym is_spec) here.2),
    )

pub told_leave : (R : Feed → ℕ → Type 0) (c : Command) → (h : Events) × (n : ℕ) × MayListen h c × R (feed_of h) n
    → (f : Feed) × (n : ℕ) × R f n × (ended f ≡ false)
told_leave R c (h, n, may, r) = (feed_of h, n, r, never-ended h)

pub left_told : (R S : Feed → ℕ → Type 0) (c : Command) (m : ℕ) → c ≡ Leave m → ((f : Feed) (n : ℕ) → R f n → S (leaving m f) n)
    → (h : Events) (n : ℕ) → R (feed_of h) n → S (feed_of (Applies c ∷ h)) n
left_told R S c m is step h n r =
    let Q : Command → Type 0 = λ x. S (feed_of (Applies x ∷ h)) n in
    let P : Feed → Type 0 = λ f. S f n in
    subst Q (sym is) (subst P (left_feed m h) (step (feed_of h) n r))
