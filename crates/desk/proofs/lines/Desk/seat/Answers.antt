use Rattle.std.proofs.Common.{◌≢◌, ℕ, subst, sym}
use Rattle.std.specs.List.{AllByRecursion}
use Rattle.desk.specs.Kept.{Kept, members}
use Rattle.desk.specs.Standing.{IsFree}
use Rattle.desk.proofs.Members.{sound_push, pushed}
use Rattle.desk.proofs.lines.Desk.seat.Goals as goal

pub invariant_of-self-else-is_err : goal.invariant_of-self-else-is_err
invariant_of-self-else-is_err c =
    let free = subst (λ (d : Kept). IsFree c.args.member d.channels) (sym c.self.view_is) c.requires in
    rw (pushed _ _ _ _ c.push-2.ensures.items c.if-is_err.ensures.negation, c.in_ok-push.ensures.items)
    (sound_push _ _ _ _ c.self.invariant (subst (λ (m : ℕ). AllByRecursion (λ n. n ≢ m) (members c.self.inside.channels.items)) (sym c.in_ok-channel.ensures.member) free))
