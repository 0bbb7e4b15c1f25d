-- Who is missing from some command on.
use Rattle.std.proofs.Common.{◌≡◌, ◌∙◌, ℕ, zero, suc, ◌+◌, List, [], ◌∷◌, drop, sym, ap, add-one}
use Rattle.std.specs.Prelude.{Option, Some, slice_get}
use Rattle.std.specs.Option.{option_or}
use Rattle.roster_text.specs.declared.commands.Timed.{Timed}
use Rattle.udp_edge.specs.declared.peer.Peer.{Peer}
use Rattle.live_serve.specs.Asked.{missing_at, first_missing}

drop-at : (plan : List Timed) (i : ℕ) (c : Timed) → slice_get plan i ≡ Some c → drop i plan ≡ c ∷ drop (suc i) plan
drop-at [] i c e = absurd (cc)
drop-at (x ∷ plan) zero c e = cc
drop-at (x ∷ plan) (suc i) c e = drop-at plan i c e

-- the command at this place, or one after it
pub missing-from : (known : ℕ → Option Peer) (plan : List Timed) (i : ℕ) (c : Timed) (m : Option ℕ) → slice_get plan i ≡ Some c → m ≡ missing_at known c.command
    → first_missing known plan ≡ first_missing known (drop i plan)
    → first_missing known plan ≡ option_or m (first_missing known (drop (i + 1) plan))
missing-from known plan i c m at is so_far =
    so_far ∙ ap (first_missing known) (drop-at plan i c at) ∙ ap (λ (o : Option ℕ). option_or o (first_missing known (drop (suc i) plan))) (sym is)
    ∙ ap (λ (n : ℕ). option_or m (first_missing known (drop n plan))) (sym (add-one i))
