-- The group that a new listener is let into.
use Rattle.std.proofs.Common.{◌≡◌, ℕ, ◌==◌, ◌&&◌, Bool, true, false, Option, Some, None, refl, sym, ap, ◌∙◌}
use Rattle.std.proofs.lemmas.Bool.{false≢true, eqb-true, and_parts}
use Rattle.g726_bits.specs.declared.Rate.{Rate}
use Rattle.g726_bits.specs.State.{CodecState, start}
use Rattle.g726_bits.specs.contracts.RatePartialEq.TheImpl as rate_eq
use Rattle.conference_spec.proofs.Equal.{rate-decides, state-decides}
use Rattle.enc_group.specs.declared.Group.{Group}
use Rattle.enc_group.specs.Groups.{passes, is_new, is_start}

start-is : (o : Option CodecState) → is_start o ≡ true → o ≡ Some start
start-is None e = absurd (false≢true e)
start-is (Some s) e = ap Some ((state-decides s start).0 e)

pub new-is : (rate : Rate) (tick : ℕ) (o : Option Group) → passes (is_new rate tick) o ≡ true → o ≡ Some (record { rate = rate; tick = tick; state = Some start })
new-is rate tick None e = absurd (false≢true e)
new-is rate tick (Some g) e =
    let both = and_parts ((rate_eq.ghosts).eq g.rate rate && (g.tick == tick)) (is_start g.state) e in
    let first = and_parts ((rate_eq.ghosts).eq g.rate rate) (g.tick == tick) both.0 in
    let r = (rate-decides g.rate rate).0 first.0 in
    let t = eqb-true g.tick tick first.1 in
    let s = start-is g.state both.1 in
    λ i. Some (record { rate = r i; tick = t i; state = s i })
