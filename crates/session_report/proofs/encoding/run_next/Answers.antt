use Rattle.std.proofs.Common.{◌≡◌, true, ◌∙◌, ap, subst, sym}
use Rattle.std.proofs.lemmas.Bool.{cond-true, both_ways}
use Rattle.conference_spec.specs.declared.Stage.TheVariants.{Out, Finished}
use Rattle.conference_spec.specs.Codec.{g726}
use Rattle.conference_spec.specs.Machine.{Core, Claim, Publish, next, claimed, holds_out, with_reached, with_stage}
use Rattle.tick_core.specs.Held.{Held}
use Rattle.tick_core.specs.Standing.{Stands}
use Rattle.desk_run.proofs.BookTwins.{numbers-rise}
use Rattle.desk_run.proofs.BookTurns.{claim-gives, claimed-out}
use Rattle.g726_bits.specs.declared.Rate.{Rate}
use Rattle.session_report.specs.Encoding.{HasMade}
use Rattle.session_report.proofs.Counting.{turn-counted}
use Rattle.session_report.proofs.encoding.run_next.Goals as goal

pub unreachable-requires : goal.unreachable-requires
unreachable-requires c =
    let r = c.requires in
    claim-gives c.claim.result c.claim.new.self r.0 r.3 (c.claim.ensures.claims r.0 r.1) c.in_default.not-Job

pub publish-requires : goal.publish-requires
publish-requires c =
    let r = c.requires in
    let k = c.in-Job.ensures.claims r.0 r.1 in
    record { stands = (next g726 r.0 Claim, k.3) }

pub unreachable-requires-in_default-publish : goal.unreachable-requires-in_default-publish
unreachable-requires-in_default-publish c =
    let r = c.requires in
    let k = c.in-Job.ensures.claims r.0 r.1 in
    let core : Core = with_stage r.0 k.0.number Out in
    let st : Stands c.claim.new.self core = subst (λ (x : Core). Stands c.claim.new.self x) (ap (claimed r.0) k.1) k.3 in
    let q = c.in_default-publish.ensures.publishes core st in
    let e : c.run.result ≡ record { number = k.0.number; task = k.0.task } = c.run.ensures ∙ k.2 in
    let out : holds_out g726 core.runs c.run.result.number c.run.result.task ≡ true =
    ap (λ (d : Held). holds_out g726 core.runs d.number d.task) e ∙ claimed-out r.0.runs k.0 k.1 in
    both_ways (holds_out g726 core.runs c.run.result.number c.run.result.task) q.0 out

pub returns : goal.returns
returns c = λ c' st w.
    let k = c.in-Job.ensures.claims c' st in
    let b = c.claim.new.self in
    let new = c.publish.new.self in
    let n = k.0.number in
    let core : Core = with_stage c' n Out in
    let st' : Stands b core = subst (λ (x : Core). Stands b x) (ap (claimed c') k.1) k.3 in
    let q = c.in-Ok.ensures.publishes core st' in
    let d = c.run.result in
    let e : d ≡ record { number = n; task = k.0.task } = c.run.ensures ∙ k.2 in
    let made : next g726 core (Publish d.number d.task) ≡ with_reached g726 (with_stage core d.number Finished) =
    cond-true (holds_out g726 core.runs d.number d.task) (with_reached g726 (with_stage core d.number Finished)) core q.0 in
    let same : with_reached g726 (with_stage core d.number Finished) ≡ with_reached g726 (with_stage core n Finished) =
    ap (λ (x : Held). with_reached g726 (with_stage core x.number Finished)) e in
    let rate : c.rate-rate.result ≡ k.0.task.triple.rate = c.rate-rate.ensures ∙ ap (λ (x : Held). x.task.triple.rate) k.2 in
    subst (λ (r : Rate). HasMade r c' new) (sym rate)
    (turn-counted new c' k.0 (numbers-rise c.args.book.now c' st) w k.1 (subst (λ (x : Core). Stands new x) (made ∙ same) q.1))
