use Rattle.std.proofs.Common.{◌∙◌, ap, arith, take_all}
use Rattle.std.specs.Prelude.{if◌then◌else◌}
use Rattle.std.proofs.lemmas.List.Sums.{sum_by_more}
use Rattle.g726_bits.specs.declared.Rate.TheVariants.{R16}
use Rattle.session_account.specs.declared.visits.Listener.{Listener}
use Rattle.session_account.specs.Encoding.{is_rate, packets_at}
use Rattle.session_account.proofs.report.packets_of.Goals as goal

pub loop-i-preserved : goal.loop-i-preserved
loop-i-preserved c =
    let none : Listener = record { member = 0; rate = R16; ticks = 0; packets = 0 } in
    let more = sum_by_more (λ (l : Listener). if is_rate c.args.rate l.rate then l.packets else 0) c.args.listeners.now c.loop-i.i none (omega arith) in
    omega (arith, more, c.loop-i.invariant, c.packets_if.ensures, c.in_ok-more.ensures)

pub returns : goal.returns
returns c = c.loop-i.invariant ∙ ap (packets_at c.args.rate) (take_all c.loop-i.i c.args.listeners.now (omega arith))
