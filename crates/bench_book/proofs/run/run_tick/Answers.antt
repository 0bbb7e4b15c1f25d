use Rattle.std.proofs.Common.{length, arith, ◌∙◌}
use Rattle.conference_spec.specs.declared.Entry.TheVariants.{Close}
use Rattle.conference_spec.specs.Machine.{Core}
use Rattle.tick_core.specs.Standing.{Stands}
use Rattle.bench_book.specs.Ticks.{IsSettled}
use Rattle.tick_core.proofs.Knowing.{takes-known}
use Rattle.bench_book.proofs.Steps.{keeps-known, tick-done, few-listen}
use Rattle.bench_book.proofs.run.run_tick.Goals as goal
use Rattle.bench_book.proofs.Steps.{TickDone}

pub run_waiting-requires : goal.run_waiting-requires
run_waiting-requires c =
    let s = c.requires.settled in
    record { stands = takes-known c.args.book.now c.close.new.self (Close c.speech.result) (s.0, s.1) c.in_ok-close.ensures.ok }

pub collect-requires : goal.collect-requires
collect-requires c =
    let s = c.requires.settled in
    let known = takes-known c.args.book.now c.close.new.self (Close c.speech.result) (s.0, s.1) c.in_ok-close.ensures.ok in
    record { stands = keeps-known c.close.new.self c.run_waiting.new.book known c.in_ok-run_waiting.ensures.runs }

done : (c : goal.After-drop-packets-inside) (k : Core) → Stands c.args.book.now k → IsSettled k
    → TickDone (length c.in_ok-packets.packets.packets) c.collect.new.self k
done c = tick-done c.args.book.now c.close.new.self c.run_waiting.new.book c.collect.new.self c.speech.result c.in_ok-packets.packets
    c.in_ok-close.ensures.ok c.in_ok-run_waiting.ensures.runs c.in_ok-packets.ensures.collects

pub returns-clause-tick : goal.returns-clause-tick
returns-clause-tick c = λ k s u. let d = done c k s u in (d.core, d.stands, d.grows)

pub returns-clause-packets : goal.returns-clause-packets
returns-clause-packets c = λ k s u. c.len.ensures ∙ (done c k s u).packets

pub returns-clause-few : goal.returns-clause-few
returns-clause-few c =
    let s = c.requires.settled in
    let n = c.len.ensures ∙ (done c s.0 s.1 s.2).packets in
    let few = few-listen s.0 (c.holds.ensures s.0 s.1) in
    omega (arith, n, few)
