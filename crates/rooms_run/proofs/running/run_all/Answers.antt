use Rattle.std.proofs.Common.{◌≡◌, arith}
use Rattle.rooms_run.proofs.Runs.{seats-ready, lent-ready, lent-come, if-ok}
use Rattle.rooms_run.proofs.running.run_all.Goals as goal

pub run_together-requires-clause-seats : goal.run_together-requires-clause-seats
run_together-requires-clause-seats g c κs within =
    seats-ready _ _ c.args.starts.items c.in_ok-seats.seats.items c.as_mut_slice-3.result.now c.as_mut_slice-3.ensures.value
    (omega (arith, c.requires.some, c.args.starts.ok.0)) c.in_ok-seats.ensures.seated

pub close_all-requires-clause-run : goal.close_all-requires-clause-run
close_all-requires-clause-run g c κs within =
    lent-ready (λ q. q.desk) (λ l. l.now) _ c.in_ok-seats.seats.len c.args.starts.items c.in_ok-seats.seats.items c.as_mut_slice-3.result.now c.run_together.new.seats
    c.as_mut_slice-3.ensures.value c.in_ok-seats.seats.ok.0 c.in_ok-seats.ensures.seated c.run_together.ensures.ran

pub returns : goal.returns
returns g c = record {
  comes = if-ok _ _ c.close_all.result
      (λ outcomes come. lent-come (λ q. q.desk) (λ l. l.now) _ c.in_ok-seats.seats.len c.args.starts.items c.in_ok-seats.seats.items c.as_mut_slice-3.result.now c.run_together.new.seats
      outcomes.items c.as_mut_slice-3.ensures.value c.in_ok-seats.seats.ok.0 c.in_ok-seats.ensures.seated c.run_together.ensures.ran come)
      c.close_all.ensures.comes;
}
