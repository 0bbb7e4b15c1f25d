use Rattle.std.proofs.Common.{arith}
use Rattle.session_spec.specs.Events.{feed_of}
use Rattle.desk_run.proofs.Ticked.{may_cut, written-cut}
use Rattle.desk_run.proofs.ticks.begin.Goals as goal

pub cut-requires : goal.cut-requires
cut-requires g c =
    may_cut (λ f n. g.C.Audience.stands c.args.conference.now f n) (λ f n. g.C.Audience.stands c.write_rest.new.conference f n)
    c.args.written.now.ticks c.args.tick c.if-tick-gt0.true c.in_ok-write_rest.ensures.stands c.requires.stands

pub returns-in_ok-write_rest-clause-whole : goal.returns-in_ok-write_rest-clause-whole
returns-in_ok-write_rest-clause-whole g c start h stands closed was =
    let e = c.in_ok-write_rest.ensures in
    let all = e.all in
    written-cut start _ c.write_rest.new.written c.args.tick h (omega arith) (e.whole start (feed_of h) stands closed was)
