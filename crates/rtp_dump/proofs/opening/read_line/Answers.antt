use Rattle.std.proofs.Common.{arith, rules}
use Rattle.rtp_dump.proofs.LineTaken.{front_more, is_no_dump, late, line_ends, line_long, line_taken, line_torn, line_wrong, part_of_line, stands}
use Rattle.rtp_dump.proofs.opening.read_line.Goals as goal

pub returns-in_default-clause-read_taken : goal.returns-in_default-clause-read_taken
returns-in_default-clause-read_taken g c = λ _. part_of_line _ _ _ _ c.loop-at.invariant.took (search rules) c.in_default.ensures.failed

pub returns-then-got-eq0-clause-answer : goal.returns-then-got-eq0-clause-answer
returns-then-got-eq0-clause-answer g c =
    rw c.not_dump.ensures
    (is_no_dump _ c.loop-at.at
    (line_torn _ _ _ _ c.in-Ok.got c.read_full.new.buf c.loop-at.invariant.took c.in-Ok.ensures.told c.in-Ok.ensures.octets c.if-got-eq0.true c.loop-at-test.true))

pub returns-then-not-may_stand-clause-answer : goal.returns-then-not-may_stand-clause-answer
returns-then-not-may_stand-clause-answer g c =
    rw c.not_dump-then-not-may_stand.ensures
    (is_no_dump _ c.loop-at.at
    (line_wrong _ _ _ _ c.in-Ok.got c.read_full.new.buf c.loop-at.invariant.took c.in-Ok.ensures.told c.in-Ok.ensures.octets c.if-got-eq0.false c.if-not-may_stand.ensures))

pub returns-then-octet-eq10-clause-answer : goal.returns-then-octet-eq10-clause-answer
returns-then-octet-eq10-clause-answer g c =
    line_ends _ _ _ _ c.in-Ok.got c.read_full.new.buf c.loop-at.invariant.took c.in-Ok.ensures.told c.in-Ok.ensures.octets c.if-got-eq0.false c.loop-at-test.true
    (late _ _ c.if-not-may_stand.ensures c.if-octet-eq10.true) c.if-octet-eq10.true

pub returns-then-octet-eq10-clause-taken : goal.returns-then-octet-eq10-clause-taken
returns-then-octet-eq10-clause-taken g c =
    line_taken _ _ _ _ c.in-Ok.got c.read_full.new.buf c.loop-at.invariant.took c.in-Ok.ensures.told c.in-Ok.ensures.octets c.if-got-eq0.false c.loop-at-test.true
    (late _ _ c.if-not-may_stand.ensures c.if-octet-eq10.true) c.if-octet-eq10.true

pub loop-at-preserved : goal.loop-at-preserved
loop-at-preserved g c = record {
  took = front_more _ _ _ _ c.in-Ok.got c.read_full.new.buf c.loop-at.invariant.took c.in-Ok.ensures.told c.in-Ok.ensures.octets c.if-got-eq0.false c.loop-at-test.true
      (stands _ _ c.if-not-may_stand.ensures c.if-octet-eq10.false);
  steady = search rules;
}

pub returns-clause-answer : goal.returns-clause-answer
returns-clause-answer g c =
    rw c.not_dump-2.ensures (is_no_dump _ 1023 (line_long _ _ c.loop-at.at (omega arith) c.loop-at.invariant.took))
