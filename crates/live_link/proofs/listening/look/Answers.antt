use Rattle.std.proofs.Common.{◌∷◌, [], take, arith}
use Rattle.live_link.proofs.Hearing.{found}
use Rattle.live_link.proofs.listening.look.Goals as goal

pub returns-then-got-gt0-clause-heard : goal.returns-then-got-gt0-clause-heard
returns-then-got-gt0-clause-heard g c = record {
  ds = take c.in-Ok-Some.got.len c.recv.new.buf ∷ [];
  few = omega arith;
  finds = found _ _ c.in-Ok-Some.field-0 c.in-Ok-Some.got _ c.recv.new.buf c.in-Ok-Some.field-0-is c.requires.room c.if-got-gt0.true c.in-Ok-Some.ensures.traffic;
  counted = c.hear.ensures.counted;
  here = c.hear.ensures.stands;
}
