use Rattle.rtp_dump.specs.Reading.{IsBegun}
use Rattle.rtp_dump.proofs.tests.read_through.Given as goal

abbrev pub invariant-loop-records : goal.invariant-loop-records
invariant-loop-records g l = IsBegun l.reader
