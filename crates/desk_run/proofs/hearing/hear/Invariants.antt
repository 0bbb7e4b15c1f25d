use Rattle.std.proofs.Common.{◌≡◌}
use Rattle.session_spec.specs.Talkers.{Events}
use Rattle.session_spec.specs.Events.{after_records}
use Rattle.desk_run.specs.Taking.{IsGoing}
use Rattle.desk_run.proofs.Taken.{Hearing, room_of}
use Rattle.desk_run.proofs.hearing.hear.Given as goal

abbrev pub invariant-records : goal.invariant-records
invariant-records g l = record {
  same_source : l.reader.ghost_name ≡ l.fn.reader.ghost_name;
  going : IsGoing l.reader;
  plan : g.D.DeskSide.plan l.desk ≡ g.D.DeskSide.plan l.fn.desk;
  counts : g.S.Source.faults l.reader.source ≡ g.S.Source.faults l.fn.reader.source;
  heard : Hearing (λ s. g.S.Source.rest s) l.fn.reader l.reader l.end
      (λ items. (h : Events) → g.D.DeskSide.stands l.fn.desk h → g.D.DeskSide.stands l.desk (after_records items h));
}

abbrev pub decreases-records : goal.decreases-records
decreases-records g l = room_of l.reader
