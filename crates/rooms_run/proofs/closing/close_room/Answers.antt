use Rattle.std.proofs.Common.{◌≡◌, Some, Err, refl, ap, ◌∙◌}
use Rattle.desk_run.specs.declared.stops.Stop.{Stop}
use Rattle.desk_run.specs.declared.stops.Stop.TheVariants as stop
use Rattle.rooms_run.proofs.Comings.{stopped_comes}
use Rattle.rooms_run.proofs.closing.close_room.Goals as goal

pub returns-in-Err-Dump : goal.returns-in-Err-Dump
returns-in-Err-Dump g c = record {
  comes = λ given run.
      let room = c.args.room in
      let inner : c.in-Err-Dump.field-0 ≡ stop.Dump c.in-Err-Dump.at c.in-Err-Dump.kind = rw c.in-Err-Dump.is at c.in-Err-Dump.field-0-is in
      let is : room.end ≡ Err (stop.Dump c.in-Err-Dump.at c.in-Err-Dump.kind) = c.in-Err-Dump.is ∙ ap (λ (s : Stop). Err s) inner in
      stopped_comes given (Some room.dump) room.out.octets room.end room.desk room.conference.desk.view.seen c.in-Err-Dump.at c.in-Err-Dump.kind run.ended is _ refl refl;
}
