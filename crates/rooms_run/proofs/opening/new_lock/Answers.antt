use Rattle.std.proofs.Common.{[], sym, ap, ◌∙◌}
use Rattle.conference_spec.specs.Machine.{begun}
use Rattle.tick_core.specs.Locking.{parts_of}
use Rattle.book_seat.proofs.Turning.{fresh_desk}
use Rattle.rooms_run.proofs.opening.new_lock.Goals as goal

pub new-requires-2 : goal.new-requires-2
new-requires-2 c = record { stands = ([], parts_of begun, c.new.ensures.begun) }

pub returns : goal.returns
returns c =
    let r = c.in-Ok.ensures in
    let view = fresh_desk c.new.result _ c.new.ensures.begun r.desk r.seen.0 r.seen.1 in
    record {
      home = r.lock;
      desk = ap (λ v. v.desk) view;
      seen = ap (λ v. v.seen) view;
      out = ap (λ v. v.out) view;
    }
