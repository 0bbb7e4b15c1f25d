use Rattle.conference_spec.specs.Codec.{g726}
use Rattle.conference_spec.specs.Machine.{Core}
use Rattle.conference_spec.specs.Members.{Kept}
use Rattle.conference_spec.proofs.Equal.{g726-tells}
use Rattle.conference_spec.proofs.Twins.{twins-kept}
use Rattle.group_spec.specs.Groups.{groups}
use Rattle.group_spec.proofs.Carrying.{carry, carry-rest}
use Rattle.tick_core.specs.declared.book.Book.{Book}
use Rattle.tick_core.specs.Standing.{Stands}
use Rattle.book_carries.proofs.groups_carry.Goals as goal

kept : (b : Book) (c : Core) → Stands b c → Kept g726 c
kept b c s = twins-kept g726 s.old s.other s.since s.on c s.twins s.is.kept

pub returns : goal.returns
returns c = record {
  always = λ core s. carry g726 g726-tells core (kept c.args.book.now core s);
  at_rest = λ core s idle.
      let k = kept c.args.book.now core s in
      carry-rest g726 g726-tells core k idle (groups g726 core) (carry g726 g726-tells core k);
}
