use Rattle.std.proofs.Common.{refl, arith}
use Rattle.conference_spec.specs.declared.Entry.TheVariants.{End}
use Rattle.conference_spec.specs.Machine.{Enters}
use Rattle.tick_core.specs.declared.book.Book.{Book}
use Rattle.tick_core.proofs.Keeping.{end-stands}
use Rattle.tick_core.proofs.Twins.{stands-next}
use Rattle.tick_core.proofs.book.Book.end.Goals as goal

pub returns : goal.returns
returns c =
    let b = c.args.self.now in
    let b' : Book = record b { log = c.end.new.self } in
    record {
      end = λ core s. stands-next b b' core (Enters End) s
          (end-stands b b' s.on c.end.ensures.feed c.end.ensures.room refl refl
          (record { open' = refl; rooms = refl; tickets = refl; issued = refl; room = omega arith; stays = refl; spare = omega arith }) s.is);
    }
