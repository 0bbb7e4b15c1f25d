use Rattle.conference_spec.specs.Codec.{g726}
use Rattle.conference_spec.proofs.Equal.{g726-tells}
use Rattle.conference_spec.proofs.Told.{told}
use Rattle.tick_core.proofs.Twins.{kept-all}
use Rattle.tick_core.proofs.book.Book.holds.Goals as goal

pub returns : goal.returns
returns c = λ core s. told g726 g726-tells core (kept-all c.args.self.now core s)
