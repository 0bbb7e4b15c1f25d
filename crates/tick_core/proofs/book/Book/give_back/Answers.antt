use Rattle.std.proofs.Common.{sym, ◌∙◌, rules}
use Rattle.conference_spec.specs.Machine.{GiveBack}
use Rattle.tick_core.specs.Steps.{IsOutThere}
use Rattle.tick_core.proofs.Staging.{out-of}
use Rattle.tick_core.proofs.Twins.{held-all, stands-next}
use Rattle.tick_core.proofs.book.Book.give_back.Goals as goal

pub returns : goal.returns
returns c =
    let b = c.args.self.now in
    let d = c.args.job in
    let o : IsOutThere b d c.in-Some.place c.in-Some.at = search rules in
    record {
      gives_back = λ core s. (
        sym (held-all b core s d.number d.task) ∙ (out-of b s.on d c.in-Some.place c.in-Some.at s.is o).held,
        stands-next b _ core (GiveBack d.number d.task) s (c.wait_again.ensures.waits s.on s.is),
      );
    }
