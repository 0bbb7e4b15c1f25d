use Rattle.std.proofs.Common.{◌∙◌, List, length, ap}
use Rattle.std.specs.List.{filter}
use Rattle.conference_spec.specs.Codec.{g726}
use Rattle.conference_spec.specs.Machine.{Run, waits}
use Rattle.book_lists.proofs.Claiming.{count-waiting}
use Rattle.tick_core.proofs.book.Book.waiting.Goals as goal

pub returns : goal.returns
returns c = λ core s.
    c.len.ensures
    ∙ count-waiting g726 s.on c.args.self.now.open_ticks.items c.args.self.now.queue.tickets s.is.kept s.is.carries.runs s.is.carries.queue
    ∙ ap (λ (rs : List Run). length (filter (λ (r : Run). waits r.stage) rs)) s.twins.runs
