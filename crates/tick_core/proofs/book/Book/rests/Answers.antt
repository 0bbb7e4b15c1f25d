use Rattle.std.proofs.Common.{List, length, ap, ◌∙◌}
use Rattle.std.specs.List.{flat_map}
use Rattle.book_lists.specs.declared.mails.Mail.{Mail}
use Rattle.book_lists.specs.Mailing.{last_of}
use Rattle.tick_core.proofs.Twins.{rests-all}
use Rattle.tick_core.proofs.book.Book.rests.Goals as goal

pub returns : goal.returns
returns c = λ core s.
    c.count_rests.ensures ∙ ap (λ (ms : List Mail). length (flat_map last_of ms)) c.deref.ensures.value ∙ ap length (rests-all c.args.self.now core c.requires.collected s)
