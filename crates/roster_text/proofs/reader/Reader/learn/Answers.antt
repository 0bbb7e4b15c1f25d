use Rattle.std.proofs.Common.{refl}
use Rattle.roster_text.proofs.Readers.{stands_pushed}
use Rattle.roster_text.proofs.reader.Reader.learn.Goals as goal

pub returns-in_ok-push-in-Says-clause-stands : goal.returns-in_ok-push-in-Says-clause-stands
returns-in_ok-push-in-Says-clause-stands c =
    stands_pushed c.args.self.now _ c.args.entry c.in-Says.timed c.requires.stands c.requires.placed c.in-Says.is
    c.in_ok-apply-in-Says.ensures c.in_ok-push-in-Says.ensures.items refl refl
