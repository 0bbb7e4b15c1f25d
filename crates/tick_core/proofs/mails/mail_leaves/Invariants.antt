use Rattle.std.proofs.Common.{◌≡◌, ◌++◌, map, take, drop}
use Rattle.book_lists.specs.Mailing.{mail_goes}
use Rattle.tick_core.proofs.mails.mail_leaves.Given as goal

-- the first ones have gone, and the others are as they were
abbrev pub invariant-loop-mail : goal.invariant-loop-mail
invariant-loop-mail l = l.mails ≡ map (mail_goes l.member l.closed) (take l.mail-index l.fn.mails) ++ drop l.mail-index l.fn.mails
