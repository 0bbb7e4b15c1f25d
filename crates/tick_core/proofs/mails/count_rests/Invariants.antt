use Rattle.std.proofs.Common.{◌≡◌, ◌+◌, ◌≤◌, length, drop}
use Rattle.std.specs.List.{flat_map}
use Rattle.book_lists.specs.Mailing.{last_of}
use Rattle.tick_core.proofs.mails.count_rests.Given as goal

-- the first ones are counted
abbrev pub invariant-loop-mail : goal.invariant-loop-mail
invariant-loop-mail l = record {
  few : l.rests ≤ l.mail-index;
  count : l.rests + length (flat_map last_of (drop l.mail-index l.mails)) ≡ length (flat_map last_of l.mails);
}
