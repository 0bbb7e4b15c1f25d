use Rattle.std.proofs.Common.{◌≡◌, ◌+◌, ◌≤◌, ◌++◌, drop, length}
use Rattle.std.specs.Prelude.{vec_len, vec_capacity}
use Rattle.book_lists.specs.Mailing.{stays_kept}
use Rattle.tick_core.proofs.mails.keep_stays.Given as goal

abbrev pub invariant-loop-mail : goal.invariant-loop-mail
invariant-loop-mail l = record {
  room : vec_len l.stays + length (drop l.mail-index l.mails) ≤ vec_capacity l.stays;
  items : l.stays.items ++ stays_kept l.closed (drop l.mail-index l.mails) ≡ l.initial.stays.items ++ stays_kept l.closed l.mails;
  capacity : vec_capacity l.stays ≡ vec_capacity l.initial.stays;
}
