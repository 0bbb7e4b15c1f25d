use Rattle.std.proofs.Common.{◌≡◌, ◌<◌, length, drop}
use Rattle.std.specs.Prelude.{slice_get}
use Rattle.std.specs.List.{flat_map}
use Rattle.book_lists.specs.Mailing.{last_of}
use Rattle.tick_core.proofs.mails.rest_at.Given as goal

-- the packet is still ahead, at this place
abbrev pub invariant-loop-mail : goal.invariant-loop-mail
invariant-loop-mail l = record {
  ahead : l.before < length (flat_map last_of (drop l.mail-index l.mails));
  there : slice_get (flat_map last_of l.mails) l.i ≡ slice_get (flat_map last_of (drop l.mail-index l.mails)) l.before;
}
