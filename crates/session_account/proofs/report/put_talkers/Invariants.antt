use Rattle.std.proofs.Common.{◌≡◌, ◌++◌, take, map}
use Rattle.std.specs.Prelude.{codes}
use Rattle.session_account.specs.Forms.{rows_text}
use Rattle.session_account.specs.Document.{talker_row}
use Rattle.session_account.proofs.report.put_talkers.Given as goal

abbrev pub invariant-loop-i : goal.invariant-loop-i
invariant-loop-i l = l.text.items ≡ l.initial.text.items ++ rows_text l.form (codes "talker") (map talker_row (take l.i l.voices.talkers))
