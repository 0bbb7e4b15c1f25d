use Rattle.std.proofs.Common.{◌≡◌, ◌++◌, take, map}
use Rattle.std.specs.Prelude.{codes}
use Rattle.session_account.specs.Forms.{rows_text}
use Rattle.session_account.specs.Document.{stream_row}
use Rattle.session_account.proofs.report.put_streams.Given as goal

abbrev pub invariant-loop-i : goal.invariant-loop-i
invariant-loop-i l = l.text.items ≡ l.initial.text.items ++ rows_text l.form (codes "stream") (map stream_row (take l.i l.streams.streams))
