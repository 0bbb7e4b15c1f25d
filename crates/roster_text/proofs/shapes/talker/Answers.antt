use Rattle.std.proofs.Common.{sym}
use Rattle.roster_text.proofs.Splitting.{none_longer}
use Rattle.roster_text.proofs.shapes.talker.Goals as goal

pub returns-in-Some-split_field : goal.returns-in-Some-split_field
returns-in-Some-split_field c =
    sym (none_longer c.args.word.now c.in_ok-name.name.now c.in_ok-name.fields.now c.in-Some.pt.now c.in-Some.ssrc.now
    c.in-Some-split_field.field-0.0.now c.in-Some-split_field.field-0.1.now
    c.in_ok-name.ensures c.in-Some.ensures c.in-Some-split_field.ensures)
