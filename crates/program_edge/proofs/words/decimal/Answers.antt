use Rattle.std.proofs.Common.{◌≡◌, true, arith, rules}
use Rattle.program_edge.specs.Words.{begins_above_zero}
use Rattle.program_edge.proofs.Decimals.{read_number, read_over, read_none}
use Rattle.program_edge.proofs.words.decimal.Goals as goal

pub returns-in-Ok-clause-value : goal.returns-in-Ok-clause-value
returns-in-Ok-clause-value c =
    let above : begins_above_zero c.args.word.now ≡ true = search rules in
    (read_number c.args.greatest c.in-Ok.number c.args.word.now _ (omega arith) above c.parse.ensures.value.0 c.in-Ok.is c.if-number-greatest.true).0

pub returns-in-Ok-clause-bound : goal.returns-in-Ok-clause-bound
returns-in-Ok-clause-bound c =
    let above : begins_above_zero c.args.word.now ≡ true = search rules in
    ((read_number c.args.greatest c.in-Ok.number c.args.word.now _ (omega arith) above c.parse.ensures.value.0 c.in-Ok.is c.if-number-greatest.true).1, c.if-number-greatest.true)

pub returns-in_default-clause-value : goal.returns-in_default-clause-value
returns-in_default-clause-value c =
    let above : begins_above_zero c.args.word.now ≡ true = search rules in
    read_over c.args.greatest c.in-Ok.number c.args.word.now _ above c.parse.ensures.value.0 c.in-Ok.is c.if-number-greatest.false

pub returns-in_default-2-clause-value : goal.returns-in_default-2-clause-value
returns-in_default-2-clause-value c =
    let above : begins_above_zero c.args.word.now ≡ true = search rules in
    read_none c.args.greatest c.args.word.now _ c.in_default.field-0 (omega arith) above c.parse.ensures.value.0 c.in_default.is
