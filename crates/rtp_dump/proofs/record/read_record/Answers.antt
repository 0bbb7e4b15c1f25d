use Rattle.std.proofs.Common.{rules}
use Rattle.rtp_dump.proofs.Taken.{answers_record, ends, err_same, no_head, part_of_head, part_of_octets, torn, whole_record, word_of_head}
use Rattle.rtp_dump.proofs.Held.{nothing_left}
use Rattle.rtp_dump.proofs.record.read_record.Goals as goal

pub returns-in_default-clause-read_taken : goal.returns-in_default-clause-read_taken
returns-in_default-clause-read_taken g c = λ _. part_of_head _ _ c.in_default.ensures.failed

pub returns-then-got-eq0-clause-answer : goal.returns-then-got-eq0-clause-answer
returns-then-got-eq0-clause-answer g c = ends _ _ _ _ c.in-Ok.ensures.told c.if-got-eq0.true

pub returns-in-Err-clause-answer : goal.returns-in-Err-clause-answer
returns-in-Err-clause-answer g c =
    rw c.broken.ensures
    (no_head _ _ _ _ _ _ _ c.args.progress.few c.in-Ok.ensures.told c.in-Ok.ensures.octets c.if-got-eq0.false c.in-Err.ensures.len)

pub item_of-requires : goal.item_of-requires
item_of-requires g c =
    word_of_head _ c.in-Ok.got _ c.read_full.new.buf c.in-Ok-Some.octets (search rules) (search rules) c.in-Ok-octets_len.ensures.len
    (rw c.in-Ok-Some.field-0-is at c.in-Ok-Some.ensures).some.0

pub returns-in-Ok-Some-clause-answer : goal.returns-in-Ok-Some-clause-answer
returns-in-Ok-Some-clause-answer g c =
    answers_record _ _ _ _ _ (search rules) c.item_of.ensures.fits
    (whole_record _ _ _ _ _ _ c.read_full.new.buf c.in-Ok-Some.octets _ (search rules) (search rules)
    c.in-Ok.ensures.octets c.in-Ok-octets_len.ensures.len
    (rw c.in-Ok-Some.field-0-is at c.in-Ok-Some.ensures).some.0 (rw c.in-Ok-Some.field-0-is at c.in-Ok-Some.ensures).some.1
    c.item_of.ensures.spelled)

pub returns-in-Ok-Some-clause-taken : goal.returns-in-Ok-Some-clause-taken
returns-in-Ok-Some-clause-taken g c =
    whole_record _ _ _ _ _ _ c.read_full.new.buf c.in-Ok-Some.octets _ (search rules) (search rules)
    c.in-Ok.ensures.octets c.in-Ok-octets_len.ensures.len
    (rw c.in-Ok-Some.field-0-is at c.in-Ok-Some.ensures).some.0 (rw c.in-Ok-Some.field-0-is at c.in-Ok-Some.ensures).some.1
    c.item_of.ensures.spelled

pub returns-in-Ok-None-clause-answer : goal.returns-in-Ok-None-clause-answer
returns-in-Ok-None-clause-answer g c =
    rw c.broken-in-Ok-None.ensures
    (torn _ _ _ _ _ _ c.read_full.new.buf c.args.progress.few (search rules) (search rules)
    c.in-Ok.ensures.octets c.in-Ok-octets_len.ensures.len
    (rw c.in-Ok-None.field-0-is at c.in-Ok-None.ensures).none)

pub returns-in-Err-read_octets-clause-read_taken : goal.returns-in-Err-read_octets-clause-read_taken
returns-in-Err-read_octets-clause-read_taken g c = λ read.
    part_of_octets _ _ _ _ _ _ c.read_full.new.buf (search rules) (search rules)
    c.in-Ok.ensures.octets c.in-Ok-octets_len.ensures.len
    (c.in-Err-read_octets.ensures.read_taken (err_same _ _ read))

pub returns-then-got-eq0-clause-over : goal.returns-then-got-eq0-clause-over
returns-then-got-eq0-clause-over g c = nothing_left _ _ _ _ c.in-Ok.ensures.told c.if-got-eq0.true c.in-Ok.ensures.octets
