use Rattle.std.proofs.lemmas.Result.{err_from_is_err_and}
use Rattle.rtp_dump.proofs.LineTaken.{opening_taken, part_of_file_head, part_of_opening}
use Rattle.rtp_dump.proofs.Taken.{err_same}
use Rattle.rtp_dump.proofs.opening.read_opening.Goals as goal

pub returns-in_err-line-clause-read_taken : goal.returns-in_err-line-clause-read_taken
returns-in_err-line-clause-read_taken g c =
    let p = err_from_is_err_and c.from_residual.result c.from_residual.ensures.1 in
    rw (p.1, p.2) (λ read. part_of_opening _ _ (c.in_err-line.ensures.read_taken (err_same _ _ read)))

pub returns-in_default-clause-read_taken : goal.returns-in_default-clause-read_taken
returns-in_default-clause-read_taken g c = λ _. part_of_file_head _ _ _ _ c.in_ok-line.ensures.taken c.in_default.ensures.failed

pub returns-clause-taken : goal.returns-clause-taken
returns-clause-taken g c =
    opening_taken _ _ _ _ c.in-Ok.got c.read_full.new.buf c.in_ok-line.ensures.taken c.in-Ok.ensures.told c.in-Ok.ensures.octets
    c.if-got-lt-FILE_HEAD_LEN.false
