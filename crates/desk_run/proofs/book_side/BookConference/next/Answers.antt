use Rattle.std.proofs.Common.{arith}
use Rattle.desk_run.proofs.book_side.BookConference.next.Goals as goal

pub returns-clause-there : goal.returns-clause-there
returns-clause-there c = λ h n stands fewer. let all = stands.1 in absurd (omega arith)

pub returns-clause-stands : goal.returns-clause-stands
returns-clause-stands c = λ h n stands fewer. let all = stands.1 in absurd (omega arith)
