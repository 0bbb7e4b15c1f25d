use Rattle.roster_desk.proofs.Asking.{told_join, told_leave, left_told}
use Rattle.roster_desk.proofs.telling.tell.Goals as goal

pub join-requires-clause-lawful : goal.join-requires-clause-lawful
join-requires-clause-lawful g c =
    (told_join (λ f n. g.A.Audience.stands c.args.audience.now f n) c.args.command c.in-Join.member c.in-Join.talk c.in-Join.listen c.in-Some.listen c.spec_for.result
    c.in-Join.is c.in-Some.is c.spec_for.ensures c.requires).0

pub join-requires-clause-ticks : goal.join-requires-clause-ticks
join-requires-clause-ticks g c =
    (told_join (λ f n. g.A.Audience.stands c.args.audience.now f n) c.args.command c.in-Join.member c.in-Join.talk c.in-Join.listen c.in-Some.listen c.spec_for.result
    c.in-Join.is c.in-Some.is c.spec_for.ensures c.requires).1

pub join-requires-clause-stands : goal.join-requires-clause-stands
join-requires-clause-stands g c =
    (told_join (λ f n. g.A.Audience.stands c.args.audience.now f n) c.args.command c.in-Join.member c.in-Join.talk c.in-Join.listen c.in-Some.listen c.spec_for.result
    c.in-Join.is c.in-Some.is c.spec_for.ensures c.requires).2

pub leave-requires : goal.leave-requires
leave-requires g c = told_leave (λ f n. g.A.Audience.stands c.args.audience.now f n) c.args.command c.requires

pub returns-in-Leave-clause-stands : goal.returns-in-Leave-clause-stands
returns-in-Leave-clause-stands g c =
    left_told (λ f n. g.A.Audience.stands c.args.audience.now f n) (λ f n. g.A.Audience.stands c.leave.new.self f n) c.args.command c.in-Leave.member c.in-Leave.is c.leave.ensures.stands
