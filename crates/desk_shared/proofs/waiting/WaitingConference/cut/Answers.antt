use Rattle.desk_shared.proofs.Handing.{may-cut, cuts}
use Rattle.desk_shared.proofs.waiting.WaitingConference.cut.Goals as goal

pub cut-requires : goal.cut-requires
cut-requires g c =
    let (h, n, s, all, may) = c.requires in
    let o = s.0 in
    let can = may-cut _ h n all may o in
    record { may_cut = (o.own, o.stands, can.0, can.1, can.2) }

pub returns-clause-stands : goal.returns-clause-stands
returns-clause-stands g c = λ h n s all. (cuts _ _ h n c.cut.ensures.cut s.0, s.1)
