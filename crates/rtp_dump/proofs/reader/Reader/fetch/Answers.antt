use Rattle.std.proofs.Common.{rules}
use Rattle.rtp_dump.proofs.Held.{ended_answers, ended_holds, held_answers}
use Rattle.rtp_dump.proofs.reader.Reader.fetch.Goals as goal

pub returns-in-Some-clause-answer : goal.returns-in-Some-clause-answer
returns-in-Some-clause-answer g c =
    rw (← c.self.view_is)
    (held_answers _ _ _ _ c.self.inside.held c.in-Some.item (search rules) c.self.invariant.fits c.self.invariant.follows)

pub returns-in-Ended-clause-answer : goal.returns-in-Ended-clause-answer
returns-in-Ended-clause-answer g c =
    rw (← c.self.view_is)
    (ended_answers _ _ _ _ c.self.inside.held (ended_holds c.self.inside.stage c.self.inside.held c.in-Ended.is c.self.invariant.among)
    (c.self.invariant.over c.in-Ended.is))

pub invariant_of-self-in-Ok-None : goal.invariant_of-self-in-Ok-None
invariant_of-self-in-Ok-None g c =
    let nothing = (rw c.in-Ok-None.field-0-is at c.in-Ok-None.ensures).over in record {
      fits = search rules;
      follows = search rules;
      among = search rules;
      over = λ _. nothing;
    }
