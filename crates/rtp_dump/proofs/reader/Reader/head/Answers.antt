use Rattle.std.proofs.Common.{ap, ◌∙◌}
use Rattle.rtp_dump.proofs.Follows.{opening_ahead}
use Rattle.rtp_dump.proofs.Held.{fresh_holds}
use Rattle.rtp_dump.proofs.reader.Reader.head.Goals as goal

pub returns-in-Ok-clause-taken : goal.returns-in-Ok-clause-taken
returns-in-Ok-clause-taken g c =
    rw (← c.self.view_is)
    (opening_ahead _ _ c.in-Ok.place _ _ c.self.inside.held c.start-self-inside.ensures.place c.start-self-inside.ensures.records
    (fresh_holds c.self.inside.stage c.self.inside.held (ap (λ r. r.stage) c.self.view_is ∙ c.requires) c.self.invariant.among) c.in-Ok.ensures.taken)
