use Rattle.enc_group.proofs.Entering.{key-there}
use Rattle.enc_group.proofs.groups.Groups.key_of.Goals as goal

pub returns-clause-there : goal.returns-clause-there
returns-clause-there c = rw (c.key_of.ensures, c.as_slice.ensures.value, ← c.self.view_is) (key-there _ _ _ c.self.invariant.people.seated)

pub returns-clause-once : goal.returns-clause-once
returns-clause-once c = rw (← c.self.view_is) c.self.invariant.people.once
