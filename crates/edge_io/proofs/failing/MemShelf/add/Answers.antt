use Rattle.std.proofs.Common.{◌∷◌}
use Rattle.edge_io.proofs.NamedFiles.{added_is_told, others_stay}
use Rattle.edge_io.proofs.failing.MemShelf.add.Goals as goal

pub returns-clause-told : goal.returns-clause-told
returns-clause-told c =
    let is = c.in_ok-push.ensures.items in
    rw is (added_is_told (c.self.inside.first ∷ c.self.inside.others.items) (record { name = c.args.name; content = c.args.content }) (rw (← c.self.view_is) at c.requires.absent))

pub returns-clause-others : goal.returns-clause-others
returns-clause-others c = λ other apart.
    let is = c.in_ok-push.ensures.items in
    rw (is, ← c.self.view_is) (others_stay (c.self.inside.first ∷ c.self.inside.others.items) (record { name = c.args.name; content = c.args.content }) other apart)
