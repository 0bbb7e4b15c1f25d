use Rattle.std.proofs.Common.{length, ◌∙◌, sym, ap}
use Rattle.triple_table.proofs.Places.{length-rows}
use Rattle.triple_table.proofs.Table.len.Goals as goal

pub returns : goal.returns
returns c =
    let fits = c.self.invariant in
    c.len.ensures ∙ fits.slots_len ∙ sym (length-rows c.self.inside.triples.keys c.self.inside.slots.items fits.pairs) ∙ ap (λ v. length v.rows) c.self.view_is
