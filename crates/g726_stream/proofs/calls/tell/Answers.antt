-- The whole of a text is a front of it.
use Rattle.std.proofs.Common.{ℕ, List, subst}
use Rattle.edge_io.specs.Told.{Grows}
use Rattle.g726_stream.proofs.Growing.{front_of_whole}
use Rattle.g726_stream.proofs.calls.tell.Goals as goal

pub returns-in-Ok-clause-front : goal.returns-in-Ok-clause-front
returns-in-Ok-clause-front g c =
    let old = g.K.Sink.held c.args.out.now in
    let new = g.K.Sink.held c.write_all.new.sink in
    front_of_whole old new c.args.text.now (subst (λ (p : List ℕ). Grows old new p) c.as_bytes.ensures.value
    c.in-Ok.ensures.whole)
