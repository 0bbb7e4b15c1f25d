use Rattle.std.proofs.Common.{◌≡◌, false, sym, ◌∙◌, rules}
use Rattle.conference_spec.specs.declared.Entry.TheVariants.{Collect}
use Rattle.conference_spec.specs.Codec.{g726}
use Rattle.conference_spec.specs.Machine.{Core, accepts}
use Rattle.conference_spec.proofs.Twins.{twins-accept}
use Rattle.tick_core.specs.Standing.{StandsOn}
use Rattle.tick_core.proofs.Twins.{collects-all}
use Rattle.tick_core.proofs.book.Book.collect.Goals as goal

pub returns-then-not-can_collect : goal.returns-then-not-can_collect
returns-then-not-can_collect c =
    let b = c.args.self.now in
    let not_yet : (d : Core) → StandsOn b d → accepts g726 d Collect ≡ false = search rules in
    record { collects = λ core s. (sym (twins-accept g726 s.old s.other s.since s.on core s.twins Collect) ∙ not_yet s.on s.is, s) }

pub returns : goal.returns
returns c = record { collects = collects-all c.args.self.now _ c.hand_out.result c.hand_out.ensures }
