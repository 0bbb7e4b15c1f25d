use Rattle.std.proofs.Common.{ap, sym, ◌∙◌}
use Rattle.conference_spec.specs.Codec.{g726}
use Rattle.conference_spec.specs.Feed.{closes, collects}
use Rattle.conference_spec.specs.Tasks.{due}
use Rattle.conference_spec.proofs.Equal.{g726-tells}
use Rattle.conference_spec.proofs.Told.{told}
use Rattle.tick_core.proofs.Twins.{kept-all}
use Rattle.tick_core.proofs.calls.BookDeskCalls.issued.Goals as goal

pub returns-clause-value : goal.returns-clause-value
returns-clause-value c h s all =
    let d = s.core in
    c.issued.ensures d s.stands
    ∙ ((told g726 g726-tells d (kept-all c.args.self.now d s.stands)).counted.at_end (ap collects s.feed ∙ (all ∙ sym (ap closes s.feed))) ∙ ap (due g726) s.feed)
