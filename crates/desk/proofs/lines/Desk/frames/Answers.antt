use Rattle.std.proofs.Common.{◌∙◌, List, ap, sym, subst, take}
use Rattle.talk_mix.specs.Voices.{Voice}
use Rattle.talk_mix.specs.Choice.{chosen}
use Rattle.session_spec.specs.Talkers.{talkers}
use Rattle.desk.specs.Kept.{Kept, EachOther}
use Rattle.desk.specs.Standing.{Stands}
use Rattle.desk.proofs.Members.{voices_differ}
use Rattle.desk.proofs.Silent.{other_but, chosen_but}
use Rattle.desk.proofs.Turned.{turned_members, turned_stand}
use Rattle.desk.proofs.lines.Desk.frames.Goals as goal

pub choose-requires : goal.choose-requires
choose-requires c =
    let turned = c.pull_all-count.ensures.turned in
    rw c.deref.ensures.value
    (voices_differ _
    (other_but _ _ turned.but (subst EachOther (sym (turned_members _ _ _ turned.each).1) c.self.invariant.differ)))

pub invariant_of-self : goal.invariant_of-self
invariant_of-self c =
    let turned = c.pull_all-count.ensures.turned in
    record { differ = subst EachOther (sym (turned_members _ _ _ turned.each).0) c.self.invariant.differ; room = c.pull_all-count.ensures.room }

pub returns-clause-heard : goal.returns-clause-heard
returns-clause-heard c h stands =
    let here = subst (λ (d : Kept). Stands d h) (sym c.self.view_is) stands in
    let turned = c.pull_all-count.ensures.turned in
    c.choose.ensures.chosen
    ∙ ap (λ (vs : List Voice). chosen (take c.pull_all-count.result vs)) c.deref.ensures.value ∙ chosen_but _ _ turned.but
    ∙ ap chosen (turned_stand _ _ _ (talkers h) turned.each here.lines).1

pub returns-clause-stands : goal.returns-clause-stands
returns-clause-stands c h stands =
    let here = subst (λ (d : Kept). Stands d h) (sym c.self.view_is) stands in
    record { lines = (turned_stand _ _ _ (talkers h) c.pull_all-count.ensures.turned.each here.lines).0; count = here.count }
