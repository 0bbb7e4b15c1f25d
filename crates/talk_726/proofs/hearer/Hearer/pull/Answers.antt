use Rattle.std.proofs.Common.{◌∙◌, sym, subst, ◌∷◌}
use Rattle.std.specs.List.{All}
use Rattle.jitter_line.specs.Histories.{Pulls}
use Rattle.talk_726.specs.Kept.{IsPlace}
use Rattle.talk_726.proofs.Hearing.{said-places}
use Rattle.talk_726.proofs.hearer.Hearer.pull.Goals as goal

pub say-self-inside-requires : goal.say-self-inside-requires
say-self-inside-requires c =
    let kept = c.self.invariant in
    subst (All (IsPlace c.self.inside.rate)) (sym (c.samples.ensures.value ∙ c.pull-places.ensures.said kept.history kept.stands))
    (said-places c.self.inside.rate kept.history kept.codes)

pub invariant_of-self : goal.invariant_of-self
invariant_of-self c =
    let kept = c.self.invariant in
    record { history = Pulls ∷ kept.history; stands = c.pull-places.ensures.stands kept.history kept.stands; codes = kept.codes }
