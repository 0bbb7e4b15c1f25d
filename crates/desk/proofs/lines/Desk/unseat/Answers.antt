use Rattle.std.proofs.Common.{ℕ, rules, ap, ◌∙◌, filter, not, take}
use Rattle.std.specs.Prelude.{◌==◌}
use Rattle.std.proofs.lemmas.Fn.{filter_same}
use Rattle.desk.specs.declared.channel.Channel.{Channel}
use Rattle.desk.specs.Kept.{Kept}
use Rattle.desk.proofs.Members.{sound_filter}
use Rattle.desk.proofs.lines.Desk.unseat.Goals as goal

pub invariant_of-self : goal.invariant_of-self
invariant_of-self c =
    sound_filter c.args.member _ _ _ _ c.self.invariant
    (filter_same _ (λ (x : Channel). not (x.member == c.args.member)) _ (λ x b f' k. search rules) _ _ c.retain.ensures.filtered)
    (c.truncate.ensures.items ∙ ap (λ (n : ℕ). take n c.self.inside.voices.items) (c.len.ensures ∙ c.retain.new.self.ok.0))

pub returns-clause-channels : goal.returns-clause-channels
returns-clause-channels c =
    filter_same _ (λ (x : Channel). not (x.member == c.args.member)) _ (λ x b f' k. search rules) _ _ c.retain.ensures.filtered
    ∙ ap (λ (d : Kept). filter (λ (x : Channel). not (x.member == c.args.member)) d.channels) c.self.view_is
