-- The parts are the definition's.
use Rattle.std.proofs.Common.{pos, ◌∙◌, ap, w16, rules}
use Rattle.std.proofs.lemmas.Int.{to_z-of_z}
use mir.Val.{SFits}
use Rattle.g726_bits.specs.Step.{log_level, magnitude, coded_magnitude}
use Rattle.g726_codec.specs.Joined.{joined}
use Rattle.g726_codec.proofs.Parts.{follows}
use Rattle.g726_codec.proofs.steps.move_on.Goals as goal

pub returns-clause-g : goal.returns-clause-g
unfolding coded_magnitude
returns-clause-g c =
    let f1 : SFits w16 c.args.coded.level.dqln = search rules in
    let g_is = simp to_z-of_z at c.antilog-g.ensures.value in
    g_is ∙ (ap (λ l. magnitude l (pos c.args.y)) c.requires.dqln ∙ ap (magnitude (log_level c.args.rate c.args.coded.code)) c.requires.step_size)

pub returns-clause-next : goal.returns-clause-next
returns-clause-next c =
    let f1 : SFits w16 c.args.coded.level.dqln = search rules in
    let f2 : SFits w16 c.args.coded.level.w = search rules in
    let g_is = simp to_z-of_z at c.antilog-g.ensures.value in
    let scale_is = simp to_z-of_z at c.adapt.ensures in
    follows c.args.rate (joined c.args.predictor.now c.args.scale.now) c.args.coded.code c.args.coded.level.neg c.args.coded.level.dqln c.args.coded.level.w c.args.coded.level.f
    c.antilog-g.result c.args.y c.td.result c.transition-tr.result c.adapt-tone.result c.adapt-tone.new.self.state c.adapt.result
    (record {
      neg_is = c.requires.neg;
      dqln_is = c.requires.dqln;
      w_is = c.requires.w;
      f_is = c.requires.f;
      y_is = c.requires.step_size;
      g_is = g_is;
      td_is = c.td.ensures;
      tr_is = c.transition-tr.ensures;
      next_is = c.adapt-tone.ensures.state;
      tone_is = c.adapt-tone.ensures.tone;
      scale_is = scale_is;
    })
