use Rattle.std.proofs.Common.{List, take, ap, ◌∙◌}
use Rattle.talk_mix.specs.Voices.{Voice}
use Rattle.talk_mix.specs.Choice.{is_ahead, put_by}
use Rattle.talk_mix.proofs.Choosing.{front_more_loud, front_more_quiet, loud_from, quiet_from, chosen_at_end, found_differ}
use Rattle.talk_mix.proofs.choice.choose.Goals as goal
use Rattle.talk_mix.proofs.choice.choose.Goals.{then-level-ge-LEAST_LOUDNESS, else-level-ge-LEAST_LOUDNESS}

pub loop-voice-preserved : goal.loop-voice-preserved
loop-voice-preserved c =
    elim c.if-level-ge-LEAST_LOUDNESS.branch [
      | then-level-ge-LEAST_LOUDNESS w ↦
          rw w.front-is (w.with-front.ensures
          ∙ ap (λ (vs : List Voice). take 3 (put_by is_ahead c.voice-item.result vs)) c.loop-voice.invariant
          ∙ front_more_loud _ _ _ c.requires c.loop-voice-test.true c.voice-item.is (loud_from c.voice-item.result _ c.loudness-level.ensures.value w.if-level-ge-LEAST_LOUDNESS.true))
      | else-level-ge-LEAST_LOUDNESS w ↦
          rw w.front-is (c.loop-voice.invariant ∙ front_more_quiet _ _ _ c.loop-voice-test.true c.voice-item.is (quiet_from c.voice-item.result _ c.loudness-level.ensures.value w.if-level-ge-LEAST_LOUDNESS.false))
    ]

pub tick-requires : goal.tick-requires
tick-requires c = found_differ _ _ _ c.requires c.loop-voice.invariant

pub returns : goal.returns
returns c = record {
  chosen = c.tick.ensures ∙ chosen_at_end _ _ _ c.requires c.loop-voice-test.false c.loop-voice.auto.voice-index-end c.loop-voice.invariant;
}
