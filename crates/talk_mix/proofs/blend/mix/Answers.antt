use Rattle.talk_mix.proofs.Blending.{mix_none, mix_one, mix_two, mix_three}
use Rattle.talk_mix.proofs.blend.mix.Goals as goal

pub returns-in-Nobody : goal.returns-in-Nobody
returns-in-Nobody c =
    record { mixed = rw (← c.talkers.ensures, c.in-Nobody.is) (mix_none _ c.args.member c.zero-silence.ensures) }

pub returns-in-One : goal.returns-in-One
returns-in-One c =
    record { mixed = rw (← c.talkers.ensures, c.in-One.is) (mix_one c.zero-silence.result c.args.member c.in-One.a _ _ c.zero-silence.ensures c.heard.ensures c.blended.ensures.long c.blended.ensures.samples) }

pub returns-in-Two : goal.returns-in-Two
returns-in-Two c =
    record { mixed = rw (← c.talkers.ensures, c.in-Two.is) (mix_two c.zero-silence.result c.args.member c.in-Two.a c.in-Two.b _ _ _ c.zero-silence.ensures c.heard-in-Two.ensures c.heard-in-Two-2.ensures c.blended-in-Two.ensures.long c.blended-in-Two.ensures.samples) }

pub returns-in-Three : goal.returns-in-Three
returns-in-Three c =
    record { mixed = rw (← c.talkers.ensures, c.in-Three.is) (mix_three c.zero-silence.result c.args.member c.in-Three.a c.in-Three.b c.in-Three.c _ _ _ _ c.zero-silence.ensures c.heard-in-Three.ensures c.heard-in-Three-2.ensures c.heard-in-Three-3.ensures c.blended-in-Three.ensures.long c.blended-in-Three.ensures.samples) }
