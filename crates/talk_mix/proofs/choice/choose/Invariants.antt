use Rattle.std.proofs.Common.{◌≡◌, take}
use Rattle.talk_mix.specs.Fronts.{front_of}
use Rattle.talk_mix.proofs.Choosing.{front}
use Rattle.talk_mix.proofs.choice.choose.Given as goal

abbrev pub invariant-loop-voice : goal.invariant-loop-voice
invariant-loop-voice l = front_of l.front ≡ front (take l.voice-index l.frames)
