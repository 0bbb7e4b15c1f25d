use Rattle.std.proofs.Common.{◌≡◌, take}
use Rattle.talk_mix.specs.Mix.{others}
use Rattle.tick_core.proofs.mixes.is_heard.Given as goal

-- the first voices aren't the member's
abbrev pub invariant-loop-i : goal.invariant-loop-i
invariant-loop-i l = others l.member (take l.i l.talkers) ≡ take l.i l.talkers
