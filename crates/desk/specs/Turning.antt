-- What the end of a tick does to each channel.
use Rattle.std.specs.Prelude.{◌≡◌, ◌⊎◌, List, [], ◌∷◌}
use Rattle.jitter_line.specs.Histories.{History, Pulls, silence}
use Rattle.session_spec.specs.Talkers.{spoken}
use Rattle.talk_mix.specs.Voices.{Voice}
use Rattle.desk.specs.declared.channel.Channel.{Channel}
use Rattle.desk.specs.Ears.{law_of, Hears}
use Rattle.desk.specs.Channels.{talk_of}

-- a frame was pulled from the channel's ear, and is its voice
pub record HasTurned (old new : Channel) (v : Voice) : Type 0 where
  pub member : new.member ≡ old.member
  pub talk : talk_of new ≡ talk_of old
  pub speaker : v.0 ≡ old.member
  pub said : (h : History) → Hears old.ear h → v.1 ≡ spoken (law_of old.ear) h
  pub stands : (h : History) → Hears old.ear h → Hears new.ear (Pulls ∷ h)

abbrev pub EachTurned : List Channel → List Channel → List Voice → Type 0
EachTurned [] [] [] = Unit {0}
EachTurned (o ∷ os) (n ∷ ns) (v ∷ vs) = HasTurned o n v × EachTurned os ns vs
EachTurned _ _ _ = ⊥

-- these are the voices in their order, but for some that are silent
abbrev pub AreBut : List Voice → List Voice → Type 0
AreBut us [] = us ≡ []
AreBut us (v ∷ vs) = ((v.1 ≡ silence) × AreBut us vs) ⊎ ((rest : List Voice) × (us ≡ v ∷ rest) × AreBut rest vs)

-- each channel has turned, and these are their voices but for some that are silent
pub record HaveTurned (old new : List Channel) (heard : List Voice) : Type 0 where
  pub voices : List Voice
  pub each : EachTurned old new voices
  pub but : AreBut heard voices
