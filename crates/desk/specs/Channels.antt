-- Which talker a channel stands for, and what becomes of a packet of its own.
use Rattle.std.specs.Prelude.{◌≡◌, ℕ, ◌==◌, not, if◌then◌else◌, List, [], ◌∷◌}
use Rattle.rtp_head.specs.declared.Head.{Head}
use Rattle.jitter_line.specs.Histories.{Puts}
use Rattle.roster_text.specs.declared.commands.Talk.{Talk}
use Rattle.session_spec.specs.declared.Arrival.TheVariants.{PayloadType}
use Rattle.session_spec.specs.Talkers.{Talker, Way, Stops, ToLine, payload_type, way_of_payload}
use Rattle.desk.specs.declared.channel.Channel.{Channel}
use Rattle.desk.specs.Ears.{law_of, Hears}

-- how the channel's member talks
abbrev pub talk_of : Channel → Talk
talk_of channel = record { law = law_of channel.ear; ssrc = channel.ssrc }

-- the channel is this talker's, and its ear is just where the talker's history leaves it
pub record StandsFor (channel : Channel) (t : Talker) : Type 0 where
  pub member : channel.member ≡ t.member
  pub talk : talk_of channel ≡ t.talk
  pub line : Hears channel.ear t.line

-- each channel is that of the talker at its place
abbrev pub EachStands : List Channel → List Talker → Type 0
EachStands [] [] = Unit {0}
EachStands [] (t ∷ ts) = ⊥
EachStands (c ∷ cs) [] = ⊥
EachStands (c ∷ cs) (t ∷ ts) = StandsFor c t × EachStands cs ts

-- where a talker's own packet goes, by its payload type and then by its payload
abbrev pub way_in : Talker → Head → List ℕ → Way
way_in t head payload =
    if not (head.pt == payload_type t.talk.law) then Stops PayloadType
    else way_of_payload t head.stamp payload

-- the talker afterwards
abbrev pub after_way : Way → Talker → Talker
after_way (Stops refusal) t = t
after_way (ToLine member line p) t = record t { line = Puts p ∷ t.line }
