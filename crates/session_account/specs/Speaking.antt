-- Who was heard in the ticks of a conference.
use Rattle.std.specs.Prelude.{ℕ, zero, suc, ◌+◌, ◌==◌, Bool, if◌then◌else◌, List, [], ◌∷◌, ◌++◌, length, map, Some, None}
use Rattle.std.specs.List.{list_any}
use Rattle.roster_text.specs.declared.commands.Command.{Command}
use Rattle.roster_text.specs.declared.commands.Command.TheVariants.{Join, Leave}
use Rattle.roster_text.specs.declared.commands.Timed.{Timed}
use Rattle.talk_mix.specs.declared.ticks.Tick.{Tick}
use Rattle.conference_spec.specs.declared.Entry.TheVariants.{Close}
use Rattle.conference_spec.specs.Feed.{Feed}
use Rattle.session_account.specs.declared.counts.Crowd.{Crowd}
use Rattle.session_account.specs.declared.voices.Talker.{Talker}

-- a roster's talkers, with the ticks in which each was heard; and the ticks by how many were heard in them
pub record Spoken : Type 0 where
  pub talkers : List Talker
  pub crowd : Crowd

-- the talker that a command brings
abbrev pub seated_by : Command → List Talker
seated_by (Join member (Some talk) listen) = record { member = member; ssrc = talk.ssrc; heard = 0 } ∷ []
seated_by (Join member None listen) = []
seated_by (Leave member) = []

-- all talkers of a roster, in the order of their joins
abbrev pub seated : List Timed → List Talker
seated [] = []
seated (c ∷ cs) = seated_by c.command ++ seated cs

abbrev pub silent : List Timed → Spoken
silent plan = record { talkers = seated plan; crowd = record { none = 0; one = 0; two = 0; three = 0 } }

-- the member is one of those who are heard in a tick
abbrev pub speaks : ℕ → Tick → Bool
speaks member tick = list_any (λ v. v.0 == member) tick

-- one more tick for a talker
abbrev pub hears : Tick → Talker → Talker
hears tick t = if speaks t.member tick then record t { heard = t.heard + 1 } else t

-- one more tick, in which so many are heard
abbrev pub crowded : ℕ → Crowd → Crowd
crowded zero c = record c { none = c.none + 1 }
crowded (suc zero) c = record c { one = c.one + 1 }
crowded (suc (suc zero)) c = record c { two = c.two + 1 }
crowded (suc (suc (suc more))) c = record c { three = c.three + 1 }

abbrev pub after_tick : Tick → Spoken → Spoken
after_tick tick s = record { talkers = map (hears tick) s.talkers; crowd = crowded (length tick) s.crowd }

-- the same talker, before the first tick
abbrev pub unheard : Talker → Talker
unheard t = record t { heard = 0 }

-- the same, before the first tick
abbrev pub muted : Spoken → Spoken
muted s = record { talkers = map unheard s.talkers; crowd = record { none = 0; one = 0; two = 0; three = 0 } }

-- all ticks that were closed, each with those who were heard in it
abbrev pub spoken : Spoken → Feed → Spoken
spoken start [] = start
spoken start (Close tick ∷ f) = after_tick tick (spoken start f)
spoken start (e ∷ f) = spoken start f
