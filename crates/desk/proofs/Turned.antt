-- Frames pulled from one channel after the other.
use Rattle.std.proofs.Common.{◌≡◌, ℕ, suc, ◌+◌, List, [], ◌∷◌, ◌++◌, map, refl, ap, ◌∙◌, sym, subst, arith, length, take, get_or, set, ◌<◌, ◌≤◌, length-append}
use Rattle.std.proofs.Math.ListN.{length-set}
use Rattle.std.proofs.lemmas.List.{take-set, take_more_set}
use Rattle.jitter_line.specs.Histories.{History, Pulls, silence}
use Rattle.g726_bits.specs.declared.Frame.{Frame}
use Rattle.talk_mix.specs.Voices.{Voice}
use Rattle.session_spec.specs.Talkers.{Talker, pulled, spoken, voice}
use Rattle.desk.specs.declared.channel.Channel.{Channel}
use Rattle.desk.specs.Ears.{law_of, Hears}
use Rattle.desk.specs.Channels.{StandsFor, EachStands, talk_of}
use Rattle.desk.specs.Kept.{members}
use Rattle.desk.specs.Turning.{HasTurned, EachTurned, AreBut, HaveTurned}
use Rattle.desk.proofs.Silent.{but_none, but_more, but_silent}

-- as many of the first channels as there are voices have turned, and the others are as they were
abbrev pub Front : List Channel → List Channel → List Voice → Type 0
Front [] [] [] = Unit {0}
Front [] [] (v ∷ vs) = ⊥
Front [] (c ∷ cs) vs = ⊥
Front (o ∷ os) [] vs = ⊥
Front (o ∷ os) (c ∷ cs) [] = (c ≡ o) × Front os cs []
Front (o ∷ os) (c ∷ cs) (v ∷ vs) = HasTurned o c v × Front os cs vs

front_none : (os : List Channel) → Front os os []
front_none [] = tt
front_none (o ∷ os) = (refl, front_none os)

-- a frame is pulled from a channel
pub record Pulled (old new : Channel) (frame : Frame) : Type 0 where
  pub member : new.member ≡ old.member
  pub talk : talk_of new ≡ talk_of old
  pub said : (h : History) → Hears old.ear h → frame ≡ spoken (law_of old.ear) h
  pub stands : (h : History) → Hears old.ear h → Hears new.ear (Pulls ∷ h)

turned_of : (o c new : Channel) (frame : Frame) → c ≡ o → Pulled c new frame → HasTurned o new (new.member, frame)
turned_of o c new frame is step =
    let moved : Pulled o new frame = subst (λ (x : Channel). Pulled x new frame) is step in
    record { member = moved.member; talk = moved.talk; speaker = moved.member; said = moved.said; stands = moved.stands }

front_more : (os cs : List Channel) (vs : List Voice) (c new : Channel) (frame : Frame) → Front os cs vs → length vs < length cs
    → c ≡ get_or cs (length vs) c → Pulled c new frame → Front os (set cs (length vs) new) (vs ++ (new.member, frame) ∷ [])
front_more [] [] [] c new frame front within is step = absurd (omega arith)
front_more [] [] (v ∷ vs) c new frame front within is step = absurd front
front_more [] (d ∷ cs) vs c new frame front within is step = absurd front
front_more (o ∷ os) [] vs c new frame front within is step = absurd front
front_more (o ∷ os) (d ∷ cs) [] c new frame front within is step = (turned_of o c new frame (is ∙ front.0) step, front.1)
front_more (o ∷ os) (d ∷ cs) (v ∷ vs) c new frame front within is step =
    (front.0, front_more os cs vs c new frame front.1 (omega arith) is step)

front_all : (os cs : List Channel) (vs : List Voice) → Front os cs vs → length os ≤ length vs → EachTurned os cs vs
front_all [] [] [] front all = tt
front_all [] [] (v ∷ vs) front all = absurd front
front_all [] (c ∷ cs) vs front all = absurd front
front_all (o ∷ os) [] vs front all = absurd front
front_all (o ∷ os) (c ∷ cs) [] front all = absurd (omega arith)
front_all (o ∷ os) (c ∷ cs) (v ∷ vs) front all = (front.0, front_all os cs vs front.1 (omega arith))

front_length : (os cs : List Channel) (vs : List Voice) → Front os cs vs → length cs ≡ length os
front_length [] [] [] front = refl
front_length [] [] (v ∷ vs) front = absurd front
front_length [] (c ∷ cs) vs front = absurd front
front_length (o ∷ os) [] vs front = absurd front
front_length (o ∷ os) (c ∷ cs) [] front = ap suc (front_length os cs [] front.1)
front_length (o ∷ os) (c ∷ cs) (v ∷ vs) front = ap suc (front_length os cs vs front.1)

-- so many channels have turned, and the first voices are theirs but for some that are silent
pub record Turning (os cs : List Channel) (voices : List Voice) (count place : ℕ) : Type 0 where
  pub turned : List Voice
  pub front : Front os cs turned
  pub long : length turned ≡ place
  pub heard : AreBut (take count voices) turned
  pub few : count ≤ place
  pub room : length voices ≡ length os
  pub lines : length cs ≡ length os

pub turning_none : (os : List Channel) (voices : List Voice) → length voices ≡ length os → Turning os os voices 0 0
turning_none os voices room =
    record { turned = []; front = front_none os; long = refl; heard = but_none; few = omega arith; room = room; lines = refl }

-- the next channel, whose voice is heard
pub turning_heard : (os cs : List Channel) (voices : List Voice) (count place : ℕ) (c new : Channel) (frame : Frame)
    → Turning os cs voices count place → place < length cs → c ≡ get_or cs place c → Pulled c new frame
    → Turning os (set cs place new) (set voices count (new.member, frame)) (count + 1) (place + 1)
turning_heard os cs voices count place c new frame before within is step =
    let v : Voice = (new.member, frame) in
    let at : length before.turned < length cs = omega (arith, before.long) in
    let front : Front os (set cs (length before.turned) new) (before.turned ++ v ∷ []) =
    front_more os cs before.turned c new frame before.front at (is ∙ ap (λ (n : ℕ). get_or cs n c) (sym before.long)) step in
    let moved : Front os (set cs place new) (before.turned ++ v ∷ []) =
    subst (λ (n : ℕ). Front os (set cs n new) (before.turned ++ v ∷ [])) before.long front in
    let room : count < length voices = omega (arith, before.few, before.room, before.lines) in
    record {
      turned = before.turned ++ v ∷ [];
      front = moved;
      long = length-append before.turned (v ∷ []) ∙ omega (arith, before.long);
      heard =
          subst (λ (us : List Voice). AreBut us (before.turned ++ v ∷ [])) (sym (take_more_set voices count v room))
          (but_more (take count voices) before.turned v before.heard);
      few = omega (arith, before.few);
      room = length-set voices count v ∙ before.room;
      lines = length-set cs place new ∙ before.lines;
    }

-- the next channel, which says nothing but silence
pub turning_silent : (os cs : List Channel) (voices : List Voice) (count place : ℕ) (c new : Channel) (v : Voice)
    → Turning os cs voices count place → place < length cs → c ≡ get_or cs place c → Pulled c new silence
    → Turning os (set cs place new) (set voices count v) count (place + 1)
turning_silent os cs voices count place c new v before within is step =
    let w : Voice = (new.member, silence) in
    let at : length before.turned < length cs = omega (arith, before.long) in
    let front : Front os (set cs (length before.turned) new) (before.turned ++ w ∷ []) =
    front_more os cs before.turned c new silence before.front at (is ∙ ap (λ (n : ℕ). get_or cs n c) (sym before.long)) step in
    let moved : Front os (set cs place new) (before.turned ++ w ∷ []) =
    subst (λ (n : ℕ). Front os (set cs n new) (before.turned ++ w ∷ [])) before.long front in
    record {
      turned = before.turned ++ w ∷ [];
      front = moved;
      long = length-append before.turned (w ∷ []) ∙ omega (arith, before.long);
      heard =
          subst (λ (us : List Voice). AreBut us (before.turned ++ w ∷ [])) (sym (take-set voices count v))
          (but_silent (take count voices) before.turned w before.heard refl);
      few = omega (arith, before.few);
      room = length-set voices count v ∙ before.room;
      lines = length-set cs place new ∙ before.lines;
    }

pub turning_all : (os cs : List Channel) (voices : List Voice) (count place : ℕ) → Turning os cs voices count place → length os ≤ place
    → HaveTurned os cs (take count voices)
turning_all os cs voices count place turning all = record {
  voices = turning.turned;
  each = front_all os cs turning.turned turning.front (omega (arith, turning.long));
  but = turning.heard;
}

pub turned_members : (os cs : List Channel) (vs : List Voice) → EachTurned os cs vs
    → (members cs ≡ members os) × (map (λ (v : Voice). v.0) vs ≡ members os)
turned_members [] [] [] each = (refl, refl)
turned_members [] [] (v ∷ vs) each = absurd each
turned_members [] (c ∷ cs) vs each = absurd each
turned_members (o ∷ os) [] vs each = absurd each
turned_members (o ∷ os) (c ∷ cs) [] each = absurd each
turned_members (o ∷ os) (c ∷ cs) (v ∷ vs) each =
    let rest = turned_members os cs vs each.1 in
    (rw (each.0.member, rest.0) refl, rw (each.0.speaker, rest.1) refl)

turned_one : (o c : Channel) (v : Voice) (t : Talker) → HasTurned o c v → StandsFor o t → StandsFor c (pulled t)
turned_one o c v t turned stands = record {
  member = turned.member ∙ stands.member;
  talk = turned.talk ∙ stands.talk;
  line = turned.stands t.line stands.line;
}

voice_is : (o c : Channel) (v : Voice) (t : Talker) → HasTurned o c v → StandsFor o t → v ≡ voice t
voice_is o c v t turned stands =
    let speaker : v.0 ≡ t.member = turned.speaker ∙ stands.member in
    let says : v.1 ≡ spoken t.talk.law t.line = turned.said t.line stands.line ∙ ap (λ talk. spoken talk.law t.line) stands.talk in
    let first : v ≡ (t.member, v.1) = ap (λ (n : ℕ). (n, v.1)) speaker in
    first ∙ ap (λ (frame : Frame). (t.member, frame)) says

pub turned_stand : (os cs : List Channel) (vs : List Voice) (ts : List Talker) → EachTurned os cs vs → EachStands os ts
    → EachStands cs (map pulled ts) × (vs ≡ map voice ts)
turned_stand [] [] [] [] each stands = (tt, refl)
turned_stand [] [] [] (t ∷ ts) each stands = absurd stands
turned_stand [] [] (v ∷ vs) ts each stands = absurd each
turned_stand [] (c ∷ cs) vs ts each stands = absurd each
turned_stand (o ∷ os) [] vs ts each stands = absurd each
turned_stand (o ∷ os) (c ∷ cs) [] ts each stands = absurd each
turned_stand (o ∷ os) (c ∷ cs) (v ∷ vs) [] each stands = absurd stands
turned_stand (o ∷ os) (c ∷ cs) (v ∷ vs) (t ∷ ts) each stands =
    let rest = turned_stand os cs vs ts each.1 stands.1 in
    ((turned_one o c v t each.0 stands.0, rest.0), rw (voice_is o c v t each.0 stands.0, rest.1) refl)
