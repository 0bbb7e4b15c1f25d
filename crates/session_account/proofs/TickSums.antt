-- The ticks, by how many were heard in them; and what stays of the talkers.
use Rattle.std.proofs.Common.{◌≡◌, ◌∙◌, ℕ, zero, suc, ◌+◌, List, [], ◌∷◌, ◌++◌, length, map, refl, ap, arith, Some, None, Bool, true, false}
use Rattle.std.specs.Prelude.{if◌then◌else◌}
use Rattle.std.proofs.lemmas.List.{map-append}
use Rattle.roster_text.specs.declared.commands.Timed.{Timed}
use Rattle.roster_text.specs.declared.commands.Command.{Command}
use Rattle.roster_text.specs.declared.commands.Command.TheVariants.{Join as JoinOf, Leave as LeaveOf}
use Rattle.talk_mix.specs.declared.ticks.Tick.{Tick}
use Rattle.conference_spec.specs.declared.Entry.TheVariants.{Join, Leave, Close, Collect, Cut, End}
use Rattle.conference_spec.specs.Feed.{Feed, closes}
use Rattle.session_account.specs.declared.counts.Crowd.{Crowd}
use Rattle.session_account.specs.declared.voices.Talker.{Talker}
use Rattle.session_account.specs.Speaking.{Spoken, spoken, silent, muted, seated, seated_by, crowded, after_tick, speaks, hears, unheard}
use Rattle.session_account.specs.Laws.{ticks_in}

one-tick : (n : ℕ) (c : Crowd) → ticks_in (crowded n c) ≡ ticks_in c + 1
one-tick zero c = omega arith
one-tick (suc zero) c = omega arith
one-tick (suc (suc zero)) c = omega arith
one-tick (suc (suc (suc n))) c = omega arith

pub ticks-sum : (plan : List Timed) (f : Feed) → ticks_in (spoken (silent plan) f).crowd ≡ closes f
ticks-sum plan [] = refl
ticks-sum plan (Close tick ∷ f) = one-tick (length tick) (spoken (silent plan) f).crowd ∙ ap (λ n. n + 1) (ticks-sum plan f)
ticks-sum plan (Join spec ∷ f) = ticks-sum plan f
ticks-sum plan (Leave member ∷ f) = ticks-sum plan f
ticks-sum plan (Collect ∷ f) = ticks-sum plan f
ticks-sum plan (Cut ∷ f) = ticks-sum plan f
ticks-sum plan (End ∷ f) = ticks-sum plan f

-- a tick changes no talker's number and SSRC
pub muted-after : (tick : Tick) (s : Spoken) → muted (after_tick tick s) ≡ muted s
muted-after tick s = ap (λ ts. record { talkers = ts; crowd = record { none = 0; one = 0; two = 0; three = 0 } }) (all s.talkers)
  where
    one : (b : Bool) (t : Talker) → record (if b then record t { heard = t.heard + 1 } else t) { heard = 0 } ≡ record t { heard = 0 }
    one true t = refl
    one false t = refl

    all : (ts : List Talker) → map unheard (map (hears tick) ts) ≡ map unheard ts
    all [] = refl
    all (t ∷ ts) =
        ap (λ (x : Talker). x ∷ map unheard (map (hears tick) ts)) (one (speaks t.member tick) t)
        ∙ ap (λ xs. record t { heard = 0 } ∷ xs) (all ts)

seat-mute : (c : Command) → map unheard (seated_by c) ≡ seated_by c
seat-mute (JoinOf member (Some talk) listen) = refl
seat-mute (JoinOf member None listen) = refl
seat-mute (LeaveOf member) = refl

-- before the first tick nobody was heard
pub muted-silent : (plan : List Timed) → muted (silent plan) ≡ silent plan
muted-silent plan = ap (λ ts. record { talkers = ts; crowd = record { none = 0; one = 0; two = 0; three = 0 } }) (all plan)
  where
    all : (cs : List Timed) → map unheard (seated cs) ≡ seated cs
    all [] = refl
    all (c ∷ cs) =
        map-append unheard (seated_by c.command) (seated cs)
        ∙ ap (λ xs. xs ++ map unheard (seated cs)) (seat-mute c.command)
        ∙ ap (λ xs. seated_by c.command ++ xs) (all cs)
