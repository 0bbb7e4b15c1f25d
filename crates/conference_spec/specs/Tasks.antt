-- What is to be run.
use Rattle.std.specs.Prelude.{ℕ, ℤ, Bool, true, not, ◌&&◌, List, [], ◌∷◌, ◌++◌, length, map, filter, ◌+◌, ◌==◌}
use Rattle.g726_bits.specs.declared.Rate.{Rate}
use Rattle.g726_bits.specs.State.{CodecState}
use Rattle.g726_codec.specs.declared.Triple.{Triple}
use Rattle.talk_mix.specs.declared.ticks.Tick.{Tick}
use Rattle.talk_mix.specs.Mix.{mix}
use Rattle.conference_spec.specs.declared.Entry.TheVariants.{Close}
use Rattle.conference_spec.specs.declared.Task.{Task}
use Rattle.conference_spec.specs.Coding.{Coder, after}
use Rattle.conference_spec.specs.Feed.{Feed, Listener, listeners, closes}

-- rate, the state after what was heard, and the mix
abbrev pub triple_of : Coder → Rate → CodecState → List (List ℤ) → List ℤ → Triple
triple_of coder rate first heard f = record { rate = rate; state = after coder rate first heard; mix = f }

-- what is to be run for a listener at tick k
abbrev pub task_of : Coder → ℕ → Tick → Listener → Task
task_of coder k tick l =
    record { tick = k; triple = triple_of coder l.spec.rate l.first l.heard (mix l.spec.member tick) }

-- what was to be run for one listener at the tick after those that it had heard
abbrev pub own_task : Coder → ℕ → Rate → CodecState → List (List ℤ) → List ℤ → Task
own_task coder from rate first heard f = record { tick = from + length heard; triple = triple_of coder rate first heard f }

-- what was to be run for one listener so far, the newest first
abbrev pub own_tasks : Coder → ℕ → Rate → CodecState → List (List ℤ) → List Task
own_tasks coder from rate first [] = []
own_tasks coder from rate first (f ∷ heard) = own_task coder from rate first heard f ∷ own_tasks coder from rate first heard

abbrev pub tasks_of : Coder → Listener → List Task
tasks_of coder l = own_tasks coder l.from l.spec.rate l.first l.heard

abbrev pub is_same_task : Coder → Task → Task → Bool
is_same_task coder a b = (a.tick == b.tick) && coder.is_same a.triple b.triple

-- each task where it stands first
abbrev pub each_once : Coder → List Task → List Task
each_once coder [] = []
each_once coder (x ∷ xs) = x ∷ filter (λ y. not (is_same_task coder x y)) (each_once coder xs)

-- what is to be run for those listeners that pass a test: by rising tick, in a tick by the order of joins, each once
abbrev pub wanted : Coder → (Listener → Bool) → Feed → List Task
wanted coder p [] = []
wanted coder p (Close tick ∷ h) =
    wanted coder p h ++ each_once coder (map (task_of coder (closes h) tick) (filter p (listeners coder h)))
wanted coder p (e ∷ h) = wanted coder p h

-- the different triples of each tick
abbrev pub tasks : Coder → Feed → List Task
tasks coder h = wanted coder (λ l. true) h

-- one encoder run for each
abbrev pub due : Coder → Feed → ℕ
due coder h = length (tasks coder h)

-- the triples of tick k
abbrev pub triples : Coder → ℕ → Feed → List Task
triples coder k h = filter (λ x. x.tick == k) (tasks coder h)
