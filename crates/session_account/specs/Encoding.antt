-- How many encoder runs a conference comes to at each rate, and the packets that they serve.
use Rattle.std.specs.Prelude.{ℕ, Bool, ◌+◌, ◌==◌, if◌then◌else◌, List, [], ◌∷◌, length, map, filter, sum_by}
use Rattle.g726_bits.specs.declared.Rate.{Rate}
use Rattle.g726_bits.specs.declared.Rate.TheVariants.{R16, R24, R32, R40}
use Rattle.g726_bits.specs.Rates.{bits_of}
use Rattle.talk_mix.specs.declared.ticks.Tick.{Tick}
use Rattle.conference_spec.specs.declared.Task.{Task}
use Rattle.conference_spec.specs.Codec.{g726}
use Rattle.conference_spec.specs.Feed.{Feed, listeners, closes}
use Rattle.conference_spec.specs.Tasks.{tasks, task_of, each_once}
use Rattle.session_account.specs.declared.runs.Runs.{Runs}
use Rattle.session_account.specs.declared.visits.Listener.{Listener}

abbrev pub is_rate : Rate → Rate → Bool
is_rate a b = bits_of a == bits_of b

abbrev pub count_at : Rate → Runs → ℕ
count_at R16 runs = runs.r16
count_at R24 runs = runs.r24
count_at R32 runs = runs.r32
count_at R40 runs = runs.r40

-- one more run
abbrev pub ran : Rate → Runs → Runs
ran R16 runs = record runs { r16 = runs.r16 + 1 }
ran R24 runs = record runs { r24 = runs.r24 + 1 }
ran R32 runs = record runs { r32 = runs.r32 + 1 }
ran R40 runs = record runs { r40 = runs.r40 + 1 }

-- the different triples of a rate, tick by tick: one run is made for each
abbrev pub runs_at : Rate → Feed → ℕ
runs_at rate f = length (filter (λ (x : Task). is_rate rate x.triple.rate) (tasks g726 f))

-- those of one tick more
abbrev pub runs_in : Rate → Tick → Feed → ℕ
runs_in rate tick f =
    length (filter (λ (x : Task). is_rate rate x.triple.rate) (each_once g726 (map (task_of g726 (closes f) tick) (listeners g726 f))))

abbrev pub runs_of : Feed → Runs
runs_of f = record { r16 = runs_at R16 f; r24 = runs_at R24 f; r32 = runs_at R32 f; r40 = runs_at R40 f }

-- the packets of the listeners of a rate
abbrev pub packets_at : Rate → List Listener → ℕ
packets_at rate listeners = sum_by (λ (l : Listener). if is_rate rate l.rate then l.packets else 0) listeners

abbrev pub every_rate : List Rate
every_rate = R16 ∷ R24 ∷ R32 ∷ R40 ∷ []
