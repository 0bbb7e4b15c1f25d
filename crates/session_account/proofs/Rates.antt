-- Runs, counted by their rates.
use Rattle.std.proofs.Common.{◌≡◌, ◌∙◌, ℕ, suc, ◌+◌, Bool, true, cond, List, [], ◌∷◌, ◌++◌, length, map, filter, refl, ap, arith}
use Rattle.g726_bits.specs.declared.Rate.{Rate}
use Rattle.g726_bits.specs.declared.Rate.TheVariants.{R16, R24, R32, R40}
use Rattle.talk_mix.specs.declared.ticks.Tick.{Tick}
use Rattle.conference_spec.specs.declared.Task.{Task}
use Rattle.conference_spec.specs.declared.Entry.TheVariants.{Close}
use Rattle.conference_spec.specs.Codec.{g726}
use Rattle.conference_spec.specs.Feed.{Feed, Listener, listeners, closes}
use Rattle.conference_spec.specs.Tasks.{tasks, task_of, each_once, due}
use Rattle.conference_spec.proofs.Stages.{filter-append'}
use Rattle.std.proofs.lemmas.List.{length-append}
use Rattle.session_account.specs.declared.runs.Runs.{Runs}
use Rattle.session_account.specs.Encoding.{is_rate, count_at, ran, runs_at, runs_in}

-- one more run counts at its own rate
pub ran-counts : (q rate : Rate) (runs : Runs) → count_at q (ran rate runs) ≡ count_at q runs + cond (is_rate q rate) 1 0
ran-counts R16 R16 runs = refl
ran-counts R16 R24 runs = omega arith
ran-counts R16 R32 runs = omega arith
ran-counts R16 R40 runs = omega arith
ran-counts R24 R16 runs = omega arith
ran-counts R24 R24 runs = refl
ran-counts R24 R32 runs = omega arith
ran-counts R24 R40 runs = omega arith
ran-counts R32 R16 runs = omega arith
ran-counts R32 R24 runs = omega arith
ran-counts R32 R32 runs = refl
ran-counts R32 R40 runs = omega arith
ran-counts R40 R16 runs = omega arith
ran-counts R40 R24 runs = omega arith
ran-counts R40 R32 runs = omega arith
ran-counts R40 R40 runs = refl

all-kept : (ls : List Listener) → filter (λ (l : Listener). true) ls ≡ ls
all-kept [] = refl
all-kept (l ∷ ls) = ap (λ (ks : List Listener). l ∷ ks) (all-kept ls)

-- the runs of one tick more
pub runs-close : (q : Rate) (tick : Tick) (f : Feed) → runs_at q (Close tick ∷ f) ≡ runs_at q f + runs_in q tick f
runs-close q tick f =
    let at : Task → Bool = λ x. is_rate q x.triple.rate in
    let here : List Listener → List Task = λ ls. each_once g726 (map (task_of g726 (closes f) tick) ls) in
    ap (λ (ls : List Listener). length (filter at (tasks g726 f ++ here ls))) (all-kept (listeners g726 f))
    ∙ ap length (filter-append' at (tasks g726 f) (here (listeners g726 f)))
    ∙ length-append (filter at (tasks g726 f)) (filter at (here (listeners g726 f)))

-- each task is of one of the four rates
by-rate : (r : Rate) (x : Task) (a b c d : List Task) (n : ℕ) → length a + (length b + (length c + length d)) ≡ n →
    length (cond (is_rate R16 r) (x ∷ a) a) + (length (cond (is_rate R24 r) (x ∷ b) b)
    + (length (cond (is_rate R32 r) (x ∷ c) c) + length (cond (is_rate R40 r) (x ∷ d) d)))
    ≡ suc n
by-rate R16 x a b c d n before = omega (arith, before)
by-rate R24 x a b c d n before = omega (arith, before)
by-rate R32 x a b c d n before = omega (arith, before)
by-rate R40 x a b c d n before = omega (arith, before)

split : (xs : List Task) →
    length (filter (λ (x : Task). is_rate R16 x.triple.rate) xs) + (length (filter (λ (x : Task). is_rate R24 x.triple.rate) xs)
    + (length (filter (λ (x : Task). is_rate R32 x.triple.rate) xs) + length (filter (λ (x : Task). is_rate R40 x.triple.rate) xs)))
    ≡ length xs
split [] = refl
split (x ∷ xs) =
    by-rate x.triple.rate x (filter (λ (x : Task). is_rate R16 x.triple.rate) xs) (filter (λ (x : Task). is_rate R24 x.triple.rate) xs)
    (filter (λ (x : Task). is_rate R32 x.triple.rate) xs) (filter (λ (x : Task). is_rate R40 x.triple.rate) xs) (length xs) (split xs)

pub runs-sum : (f : Feed) → runs_at R16 f + (runs_at R24 f + (runs_at R32 f + runs_at R40 f)) ≡ due g726 f
runs-sum f = split (tasks g726 f)
