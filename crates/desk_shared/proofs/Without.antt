-- No word of a feed but the number of its collects looks at its collects.
use Rattle.std.proofs.Common.{◌≡◌, ℕ, ◌+◌, ◌-◌, Bool, List, [], ◌∷◌, ◌++◌, length, map, filter, refl, sym, ◌∙◌, ap, not, true, Some, None}
use Rattle.std.specs.Prelude.{◌==◌}
use Rattle.std.specs.List.{flat_map}
use Rattle.talk_mix.specs.declared.ticks.Tick.{Tick}
use Rattle.conference_spec.specs.declared.JoinSpec.{JoinSpec}
use Rattle.conference_spec.specs.declared.Packet.{Packet}
use Rattle.conference_spec.specs.declared.Task.{Task}
use Rattle.conference_spec.specs.declared.Entry.TheVariants.{Join, Leave, Close, Collect, Cut, End}
use Rattle.conference_spec.specs.Codec.{g726}
use Rattle.conference_spec.specs.Feed.{Feed, Listener, Guest, closes, ended, joined, cut, kept, listeners, begins, hears, guests, goes, stays}
use Rattle.conference_spec.specs.Packets.{packets_at, sent, rest}
use Rattle.conference_spec.specs.Tasks.{task_of, each_once, wanted, tasks, due}
use Rattle.desk_shared.specs.Handed.{without_collects}

pub closes-without : (h : Feed) → closes (without_collects h) ≡ closes h
closes-without [] = refl
closes-without (Join spec ∷ h) = closes-without h
closes-without (Leave m ∷ h) = closes-without h
closes-without (Close tick ∷ h) = ap (λ (n : ℕ). n + 1) (closes-without h)
closes-without (Collect ∷ h) = closes-without h
closes-without (Cut ∷ h) = closes-without h
closes-without (End ∷ h) = closes-without h

pub ended-without : (h : Feed) → ended (without_collects h) ≡ ended h
ended-without [] = refl
ended-without (Join spec ∷ h) = ended-without h
ended-without (Leave m ∷ h) = ended-without h
ended-without (Close tick ∷ h) = ended-without h
ended-without (Collect ∷ h) = ended-without h
ended-without (Cut ∷ h) = ended-without h
ended-without (End ∷ h) = refl

pub joined-without : (h : Feed) → joined (without_collects h) ≡ joined h
joined-without [] = refl
joined-without (Join spec ∷ h) = ap (λ (ms : List ℕ). spec.member ∷ ms) (joined-without h)
joined-without (Leave m ∷ h) = joined-without h
joined-without (Close tick ∷ h) = joined-without h
joined-without (Collect ∷ h) = joined-without h
joined-without (Cut ∷ h) = joined-without h
joined-without (End ∷ h) = joined-without h

cut-without : (h : Feed) → closes (cut (without_collects h)) ≡ closes (cut h)
cut-without [] = refl
cut-without (Join spec ∷ h) = cut-without h
cut-without (Leave m ∷ h) = cut-without h
cut-without (Close tick ∷ h) = cut-without h
cut-without (Collect ∷ h) = cut-without h
cut-without (Cut ∷ h) = closes-without h
cut-without (End ∷ h) = cut-without h

pub kept-without : (h : Feed) → kept (without_collects h) ≡ kept h
kept-without h = ap (λ (n : ℕ). n - closes (cut (without_collects h))) (closes-without h) ∙ ap (λ (n : ℕ). closes h - n) (cut-without h)

pub listeners-without : (h : Feed) → listeners g726 (without_collects h) ≡ listeners g726 h
listeners-without [] = refl
listeners-without (Join spec ∷ h) =
    ap (λ (ls : List Listener). ls ++ begins g726 spec (closes (without_collects h)) ∷ []) (listeners-without h)
    ∙ ap (λ (k : ℕ). listeners g726 h ++ begins g726 spec k ∷ []) (closes-without h)
listeners-without (Leave m ∷ h) = ap (filter (λ (l : Listener). not (l.spec.member == m))) (listeners-without h)
listeners-without (Close tick ∷ h) = ap (map (hears tick)) (listeners-without h)
listeners-without (Collect ∷ h) = listeners-without h
listeners-without (Cut ∷ h) = listeners-without h
listeners-without (End ∷ h) = listeners-without h

pub guests-without : (h : Feed) → guests g726 (without_collects h) ≡ guests g726 h
guests-without [] = refl
guests-without (Join spec ∷ h) =
    let came : ℕ → Guest = λ k. record { listener = begins g726 spec k; left = None } in
    ap (λ (gs : List Guest). gs ++ came (closes (without_collects h)) ∷ []) (guests-without h)
    ∙ ap (λ (k : ℕ). guests g726 h ++ came k ∷ []) (closes-without h)
guests-without (Leave m ∷ h) =
    ap (map (goes m (closes (without_collects h)))) (guests-without h) ∙ ap (λ (k : ℕ). map (goes m k) (guests g726 h)) (closes-without h)
guests-without (Close tick ∷ h) = ap (map (stays tick)) (guests-without h)
guests-without (Collect ∷ h) = guests-without h
guests-without (Cut ∷ h) = guests-without h
guests-without (End ∷ h) = guests-without h

pub sent-without : (k : ℕ) (h : Feed) → sent g726 k (without_collects h) ≡ sent g726 k h
sent-without k h = ap (λ (gs : List Guest). flat_map (λ (g : Guest). packets_at g726 k g.listener) gs) (guests-without h)

pub rest-without : (h : Feed) → rest g726 (without_collects h) ≡ rest g726 h
rest-without h = sent-without (closes (without_collects h)) h ∙ ap (λ (k : ℕ). sent g726 k h) (closes-without h)

wanted-without : (p : Listener → Bool) (h : Feed) → wanted g726 p (without_collects h) ≡ wanted g726 p h
wanted-without p [] = refl
wanted-without p (Join spec ∷ h) = wanted-without p h
wanted-without p (Leave m ∷ h) = wanted-without p h
wanted-without p (Close tick ∷ h) =
    let new : ℕ → List Listener → List Task = λ k ls. each_once g726 (map (task_of g726 k tick) (filter p ls)) in
    let rest' : Feed = without_collects h in
    ap (λ (ts : List Task). ts ++ new (closes rest') (listeners g726 rest')) (wanted-without p h)
    ∙ ap (λ (k : ℕ). wanted g726 p h ++ new k (listeners g726 rest')) (closes-without h)
    ∙ ap (λ (ls : List Listener). wanted g726 p h ++ new (closes h) ls) (listeners-without h)
wanted-without p (Collect ∷ h) = wanted-without p h
wanted-without p (Cut ∷ h) = wanted-without p h
wanted-without p (End ∷ h) = wanted-without p h

pub due-without : (h : Feed) → due g726 (without_collects h) ≡ due g726 h
due-without h = ap (length {_}) (wanted-without (λ l. true) h)
