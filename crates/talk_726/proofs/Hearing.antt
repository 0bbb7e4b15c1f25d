-- What a line of codes says, and where its decoder is.
use Rattle.std.proofs.Common.{zero, suc, ◌≡◌, ℕ, ◌+◌, ◌-◌, ◌*◌, ◌^◌, ℤ, pos, List, [], ◌∷◌, map, Option, Some, None, ◌∙◌, ap, arith, replicate}
use Rattle.std.specs.Prelude.{◌≢◌, nat_le, nat_lt, slice_get, unwrap_or}
use Rattle.std.specs.List.{All, range_with_len}
use Rattle.std.proofs.lemmas.Bool.{cond_both}
use Rattle.std.proofs.lemmas.Int.{ints}
use Rattle.std.proofs.lemmas.List.Elements.{All-nil, All-cons, All-head, All-tail}
use Rattle.g726_bits.specs.declared.Rate.{Rate}
use Rattle.g726_bits.specs.State.{CodecState, start}
use Rattle.jitter_line.specs.declared.line.Put.{Put}
use Rattle.jitter_line.specs.declared.line.Put.TheVariants.{Restarted}
use Rattle.jitter_line.specs.Histories.{Packet, Puts, Pulls, History, Gauge, Fate, First, Taken, TooLate, TooEarly, Restarts, fate_of, gauge, cover, or_else, offset_of, held, held_after, ahead, said, said_by}
use Rattle.jitter_line.specs.Standing.{answer, answer_by}
use Rattle.talk_726.specs.Decoding.{decoder, unless_restarted}
use Rattle.talk_726.specs.Kept.{IsPlace, AreCodes}

-- ---- what is held is a code and one ----

abbrev IsHeld : Rate → Option ℤ → Type 0
IsHeld rate None = Unit {0}
IsHeld rate (Some x) = IsPlace rate x

get-held : (rate : Rate) (xs : List ℤ) (k : ℕ) → All (IsPlace rate) xs → IsHeld rate (slice_get xs k)
get-held rate [] k all = tt
get-held rate (x ∷ xs) zero all = All-head (IsPlace rate) x xs all
get-held rate (x ∷ xs) (suc k) all = get-held rate xs k (All-tail (IsPlace rate) x xs all)

cover-held : (rate : Rate) (offset : ℕ) (xs : List ℤ) (i : ℕ) → All (IsPlace rate) xs → IsHeld rate (cover offset xs i)
cover-held rate offset xs i all =
    cond_both (nat_le offset (i + 2 ^ 31)) (slice_get xs (i + 2 ^ 31 - offset)) None (IsHeld rate)
    (λ t. get-held rate xs (i + 2 ^ 31 - offset) all)
    (λ t. tt)

or-held : (rate : Rate) (old later : Option ℤ) → IsHeld rate old → IsHeld rate later → IsHeld rate (or_else old later)
or-held rate None later o l = l
or-held rate (Some x) later o l = o

after-held : (rate : Rate) (f : Fate) (g : Gauge) (p : Packet) (old : Option ℤ) (place : ℕ) → IsHeld rate old → All (IsPlace rate) p.samples
    → IsHeld rate (held_after f g p old place)
after-held rate First g p old place o all = cover-held rate (2 ^ 31 + 480) p.samples place all
after-held rate Restarts g p old place o all = cover-held rate (2 ^ 31 + 480) p.samples place all
after-held rate Taken g p old place o all =
    let later = cover (offset_of g p) p.samples (place - 160 * g.pulls) in
    cond_both (nat_lt place (160 * g.pulls)) old (or_else old later) (IsHeld rate)
    (λ t. o)
    (λ t. or-held rate old later o (cover-held rate (offset_of g p) p.samples (place - 160 * g.pulls) all))
after-held rate TooLate g p old place o all = o
after-held rate TooEarly g p old place o all = o

held-code : (rate : Rate) (h : History) (place : ℕ) → AreCodes rate h → IsHeld rate (held h place)
held-code rate [] place are = tt
held-code rate (Puts p ∷ h) place are =
    after-held rate (fate_of (gauge h) p) (gauge h) p (held h place) place (held-code rate h place are.1) are.0
held-code rate (Pulls ∷ h) place are = held-code rate h place are

no-place : (rate : Rate) → IsPlace rate (pos 0)
no-place rate = record { at_least = omega (arith, ints); at_most = omega (arith, ints) }

held-place : (rate : Rate) (o : Option ℤ) → IsHeld rate o → IsPlace rate (unwrap_or o (pos 0))
held-place rate None is = no-place rate
held-place rate (Some x) is = is

all-places : (rate : Rate) (f : ℕ → ℤ) (is : List ℕ) → ((i : ℕ) → IsPlace rate (f i)) → All (IsPlace rate) (map f is)
all-places rate f [] each = All-nil (IsPlace rate)
all-places rate f (i ∷ is) each = All-cons (IsPlace rate) (f i) (map f is) (each i) (all-places rate f is each)

no-places : (rate : Rate) (n : ℕ) → All (IsPlace rate) (replicate n (pos 0))
no-places rate zero = All-nil (IsPlace rate)
no-places rate (suc n) = All-cons (IsPlace rate) (pos 0) (replicate n (pos 0)) (no-place rate) (no-places rate n)

said-by-places : (rate : Rate) (origin : Option ℕ) (h : History) → AreCodes rate h → All (IsPlace rate) (said_by origin h)
said-by-places rate None h are = no-places rate 160
said-by-places rate (Some origin) h are =
    all-places rate (λ i. unwrap_or (ahead h i) (pos 0)) (range_with_len 0 160)
    (λ i. held-place rate (ahead h i) (held-code rate h (160 * (gauge h).pulls + i) are))

pub said-places : (rate : Rate) (h : History) → AreCodes rate h → All (IsPlace rate) (said h)
unfolding said
said-places rate h are = said-by-places rate (gauge h).origin h are

-- ---- what a line answers tells where its decoder is ----

told-by : (f : Fate) (h : History) (p : Packet) (r : Put) (s next : CodecState) → r ≡ answer_by f h p
    → (r ≡ Restarted → next ≡ start) → (r ≢ Restarted → next ≡ s) → next ≡ unless_restarted f s
told-by First h p r s next e again same = same (λ t. cc)
told-by Taken h p r s next e again same = same (λ t. cc)
told-by TooLate h p r s next e again same = same (λ t. cc)
told-by TooEarly h p r s next e again same = same (λ t. cc)
told-by Restarts h p r s next e again same = again e

pub told : (rate : Rate) (h : History) (p : Packet) (r : Put) (s next : CodecState) → s ≡ decoder rate h → r ≡ answer h p
    → (r ≡ Restarted → next ≡ start) → (r ≢ Restarted → next ≡ s) → next ≡ decoder rate (Puts p ∷ h)
told rate h p r s next at e again same =
    told-by (fate_of (gauge h) p) h p r s next e again same ∙ ap (unless_restarted (fate_of (gauge h) p)) at
