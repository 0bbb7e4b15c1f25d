-- A recording of a live session is heard as the session was.
use Rattle.std.proofs.Common.{◌≡◌, ◌∙◌, ℕ, zero, suc, ◌+◌, ◌*◌, ◌<◌, ◌≤◌, ◌⊎◌, inl, inr, Bool, true, false, List, [], ◌∷◌, ◌++◌, map, refl, sym, ap, arith, append_assoc}
use Rattle.std.specs.Prelude.{nat_lt, if◌then◌else◌, not}
use Rattle.std.specs.List.{filter}
use Rattle.std.proofs.lemmas.Bool.{cases_lt, cond-true, cond-false}
use Rattle.std.proofs.lemmas.Bool.Decides.{nat_tests}
use Rattle.std.proofs.lemmas.List.{append-nil}
use Rattle.roster_text.specs.declared.commands.Timed.{Timed}
use Rattle.rtp_dump.specs.declared.item.DumpItem.{DumpItem}
use Rattle.session_spec.specs.Talkers.{Events}
use Rattle.session_spec.specs.Events.{begin_of, after_tick, events}
use Rattle.session_spec.specs.Captured.{until, from, heard_in}
use Rattle.live_spec.specs.Heard.{Live, datagrams, turns_in, is_control, recorded, heard, recording}

-- all lie before a moment; all lie at it or past it
abbrev AreBefore : ℕ → List DumpItem → Type 0
AreBefore m [] = Unit {0}
AreBefore m (i ∷ is) = (i.offset < m) × AreBefore m is

abbrev ArePast : ℕ → List DumpItem → Type 0
ArePast m [] = Unit {0}
ArePast m (i ∷ is) = (m ≤ i.offset) × ArePast m is

before-append : (m : ℕ) (is js : List DumpItem) → AreBefore m is → AreBefore m js → AreBefore m (is ++ js)
before-append m [] js one other = other
before-append m (i ∷ is) js one other = (one.0, before-append m is js one.1 other)

past-append : (m : ℕ) (is js : List DumpItem) → ArePast m is → ArePast m js → ArePast m (is ++ js)
past-append m [] js one other = other
past-append m (i ∷ is) js one other = (one.0, past-append m is js one.1 other)

lt-passes : (a b : ℕ) → a < b → nat_lt a b ≡ true
lt-passes a b h = grind (arith, nat_tests)

lt-fails : (a b : ℕ) → b ≤ a → nat_lt a b ≡ false
lt-fails a b h = grind (arith, nat_tests)

until-past : (m : ℕ) (js : List DumpItem) → ArePast m js → until m js ≡ []
until-past m [] past = refl
until-past m (j ∷ js) past = cond-false {A = List DumpItem} (nat_lt j.offset m) (j ∷ until m js) [] (lt-fails j.offset m past.0)

until-before : (m : ℕ) (is js : List DumpItem) → AreBefore m is → ArePast m js → until m (is ++ js) ≡ is
until-before m [] js before past = until-past m js past
until-before m (i ∷ is) js before past =
    cond-true {A = List DumpItem} (nat_lt i.offset m) (i ∷ until m (is ++ js)) [] (lt-passes i.offset m before.0)
    ∙ ap (λ (l : List DumpItem). i ∷ l) (until-before m is js before.1 past)

from-past : (m : ℕ) (js : List DumpItem) → ArePast m js → from m js ≡ js
from-past m [] past = refl
from-past m (j ∷ js) past = cond-false {A = List DumpItem} (nat_lt j.offset m) (from m js) (j ∷ js) (lt-fails j.offset m past.0)

from-before : (m : ℕ) (is js : List DumpItem) → AreBefore m is → ArePast m js → from m (is ++ js) ≡ js
from-before m [] js before past = from-past m js past
from-before m (i ∷ is) js before past =
    cond-true {A = List DumpItem} (nat_lt i.offset m) (from m (is ++ js)) (i ∷ (is ++ js)) (lt-passes i.offset m before.0)
    ∙ from-before m is js before.1 past

records-before : (k m : ℕ) (ds : List (List ℕ)) → begin_of k < m → AreBefore m (map (recorded k) ds)
records-before k m [] lt = tt
records-before k m (d ∷ ds) lt = (lt, records-before k m ds lt)

records-past : (k m : ℕ) (ds : List (List ℕ)) → m ≤ begin_of k → ArePast m (map (recorded k) ds)
records-past k m [] le = tt
records-past k m (d ∷ ds) le = (le, records-past k m ds le)

abbrev spoken_in : Live → ℕ → List (List ℕ)
spoken_in live k = filter (λ o. not (is_control o)) (datagrams (turns_in live k))

recording-before : (live : Live) (k : ℕ) → AreBefore (begin_of k) (recording live k)
recording-before live k = up-to live k k (omega arith)
  where
    up-to : (live : Live) (n k : ℕ) → n ≤ k → AreBefore (begin_of k) (recording live n)
    up-to live zero k le = tt
    up-to live (suc n) k le =
        before-append (begin_of k) (recording live n) (heard live n) (up-to live n k (omega arith)) (records-before n (begin_of k) (spoken_in live n) (omega arith))

-- what comes after tick k lies past it
record Splits (live : Live) (k n : ℕ) : Type 0 where
  after : List DumpItem
  past : ArePast (begin_of (k + 1)) after
  whole : recording live n ≡ recording live k ++ (heard live k ++ after)

-- tick k is the last
split_last : (live : Live) (k n : ℕ) → k ≡ n → Splits live k (suc n)
split_last live k n is = record {
  after = [];
  past = tt;
  whole =
      ap (λ (j : ℕ). recording live j ++ heard live j) (sym is)
      ∙ ap (λ (l : List DumpItem). recording live k ++ l) (sym (append-nil (heard live k)));
}

-- one tick more comes after it
split_more : (live : Live) (k n : ℕ) → k < n → Splits live k n → Splits live k (suc n)
split_more live k n less so = record {
  after = so.after ++ heard live n;
  past = past-append (begin_of (k + 1)) so.after (heard live n) so.past (records-past n (begin_of (k + 1)) (spoken_in live n) (omega arith));
  whole =
      ap (λ (l : List DumpItem). l ++ heard live n) so.whole
      ∙ append_assoc (recording live k) (heard live k ++ so.after) (heard live n)
      ∙ ap (λ (l : List DumpItem). recording live k ++ l) (append_assoc (heard live k) so.after (heard live n));
}

splits : (live : Live) (k n : ℕ) → k < n → Splits live k n
splits live k zero lt = absurd (omega arith)
splits live k (suc n) lt =
    elim (cases_lt k n) [ inl less ↦ split_more live k n less (splits live k n less) | inr le ↦ split_last live k n (omega arith) ]

heard-alike : (live : Live) (n k : ℕ) → k < n → heard_in (recording live n) k ≡ heard live k
heard-alike live n k lt =
    let so = splits live k n lt in
    let first : from (begin_of k) (recording live n) ≡ heard live k ++ so.after =
    ap (from (begin_of k)) so.whole
    ∙ from-before (begin_of k) (recording live k) (heard live k ++ so.after) (recording-before live k)
    (past-append (begin_of k) (heard live k) so.after (records-past k (begin_of k) (spoken_in live k) (omega arith)) (weaken (begin_of k) (begin_of (k + 1)) so.after (omega arith) so.past)) in
    ap (until (begin_of (k + 1))) first
    ∙ until-before (begin_of (k + 1)) (heard live k) so.after (records-before k (begin_of (k + 1)) (spoken_in live k) (omega arith)) so.past
  where
    weaken : (m n : ℕ) (js : List DumpItem) → m ≤ n → ArePast n js → ArePast m js
    weaken m n [] le past = tt
    weaken m n (j ∷ js) le past = (omega (arith, past.0), weaken m n js le past.1)

events-alike : (plan : List Timed) (one other : ℕ → List DumpItem) (n : ℕ) → ((k : ℕ) → k < n → one k ≡ other k) → events plan one n ≡ events plan other n
events-alike plan one other zero same = refl
events-alike plan one other (suc n) same =
    ap (λ (is : List DumpItem). after_tick plan n is (events plan one n)) (same n (omega arith))
    ∙ ap (λ (h : Events). after_tick plan n (other n) h) (events-alike plan one other n (λ k lt. same k (omega arith)))

pub recordings-alike : (plan : List Timed) (live : Live) (n : ℕ) → events plan (heard_in (recording live n)) n ≡ events plan (heard live) n
recordings-alike plan live n = events-alike plan (heard_in (recording live n)) (heard live) n (λ k lt. heard-alike live n k lt)
