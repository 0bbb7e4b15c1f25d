-- The feed that a session's events make.
use Rattle.std.proofs.Common.{suc, zero, ◌≡◌, ℕ, ◌+◌, ◌%◌, ◌≤◌, inl, inr, Bool, true, false, ◌&&◌, not, List, [], ◌∷◌, ◌++◌, map, refl, sym, ◌∙◌, ap, arith, Some, None}
use Rattle.std.specs.Prelude.{◌==◌, ◌||◌, nat_lt}
use Rattle.std.specs.List.{filter, list_any}
use Rattle.std.proofs.lemmas.Bool.{cases_Bool, cond_both, cond-true, cond-false, eqb-true, eq-eqb, lt-ltb, and_from, and_parts, both_ways, not_from_true, not_from_false}
use Rattle.roster_text.specs.declared.commands.Command.{Command}
use Rattle.roster_text.specs.declared.commands.Command.TheVariants as command
use Rattle.roster_text.specs.declared.commands.Timed.{Timed}
use Rattle.rtp_dump.specs.declared.item.DumpItem.{DumpItem}
use Rattle.talk_mix.specs.declared.ticks.Tick.{Tick}
use Rattle.conference_spec.specs.declared.Entry.TheVariants.{Join, Leave, Close, Collect, Cut, End}
use Rattle.conference_spec.specs.Coding.{Coder}
use Rattle.conference_spec.specs.Feed.{Feed, Listener, listeners, begins, hears, closes, collects, ended, cut, kept}
use Rattle.conference_spec.specs.Packets.{sent}
use Rattle.conference_spec.proofs.Sends.{sent-stays}
use Rattle.session_spec.specs.Talkers.{Applies, Hears, Ticks, Cuts, Events, heard_now}
use Rattle.session_spec.specs.Events.{spec_of, listens, entries, feed_of, commands_of, after_commands, after_record, after_records, begins_with_cut, after_cut, kept_before, after_tick, events}
use Rattle.session_spec.specs.Answer.{ticks_text, tick_text, sent_to}

-- ---- who listens ----

abbrev is_of : ℕ → Listener → Bool
is_of m l = l.spec.member == m

or-none : (b : Bool) → b ≡ b || false
or-none true = refl
or-none false = refl

or-swap : (a b c : Bool) → a || (b || c) ≡ b || (a || c)
or-swap true true c = refl
or-swap true false c = refl
or-swap false true c = refl
or-swap false false c = refl

and-none : (b : Bool) → false ≡ b && false
and-none true = refl
and-none false = refl

and-all : (b : Bool) → b && true ≡ b
and-all true = refl
and-all false = refl

-- whoever is of the number that goes isn't counted, and everybody else is
goes-one : (c b r : Bool) → b ≡ c → not c && r ≡ not c && (b || r)
goes-one true b r e = refl
goes-one false b r e = sym (ap (λ x. x || r) e)

stays-one : (c b r : Bool) → (c ≡ true → b ≡ false) → b || (not c && r) ≡ not c && (b || r)
stays-one true b r h = ap (λ x. x || false) (h refl)
stays-one false b r h = refl

any-last : {X : Type 0} (p : X → Bool) (xs : List X) (y : X) → list_any p (xs ++ y ∷ []) ≡ p y || list_any p xs
any-last p [] y = refl
any-last p (x ∷ xs) y = ap (λ b. p x || b) (any-last p xs y) ∙ or-swap (p x) (p y) (list_any p xs)

any-hears : (m : ℕ) (tick : Tick) (ls : List Listener) → list_any (is_of m) (map (hears tick) ls) ≡ list_any (is_of m) ls
any-hears m tick [] = refl
any-hears m tick (l ∷ ls) = ap (λ b. (l.spec.member == m) || b) (any-hears m tick ls)

any-goes : (m n : ℕ) (ls : List Listener) → list_any (is_of m) (filter (λ l. not (l.spec.member == n)) ls) ≡ not (n == m) && list_any (is_of m) ls
any-goes m n [] = and-none (not (n == m))
any-goes m n (l ∷ ls) =
    let rest = filter (λ (x : Listener). not (x.spec.member == n)) ls in
    let ih = any-goes m n ls in
    elim (cases_Bool (l.spec.member == n)) [
      | inl t ↦
          ap (list_any (is_of m)) (cond-false (not (l.spec.member == n)) (l ∷ rest) rest (not_from_true (l.spec.member == n) t))
          ∙ ih
          ∙ goes-one (n == m) (l.spec.member == m) (list_any (is_of m) ls) (ap (λ k. k == m) (eqb-true l.spec.member n t))
      | inr t ↦
          ap (list_any (is_of m)) (cond-true (not (l.spec.member == n)) (l ∷ rest) rest (not_from_false (l.spec.member == n) t))
          ∙ ap (λ b. (l.spec.member == m) || b) ih
          ∙ stays-one (n == m) (l.spec.member == m) (list_any (is_of m) ls) (λ e. ap (λ k. l.spec.member == k) (sym (eqb-true n m e)) ∙ t)
    ]

-- the leave of nobody takes nobody away
absent-stays : (m n : ℕ) (h : Events) → listens n h ≡ false → not (n == m) && listens m h ≡ listens m h
absent-stays m n h none =
    elim (cases_Bool (n == m)) [
      | inl t ↦
          ap (λ b. not b && listens m h) t
          ∙ sym none ∙ ap (λ k. listens k h) (eqb-true n m t)
      | inr t ↦ ap (λ b. not b && listens m h) t
    ]

pub listens-is : (coder : Coder) (m : ℕ) (h : Events) → listens m h ≡ list_any (λ l. l.spec.member == m) (listeners coder (feed_of h))
listens-is coder m [] = refl
listens-is coder m (Applies (command.Join n talk None) ∷ h) = ap (λ b. b || listens m h) (sym (and-none (n == m))) ∙ listens-is coder m h
listens-is coder m (Applies (command.Join n talk (Some listen)) ∷ h) =
    ap (λ b. b || listens m h) (and-all (n == m))
    ∙ ap (λ b. (n == m) || b) (listens-is coder m h)
    ∙ sym (any-last (is_of m) (listeners coder (feed_of h)) (begins coder (spec_of n listen) (closes (feed_of h))))
listens-is coder m (Applies (command.Leave n) ∷ h) =
    let ih = listens-is coder m h in
    let P : Feed → Type 0 = λ e. not (n == m) && listens m h ≡ list_any (is_of m) (listeners coder (e ++ feed_of h)) in
    cond_both (listens n h) (Leave n ∷ []) [] P
    (λ t. ap (λ b. not (n == m) && b) ih ∙ sym (any-goes m n (listeners coder (feed_of h))))
    (λ t. absent-stays m n h t ∙ ih)
listens-is coder m (Hears plen octets ∷ h) = listens-is coder m h
listens-is coder m (Cuts ∷ h) = listens-is coder m h
listens-is coder m (Ticks ∷ h) = listens-is coder m h ∙ sym (any-hears m (heard_now h) (listeners coder (feed_of h)))

-- ---- closes and collects ----

pub entries-closes : (c : Command) (h : Events) (f : Feed) → closes (entries c h ++ f) ≡ closes f
entries-closes (command.Join member talk None) h f = refl
entries-closes (command.Join member talk (Some listen)) h f = refl
entries-closes (command.Leave member) h f =
    let P : Feed → Type 0 = λ e. closes (e ++ f) ≡ closes f in
    cond_both (listens member h) (Leave member ∷ []) [] P (λ t. refl) (λ t. refl)

pub entries-collects : (c : Command) (h : Events) (f : Feed) → collects (entries c h ++ f) ≡ collects f
entries-collects (command.Join member talk None) h f = refl
entries-collects (command.Join member talk (Some listen)) h f = refl
entries-collects (command.Leave member) h f =
    let P : Feed → Type 0 = λ e. collects (e ++ f) ≡ collects f in
    cond_both (listens member h) (Leave member ∷ []) [] P (λ t. refl) (λ t. refl)

pub entries-ended : (c : Command) (h : Events) (f : Feed) → ended (entries c h ++ f) ≡ ended f
entries-ended (command.Join member talk None) h f = refl
entries-ended (command.Join member talk (Some listen)) h f = refl
entries-ended (command.Leave member) h f =
    let P : Feed → Type 0 = λ e. ended (e ++ f) ≡ ended f in
    cond_both (listens member h) (Leave member ∷ []) [] P (λ t. refl) (λ t. refl)

pub commands-closes : (cs : List Timed) (h : Events) → closes (feed_of (after_commands cs h)) ≡ closes (feed_of h)
commands-closes [] h = refl
commands-closes (c ∷ cs) h = commands-closes cs (Applies c.command ∷ h) ∙ entries-closes c.command h (feed_of h)

pub record-feed : (i : DumpItem) (h : Events) → feed_of (after_record i h) ≡ feed_of h
record-feed i h =
    let P : Events → Type 0 = λ j. feed_of j ≡ feed_of h in
    cond_both (nat_lt 0 i.plen) (Hears i.plen i.octets ∷ h) h P (λ t. refl) (λ t. refl)

pub records-feed : (items : List DumpItem) (h : Events) → feed_of (after_records items h) ≡ feed_of h
records-feed [] h = refl
records-feed (i ∷ is) h = records-feed is (after_record i h) ∙ record-feed i h

-- a cut closes nothing
pub cut-closes : (k : ℕ) (h : Events) → closes (feed_of (after_cut k h)) ≡ closes (feed_of h)
cut-closes k h =
    let P : Events → Type 0 = λ j. closes (feed_of j) ≡ closes (feed_of h) in
    cond_both (begins_with_cut k) (Cuts ∷ h) h P (λ t. refl) (λ t. refl)

pub tick-closes : (plan : List Timed) (k : ℕ) (items : List DumpItem) (h : Events) → closes (feed_of (after_tick plan k items h)) ≡ closes (feed_of h) + 1
tick-closes plan k items h =
    let g = after_cut k h in
    ap (λ f. closes f + 1) (records-feed items (after_commands (commands_of plan k) g))
    ∙ ap (λ n. n + 1) (commands-closes (commands_of plan k) g)
    ∙ ap (λ n. n + 1) (cut-closes k h)

pub events-closes : (plan : List Timed) (heard : ℕ → List DumpItem) (k : ℕ) → closes (feed_of (events plan heard k)) ≡ k
events-closes plan heard zero = refl
events-closes plan heard (suc k) =
    let e = tick-closes plan k (heard k) (events plan heard k) in
    let ih = events-closes plan heard k in
    omega arith

pub all-collected : (h : Events) → collects (feed_of h) ≡ closes (feed_of h)
all-collected [] = refl
all-collected (Applies c ∷ h) = entries-collects c h (feed_of h) ∙ all-collected h ∙ sym (entries-closes c h (feed_of h))
all-collected (Hears plen octets ∷ h) = all-collected h
all-collected (Ticks ∷ h) = ap (λ n. n + 1) (all-collected h)
all-collected (Cuts ∷ h) = all-collected h

pub never-ended : (h : Events) → ended (feed_of h) ≡ false
never-ended [] = refl
never-ended (Applies c ∷ h) = entries-ended c h (feed_of h) ∙ never-ended h
never-ended (Hears plen octets ∷ h) = never-ended h
never-ended (Ticks ∷ h) = never-ended h
never-ended (Cuts ∷ h) = never-ended h

-- ---- what is kept since the last cut ----

pub cut-within : (f : Feed) → closes (cut f) ≤ closes f
cut-within [] = omega arith
cut-within (Join spec ∷ f) = cut-within f
cut-within (Leave member ∷ f) = cut-within f
cut-within (Close tick ∷ f) = let ih = cut-within f in omega arith
cut-within (Collect ∷ f) = cut-within f
cut-within (Cut ∷ f) = omega arith
cut-within (End ∷ f) = cut-within f

entries-kept : (c : Command) (h : Events) (f : Feed) → kept (entries c h ++ f) ≡ kept f
entries-kept (command.Join member talk None) h f = refl
entries-kept (command.Join member talk (Some listen)) h f = refl
entries-kept (command.Leave member) h f =
    let P : Feed → Type 0 = λ e. kept (e ++ f) ≡ kept f in
    cond_both (listens member h) (Leave member ∷ []) [] P (λ t. refl) (λ t. refl)

pub commands-kept : (cs : List Timed) (h : Events) → kept (feed_of (after_commands cs h)) ≡ kept (feed_of h)
commands-kept [] h = refl
commands-kept (c ∷ cs) h = commands-kept cs (Applies c.command ∷ h) ∙ entries-kept c.command h (feed_of h)

-- where no cut comes, the tick isn't the first of 9,000, or is the first of all
no-cut-is : (k : ℕ) → begins_with_cut k ≡ false → kept_before k ≡ k % 9000
no-cut-is zero t = refl
no-cut-is (suc k) t =
    let uneven : suc k % 9000 ≡ 0 → ⊥ = λ e.
    both_ways (begins_with_cut (suc k)) t (and_from (nat_lt 0 (suc k)) (suc k % 9000 == 0) (lt-ltb 0 (suc k) (omega arith)) (eq-eqb (suc k % 9000) 0 e)) in
    omega arith

-- before a tick's commands as many ticks are kept as the tick is past the last cut
pub kept-cut : (k : ℕ) (h : Events) → kept (feed_of h) ≡ kept_before k → kept (feed_of (after_cut k h)) ≡ k % 9000
kept-cut k h was =
    let P : Events → Type 0 = λ j. kept (feed_of j) ≡ k % 9000 in
    cond_both (begins_with_cut k) (Cuts ∷ h) h P
    (λ t. let even = eqb-true (k % 9000) 0 (and_parts (nat_lt 0 k) (k % 9000 == 0) t).1 in omega arith)
    (λ t. was ∙ no-cut-is k t)

-- and each tick is one more
pub kept-tick : (plan : List Timed) (k : ℕ) (items : List DumpItem) (h : Events) → kept (feed_of h) ≡ kept_before k
    → kept (feed_of (after_tick plan k items h)) ≡ kept_before (suc k)
kept-tick plan k items h was =
    let g = after_cut k h in
    let applied = after_commands (commands_of plan k) g in
    let f = feed_of (after_records items applied) in
    let same : kept f ≡ k % 9000 = ap kept (records-feed items applied) ∙ commands-kept (commands_of plan k) g ∙ kept-cut k h was in
    let within = cut-within f in
    omega arith

pub events-kept : (plan : List Timed) (heard : ℕ → List DumpItem) (k : ℕ) → kept (feed_of (events plan heard k)) ≡ kept_before k
events-kept plan heard zero = refl
events-kept plan heard (suc k) = kept-tick plan k (heard k) (events plan heard k) (events-kept plan heard k)

-- ---- what was sent stays ----

pub text-stays : (coder : Coder) (k : ℕ) (since h : Feed) → k ≤ closes h → ticks_text coder k (since ++ h) ≡ ticks_text coder k h
text-stays coder zero since h le = refl
text-stays coder (suc k) since h le =
    ap (λ text. text ++ tick_text k (sent coder k (since ++ h))) (text-stays coder k since h (omega arith))
    ∙ ap (λ ps. ticks_text coder k h ++ tick_text k ps) (sent-stays coder k since h (omega arith))

pub packets-stay : (coder : Coder) (k : ℕ) (since h : Feed) → k ≤ closes h → sent_to coder k (since ++ h) ≡ sent_to coder k h
packets-stay coder zero since h le = refl
packets-stay coder (suc k) since h le =
    ap (λ ps. ps ++ sent coder k (since ++ h)) (packets-stay coder k since h (omega arith))
    ∙ ap (λ ps. sent_to coder k h ++ ps) (sent-stays coder k since h (omega arith))
