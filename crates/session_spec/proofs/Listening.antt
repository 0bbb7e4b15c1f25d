-- Members that only listen change nobody else's packets.
use Rattle.std.proofs.Common.{suc, zero, ◌≡◌, ℕ, ◌+◌, inl, inr, Bool, true, false, ◌&&◌, not, List, [], ◌∷◌, ◌++◌, map, refl, sym, ◌∙◌, ap, subst, Some, None, if◌then◌else◌}
use Rattle.std.specs.Prelude.{◌==◌, nat_lt, nat_le}
use Rattle.std.specs.List.{filter}
use Rattle.std.proofs.lemmas.Bool.{cases_Bool, cond_both, cond-true, cond-false, eq-eqb, eqb-true, or_left, or_right, both_ways, not_from_false, false≢true}
use Rattle.roster_text.specs.declared.commands.Command.{Command}
use Rattle.roster_text.specs.declared.commands.Command.TheVariants.{Join, Leave}
use Rattle.roster_text.specs.declared.commands.Timed.{Timed}
use Rattle.rtp_dump.specs.declared.item.DumpItem.{DumpItem}
use Rattle.talk_mix.specs.Choice.{chosen}
use Rattle.jitter_line.specs.Histories.{Puts}
use Rattle.conference_spec.specs.declared.Entry.TheVariants as entry
use Rattle.conference_spec.specs.Feed.{Feed}
use Rattle.conference_spec.proofs.Members.{In, in-filter_parts, in-append_cases, in-map_cases}
use Rattle.session_spec.specs.Talkers.{Applies, Hears, Ticks, Cuts, Events, Talker, Way, Stops, ToLine, begins, given, pulled, way, voice, talkers, talkers_after, arrival, is_accepted}
use Rattle.session_spec.specs.Events.{begin_of, commands_of, entries, listens, feed_of, refused, after_commands, after_record, after_records, begins_with_cut, after_cut, events}
use Rattle.session_spec.specs.Laws.{ticks_of, joins_to_talk, is_talker, is_of_talker, of_talkers}

-- each talker's join stands in the plan
abbrev Known : List Timed → List Talker → Type 0
Known plan ts = (t : Talker) → In t ts → is_talker plan t.member ≡ true

-- the command, if it is the join of a talker, stands in the plan
abbrev Stands : List Timed → Command → Type 0
Stands plan (Join member (Some talk) listen) = is_talker plan member ≡ true
Stands plan (Join member None listen) = Unit {0}
Stands plan (Leave member) = Unit {0}

stands-at : (command : Command) (plan : List Timed) (c : Timed) → c.command ≡ command → Stands (c ∷ plan) command
stands-at (Join member (Some talk) listen) plan c e =
    or_left (joins_to_talk member c.command) (is_talker plan member)
    (ap (joins_to_talk member) e ∙ ap (λ b. b && true) (eq-eqb member member refl))
stands-at (Join member None listen) plan c e = tt
stands-at (Leave member) plan c e = tt

stands-here : (c : Timed) (plan : List Timed) → Stands (c ∷ plan) c.command
stands-here c plan = stands-at c.command plan c refl

stands-later : (command : Command) (plan : List Timed) (c : Timed) → Stands plan command → Stands (c ∷ plan) command
stands-later (Join member (Some talk) listen) plan c h = or_right (joins_to_talk member c.command) (is_talker plan member) h
stands-later (Join member None listen) plan c h = tt
stands-later (Leave member) plan c h = tt

stands-in : (plan : List Timed) (c : Timed) → In c plan → Stands plan c.command
stands-in [] c i = absurd i
stands-in (d ∷ plan) c (inl e) = let P : Timed → Type 0 = λ x. Stands (d ∷ plan) x.command in subst P e (stands-here d plan)
stands-in (d ∷ plan) c (inr i) = stands-later c.command plan d (stands-in plan c i)

-- nobody of another number goes
leave-none : (plan : List Timed) (m : ℕ) (ts : List Talker) → Known plan ts → is_talker plan m ≡ false → filter (λ t. not (t.member == m)) ts ≡ ts
leave-none plan m [] known none = refl
leave-none plan m (t ∷ ts) known none =
    let rest = filter (λ (x : Talker). not (x.member == m)) ts in
    elim (cases_Bool (t.member == m)) [
      | inl e ↦ absurd (both_ways (is_talker plan m) none (sym (ap (is_talker plan) (eqb-true t.member m e)) ∙ known t (inl refl)))
      | inr e ↦
          cond-true (not (t.member == m)) (t ∷ rest) rest (not_from_false (t.member == m) e)
          ∙ ap (λ xs. t ∷ xs) (leave-none plan m ts (λ x i. known x (inr i)) none)
    ]

known-after : (plan : List Timed) (command : Command) (ts : List Talker) → Stands plan command → Known plan ts → Known plan (talkers_after (Applies command) ts)
known-after plan (Join member None listen) ts stands known = known
known-after plan (Join member (Some talk) listen) ts stands known = λ t i.
    elim (in-append_cases t ts (begins member talk ∷ []) i) [
      | inl a ↦ known t a
      | inr b ↦ elim b [ inl e ↦ ap (λ x. is_talker plan x.member) (sym e) ∙ stands | inr z ↦ absurd z ]
    ]
known-after plan (Leave member) ts stands known = λ t i. known t (in-filter_parts (λ x. not (x.member == member)) t ts i).0

-- a command of a member that only listens changes no talker
only-listens : (plan : List Timed) (command : Command) (ts : List Talker) → Known plan ts → is_of_talker plan command ≡ false → talkers_after (Applies command) ts ≡ ts
only-listens plan (Join member None listen) ts known e = refl
only-listens plan (Join member (Some talk) listen) ts known e = absurd (false≢true (sym e))
only-listens plan (Leave member) ts known e = leave-none plan member ts known e

-- two histories that talkers can't tell apart
record Alike (plan : List Timed) (h j : Events) : Type 0 where
  same : talkers h ≡ talkers j
  known : Known plan (talkers h)
  count : refused h ≡ refused j
  ticks : ticks_of (feed_of h) ≡ ticks_of (feed_of j)

pub entries-ticks : (command : Command) (h : Events) (f : Feed) → ticks_of (entries command h ++ f) ≡ ticks_of f
entries-ticks (Join member talk None) h f = refl
entries-ticks (Join member talk (Some listen)) h f = refl
entries-ticks (Leave member) h f =
    let P : Feed → Type 0 = λ e. ticks_of (e ++ f) ≡ ticks_of f in
    cond_both (listens member h) (entry.Leave member ∷ []) [] P (λ t. refl) (λ t. refl)

both-apply : (plan : List Timed) (h j : Events) (command : Command) → Stands plan command → Alike plan h j → Alike plan (Applies command ∷ h) (Applies command ∷ j)
both-apply plan h j command stands a = record {
  same = ap (talkers_after (Applies command)) a.same;
  known = known-after plan command (talkers h) stands a.known;
  count = a.count;
  ticks = entries-ticks command h (feed_of h) ∙ a.ticks ∙ sym (entries-ticks command j (feed_of j));
}

one-applies : (plan : List Timed) (h j : Events) (command : Command) → is_of_talker plan command ≡ false → Alike plan h j → Alike plan (Applies command ∷ h) j
one-applies plan h j command e a =
    let same = only-listens plan command (talkers h) a.known e in
    record {
      same = same ∙ a.same;
      known = subst (Known plan) (sym same) a.known;
      count = a.count;
      ticks = entries-ticks command h (feed_of h) ∙ a.ticks;
    }

alike-commands : (plan cs : List Timed) (h j : Events) → ((c : Timed) → In c cs → Stands plan c.command) → Alike plan h j
    → Alike plan (after_commands cs h) (after_commands (filter (λ c. is_of_talker plan c.command) cs) j)
alike-commands plan [] h j stand a = a
alike-commands plan (c ∷ cs) h j stand a =
    let kept = filter (λ (x : Timed). is_of_talker plan x.command) cs in
    let stand' : (x : Timed) → In x cs → Stands plan x.command = λ x i. stand x (inr i) in
    let P : List Timed → Type 0 = λ xs. Alike plan (after_commands cs (Applies c.command ∷ h)) (after_commands xs j) in
    cond_both (is_of_talker plan c.command) (c ∷ kept) kept P
    (λ t. alike-commands plan cs (Applies c.command ∷ h) (Applies c.command ∷ j) stand' (both-apply plan h j c.command (stand c (inl refl)) a))
    (λ t. alike-commands plan cs (Applies c.command ∷ h) j stand' (one-applies plan h j c.command t a))

given-member : (w : Way) (t : Talker) → (given w t).member ≡ t.member
given-member (Stops refusal) t = refl
given-member (ToLine member line p) t =
    let P : Talker → Type 0 = λ x. x.member ≡ t.member in
    cond_both (t.member == member) (record t { line = Puts p ∷ t.line }) t P (λ e. refl) (λ e. refl)

known-map : (plan : List Timed) (f : Talker → Talker) (ts : List Talker) → ((t : Talker) → (f t).member ≡ t.member) → Known plan ts → Known plan (map f ts)
known-map plan f ts keeps known = λ t i.
    let s = in-map_cases f t ts i in
    ap (λ x. is_talker plan x.member) (sym s.2) ∙ ap (is_talker plan) (keeps s.0) ∙ known s.0 s.1

alike-hears : (plan : List Timed) (h j : Events) (plen : ℕ) (octets : List ℕ) → Alike plan h j → Alike plan (Hears plen octets ∷ h) (Hears plen octets ∷ j)
alike-hears plan h j plen octets a = record {
  same = ap (talkers_after (Hears plen octets)) a.same;
  known = known-map plan (given (way (talkers h) plen octets)) (talkers h) (given-member (way (talkers h) plen octets)) a.known;
  count =
      ap (λ ts. if is_accepted (arrival ts plen octets) then refused h else refused h + 1) a.same
      ∙ ap (λ n. if is_accepted (arrival (talkers j) plen octets) then n else n + 1) a.count;
  ticks = a.ticks;
}

alike-if : (plan : List Timed) (h j : Events) (plen : ℕ) (octets : List ℕ) (b : Bool) → Alike plan h j
    → Alike plan (if b then Hears plen octets ∷ h else h) (if b then Hears plen octets ∷ j else j)
alike-if plan h j plen octets true a = alike-hears plan h j plen octets a
alike-if plan h j plen octets false a = a

alike-records : (plan : List Timed) (items : List DumpItem) (h j : Events) → Alike plan h j → Alike plan (after_records items h) (after_records items j)
alike-records plan [] h j a = a
alike-records plan (i ∷ is) h j a = alike-records plan is (after_record i h) (after_record i j) (alike-if plan h j i.plen i.octets (nat_lt 0 i.plen) a)

alike-ticks : (plan : List Timed) (h j : Events) → Alike plan h j → Alike plan (Ticks ∷ h) (Ticks ∷ j)
alike-ticks plan h j a = record {
  same = ap (talkers_after Ticks) a.same;
  known = known-map plan pulled (talkers h) (λ t. refl) a.known;
  count = a.count;
  ticks = ap (λ ts. chosen (map voice ts) ∷ ticks_of (feed_of h)) a.same ∙ ap (λ fs. chosen (map voice (talkers j)) ∷ fs) a.ticks;
}

alike-cuts : (plan : List Timed) (k : ℕ) (h j : Events) → Alike plan h j → Alike plan (after_cut k h) (after_cut k j)
alike-cuts plan k h j a = by-cut (begins_with_cut k)
  where
    by-cut : (b : Bool) → Alike plan (if b then Cuts ∷ h else h) (if b then Cuts ∷ j else j)
    by-cut true = record { same = a.same; known = a.known; count = a.count; ticks = a.ticks }
    by-cut false = a

-- two tests one after the other, in either order
pub filters-swap : {X : Type 0} (p q : X → Bool) (xs : List X) → filter p (filter q xs) ≡ filter q (filter p xs)
filters-swap p q [] = refl
filters-swap p q (x ∷ xs) =
    let ih = filters-swap p q xs in
    elim (cases_Bool (p x)) [
      | inl s ↦ elim (cases_Bool (q x)) [
        | inl t ↦
            ap (filter p) (cond-true (q x) (x ∷ filter q xs) (filter q xs) t)
            ∙ cond-true (p x) (x ∷ filter p (filter q xs)) (filter p (filter q xs)) s
            ∙ ap (λ ys. x ∷ ys) ih
            ∙ sym (ap (filter q) (cond-true (p x) (x ∷ filter p xs) (filter p xs) s)
            ∙ cond-true (q x) (x ∷ filter q (filter p xs)) (filter q (filter p xs)) t)
        | inr t ↦
            ap (filter p) (cond-false (q x) (x ∷ filter q xs) (filter q xs) t)
            ∙ ih
            ∙ sym (ap (filter q) (cond-true (p x) (x ∷ filter p xs) (filter p xs) s)
            ∙ cond-false (q x) (x ∷ filter q (filter p xs)) (filter q (filter p xs)) t)
      ]
      | inr s ↦ elim (cases_Bool (q x)) [
        | inl t ↦
            ap (filter p) (cond-true (q x) (x ∷ filter q xs) (filter q xs) t)
            ∙ cond-false (p x) (x ∷ filter p (filter q xs)) (filter p (filter q xs)) s
            ∙ ih
            ∙ sym (ap (filter q) (cond-false (p x) (x ∷ filter p xs) (filter p xs) s))
        | inr t ↦
            ap (filter p) (cond-false (q x) (x ∷ filter q xs) (filter q xs) t)
            ∙ ih
            ∙ sym (ap (filter q) (cond-false (p x) (x ∷ filter p xs) (filter p xs) s))
      ]
    ]

abbrev is_at : ℕ → Timed → Bool
is_at k c = nat_le (begin_of k) c.at && nat_lt c.at (begin_of (k + 1))

alike-events : (plan : List Timed) (heard : ℕ → List DumpItem) (k : ℕ) → Alike plan (events plan heard k) (events (of_talkers plan) heard k)
alike-events plan heard zero = record { same = refl; known = λ t i. absurd i; count = refl; ticks = refl }
alike-events plan heard (suc k) =
    let h = after_cut k (events plan heard k) in
    let j = after_cut k (events (of_talkers plan) heard k) in
    let begun : Alike plan h j = alike-cuts plan k (events plan heard k) (events (of_talkers plan) heard k) (alike-events plan heard k) in
    let P : List Timed → Type 0 = λ cs. Alike plan (after_commands (commands_of plan k) h) (after_commands cs j) in
    let swapped : commands_of (of_talkers plan) k ≡ filter (λ (c : Timed). is_of_talker plan c.command) (commands_of plan k) =
    filters-swap (is_at k) (λ c. is_of_talker plan c.command) plan in
    let applied : Alike plan (after_commands (commands_of plan k) h) (after_commands (commands_of (of_talkers plan) k) j) =
    subst P (sym swapped) (alike-commands plan (commands_of plan k) h j
    (λ c i. stands-in plan c (in-filter_parts (is_at k) c plan i).0) begun) in
    alike-ticks plan (after_records (heard k) (after_commands (commands_of plan k) h)) (after_records (heard k) (after_commands (commands_of (of_talkers plan) k) j))
    (alike-records plan (heard k) (after_commands (commands_of plan k) h) (after_commands (commands_of (of_talkers plan) k) j) applied)

pub same-ticks : (one other : List Timed) (heard : ℕ → List DumpItem) (k : ℕ) → of_talkers one ≡ of_talkers other
    → ticks_of (feed_of (events one heard k)) ≡ ticks_of (feed_of (events other heard k))
same-ticks one other heard k e =
    (alike-events one heard k).ticks ∙ ap (λ plan. ticks_of (feed_of (events plan heard k))) e ∙ sym (alike-events other heard k).ticks

pub same-refusals : (one other : List Timed) (heard : ℕ → List DumpItem) (k : ℕ) → of_talkers one ≡ of_talkers other
    → refused (events one heard k) ≡ refused (events other heard k)
same-refusals one other heard k e =
    (alike-events one heard k).count ∙ ap (λ plan. refused (events plan heard k)) e ∙ sym (alike-events other heard k).count
