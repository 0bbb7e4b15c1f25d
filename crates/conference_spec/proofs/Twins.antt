-- Two cores that have done the same since cuts with equal bases.
use Rattle.std.proofs.Common.{◌≡◌, ℕ, ◌+◌, ◌≤◌, inl, inr, Bool, true, false, not, ◌&&◌, ◌||◌, cond, List, [], ◌∷◌, ◌++◌, length, map, refl, sym, ◌∙◌, ap, subst, arith, Option, Some, None}
use Rattle.std.specs.Prelude.{◌==◌, nat_lt, nat_le}
use Rattle.std.specs.List.{filter, list_all}
use Rattle.std.proofs.lemmas.Bool.{cases_Bool, or_left, not_from_false, ne_eqb, leb-false, lt-leb, lt-ltb, not_from_true}
use Rattle.conference_spec.specs.declared.Entry.{Entry}
use Rattle.conference_spec.specs.declared.Entry.TheVariants.{Join, Leave, Close, Collect, Cut, End}
use Rattle.conference_spec.specs.declared.Stage.{Stage}
use Rattle.conference_spec.specs.declared.Stage.TheVariants.{Waiting, Out, Finished}
use Rattle.conference_spec.specs.declared.Task.{Task}
use Rattle.conference_spec.specs.Coding.{Coder}
use Rattle.conference_spec.specs.Feed.{Feed, closes, collects}
use Rattle.conference_spec.specs.Tasks.{tasks_of, wanted, tasks}
use Rattle.conference_spec.specs.Machine.{Core, Run, Event, Enters, Claim, Publish, GiveBack, has, run_tasks, finished_tasks, is_done, has_passed, reached, unnumbered, numbered, with_reached, with_stage, moved, next_waiting, holds_out, is_over, accepts, appended, entered, claimed, next}
use Rattle.conference_spec.specs.Base.{Agree, AreTwins, added}
use Rattle.conference_spec.specs.Kept.{collected_runs}
use Rattle.conference_spec.specs.Members.{In, Once, Rise, Kept}
use Rattle.conference_spec.proofs.Members.{length-filter_parts}
use Rattle.conference_spec.proofs.Stages.{done-collected}
use Rattle.conference_spec.proofs.Zips.{all-through}
use Rattle.conference_spec.proofs.Alike.{late}
use Rattle.conference_spec.proofs.Since.{Both, IsBlind, may-same, both-since, both-agree, wanted-from}

pub twins-both : (coder : Coder) (p q s : Feed) (c d : Core) → AreTwins coder p q s c d → Both coder (closes p) c.feed d.feed
twins-both coder p q s c d t =
    let m = closes p in
    subst (λ x. Both coder m x d.feed) (sym t.first)
    (subst (Both coder m (s ++ p)) (sym t.second) (both-since coder p q s t.first_cut t.second_cut t.one_base))

pub twins-agree : (coder : Coder) (p q s : Feed) (c d : Core) → AreTwins coder p q s c d → Agree coder (closes p) c.feed d.feed
twins-agree coder p q s c d t = both-agree coder (closes p) c.feed d.feed (twins-both coder p q s c d t)

-- ---- what the feeds let the runs do ----

-- tasks of earlier ticks are all done
passed-blind : (coder : Coder) (m gone : ℕ) (runs : List Run) → m ≤ gone → IsBlind coder m (has_passed coder gone runs)
passed-blind coder m gone runs le l k z =
    let f = is_done coder gone runs in
    let early = λ (x : Task) (e : late m x ≡ false). let lt = leb-false m x.tick e in done-collected coder gone runs x (omega arith) in
    all-through f (late m) (tasks_of coder l) (λ x i e. early x e)
    ∙ ap (list_all f) z.tasks
    ∙ sym (all-through f (late m) (tasks_of coder k) (λ x i e. early x e))

over-same : (coder : Coder) (m : ℕ) (g h : Feed) → Both coder m g h → (runs : List Run) (k : ℕ) → m ≤ k → is_over coder runs g k ≡ is_over coder runs h k
over-same coder m g h b runs k le =
    let f = λ (x : Task). not (x.tick == k) || has coder (finished_tasks runs) x in
    let early = λ (x : Task) (e : late m x ≡ false).
    let lt = leb-false m x.tick e in
    or_left (not (x.tick == k)) (has coder (finished_tasks runs) x) (not_from_false (x.tick == k) (ne_eqb x.tick k (λ at. omega arith))) in
    all-through f (late m) (tasks coder g) (λ x i e. early x e)
    ∙ ap (list_all f) (b.to_run (λ l. true) (λ l k z. refl))
    ∙ sym (all-through f (late m) (tasks coder h) (λ x i e. early x e))

reached-same : (coder : Coder) (m : ℕ) (g h : Feed) → Both coder m g h → (runs : List Run) → reached coder runs g ≡ reached coder runs h
reached-same coder m g h b runs =
    let gone = collects g in
    let least = b.least_gone in
    wanted-from coder m g h b (has_passed coder gone runs) (passed-blind coder m gone runs least) (λ x. nat_le gone x.tick)
    (λ x lt. lt-leb gone x.tick (omega arith))
    ∙ (λ i. filter (λ x. nat_le (b.collected i) x.tick) (wanted coder (has_passed coder (b.collected i) runs) h))

-- ---- the steps ----

pub twins-accept : (coder : Coder) (p q s : Feed) (c d : Core) → AreTwins coder p q s c d → (e : Entry) → accepts coder c e ≡ accepts coder d e
twins-accept coder p q s c d t e =
    let m = closes p in
    let b = twins-both coder p q s c d t in
    let may = may-same coder m c.feed d.feed b in
    let at : (e : Entry) → accepts coder c e ≡ accepts coder d e = elim [
      | Join spec ↦ may (Join spec)
      | Leave who ↦ may (Leave who)
      | Close tick ↦ may (Close tick)
      | Collect ↦
          let over : is_over coder c.runs c.feed (collects c.feed) ≡ is_over coder d.runs d.feed (collects d.feed) =
          over-same coder m c.feed d.feed b c.runs (collects c.feed) b.least_gone ∙ (λ i. is_over coder (t.runs i) d.feed (b.collected i)) in
          λ i. nat_lt (b.collected i) (b.closed i) && over i
      | Cut ↦ may Cut
      | End ↦ may End
    ] in
    at e

pub twins-held : (coder : Coder) (p q s : Feed) (c d : Core) → AreTwins coder p q s c d → (n : ℕ) (x : Task)
    → holds_out coder c.runs n x ≡ holds_out coder d.runs n x
twins-held coder p q s c d t n x = ap (λ runs. holds_out coder runs n x) t.runs

twins-appended : (coder : Coder) (p q s : Feed) (c d : Core) → AreTwins coder p q s c d → (e : Entry)
    → AreTwins coder p q (e ∷ s) (appended c e) (appended d e)
twins-appended coder p q s c d t e = record {
  first = λ i. e ∷ t.first i;
  second = λ i. e ∷ t.second i;
  issued = t.issued;
  runs = t.runs;
  first_cut = t.first_cut;
  second_cut = t.second_cut;
  one_base = t.one_base;
}

twins-numbered : (coder : Coder) (p q s : Feed) (c d : Core) → AreTwins coder p q s c d → AreTwins coder p q s (with_reached coder c) (with_reached coder d)
twins-numbered coder p q s c d t =
    let b = twins-both coder p q s c d t in
    let new : unnumbered coder c.runs c.feed ≡ unnumbered coder d.runs d.feed =
    ap (filter (λ x. not (has coder (run_tasks c.runs) x))) (reached-same coder (closes p) c.feed d.feed b c.runs)
    ∙ (λ i. unnumbered coder (t.runs i) d.feed) in
    record {
      first = t.first;
      second = t.second;
      issued = λ i. t.issued i + length (new i);
      runs = λ i. t.runs i ++ numbered (t.issued i) (new i);
      first_cut = t.first_cut;
      second_cut = t.second_cut;
      one_base = t.one_base;
    }

twins-staged : (coder : Coder) (p q s : Feed) (c d : Core) → AreTwins coder p q s c d → (n : ℕ) (stage : Stage)
    → AreTwins coder p q s (with_stage c n stage) (with_stage d n stage)
twins-staged coder p q s c d t n stage = record {
  first = t.first;
  second = t.second;
  issued = t.issued;
  runs = ap (map (moved n stage)) t.runs;
  first_cut = t.first_cut;
  second_cut = t.second_cut;
  one_base = t.one_base;
}

pub twins-entered : (coder : Coder) (p q s : Feed) (c d : Core) → AreTwins coder p q s c d → (e : Entry)
    → AreTwins coder p q (e ∷ s) (entered coder c e) (entered coder d e)
twins-entered coder p q s c d t e =
    let b = twins-both coder p q s c d t in
    let plain = twins-appended coder p q s c d t in
    let at : (e : Entry) → AreTwins coder p q (e ∷ s) (entered coder c e) (entered coder d e) = elim [
      | Join spec ↦ plain (Join spec)
      | Leave who ↦ plain (Leave who)
      | Close tick ↦ twins-numbered coder p q (Close tick ∷ s) (appended c (Close tick)) (appended d (Close tick)) (plain (Close tick))
      | Collect ↦ record {
        first = λ i. Collect ∷ t.first i;
        second = λ i. Collect ∷ t.second i;
        issued = t.issued;
        runs = λ i. filter (λ r. not (r.task.tick == b.collected i)) (t.runs i);
        first_cut = t.first_cut;
        second_cut = t.second_cut;
        one_base = t.one_base;
      }
      | Cut ↦ plain Cut
      | End ↦ plain End
    ] in
    at e

twins-claimed : (coder : Coder) (p q s : Feed) (c d : Core) → AreTwins coder p q s c d → (o : Option Run) → AreTwins coder p q s (claimed c o) (claimed d o)
twins-claimed coder p q s c d t None = t
twins-claimed coder p q s c d t (Some r) = twins-staged coder p q s c d t r.number Out

-- where both test the same, both go on or neither does
both-or-none : (coder : Coder) (p q s more : Feed) (c d c' d' : Core) (a b : Bool) → a ≡ b → AreTwins coder p q s c d → AreTwins coder p q (more ++ s) c' d'
    → AreTwins coder p q (cond a more [] ++ s) (cond a c' c) (cond b d' d)
both-or-none coder p q s more c d c' d' a b e t u =
    let G : Bool → Bool → Type 0 = λ x y. AreTwins coder p q (cond x more [] ++ s) (cond x c' c) (cond y d' d) in
    subst (G a) e
    (elim (cases_Bool a) [
      | inl y ↦ subst (λ x. G x x) (sym y) u
      | inr n ↦ subst (λ x. G x x) (sym n) t
    ])

none-either : (b : Bool) → cond b (let none : Feed = [] in none) [] ≡ []
none-either true = refl
none-either false = refl

pub twins-next : (coder : Coder) (p q s : Feed) (c d : Core) → AreTwins coder p q s c d → (event : Event)
    → AreTwins coder p q (added coder c event ++ s) (next coder c event) (next coder d event)
twins-next coder p q s c d t (Enters e) =
    both-or-none coder p q s (e ∷ []) c d (entered coder c e) (entered coder d e) (accepts coder c e) (accepts coder d e)
    (twins-accept coder p q s c d t e) t (twins-entered coder p q s c d t e)
twins-next coder p q s c d t Claim =
    subst (λ o. AreTwins coder p q s (claimed c (next_waiting c.runs)) (claimed d o)) (ap next_waiting t.runs)
    (twins-claimed coder p q s c d t (next_waiting c.runs))
twins-next coder p q s c d t (Publish n x) =
    let to = λ (y : Core). with_reached coder (with_stage y n Finished) in
    let T : Feed → Type 0 = λ more. AreTwins coder p q (more ++ s) (next coder c (Publish n x)) (next coder d (Publish n x)) in
    subst T (none-either (holds_out coder c.runs n x))
    (both-or-none coder p q s [] c d (to c) (to d) (holds_out coder c.runs n x) (holds_out coder d.runs n x)
    (twins-held coder p q s c d t n x) t
    (twins-numbered coder p q s (with_stage c n Finished) (with_stage d n Finished) (twins-staged coder p q s c d t n Finished)))
twins-next coder p q s c d t (GiveBack n x) =
    let T : Feed → Type 0 = λ more. AreTwins coder p q (more ++ s) (next coder c (GiveBack n x)) (next coder d (GiveBack n x)) in
    subst T (none-either (holds_out coder c.runs n x))
    (both-or-none coder p q s [] c d (with_stage c n Waiting) (with_stage d n Waiting) (holds_out coder c.runs n x) (holds_out coder d.runs n x)
    (twins-held coder p q s c d t n x) t (twins-staged coder p q s c d t n Waiting))

-- ---- what a core keeps ----

collected-same : (coder : Coder) (m : ℕ) (g h : Feed) → Both coder m g h → collected_runs coder g ≡ collected_runs coder h
collected-same coder m g h b =
    let gone = collects g in
    let p = λ (x : Task). nat_lt x.tick gone in
    let least = b.least_gone in
    let later = wanted-from coder m g h b (λ l. true) (λ l k z. refl) (λ x. not (p x))
    (λ x lt. not_from_true (p x) (lt-ltb x.tick gone (omega arith))) in
    let one = length-filter_parts p (tasks coder g) in
    let other = length-filter_parts p (tasks coder h) in
    let all = b.runs in
    let same = ap length later in
    let early : length (filter p (tasks coder g)) ≡ length (filter p (tasks coder h)) = omega arith in
    early ∙ ap (λ (k : ℕ). length (filter (λ x. nat_lt x.tick k) (tasks coder h))) b.collected

-- what is kept of one core is kept of its twin
pub twins-kept : (coder : Coder) (p q s : Feed) (c d : Core) → AreTwins coder p q s c d → Kept coder c → Kept coder d
twins-kept coder p q s c d t k =
    let m = closes p in
    let b = twins-both coder p q s c d t in
    let reach : reached coder c.runs c.feed ≡ reached coder d.runs d.feed =
    reached-same coder m c.feed d.feed b c.runs ∙ ap (λ (rs : List Run). reached coder rs d.feed) t.runs in
    let has' = ap run_tasks t.runs in
    let old = k.carried in
    let gone = collected-same coder m c.feed d.feed b in
    let count = old.count in
    let issued = t.issued in
    let long = ap length t.runs in
    record {
      carried = record {
        legal = sym b.legal ∙ old.legal;
        once = subst Once has' old.once;
        all_reached = λ x i. subst (In x) reach (old.all_reached x (subst (In x) (sym has') i));
        count = omega arith;
        numbers = subst (λ (n : ℕ). Rise 0 n d.runs) t.issued (subst (Rise 0 c.issued) t.runs old.numbers);
      };
      all_numbered = λ x i. subst (In x) has' (k.all_numbered x (subst (In x) (sym reach) i));
    }
