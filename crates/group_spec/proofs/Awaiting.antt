-- What a guest waits for, and the run of that.
use Rattle.std.proofs.Common.{◌≡◌, ℕ, ◌<◌, inl, inr, Bool, true, false, ◌&&◌, cond, List, [], ◌∷◌, ◌++◌, refl, sym, ◌∙◌, ap, subst, Some, None}
use Rattle.std.specs.Prelude.{◌==◌, ℤ, is_none}
use Rattle.std.specs.List.{filter, list_all}
use Rattle.std.specs.Option.{option_or}
use Rattle.std.proofs.lemmas.Bool.{cases_Bool, cond_both, cond-true, cond-false, and_parts}
use Rattle.g726_bits.specs.declared.Rate.{Rate}
use Rattle.g726_bits.specs.State.{CodecState}
use Rattle.conference_spec.specs.declared.Entry.{Entry}
use Rattle.conference_spec.specs.declared.Entry.TheVariants.{Join, Leave, Close, Collect, Cut, End}
use Rattle.conference_spec.specs.declared.Task.{Task}
use Rattle.conference_spec.specs.Coding.{Coder, Tells}
use Rattle.conference_spec.specs.Feed.{Feed, Listener, Guest, listeners, guests, goes, stays, hears, begins, closes, collects}
use Rattle.conference_spec.specs.Tasks.{own_task, own_tasks, tasks_of}
use Rattle.conference_spec.specs.Machine.{Core, Run, is_done, has_passed}
use Rattle.conference_spec.specs.Kept.{WaitsAt, WaitsForOne}
use Rattle.conference_spec.specs.Members.{In, Kept}
use Rattle.conference_spec.proofs.Members.{in-append_cases, in-append_right, in-map, in-map_cases, in-filter}
use Rattle.conference_spec.proofs.Wants.{wanted-tick}
use Rattle.conference_spec.proofs.Stages.{reached-parts}
use Rattle.conference_spec.proofs.Told.{contains-in}
use Rattle.conference_spec.proofs.Sends.{listeners-present}
use Rattle.conference_spec.proofs.Waiters.{not-done, waits-for}
use Rattle.group_spec.specs.Groups.{oldest_open, awaited}

-- ---- the oldest task that isn't done ----

pub oldest-none : (p : Task → Bool) (xs : List Task) → list_all p xs ≡ true → oldest_open p xs ≡ None
oldest-none p [] e = refl
oldest-none p (x ∷ xs) e =
    let a = and_parts (p x) (list_all p xs) e in
    ap (λ o. option_or o (cond (p x) None (Some x))) (oldest-none p xs a.1) ∙ cond-true (p x) None (Some x) a.0

pub oldest-at : (coder : Coder) (p : Task → Bool) (from : ℕ) (rate : Rate) (first : CodecState) (later : List (List ℤ)) (f : List ℤ) (earlier : List (List ℤ))
    → list_all p (own_tasks coder from rate first earlier) ≡ true → p (own_task coder from rate first earlier f) ≡ false
    → oldest_open p (own_tasks coder from rate first (later ++ f ∷ earlier)) ≡ Some (own_task coder from rate first earlier f)
oldest-at coder p from rate first [] f earlier all stops =
    let x = own_task coder from rate first earlier f in
    ap (λ o. option_or o (cond (p x) None (Some x))) (oldest-none p (own_tasks coder from rate first earlier) all) ∙ cond-false (p x) None (Some x) stops
oldest-at coder p from rate first (y ∷ later) f earlier all stops =
    let x = own_task coder from rate first (later ++ f ∷ earlier) y in
    ap (λ o. option_or o (cond (p x) None (Some x))) (oldest-at coder p from rate first later f earlier all stops)

-- whoever waits at a run waits for its task
pub awaited-run : (coder : Coder) → Tells coder → (c : Core) → Kept coder c → (l : Listener) (r : Run) → WaitsAt coder c l r → awaited coder c l ≡ Some r.task
awaited-run coder tells c k l r w =
    let p = is_done coder (collects c.feed) c.runs in
    let own = own_task coder l.from l.spec.rate l.first w.earlier w.frame in
    let stops : p own ≡ false = elim (cases_Bool (p own)) [
      | inl t ↦ absurd (not-done coder tells c k r (contains-in c.runs r w.there) w.unfinished (ap p w.own ∙ t))
      | inr t ↦ t
    ] in
    ap (λ hs. oldest_open p (own_tasks coder l.from l.spec.rate l.first hs)) w.heard
    ∙ oldest-at coder p l.from l.spec.rate l.first w.later w.frame w.earlier w.passed stops
    ∙ ap Some (sym w.own)

pub awaited-none : (coder : Coder) (c : Core) (l : Listener) → has_passed coder (collects c.feed) c.runs l ≡ true → awaited coder c l ≡ None
awaited-none coder c l t = oldest-none (is_done coder (collects c.feed) c.runs) (tasks_of coder l) t

-- a run's tick is closed
pub run-early : (coder : Coder) (c : Core) → Kept coder c → (r : Run) → In r c.runs → r.task.tick < closes c.feed
run-early coder c k r i =
    let parts = reached-parts coder c.runs c.feed r.task (k.carried.all_reached r.task (in-map (λ r. r.task) r c.runs i)) in
    wanted-tick coder (has_passed coder (collects c.feed) c.runs) c.feed r.task parts.0

-- ---- guests and the listeners that they were ----

pub present-in : (coder : Coder) (h : Feed) (g : Guest) → In g (guests coder h) → is_none g.left ≡ true → In g.listener (listeners coder h)
present-in coder h g i t =
    let P : List Listener → Type 0 = λ ls. In g.listener ls in
    subst P (sym (listeners-present coder h)) (in-map (λ x. x.listener) g (filter (λ x. is_none x.left) (guests coder h)) (in-filter (λ x. is_none x.left) g (guests coder h) i t))

-- a guest stood among the listeners of an earlier feed, just as it is now
pub record Was (coder : Coder) (h : Feed) (l : Listener) : Type 0 where
  pub since : Feed
  pub old : Feed
  pub whole : h ≡ since ++ old
  pub there : In l (listeners coder old)

later : (coder : Coder) (e : Entry) (h : Feed) (l : Listener) → Was coder h l → Was coder (e ∷ h) l
later coder e h l w = record { since = e ∷ w.since; old = w.old; whole = ap (λ x. e ∷ x) w.whole; there = w.there }

pub was-listener : (coder : Coder) (h : Feed) (g : Guest) → In g (guests coder h) → Was coder h g.listener
was-listener coder [] g i = absurd i
was-listener coder (Join spec ∷ h) g i =
    elim (in-append_cases g (guests coder h) (record { listener = begins coder spec (closes h); left = None } ∷ []) i) [
      | inl a ↦ later coder (Join spec) h g.listener (was-listener coder h g a)
      | inr b ↦ elim b [
        | inl e ↦ record {
          since = [];
          old = Join spec ∷ h;
          whole = refl;
          there = in-append_right g.listener (listeners coder h) (begins coder spec (closes h) ∷ []) (inl (ap (λ x. x.listener) e));
        }
        | inr z ↦ absurd z
      ]
    ]
was-listener coder (Leave m ∷ h) g i =
    let s = in-map_cases (goes m (closes h)) g (guests coder h) i in
    let w = later coder (Leave m) h s.0.listener (was-listener coder h s.0 s.1) in
    let P : Guest → Type 0 = λ x. Was coder (Leave m ∷ h) x.listener in
    subst P s.2 (cond_both (is_none s.0.left && (s.0.listener.spec.member == m)) (record { listener = s.0.listener; left = Some (closes h) }) s.0 P (λ t. w) (λ t. w))
was-listener coder (Close tick ∷ h) g i =
    let s = in-map_cases (stays tick) g (guests coder h) i in
    let P : Guest → Type 0 = λ x. Was coder (Close tick ∷ h) x.listener in
    subst P s.2 (cond_both (is_none s.0.left) (record { listener = hears tick s.0.listener; left = None }) s.0 P
    (λ t. record { since = []; old = Close tick ∷ h; whole = refl; there = in-map (hears tick) s.0.listener (listeners coder h) (present-in coder h s.0 s.1 t) })
    (λ t. later coder (Close tick) h s.0.listener (was-listener coder h s.0 s.1)))
was-listener coder (Collect ∷ h) g i = later coder Collect h g.listener (was-listener coder h g i)
was-listener coder (Cut ∷ h) g i = later coder Cut h g.listener (was-listener coder h g i)
was-listener coder (End ∷ h) g i = later coder End h g.listener (was-listener coder h g i)

pub guest-waits : (coder : Coder) → Tells coder → (c : Core) → Kept coder c → (g : Guest) → In g (guests coder c.feed)
    → has_passed coder (collects c.feed) c.runs g.listener ≡ false → WaitsForOne coder c g.listener
guest-waits coder tells c k g i t =
    let w = was-listener coder c.feed g i in
    waits-for coder tells c k w.since w.old w.whole g.listener w.there t
