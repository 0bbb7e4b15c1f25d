-- What a link and a clock that tell say of the ticks, one after the other.
use Rattle.std.proofs.Common.{◌≡◌, ◌∙◌, ℕ, zero, suc, ◌+◌, Bool, List, [], ◌∷◌, take, drop, Option, Some, None, Result, Ok, Err, sym, ap, subst, arith, add-one}
use Rattle.std.specs.Prelude.{IfSome, IfOk, OnOk, slice_get}
use Rattle.std.specs.List.{filter}
use Rattle.roster_text.specs.declared.commands.Timed.{Timed}
use Rattle.udp_edge.specs.Traffic.{Traffic}
use Rattle.udp_edge.specs.Time.{later, Answers}
use Rattle.session_spec.specs.Talkers.{Events}
use Rattle.session_spec.specs.Events.{after_tick}
use Rattle.live_spec.specs.Heard.{Live, next_answer, after_answers, rounds_in, rounds_to, turns_in, datagrams, is_control, heard, controls, live_events}
use Rattle.live_spec.proofs.Counting.{controls-more}
use Rattle.live_spec.specs.Letters.{Letter}
use Rattle.live_link.specs.declared.controls.Controls.{Controls}
use Rattle.live_link.specs.Rounds.{speech, with_controls, with_datagrams, Finds}
use Rattle.live_link.proofs.Hearing.{controls-both}
use Rattle.live_run.specs.Running.{Ends, Moves, no_controls, AsTold, given, IfTold}
use Rattle.live_run.specs.Ended.{live_of}

-- the answers after some, and then after more
after-more : (n m : ℕ) (answers : List ℕ) → after_answers m (after_answers n answers) ≡ after_answers (n + m) answers
after-more zero m answers = let same : m ≡ 0 + m = omega arith in ap (λ (i : ℕ). after_answers i answers) same
after-more (suc n) m answers =
    let same : suc n + m ≡ suc (n + m) = omega arith in
    after-more n m (later answers) ∙ ap (λ (i : ℕ). after_answers i answers) (sym same)

-- ---- what holds of each session that is told ----

pub told-with : (ends : Ends) (start : ℕ) (P Q : Live → Type 0) → ((live : Live) → P live → Q live) → IfTold ends start P → IfTold ends start Q
told-with ends start P Q f h = by ends.traffic ends.answers h
  where
    by : (t : Option Traffic) (a : Option (List ℕ)) → IfSome t (λ told. IfSome a (λ answers. P (given told answers start)))
        → IfSome t (λ told. IfSome a (λ answers. Q (given told answers start)))
    by None a h = tt
    by (Some told) None h = tt
    by (Some told) (Some answers) h = f (given told answers start) h

-- ---- the clock's first answer is the start ----

next-is : (answers : List ℕ) (now : ℕ) → slice_get answers 0 ≡ Some now → next_answer answers ≡ now
next-is [] now e = cc
next-is (a ∷ answers) now e = cc

pub from-start : (t : Option Traffic) (answers after : Option (List ℕ)) (now : ℕ) (Q : Live → Type 0) → Answers answers after now
    → IfTold (record { traffic = t; answers = after }) now Q → IfSome t (λ told. IfSome answers (λ ans. Q (live_of told ans)))
from-start None answers after now Q asked h = tt
from-start (Some told) None after now Q asked h = tt
from-start (Some told) (Some ans) after now Q asked h =
    let (first, next) = asked in
    let here : Q (given told (later ans) now) = subst (λ (o : Option (List ℕ)). IfSome o (λ answers. Q (given told answers now))) next h in
    subst (λ (s : ℕ). Q (record { coming = told.coming; start = s; answers = later ans })) (sym (next-is ans now first)) here

pub never-started : (t : Option Traffic) (answers : Option (List ℕ)) (Q : Live → Type 0) → ((live : Live) → Q live)
    → IfSome t (λ told. IfSome answers (λ ans. Q (live_of told ans)))
never-started None answers Q f = tt
never-started (Some told) None Q f = tt
never-started (Some told) (Some ans) Q f = f (live_of told ans)

-- ---- one more tick ----

-- what is known after the rounds of tick k
module _ (plan : List Timed) (live : Live) (k n m : ℕ) (answers after : Option (List ℕ)) (before now : Controls) (ds : List (List ℕ)) (h : Events)
    (was : AsTold plan live n answers k before h)
    (rounds : IfSome answers (λ told. (m ≡ rounds_in k live.start told) × (after ≡ Some (after_answers m told))))
    (found : ds ≡ datagrams (take m (drop n live.coming)))
    (counted : now ≡ with_datagrams before ds) where
  rounds-now : (m ≡ rounds_in k live.start (after_answers n live.answers)) × (after ≡ Some (after_answers m (after_answers n live.answers)))
  rounds-now = subst (λ (o : Option (List ℕ)). IfSome o (λ told. (m ≡ rounds_in k live.start told) × (after ≡ Some (after_answers m told)))) was.after_is rounds

  rounds-are : m ≡ rounds_in k live.start (after_answers (rounds_to live k) live.answers)
  rounds-are = rounds-now.0 ∙ ap (λ (i : ℕ). rounds_in k live.start (after_answers i live.answers)) was.rounds_are

  found-are : ds ≡ datagrams (turns_in live k)
  found-are =
      found
      ∙ ap (λ (i : ℕ). datagrams (take i (drop n live.coming))) rounds-are
      ∙ ap (λ (i : ℕ). datagrams (take (rounds_in k live.start (after_answers (rounds_to live k) live.answers)) (drop i live.coming))) was.rounds_are

  more-rounds : n + m ≡ rounds_to live (suc k)
  more-rounds = let one = was.rounds_are in let two = rounds-are in omega arith

  more-controls : now ≡ with_controls no_controls (controls live (suc k))
  more-controls =
      counted
      ∙ ap (λ (c : Controls). with_datagrams c ds) was.controls_are
      ∙ ap (λ (es : List (List ℕ)). with_controls (with_controls no_controls (controls live k)) (filter is_control es)) found-are
      ∙ controls-both no_controls (controls live k) (filter is_control (datagrams (turns_in live k)))
      ∙ ap (with_controls no_controls) (sym (controls-more live k))

  pub as-told-more : AsTold plan live (n + m) after (k + 1) now (after_tick plan k (speech k ds) h)
  as-told-more =
      let one = sym (add-one k) in
      record {
        rounds_are = more-rounds ∙ ap (rounds_to live) one;
        after_is = rounds-now.1 ∙ ap Some (after-more n m live.answers);
        controls_are = more-controls ∙ ap (λ (i : ℕ). with_controls no_controls (controls live i)) one;
        events_are =
            ap (λ (es : List (List ℕ)). after_tick plan k (speech k es) h) found-are
            ∙ ap (λ (e : Events). after_tick plan k (heard live k) e) was.events_are
            ∙ ap (live_events plan live) one;
      }

-- the same of a link and a clock
pub told-more : (plan : List Timed) (start : ℕ) (old : Ends) (k n m : ℕ) (mid now : Option Traffic) (answers after : Option (List ℕ)) (before heard' : Controls)
    (ds : List (List ℕ)) (h : Events) (letters : List Letter) (went : List Bool) → Moves n old.traffic mid letters went
    → IfSome answers (λ told. (m ≡ rounds_in k start told) × (after ≡ Some (after_answers m told))) → Finds m mid now ds → heard' ≡ with_datagrams before ds
    → IfTold old start (λ live. AsTold plan live n answers k before h)
    → IfTold old start (λ live. AsTold plan live (n + m) after (k + 1) heard' (after_tick plan k (speech k ds) h))
told-more plan start old k n m mid now answers after before heard' ds h letters went moves rounds finds counted was = by old.traffic old.answers moves was
  where
    by : (t : Option Traffic) (a : Option (List ℕ)) → Moves n t mid letters went
        → IfSome t (λ told. IfSome a (λ ans. AsTold plan (given told ans start) n answers k before h))
        → IfSome t (λ told. IfSome a (λ ans. AsTold plan (given told ans start) (n + m) after (k + 1) heard' (after_tick plan k (speech k ds) h)))
    by None a moves was = tt
    by (Some told) None moves was = tt
    by (Some told) (Some ans) moves was =
        let here = subst (λ (o : Option Traffic). Finds m o now ds) moves finds in
        as-told-more plan (given told ans start) k n m answers after before heard' ds h was rounds here.0 counted

-- ---- answers ----

-- what follows from what an answer says
pub ok-all : {T E : Type 0} (r : Result T E) (P Q : T → Type 0) → ((x : T) → P x → Q x) → IfOk r P → IfOk r Q
ok-all (Ok x) P Q f h = f x h
ok-all (Err e) P Q f h = tt

pub ok-so : {T E : Type 0} (r : Result T E) (P : T → Type 0) (A : Type 0) → ((x : T) → P x → A) → IfOk r P → OnOk r A
ok-so (Ok x) P A f h = f x h
ok-so (Err e) P A f h = tt
