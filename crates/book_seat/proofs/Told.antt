-- What the calls say over the seen list.
use Rattle.std.proofs.Common.{◌≡◌, ℕ, ◌<◌, inl, inr, true, false, not, ◌∷◌, refl, sym, ◌∙◌, ap, subst}
use Rattle.std.specs.Prelude.{Result, Ok, Err, OnOk, OnErr, IfOk, IfErr, nat_lt, ◌==◌, if◌then◌else◌}
use Rattle.std.proofs.lemmas.Bool.{cases_Bool, cond-true, cond-false, false≢true, and_parts, ltb-true, eq-eqb}
use Rattle.conference_spec.specs.declared.Entry.{Entry}
use Rattle.conference_spec.specs.declared.Entry.TheVariants.{Collect, Cut, End}
use Rattle.conference_spec.specs.Codec.{g726}
use Rattle.conference_spec.specs.Feed.{Feed, closes, collects, ended}
use Rattle.conference_spec.specs.Packets.{sent}
use Rattle.conference_spec.specs.Tasks.{due, tasks, triples}
use Rattle.conference_spec.specs.declared.Task.{Task}
use Rattle.conference_spec.specs.Members.{In, Kept}
use Rattle.conference_spec.specs.Machine.{Core, Run, accepts, waits, is_over}
use Rattle.conference_spec.proofs.Equal.{g726-tells}
use Rattle.conference_spec.proofs.Members.{in-map, in-filter}
use Rattle.conference_spec.proofs.Steps.{find-in}
use Rattle.conference_spec.proofs.Events.{run-wanted}
use Rattle.conference_spec.proofs.Wants.{wanted-tick}
use Rattle.conference_spec.proofs.Told.{told}
use Rattle.book_lock.specs.declared.view.View.{View}
use Rattle.tick_core.specs.declared.jobs.Claim.{Claim}
use Rattle.tick_core.specs.declared.jobs.Claim.TheVariants.{Job, Idle, Over}
use Rattle.tick_core.specs.declared.faults.NotYet.{NotYet}
use Rattle.tick_core.specs.Held.{Held, Sent}
use Rattle.tick_core.specs.Locking.{Parts}
use Rattle.tick_core.specs.Standing.{TellsOver}
use Rattle.tick_core.proofs.Twins.{kept-all}
use Rattle.book_seat.specs.Steps.{TakesOr, CollectGives, CutGives, EndGives, IssuedGives, ClaimGives, PublishGives, BackGives, IsWanted}
use Rattle.book_seat.specs.Taken.{TookTurn}
use Rattle.book_seat.proofs.Feeds.{took-feed, refused-feed, claim-feed}

-- the desk's turn found its seen list
pub at-seen : (v w : View Entry Parts) (step : Core → Core → Type 0) (P : Feed → Type 0) → v.desk ≡ true → (t : TookTurn v w step) → P t.found.feed
    → (h : Feed) → v.seen ≡ h → P h
at-seen v w step P desk t p h s = subst P (t.may.1 desk ∙ s) p

-- ---- entries ----

takes-seen : {F : Type 0} (e : Entry) (r : Result (Unit {0}) F) (c d : Core) (old new : Feed) → c.feed ≡ old → new ≡ d.feed → TakesOr e r c d
    → OnOk r ((h : Feed) → old ≡ h → new ≡ e ∷ h)
takes-seen e (Ok u) c d old new was is t = λ h s. is ∙ took-feed c d e t.0 t.1 ∙ ap (λ (k : Feed). e ∷ k) (was ∙ s)
takes-seen e (Err f) c d old new was is t = tt

keeps-seen : {F : Type 0} (e : Entry) (r : Result (Unit {0}) F) (c d : Core) (old new : Feed) → c.feed ≡ old → new ≡ d.feed → TakesOr e r c d
    → OnErr r ((h : Feed) → old ≡ h → new ≡ h)
keeps-seen e (Ok u) c d old new was is t = tt
keeps-seen e (Err f) c d old new was is t = λ h s. is ∙ ap (λ (x : Core). x.feed) t ∙ was ∙ s

pub takes-ok : {F : Type 0} (v w : View Entry Parts) (e : Entry) (r : Result (Unit {0}) F) (step : Core → Core → Type 0) → v.desk ≡ true
    → (t : TookTurn v w step) → TakesOr e r t.found t.left → OnOk r ((h : Feed) → v.seen ≡ h → w.seen ≡ e ∷ h)
takes-ok v w e r step desk t takes = takes-seen e r t.found t.left v.seen w.seen (t.may.1 desk) t.seen takes

pub takes-err : {F : Type 0} (v w : View Entry Parts) (e : Entry) (r : Result (Unit {0}) F) (step : Core → Core → Type 0) → v.desk ≡ true
    → (t : TookTurn v w step) → TakesOr e r t.found t.left → OnErr r ((h : Feed) → v.seen ≡ h → w.seen ≡ h)
takes-err v w e r step desk t takes = keeps-seen e r t.found t.left v.seen w.seen (t.may.1 desk) t.seen takes

-- ---- collects ----

pub collect-tick : (v w : View Entry Parts) (r : Result Sent NotYet) → v.desk ≡ true → TookTurn v w (CollectGives r)
    → IfOk r (λ p. (h : Feed) → v.seen ≡ h → p.tick ≡ collects h)
collect-tick v w (Ok p) desk t = λ h s. t.did.1 ∙ ap collects (t.may.1 desk ∙ s)
collect-tick v w (Err e) desk t = tt

pub collect-packets : (v w : View Entry Parts) (r : Result Sent NotYet) → v.desk ≡ true → TookTurn v w (CollectGives r)
    → IfOk r (λ p. (h : Feed) → v.seen ≡ h → p.packets ≡ sent g726 (collects h) h)
collect-packets v w (Ok p) desk t = λ h s. t.did.2 ∙ ap (λ (k : Feed). sent g726 (collects k) k) (t.may.1 desk ∙ s)
collect-packets v w (Err e) desk t = tt

pub collect-ok : (v w : View Entry Parts) (r : Result Sent NotYet) → v.desk ≡ true → TookTurn v w (CollectGives r)
    → OnOk r ((h : Feed) → v.seen ≡ h → (collects h < closes h) × (w.seen ≡ Collect ∷ h))
collect-ok v w (Ok p) desk t = λ h s.
    let c = t.found in
    let is = t.may.1 desk ∙ s in
    let some = ltb-true (collects c.feed) (closes c.feed) (and_parts (nat_lt (collects c.feed) (closes c.feed)) (is_over g726 c.runs c.feed (collects c.feed)) t.did.0).0 in
    (subst (λ (k : Feed). collects k < closes k) is some, t.seen ∙ took-feed c t.left Collect t.did.0 t.did.3 ∙ ap (λ (k : Feed). Collect ∷ k) is)
collect-ok v w (Err e) desk t = tt

pub collect-err : (v w : View Entry Parts) (r : Result Sent NotYet) → v.desk ≡ true → TookTurn v w (CollectGives r)
    → OnErr r ((h : Feed) → v.seen ≡ h → w.seen ≡ h)
collect-err v w (Ok p) desk t = tt
collect-err v w (Err e) desk t = λ h s. t.seen ∙ ap (λ (x : Core). x.feed) t.did.1 ∙ (t.may.1 desk ∙ s)

-- ---- cuts ----

pub cut-seen : (v w : View Entry Parts) → v.desk ≡ true → TookTurn v w CutGives → (h : Feed) → v.seen ≡ h → w.seen ≡ Cut ∷ h
cut-seen v w desk t h s = t.seen ∙ took-feed t.found t.left Cut t.did.0 t.did.1 ∙ ap (λ (k : Feed). Cut ∷ k) (t.may.1 desk ∙ s)

-- ---- the end ----

pub end-seen : (v w : View Entry Parts) → v.desk ≡ true → TookTurn v w EndGives → (h : Feed) → v.seen ≡ h → w.seen ≡ (if ended h then h else End ∷ h)
end-seen v w desk t h s =
    let c = t.found in
    let is = t.may.1 desk ∙ s in
    elim (cases_Bool (ended c.feed)) [
      | inl over ↦ (let refused : accepts g726 c End ≡ false = ap not over in
          t.seen ∙ refused-feed c t.left End refused t.did ∙ (is ∙ sym (cond-true (ended h) h (End ∷ h) (ap ended (sym is) ∙ over))))
      | inr open' ↦ (let taken : accepts g726 c End ≡ true = ap not open' in
          t.seen ∙ took-feed c t.left End taken t.did ∙ (ap (λ (k : Feed). End ∷ k) is ∙ sym (cond-false (ended h) h (End ∷ h) (ap ended (sym is) ∙ open'))))
    ]

-- ---- readers ----

-- nothing was done, and this was read
pub read-same : (v w : View Entry Parts) (step : Core → Core → Type 0) → v.desk ≡ true → (t : TookTurn v w step) → t.left ≡ t.found
    → (h : Feed) → v.seen ≡ h → w.seen ≡ h
read-same v w step desk t same h s = t.seen ∙ ap (λ (x : Core). x.feed) same ∙ (t.may.1 desk ∙ s)

pub issued-due : (v w : View Entry Parts) (n : ℕ) → v.desk ≡ true → TookTurn v w (IssuedGives n)
    → (h : Feed) → v.seen ≡ h → collects h ≡ closes h → n ≡ due g726 h
issued-due v w n desk t h s all =
    let is = t.may.1 desk ∙ s in
    let holds = told g726 g726-tells t.found (kept-all t.was.0 t.found t.was.1) in
    t.did.0 ∙ (holds.counted.at_end (ap collects is ∙ (all ∙ sym (ap closes is))) ∙ ap (due g726) is)

-- ---- workers ----

-- what a claim says of the end
pub claim-over : (v w : View Entry Parts) (j : Claim) → TookTurn v w (ClaimGives j) → TellsOver j (ended w.seen ≡ true)
claim-over v w (Job j) t = tt
claim-over v w Idle t = λ e. false≢true (sym t.did.1 ∙ (ap ended (sym (t.seen ∙ claim-feed Idle t.found t.left t.did)) ∙ e))
claim-over v w Over t = ap ended (t.seen ∙ claim-feed Over t.found t.left t.did) ∙ t.did.1

-- what is run is wanted
pub run-is-wanted : (c : Core) → Kept g726 c → (r : Run) → In r c.runs → (r.task.tick < closes c.feed) × In r.task (triples g726 r.task.tick c.feed)
run-is-wanted c kept r i =
    let w = run-wanted g726 g726-tells c kept.carried r.task (in-map (λ (q : Run). q.task) r c.runs i) in
    (wanted-tick g726 (λ l. true) c.feed r.task w, in-filter (λ (x : Task). x.tick == r.task.tick) r.task (tasks g726 c.feed) w (eq-eqb r.task.tick r.task.tick refl))

pub claim-wanted : (v w : View Entry Parts) (j : Claim) → TookTurn v w (ClaimGives j) → IsWanted j w.seen
claim-wanted v w (Job j) t =
    let c = t.found in
    let r = t.did.0 in
    let found = find-in (λ (q : Run). waits q.stage) c.runs r t.did.1 in
    let is : c.feed ≡ w.seen = sym (t.seen ∙ claim-feed (Job j) c t.left t.did) in
    let at = run-is-wanted c (kept-all t.was.0 c t.was.1) r found.0 in
    subst (λ (h : Held). (h.task.tick < closes w.seen) × In h.task (triples g726 h.task.tick w.seen)) (sym t.did.2)
    (subst (λ (k : Feed). (r.task.tick < closes k) × In r.task (triples g726 r.task.tick k)) is at)
claim-wanted v w Idle t = tt
claim-wanted v w Over t = tt

pub publish-back : (v w : View Entry Parts) (h : Held) (r : Result (Unit {0}) Held) → TookTurn v w (PublishGives h r) → IfErr r (λ e. e ≡ h)
publish-back v w h (Ok u) t = tt
publish-back v w h (Err e) t = t.did.1

pub give-back : (v w : View Entry Parts) (h : Held) (r : Result (Unit {0}) Held) → TookTurn v w (BackGives h r) → IfErr r (λ e. e ≡ h)
give-back v w h (Ok u) t = tt
give-back v w h (Err e) t = t.did.1
