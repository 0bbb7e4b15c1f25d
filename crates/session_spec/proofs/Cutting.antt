-- Cuts change nothing that is sent.
use Rattle.std.proofs.Common.{◌≡◌, ℕ, ◌+◌, true, not, List, [], ◌∷◌, ◌++◌, map, length, refl, ◌∙◌, ap, subst, Some, None, if◌then◌else◌}
use Rattle.std.specs.Prelude.{◌==◌, ◌||◌, ◌&&◌, is_some}
use Rattle.std.specs.List.{filter, flat_map}
use Rattle.talk_mix.specs.Choice.{chosen}
use Rattle.roster_text.specs.declared.commands.Command.{Command}
use Rattle.roster_text.specs.declared.commands.Command.TheVariants as command
use Rattle.conference_spec.specs.declared.Entry.{Entry}
use Rattle.conference_spec.specs.declared.Entry.TheVariants.{Join, Leave, Close, Collect, Cut, End}
use Rattle.conference_spec.specs.declared.Task.{Task}
use Rattle.conference_spec.specs.Coding.{Coder}
use Rattle.conference_spec.specs.Feed.{Feed, Listener, guests, goes, stays, listeners, begins, hears, closes}
use Rattle.conference_spec.specs.Packets.{packets_at, sent, rest}
use Rattle.conference_spec.specs.Tasks.{task_of, each_once, wanted, due}
use Rattle.session_spec.specs.Talkers.{Applies, Hears, Ticks, Cuts, Events, Talker, talkers, talkers_after, arrival, is_accepted, heard_now, voice}
use Rattle.session_spec.specs.Events.{listens, entries, feed_of, refused}
use Rattle.session_spec.specs.Laws.{without_cuts}

-- ---- two feeds that differ in cuts alone ----

pub record Uncut (coder : Coder) (f g : Feed) : Type 0 where
  pub came : guests coder f ≡ guests coder g
  pub here : listeners coder f ≡ listeners coder g
  pub closed : closes f ≡ closes g
  pub to_run : wanted coder (λ l. true) f ≡ wanted coder (λ l. true) g

both-enter : (coder : Coder) (e : Entry) (f g : Feed) → Uncut coder f g → Uncut coder (e ∷ f) (e ∷ g)
both-enter coder (Join spec) f g u = record {
  came =
      ap (λ gs. gs ++ record { listener = begins coder spec (closes f); left = None } ∷ []) u.came
      ∙ ap (λ k. guests coder g ++ record { listener = begins coder spec k; left = None } ∷ []) u.closed;
  here =
      ap (λ ls. ls ++ begins coder spec (closes f) ∷ []) u.here
      ∙ ap (λ k. listeners coder g ++ begins coder spec k ∷ []) u.closed;
  closed = u.closed;
  to_run = u.to_run;
}
both-enter coder (Leave member) f g u = record {
  came = ap (map (goes member (closes f))) u.came ∙ ap (λ k. map (goes member k) (guests coder g)) u.closed;
  here = ap (filter (λ l. not (l.spec.member == member))) u.here;
  closed = u.closed;
  to_run = u.to_run;
}
both-enter coder (Close tick) f g u =
    let tasks : ℕ → List Listener → List Task = λ k ls. each_once coder (map (task_of coder k tick) (filter (λ l. true) ls)) in
    record {
      came = ap (map (stays tick)) u.came;
      here = ap (map (hears tick)) u.here;
      closed = ap (λ k. k + 1) u.closed;
      to_run =
          ap (λ xs. xs ++ tasks (closes f) (listeners coder f)) u.to_run
          ∙ ap (λ k. wanted coder (λ l. true) g ++ tasks k (listeners coder f)) u.closed
          ∙ ap (λ ls. wanted coder (λ l. true) g ++ tasks (closes g) ls) u.here;
    }
both-enter coder Collect f g u = record { came = u.came; here = u.here; closed = u.closed; to_run = u.to_run }
both-enter coder Cut f g u = record { came = u.came; here = u.here; closed = u.closed; to_run = u.to_run }
both-enter coder End f g u = record { came = u.came; here = u.here; closed = u.closed; to_run = u.to_run }

both-append : (coder : Coder) (es f g : Feed) → Uncut coder f g → Uncut coder (es ++ f) (es ++ g)
both-append coder [] f g u = u
both-append coder (e ∷ es) f g u = both-enter coder e (es ++ f) (es ++ g) (both-append coder es f g u)

-- ---- the events without cuts ----

same-talkers : (h : Events) → talkers h ≡ talkers (without_cuts h)
same-talkers [] = refl
same-talkers (Applies c ∷ h) = ap (talkers_after (Applies c)) (same-talkers h)
same-talkers (Hears plen octets ∷ h) = ap (talkers_after (Hears plen octets)) (same-talkers h)
same-talkers (Ticks ∷ h) = ap (talkers_after Ticks) (same-talkers h)
same-talkers (Cuts ∷ h) = same-talkers h

same-listens : (m : ℕ) (h : Events) → listens m h ≡ listens m (without_cuts h)
same-listens m [] = refl
same-listens m (Applies (command.Join n talk listen) ∷ h) = ap (λ b. (n == m) && is_some listen || b) (same-listens m h)
same-listens m (Applies (command.Leave n) ∷ h) = ap (λ b. not (n == m) && b) (same-listens m h)
same-listens m (Hears plen octets ∷ h) = same-listens m h
same-listens m (Ticks ∷ h) = same-listens m h
same-listens m (Cuts ∷ h) = same-listens m h

same-entries : (c : Command) (h : Events) → entries c h ≡ entries c (without_cuts h)
same-entries (command.Join member talk None) h = refl
same-entries (command.Join member talk (Some listen)) h = refl
same-entries (command.Leave member) h = ap (λ b. if b then Leave member ∷ [] else []) (same-listens member h)

pub uncut : (coder : Coder) (h : Events) → Uncut coder (feed_of h) (feed_of (without_cuts h))
uncut coder [] = record { came = refl; here = refl; closed = refl; to_run = refl }
uncut coder (Applies c ∷ h) =
    let j = without_cuts h in
    let P : Feed → Type 0 = λ es. Uncut coder (entries c h ++ feed_of h) (es ++ feed_of j) in
    subst P (same-entries c h) (both-append coder (entries c h) (feed_of h) (feed_of j) (uncut coder h))
uncut coder (Hears plen octets ∷ h) = uncut coder h
uncut coder (Ticks ∷ h) =
    let j = without_cuts h in
    let tick = heard_now h in
    let P : List Talker → Type 0 = λ ts. Uncut coder (Collect ∷ Close tick ∷ feed_of h) (Collect ∷ Close (chosen (map voice ts)) ∷ feed_of j) in
    subst P (same-talkers h)
    (both-enter coder Collect (Close tick ∷ feed_of h) (Close tick ∷ feed_of j) (both-enter coder (Close tick) (feed_of h) (feed_of j) (uncut coder h)))
uncut coder (Cuts ∷ h) = let u = uncut coder h in record { came = u.came; here = u.here; closed = u.closed; to_run = u.to_run }

-- ---- what is sent ----

pub same-sent : (coder : Coder) (k : ℕ) (h : Events) → sent coder k (feed_of h) ≡ sent coder k (feed_of (without_cuts h))
same-sent coder k h = ap (flat_map (λ g. packets_at coder k g.listener)) (uncut coder h).came

pub same-left : (coder : Coder) (h : Events) → rest coder (feed_of h) ≡ rest coder (feed_of (without_cuts h))
same-left coder h =
    same-sent coder (closes (feed_of h)) h ∙ ap (λ k. sent coder k (feed_of (without_cuts h))) (uncut coder h).closed

pub same-runs : (coder : Coder) (h : Events) → due coder (feed_of h) ≡ due coder (feed_of (without_cuts h))
same-runs coder h = ap length (uncut coder h).to_run

pub same-refused : (h : Events) → refused h ≡ refused (without_cuts h)
same-refused [] = refl
same-refused (Applies c ∷ h) = same-refused h
same-refused (Hears plen octets ∷ h) =
    ap (λ ts. if is_accepted (arrival ts plen octets) then refused h else refused h + 1) (same-talkers h)
    ∙ ap (λ n. if is_accepted (arrival (talkers (without_cuts h)) plen octets) then n else n + 1) (same-refused h)
same-refused (Ticks ∷ h) = same-refused h
same-refused (Cuts ∷ h) = same-refused h
