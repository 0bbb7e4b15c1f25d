-- What a watched desk and a noted Book have counted, as a session goes on.
use Rattle.std.proofs.Common.{◌≡◌, ◌∙◌, ℕ, Bool, true, false, List, [], ◌∷◌, refl, sym, ap}
use Rattle.std.specs.Prelude.{if◌then◌else◌, ◌==◌, Result, Ok, Err, OnOk}
use Rattle.std.specs.List.{list_any}
use Rattle.roster_text.specs.declared.commands.Timed.{Timed}
use Rattle.talk_mix.specs.declared.ticks.Tick.{Tick}
use Rattle.conference_spec.specs.declared.Entry.TheVariants.{Leave, Close, Collect}
use Rattle.conference_spec.specs.Codec.{g726}
use Rattle.conference_spec.specs.Feed.{Feed, Listener, listeners}
use Rattle.desk_run.specs.Handing.{leaving}
use Rattle.session_spec.specs.Talkers.{Events, Applies, Cuts}
use Rattle.session_spec.specs.Events.{after_commands, after_cut, begins_with_cut}
use Rattle.g726_bits.specs.declared.Rate.{Rate}
use Rattle.session_account.specs.Arriving.{arrived}
use Rattle.session_account.specs.Encoding.{runs_at}
use Rattle.session_account.specs.Listening.{Visited, Lists}
use Rattle.session_account.specs.Speaking.{Spoken, spoken, muted, after_tick}
use Rattle.session_account.proofs.TickSums.{muted-after}
use Rattle.session_report.specs.declared.watching.Watching.{Watching}
use Rattle.session_report.specs.Watching.{Counts}

arrived-commands : (cs : List Timed) (h : Events) → arrived (after_commands cs h) ≡ arrived h
arrived-commands [] h = refl
arrived-commands (c ∷ cs) h = arrived-commands cs (Applies c.command ∷ h)

arrived-cut : (k : ℕ) (h : Events) → arrived (after_cut k h) ≡ arrived h
arrived-cut k h = by-test (begins_with_cut k)
  where
    by-test : (b : Bool) → arrived (if b then Cuts ∷ h else h) ≡ arrived h
    by-test true = refl
    by-test false = refl

-- the commands of a tick were applied
pub counts-commands : (old new : Watching) (cs : List Timed) (k : ℕ) (h : Events) → new.streams ≡ old.streams → new.lost ≡ old.lost
    → Counts old h → Counts new (after_commands cs (after_cut k h))
counts-commands old new cs k h streams lost was none =
    streams ∙ was (sym lost ∙ none) ∙ sym (arrived-commands cs (after_cut k h) ∙ arrived-cut k h)

-- a tick was closed
pub spoken-close : (old new : Spoken) (tick : Tick) (f : Feed) → new ≡ after_tick tick old → old ≡ spoken (muted old) f
    → new ≡ spoken (muted new) (Collect ∷ Close tick ∷ f)
spoken-close old new tick f after was =
    after ∙ ap (λ s. after_tick tick s) (was ∙ ap (λ s. spoken s f) (sym (ap muted after ∙ muted-after tick old)))

-- a member goes
pub spoken-leaving : (s : Spoken) (member : ℕ) (f : Feed) → s ≡ spoken (muted s) f → s ≡ spoken (muted s) (leaving member f)
spoken-leaving s member f was = was ∙ by-test (list_any (λ l. l.spec.member == member) (listeners g726 f))
  where
    by-test : (b : Bool) → spoken (muted s) f ≡ spoken (muted s) (if b then Leave member ∷ f else f)
    by-test true = refl
    by-test false = refl

pub lists-leaving : (old new : Visited) (member : ℕ) (f : Feed) → (Lists old f → Lists new (Leave member ∷ f))
    → (Lists old f → list_any (λ (l : Listener). l.spec.member == member) (listeners g726 f) ≡ false → Lists new f) → Lists old f → Lists new (leaving member f)
lists-leaving old new member f leaves absent was = by-test (list_any (λ (l : Listener). l.spec.member == member) (listeners g726 f)) refl
  where
    by-test : (b : Bool) → list_any (λ (l : Listener). l.spec.member == member) (listeners g726 f) ≡ b → Lists new (if b then Leave member ∷ f else f)
    by-test true e = leaves was
    by-test false e = absent was e

pub runs-leaving : (rate : Rate) (member : ℕ) (f : Feed) → runs_at rate f ≡ runs_at rate (leaving member f)
runs-leaving rate member f = by-test (list_any (λ l. l.spec.member == member) (listeners g726 f))
  where
    by-test : (b : Bool) → runs_at rate f ≡ runs_at rate (if b then Leave member ∷ f else f)
    by-test true = refl
    by-test false = refl

-- what follows from it, of an answer without a fault
pub ok-with : {T E : Type 0} (r : Result T E) (P Q : Type 0) → (P → Q) → OnOk r P → OnOk r Q
ok-with (Ok x) P Q f h = f h
ok-with (Err e) P Q f h = tt
