-- How a tick ends, from what its parts answered.
use Rattle.std.proofs.Common.{◌≡◌, ◌+◌, ◌*◌, inl, inr, ℕ, List, length, map, sym, subst, Option, Result}
use Rattle.std.specs.Result.{IsErrAnd}
use Rattle.std.specs.Prelude.{IfErr}
use Rattle.edge_io.specs.declared.faults.PutFault.{PutFault}
use Rattle.edge_io.specs.declared.faults.PutFault.TheVariants as put
use Rattle.edge_io.specs.Told.{GrowsByFront}
use Rattle.roster_text.specs.declared.commands.Timed.{Timed}
use Rattle.rtp_dump.specs.declared.item.DumpItem.{DumpItem}
use Rattle.rtp_dump.specs.declared.faults.DumpFault.{DumpFault}
use Rattle.rtp_dump.specs.Reading.{Reading}
use Rattle.talk_mix.specs.declared.ticks.Tick.{Tick}
use Rattle.conference_spec.specs.Codec.{g726}
use Rattle.conference_spec.specs.Feed.{Feed}
use Rattle.session_spec.specs.Talkers.{Events}
use Rattle.session_spec.specs.Events.{after_records, after_tick}
use Rattle.session_spec.specs.Answer.{ticks_text}
use Rattle.tick_core.specs.Held.{Sent}
use Rattle.desk_run.specs.declared.stops.Stop.{Stop}
use Rattle.desk_run.specs.declared.stops.Stop.TheVariants as stop
use Rattle.desk_run.specs.Taking.{Heard, Broken}
use Rattle.desk_run.specs.Handing.{Amount, sent_from}
use Rattle.desk_run.specs.Stops.{of_put}
use Rattle.desk_run.specs.Ends.{HasWritten, Between, GivesUp, HasTextTo, HasFrontTo, HearsTick, EndsLate, TickStops}
use Rattle.desk_run.proofs.Results.{if-err}
use Rattle.desk_run.proofs.Ticked.{Begun, Parts, ticked, late}

module _ {S : Type 0} (rest : S → Option (List ℕ)) (r r' : Reading S) (plan : List Timed) (k : ℕ) (before : Option (List ℕ) → Events → Type 0) (now : Option (List ℕ)) where
  -- there was no memory, and nothing more was written
  pub early-end : (end : Result Unit Stop) → IsErrAnd end (λ y. y ≡ stop.Memory) → HasFrontTo before now k → IfErr end (λ y. TickStops rest r r' plan k before now y)
  early-end end is front = if-err end stop.Memory (λ y. TickStops rest r r' plan k before now y) is (inl front)

  -- the sink gave up
  pub put-end : (end : Result Unit Stop) (why : PutFault) → IsErrAnd end (λ y. y ≡ of_put why) → EndsLate rest r r' plan k before now
      → IfErr end (λ y. TickStops rest r r' plan k before now y)
  put-end end why is late = if-err end (of_put why) (λ y. TickStops rest r r' plan k before now y) is (by-put why)
    where
      by-put : (why : PutFault) → TickStops rest r r' plan k before now (of_put why)
      by-put put.Failed = inr late
      by-put put.Memory = inr late

  -- before the tick had begun
  pub begin-end : (end : Result Unit Stop) (why : PutFault) → IsErrAnd end (λ y. y ≡ of_put why) → HasFrontTo before now k
      → IfErr end (λ y. TickStops rest r r' plan k before now y)
  begin-end end why is front = if-err end (of_put why) (λ y. TickStops rest r r' plan k before now y) is (by-put why)
    where
      by-put : (why : PutFault) → TickStops rest r r' plan k before now (of_put why)
      by-put put.Failed = inl front
      by-put put.Memory = inl front

  -- the reader gave up
  pub gave-up-end : (why : DumpFault) (end : Stop) (whole front : Type 0) → Broken rest r r' (20 * (k + 1)) why → (whole → HasTextTo before now k) → (front → HasFrontTo before now k)
      → GivesUp why whole front end → TickStops rest r r' plan k before now end
  gave-up-end why (stop.Dump at kind) whole front broken w f (is, h) = (subst (Broken rest r r' (20 * (k + 1))) is broken, w h)
  gave-up-end why stop.Read whole front broken w f (is, h) = (subst (Broken rest r r' (20 * (k + 1))) is broken, w h)
  gave-up-end why stop.Write whole front broken w f h = inl (f h)
  gave-up-end why stop.Memory whole front broken w f h = inl (f h)

-- what follows for what was heard
heard-with : {S : Type 0} (rest : S → Option (List ℕ)) (r r' : Reading S) (end : ℕ) (P Q : List DumpItem → Type 0)
    → ((its : List DumpItem) → P its → Q its) → Heard rest r r' end P → Heard rest r r' end Q
heard-with rest r r' end P Q f heard = record {
  its = heard.its;
  hands = heard.hands;
  early = heard.early;
  late = heard.late;
  past = heard.past;
  sound = heard.sound;
  here = f heard.its heard.here;
}

-- where P held before the tick, and the tick was begun
module _ {T X Y : Type 0} (rest : T → Option (List ℕ)) (r r' : Reading T) (B S : X → Events → Type 0) (R : Y → Feed → ℕ → Type 0) (plan : List Timed) (k : ℕ)
    (x0 xc xh xf : X) (y0 yc yf : Y) (chosen : Tick) (ticks slice : List Sent) (m n : Option (List ℕ)) (w : Amount) (P : Option (List ℕ) → Events → Type 0)
    (begins : (o : Option (List ℕ)) (h : Events) → P o h → Begun (λ e. B x0 e) (λ f i. R y0 f i) o m w k h)
    (parts : Parts B S R plan k x0 xc xh xf y0 yc yf chosen ticks) (same : slice ≡ ticks)
    (heard : Heard rest r r' (20 * (k + 1)) (λ its. (h : Events) → S xc h → S xh (after_records its h))) where
  pub ticked-end : (v ve : Amount) (xe : X) (ye : Y) (ne : Option (List ℕ)) → xe ≡ xf → ye ≡ yf → ne ≡ n → ve ≡ v → v.ticks ≡ w.ticks + length slice
      → ((o : Option (List ℕ)) (f : Feed) → map (λ (t : Sent). t.packets) slice ≡ sent_from w.ticks (length slice) f → HasWritten o m w f → HasWritten o n v f)
      → HearsTick rest r r' plan k P (λ o h. Between (λ e. B xe e) (λ f i. R ye f i) o ne ve (k + 1) h)
  ticked-end v ve xe ye ne ex ey en ev all whole =
      heard-with rest r r' (20 * (k + 1)) _ _ (λ its here o h at.
      let done : Between (λ e. B xf e) (λ f i. R yf f i) o n v (k + 1) (after_tick plan k its h) =
      ticked B S R plan k x0 xc xh xf y0 yc yf chosen ticks slice its m n w v parts here same all whole o h (begins o h at) in
      subst (λ (u : Amount). Between (λ e. B xe e) (λ f i. R ye f i) o ne u (k + 1) (after_tick plan k its h)) (sym ev)
      (subst (λ (u : Option (List ℕ)). Between (λ e. B xe e) (λ f i. R ye f i) o u v (k + 1) (after_tick plan k its h)) (sym en)
      (subst (λ (u : Y). Between (λ e. B xe e) (λ f i. R u f i) o n v (k + 1) (after_tick plan k its h)) (sym ey)
      (subst (λ (u : X). Between (λ e. B u e) (λ f i. R yf f i) o n v (k + 1) (after_tick plan k its h)) (sym ex) done)))) heard

  pub late-end : ((o : Option (List ℕ)) (f : Feed) → map (λ (t : Sent). t.packets) slice ≡ sent_from w.ticks (length slice) f → HasWritten o m w f
      → GrowsByFront o n (ticks_text g726 (w.ticks + length slice) f))
      → EndsLate rest r r' plan k P n
  late-end front =
      heard-with rest r r' (20 * (k + 1)) _ _ (λ its here o h at.
      late B S R plan k x0 xc xh xf y0 yc yf chosen ticks slice its m n w parts here same front o h (begins o h at)) heard
