-- What a tick comes to: its cut, its commands, its records, its frames, and the ticks that are handed out.
use Rattle.std.proofs.Common.{◌≡◌, ◌<◌, ◌≤◌, ◌+◌, ◌++◌, ◌∷◌, ℕ, List, [], length, map, zero, suc, false, refl, sym, ap, ◌∙◌, subst, arith, append_assoc, add-one, Option}
use Rattle.std.specs.Prelude.{◌%◌, ◌==◌, ◌&&◌, not, true, nat_lt}
use Rattle.std.proofs.lemmas.Bool.{cond_both, and_from, eq-eqb, lt-ltb, not_from_false}
use Rattle.edge_io.specs.Told.{Grows, GrowsByFront}
use Rattle.roster_text.specs.declared.commands.Timed.{Timed}
use Rattle.rtp_dump.specs.declared.item.DumpItem.{DumpItem}
use Rattle.talk_mix.specs.declared.ticks.Tick.{Tick}
use Rattle.conference_spec.specs.declared.Entry.TheVariants.{Close, Collect, Cut}
use Rattle.conference_spec.specs.Codec.{g726}
use Rattle.conference_spec.specs.Feed.{Feed, closes, collects, ended, kept, may_follow}
use Rattle.session_spec.specs.Talkers.{Events, Applies, Ticks, Cuts, heard_now}
use Rattle.session_spec.specs.Events.{feed_of, entries, commands_of, after_commands, after_records, begins_with_cut, after_cut, kept_before, after_tick}
use Rattle.session_spec.specs.Answer.{ticks_text}
use Rattle.session_spec.proofs.Following.{records-feed, commands-closes, commands-kept, cut-closes, tick-closes, kept-cut, kept-tick, text-stays, all-collected, never-ended}
use Rattle.tick_core.specs.Held.{Sent}
use Rattle.desk_run.specs.Handing.{Amount, sent_from}
use Rattle.desk_run.specs.Ends.{HasWritten, Between, HasFrontTo}
use Rattle.desk_run.proofs.Handing.{written-stays, written-front, front-longer}

pub commands-since : (cs : List Timed) (h : Events) → (since : Feed) × (feed_of (after_commands cs h) ≡ since ++ feed_of h)
commands-since [] h = ([], refl)
commands-since (c ∷ cs) h =
    let (since, e) = commands-since cs (Applies c.command ∷ h) in
    (since ++ entries c.command h, e ∙ sym (append_assoc since (entries c.command h) (feed_of h)))

pub cut-since : (k : ℕ) (h : Events) → (since : Feed) × (feed_of (after_cut k h) ≡ since ++ feed_of h)
cut-since k h =
    let P : Events → Type 0 = λ j. (since : Feed) × (feed_of j ≡ since ++ feed_of h) in
    cond_both (begins_with_cut k) (Cuts ∷ h) h P (λ t. (Cut ∷ [], refl)) (λ t. ([], refl))

-- Desk, conference and answer as they stand once tick k has begun, and was cut if it begins with a cut. Its commands are next.
pub record Begun (desk : Events → Type 0) (conference : Feed → ℕ → Type 0) (old new : Option (List ℕ)) (w : Amount) (k : ℕ) (h : Events) : Type 0 where
  pub desk_stands : desk h
  pub conference_stands : conference (feed_of (after_cut k h)) w.ticks
  pub closed : closes (feed_of h) ≡ k
  pub behind : w.ticks ≤ k
  pub kept_is : kept (feed_of h) ≡ kept_before k
  pub written : HasWritten old new w (feed_of (after_cut k h))

-- its commands were applied, where desks stand as B says when a tick begins and as S says within it, and conferences as R says
abbrev pub Commands : {X Y : Type 0} → (B S : X → Events → Type 0) → (R : Y → Feed → ℕ → Type 0) → List Timed → ℕ → (x0 xc : X) → (y0 yc : Y) → Type 0
Commands B S R plan k x0 xc y0 yc = (h : Events) (n : ℕ) → B x0 h → closes (feed_of h) ≡ k → R y0 (feed_of (after_cut k h)) n
    → S xc (after_commands (commands_of plan k) (after_cut k h)) × R yc (feed_of (after_commands (commands_of plan k) (after_cut k h))) n

-- what a tick's parts did, where desks stand as B says when a tick begins and as S says within it, and conferences as R says
pub record Parts {X Y : Type 0} (B S : X → Events → Type 0) (R : Y → Feed → ℕ → Type 0) (plan : List Timed) (k : ℕ) (x0 xc xh xf : X) (y0 yc ye : Y)
    (chosen : Tick) (ticks : List Sent) : Type 0 where
  pub commands : Commands B S R plan k x0 xc y0 yc
  pub heard : (h : Events) → S xh h → chosen ≡ heard_now h
  pub pulled : (h : Events) → S xh h → B xf (Ticks ∷ h)
  pub packets : (f : Feed) (n : ℕ) → R yc f n → map (λ (t : Sent). t.packets) ticks ≡ sent_from n (length ticks) (Close chosen ∷ f)
  pub closed : (f : Feed) (n : ℕ) → R yc f n → (n + length ticks ≤ closes f + 1) × R ye (Collect ∷ Close chosen ∷ f) (n + length ticks)

-- desk, conference and feed, once a tick with these records was encoded
record Encoded {X Y : Type 0} (B : X → Events → Type 0) (R : Y → Feed → ℕ → Type 0) (plan : List Timed) (k : ℕ) (xf : X) (ye : Y) (ticks : List Sent)
    (items : List DumpItem) (o m : Option (List ℕ)) (w : Amount) (h : Events) : Type 0 where
  feed : Feed
  is : feed_of (after_tick plan k items h) ≡ Collect ∷ feed
  closes_are : closes feed ≡ k + 1
  desk : B xf (after_tick plan k items h)
  conference : R ye (feed_of (after_tick plan k items h)) (w.ticks + length ticks)
  few : w.ticks + length ticks ≤ k + 1
  packets : map (λ (t : Sent). t.packets) ticks ≡ sent_from w.ticks (length ticks) feed
  written : HasWritten o m w feed

encoded : {X Y : Type 0} (B S : X → Events → Type 0) (R : Y → Feed → ℕ → Type 0) (plan : List Timed) (k : ℕ) (x0 xc xh xf : X) (y0 yc ye : Y)
    (chosen : Tick) (ticks : List Sent) → Parts B S R plan k x0 xc xh xf y0 yc ye chosen ticks → (items : List DumpItem)
    → ((h : Events) → S xc h → S xh (after_records items h))
    → (o m : Option (List ℕ)) (w : Amount) (h : Events) → Begun (λ e. B x0 e) (λ f n. R y0 f n) o m w k h → Encoded B R plan k xf ye ticks items o m w h
encoded B S R plan k x0 xc xh xf y0 yc ye chosen ticks parts items here o m w h at =
    let g = after_cut k h in
    let applied = after_commands (commands_of plan k) g in
    let j = after_records items applied in
    let (dc, rc) = parts.commands h w.ticks at.desk_stands at.closed at.conference_stands in
    let dh : S xh j = here applied dc in
    let f = feed_of j in
    let same : f ≡ feed_of applied = records-feed items applied in
    let rf : R yc f w.ticks = subst (λ (x : Feed). R yc x w.ticks) (sym same) rc in
    let now : chosen ≡ heard_now j = parts.heard j dh in
    let here' : closes (feed_of g) ≡ k = cut-closes k h ∙ at.closed in
    let sum : closes f ≡ k = ap closes same ∙ commands-closes (commands_of plan k) g ∙ here' in
    let (since, e) = commands-since (commands_of plan k) g in
    let (least, closed) = parts.closed f w.ticks rf in
    let feed : Feed = Close chosen ∷ f in
    let le : w.ticks ≤ closes (feed_of g) = (let b = at.behind in omega arith) in
    record {
      feed = feed;
      is = ap (λ (t : Tick). Collect ∷ Close t ∷ f) (sym now);
      closes_are = ap (λ (n : ℕ). n + 1) sum;
      desk = parts.pulled j dh;
      conference = subst (λ (t : Tick). R ye (Collect ∷ Close t ∷ f) (w.ticks + length ticks)) now closed;
      few = omega arith;
      packets = parts.packets f w.ticks rf;
      written =
          subst (λ (x : Feed). HasWritten o m w (Close chosen ∷ x)) (sym (same ∙ e))
          (written-stays o m w (Close chosen ∷ since) (feed_of g) le at.written);
    }

-- the ticks that were handed out were written
pub ticked : {X Y : Type 0} (B S : X → Events → Type 0) (R : Y → Feed → ℕ → Type 0) (plan : List Timed) (k : ℕ) (x0 xc xh xf : X) (y0 yc ye : Y)
    (chosen : Tick) (ticks slice : List Sent) (items : List DumpItem) (m n : Option (List ℕ)) (w v : Amount)
    → Parts B S R plan k x0 xc xh xf y0 yc ye chosen ticks → ((h : Events) → S xc h → S xh (after_records items h)) → slice ≡ ticks
    → v.ticks ≡ w.ticks + length slice
    → ((o : Option (List ℕ)) (f : Feed) → map (λ (t : Sent). t.packets) slice ≡ sent_from w.ticks (length slice) f → HasWritten o m w f → HasWritten o n v f)
    → (o : Option (List ℕ)) (h : Events) → Begun (λ e. B x0 e) (λ f i. R y0 f i) o m w k h
    → Between (λ e. B xf e) (λ f i. R ye f i) o n v (k + 1) (after_tick plan k items h)
ticked B S R plan k x0 xc xh xf y0 yc ye chosen ticks slice items m n w v parts here same all whole o h at =
    let p = encoded B S R plan k x0 xc xh xf y0 yc ye chosen ticks parts items here o m w h at in
    let count : v.ticks ≡ w.ticks + length ticks = all ∙ ap (λ (ts : List Sent). w.ticks + length ts) same in
    let now : HasWritten o n v p.feed =
    whole o p.feed (subst (λ (ts : List Sent). map (λ (t : Sent). t.packets) ts ≡ sent_from w.ticks (length ts) p.feed) (sym same) p.packets) p.written in
    let few = p.few in
    let closes_are = p.closes_are in
    record {
      desk_stands = p.desk;
      conference_stands = subst (λ (i : ℕ). R ye (feed_of (after_tick plan k items h)) i) (sym count) p.conference;
      closed = tick-closes plan k items h ∙ ap (λ (i : ℕ). i + 1) at.closed;
      behind = omega arith;
      kept_is = kept-tick plan k items h at.kept_is ∙ ap kept_before (sym (add-one k));
      written = subst (HasWritten o n v) (sym p.is) (written-stays o n v (Collect ∷ []) p.feed (omega arith) now);
    }

-- a front of the ticks that were handed out was written
pub late : {X Y : Type 0} (B S : X → Events → Type 0) (R : Y → Feed → ℕ → Type 0) (plan : List Timed) (k : ℕ) (x0 xc xh xf : X) (y0 yc ye : Y)
    (chosen : Tick) (ticks slice : List Sent) (items : List DumpItem) (m n : Option (List ℕ)) (w : Amount)
    → Parts B S R plan k x0 xc xh xf y0 yc ye chosen ticks → ((h : Events) → S xc h → S xh (after_records items h)) → slice ≡ ticks
    → ((o : Option (List ℕ)) (f : Feed) → map (λ (t : Sent). t.packets) slice ≡ sent_from w.ticks (length slice) f → HasWritten o m w f
    → GrowsByFront o n (ticks_text g726 (w.ticks + length slice) f))
    → (o : Option (List ℕ)) (h : Events) → Begun (λ e. B x0 e) (λ f i. R y0 f i) o m w k h
    → GrowsByFront o n (ticks_text g726 (k + 1) (feed_of (after_tick plan k items h)))
late B S R plan k x0 xc xh xf y0 yc ye chosen ticks slice items m n w parts here same front o h at =
    let p = encoded B S R plan k x0 xc xh xf y0 yc ye chosen ticks parts items here o m w h at in
    let now : GrowsByFront o n (ticks_text g726 (w.ticks + length slice) p.feed) =
    front o p.feed (subst (λ (ts : List Sent). map (λ (t : Sent). t.packets) ts ≡ sent_from w.ticks (length ts) p.feed) (sym same) p.packets) p.written in
    let few = p.few in
    let closes_are = p.closes_are in
    let count = ap (λ (ts : List Sent). length ts) same in
    let longer : GrowsByFront o n (ticks_text g726 (k + 1) p.feed) = front-longer o n (w.ticks + length slice) (k + 1) p.feed (omega arith) now in
    subst (λ (f : Feed). GrowsByFront o n (ticks_text g726 (k + 1) f)) (sym p.is)
    (subst (λ (text : List ℕ). GrowsByFront o n text) (sym (text-stays g726 (k + 1) (Collect ∷ []) p.feed (omega arith))) longer)

-- the tick was begun
pub begun : {X Y : Type 0} (B : X → Events → Type 0) (R : Y → Feed → ℕ → Type 0) (k : ℕ) (x0 : X) (y0 yb : Y) (m n : Option (List ℕ)) (w v : Amount)
    → v.ticks ≤ k → ((h : Events) → R y0 (feed_of h) w.ticks → closes (feed_of h) ≡ k → R yb (feed_of (after_cut k h)) v.ticks)
    → ((o : Option (List ℕ)) (h : Events) → R y0 (feed_of h) w.ticks → closes (feed_of h) ≡ k → HasWritten o m w (feed_of h)
    → HasWritten o n v (feed_of (after_cut k h)))
    → (o : Option (List ℕ)) (h : Events) → Between (λ e. B x0 e) (λ f i. R y0 f i) o m w k h → Begun (λ e. B x0 e) (λ f i. R yb f i) o n v k h
begun B R k x0 y0 yb m n w v le stands whole o h at = record {
  desk_stands = at.desk_stands;
  conference_stands = stands h at.conference_stands at.closed;
  closed = at.closed;
  behind = le;
  kept_is = at.kept_is;
  written = whole o h at.conference_stands at.closed at.written;
}

-- what stands between ticks may be begun
pub may_begin : (D : Events → Type 0) (C : Feed → ℕ → Type 0) (m : Option (List ℕ)) (w : Amount) (k : ℕ)
    → (o : Option (List ℕ)) × (h : Events) × Between D C o m w k h
    → (h : Events) × C (feed_of h) w.ticks × (closes (feed_of h) ≡ k) × (kept (feed_of h) ≡ kept_before k)
may_begin D C m w k (o, h, at) = (h, at.conference_stands, at.closed, at.kept_is)

pub was_behind : (D : Events → Type 0) (C : Feed → ℕ → Type 0) (m : Option (List ℕ)) (w : Amount) (k : ℕ)
    → (o : Option (List ℕ)) × (h : Events) × Between D C o m w k h → w.ticks ≤ k
was_behind D C m w k (o, h, at) = at.behind

-- a front of the ticks before was written
pub begun-front : (D : Events → Type 0) (C : Feed → ℕ → Type 0) (m n : Option (List ℕ)) (w : Amount) (k : ℕ)
    → ((o : Option (List ℕ)) (h : Events) → C (feed_of h) w.ticks → closes (feed_of h) ≡ k → HasWritten o m w (feed_of h)
    → GrowsByFront o n (ticks_text g726 k (feed_of h)))
    → HasFrontTo (λ o h. Between D C o m w k h) n k
begun-front D C m n w k front o h at = front o h at.conference_stands at.closed at.written

-- what the ticks before have is the same after a cut
text-cut : (k : ℕ) (h : Events) → closes (feed_of h) ≡ k → ticks_text g726 k (feed_of (after_cut k h)) ≡ ticks_text g726 k (feed_of h)
text-cut k h closed =
    let (since, e) = cut-since k h in
    ap (ticks_text g726 k) e ∙ text-stays g726 k since (feed_of h) (omega arith)

-- nothing more was written
pub early : (D : Events → Type 0) (C : Feed → ℕ → Type 0) (n : Option (List ℕ)) (w : Amount) (k : ℕ) (o : Option (List ℕ)) (h : Events)
    → Begun D C o n w k h → GrowsByFront o n (ticks_text g726 k (feed_of h))
early D C n w k o h at =
    subst (λ (text : List ℕ). GrowsByFront o n text) (text-cut k h at.closed) (written-front o n w k (feed_of (after_cut k h)) at.behind at.written)

-- the commands of a tick that was begun may be applied
pub may_command : (D : Events → Type 0) (C : Feed → ℕ → Type 0) (m : Option (List ℕ)) (w : Amount) (k : ℕ)
    → (o : Option (List ℕ)) × (h : Events) × Begun D C o m w k h
    → (h : Events) × (n : ℕ) × D h × (closes (feed_of h) ≡ k) × C (feed_of (after_cut k h)) n
may_command D C m w k (o, h, at) = (h, w.ticks, at.desk_stands, at.closed, at.conference_stands)

-- once the commands were applied
module _ {X Y : Type 0} (B S : X → Events → Type 0) (R : Y → Feed → ℕ → Type 0) (plan : List Timed) (k : ℕ) (x0 xc : X) (y0 yc : Y) (m : Option (List ℕ)) (w : Amount)
    (commands : Commands B S R plan k x0 xc y0 yc) where
  applied-closes : (h : Events) → closes (feed_of h) ≡ k → closes (feed_of (after_commands (commands_of plan k) (after_cut k h))) ≡ k
  applied-closes h closed = commands-closes (commands_of plan k) (after_cut k h) ∙ cut-closes k h ∙ closed

  -- a conference may be asked to encode
  pub may_encode : (o : Option (List ℕ)) × (h : Events) × Begun (λ e. B x0 e) (λ f i. R y0 f i) o m w k h → k < 4320000
      → (f : Feed) × (n : ℕ) × R yc f n × (ended f ≡ false) × (closes f < 4320000) × (kept f < 18000) × (collects f ≡ closes f) × (n ≤ closes f)
  may_encode (o, h, at) few =
      let g = after_cut k h in
      let applied = after_commands (commands_of plan k) g in
      let same : closes (feed_of applied) ≡ k = applied-closes h at.closed in
      let since : kept (feed_of applied) ≡ k % 9000 = commands-kept (commands_of plan k) g ∙ kept-cut k h at.kept_is in
      let behind = at.behind in (
        feed_of applied,
        w.ticks,
        (commands h w.ticks at.desk_stands at.closed at.conference_stands).1,
        never-ended applied,
        omega arith,
        omega arith,
        all-collected applied,
        omega arith,
      )

  -- the ticks that it hands out are no more than were closed
  pub room-for : {ye : Y} (chosen : Tick) (ticks : List Sent)
      → ((f : Feed) (n : ℕ) → R yc f n → (n + length ticks ≤ closes f + 1) × R ye (Collect ∷ Close chosen ∷ f) (n + length ticks))
      → (o : Option (List ℕ)) × (h : Events) × Begun (λ e. B x0 e) (λ f i. R y0 f i) o m w k h → w.ticks + length ticks ≤ k + 1
  room-for chosen ticks encodes (o, h, at) =
      let applied = after_commands (commands_of plan k) (after_cut k h) in
      let same : closes (feed_of applied) ≡ k = applied-closes h at.closed in
      let le = (encodes (feed_of applied) w.ticks (commands h w.ticks at.desk_stands at.closed at.conference_stands).1).0 in
      omega arith

  -- it may be asked to hand out the ticks that were closed before
  pub may_rest : (o : Option (List ℕ)) × (h : Events) × Begun (λ e. B x0 e) (λ f i. R y0 f i) o m w k h → (f : Feed) × R yc f w.ticks × (closes f ≡ k)
  may_rest (o, h, at) =
      let applied = after_commands (commands_of plan k) (after_cut k h) in
      (feed_of applied, (commands h w.ticks at.desk_stands at.closed at.conference_stands).1, applied-closes h at.closed)

  told-before : (h : Events) (o : Option (List ℕ)) → Begun (λ e. B x0 e) (λ f i. R y0 f i) o m w k h
      → (f : Feed) × R yc f w.ticks × (closes f ≡ k) × HasWritten o m w f × (ticks_text g726 k f ≡ ticks_text g726 k (feed_of h))
  told-before h o at =
      let g = after_cut k h in
      let applied = after_commands (commands_of plan k) g in
      let (since, e) = commands-since (commands_of plan k) g in
      let behind = at.behind in
      let closed : closes (feed_of g) ≡ k = cut-closes k h ∙ at.closed in (
        feed_of applied,
        (commands h w.ticks at.desk_stands at.closed at.conference_stands).1,
        applied-closes h at.closed,
        subst (HasWritten o m w) (sym e) (written-stays o m w since (feed_of g) (omega arith) at.written),
        ap (ticks_text g726 k) e ∙ text-stays g726 k since (feed_of g) (omega arith) ∙ text-cut k h at.closed,
      )

  -- after the reader gave up
  pub whole-before : {n : Option (List ℕ)} → ((o : Option (List ℕ)) (f : Feed) → R yc f w.ticks → closes f ≡ k → HasWritten o m w f → Grows o n (ticks_text g726 k f))
      → (o : Option (List ℕ)) (h : Events) → Begun (λ e. B x0 e) (λ f i. R y0 f i) o m w k h → Grows o n (ticks_text g726 k (feed_of h))
  whole-before {n = n} whole o h at =
      let (f, r, closed, was, same) = told-before h o at in
      subst (λ (text : List ℕ). Grows o n text) same (whole o f r closed was)

  pub front-before : {n : Option (List ℕ)} → ((o : Option (List ℕ)) (f : Feed) → R yc f w.ticks → closes f ≡ k → HasWritten o m w f → GrowsByFront o n (ticks_text g726 k f))
      → (o : Option (List ℕ)) (h : Events) → Begun (λ e. B x0 e) (λ f i. R y0 f i) o m w k h → GrowsByFront o n (ticks_text g726 k (feed_of h))
  front-before {n = n} front o h at =
      let (f, r, closed, was, same) = told-before h o at in
      subst (λ (text : List ℕ). GrowsByFront o n text) same (front o f r closed was)

-- ---- a tick that begins with a cut ----

some-kept : (k : ℕ) → 0 < k → 0 < kept_before k
some-kept zero lt = absurd (omega arith)
some-kept (suc k) lt = omega arith

-- once all is written, the conference may be cut
pub may_cut : (C D : Feed → ℕ → Type 0) (n k : ℕ) → 0 < k → ((f : Feed) → C f n → closes f ≡ k → D f k)
    → (h : Events) × C (feed_of h) n × (closes (feed_of h) ≡ k) × (kept (feed_of h) ≡ kept_before k)
    → (f : Feed) × (i : ℕ) × D f i × (i ≡ closes f) × (may_follow g726 f Cut ≡ true)
may_cut C D n k lt rest (h, stands, closed, since) =
    let f = feed_of h in
    let some = some-kept k lt in
    let even : (closes f == collects f) ≡ true = eq-eqb (closes f) (collects f) (sym (all-collected h)) in
    let going : not (ended f) ≡ true = not_from_false (ended f) (never-ended h) in (
      f,
      k,
      rest f stands closed,
      sym closed,
      and_from (closes f == collects f) (nat_lt 0 (kept f) && not (ended f)) even (and_from (nat_lt 0 (kept f)) (not (ended f)) (lt-ltb 0 (kept f) (omega arith)) going),
    )

-- what was written is the same after a cut
pub written-cut : (o n : Option (List ℕ)) (w : Amount) (k : ℕ) (h : Events) → w.ticks ≤ closes (feed_of h) → HasWritten o n w (feed_of h)
    → HasWritten o n w (feed_of (after_cut k h))
written-cut o n w k h le was =
    let (since, e) = cut-since k h in
    subst (HasWritten o n w) (sym e) (written-stays o n w since (feed_of h) le was)
