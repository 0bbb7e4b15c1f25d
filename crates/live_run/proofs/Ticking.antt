-- One tick of a live session.
use Rattle.std.proofs.Common.{◌≡◌, ◌∙◌, ℕ, zero, suc, ◌+◌, ◌%◌, ◌<◌, ◌≤◌, false, List, ◌∷◌, ◌++◌, length, Option, refl, sym, ap, subst, arith}
use Rattle.std.proofs.Common.{append_assoc, add-one}
use Rattle.std.proofs.lemmas.List.{length-append}
use Rattle.roster_text.specs.declared.commands.Timed.{Timed}
use Rattle.rtp_dump.specs.declared.item.DumpItem.{DumpItem}
use Rattle.talk_mix.specs.declared.ticks.Tick.{Tick}
use Rattle.udp_edge.specs.declared.peer.Peer.{Peer}
use Rattle.udp_edge.specs.Traffic.{Traffic}
use Rattle.conference_spec.specs.declared.Entry.TheVariants.{Close, Collect}
use Rattle.conference_spec.specs.declared.Packet.{Packet}
use Rattle.conference_spec.specs.Codec.{g726}
use Rattle.conference_spec.specs.Feed.{Feed, closes, collects, ended, kept}
use Rattle.conference_spec.specs.Packets.{sent}
use Rattle.session_spec.specs.Talkers.{Events, Ticks, heard_now}
use Rattle.session_spec.specs.Events.{feed_of, commands_of, after_commands, after_records, after_cut, kept_before, after_tick}
use Rattle.session_spec.specs.Answer.{sent_to}
use Rattle.session_spec.proofs.Following.{records-feed, commands-closes, commands-kept, cut-closes, kept-cut, kept-tick, tick-closes, events-closes}
use Rattle.session_spec.proofs.Following.{all-collected, never-ended, packets-stay}
use Rattle.live_spec.specs.Heard.{Live, heard, live_events}
use Rattle.live_spec.specs.Reports.{tick_reports}
use Rattle.live_spec.specs.Letters.{Letter, letters_to, tick_letters}
use Rattle.live_spec.specs.Summed.{reports_before}
use Rattle.live_spec.proofs.Staying.{reports-stay, letters-stay}
use Rattle.live_tally.specs.declared.tallies.Tallies.{Tallies}
use Rattle.live_tally.specs.Kept.{Keeps}
use Rattle.live_link.specs.declared.controls.Controls.{Controls}
use Rattle.live_link.specs.Posts.{Posts, PostsFront}
use Rattle.live_link.specs.Rounds.{speech, Listens}
use Rattle.desk_run.proofs.Ticked.{commands-since, cut-since}
use Rattle.live_run.specs.declared.sums.Sums.{Sums}
use Rattle.live_run.specs.Standing.{StandsTallied}
use Rattle.live_run.specs.Sending.{ticked, Closes, HasSent, SendsTick, FrontOfTick}
use Rattle.live_run.specs.Running.{Ends, Moves, AsTold, IfTold, Went, Ready, Between, Fails}
use Rattle.live_run.proofs.Standing.{cut-tallied}
use Rattle.live_run.proofs.Moving.{Front, front-longer, front-all, front-then, moves-finds, moves-tries, unsent-both}
use Rattle.live_run.proofs.Telling.{told-with, told-more}

-- ---- what a tick adds to a feed ----

-- the feed of the tick's commands, before its close
abbrev pub applied_feed : List Timed → ℕ → Events → Feed
applied_feed plan k h = feed_of (after_commands (commands_of plan k) (after_cut k h))

applied-closes : (plan : List Timed) (k : ℕ) (h : Events) → closes (feed_of h) ≡ k → closes (applied_feed plan k h) ≡ k
applied-closes plan k h at = commands-closes (commands_of plan k) (after_cut k h) ∙ cut-closes k h ∙ at

tick-since : (plan : List Timed) (k : ℕ) (its : List DumpItem) (h : Events) → (since : Feed) × (feed_of (after_tick plan k its h) ≡ since ++ feed_of h)
tick-since plan k its h =
    let g = after_cut k h in
    let applied = after_commands (commands_of plan k) g in
    let (since, e) = commands-since (commands_of plan k) g in
    let (first, f) = cut-since k h in
    let closed : Feed → Feed = λ f. Collect ∷ Close (heard_now (after_records its applied)) ∷ f in (
      closed (since ++ first),
      ap closed (records-feed its applied ∙ e ∙ ap (λ (x : Feed). since ++ x) f ∙ sym (append_assoc since first (feed_of h))),
    )

reports-before-stay : (k : ℕ) (since h : Feed) → k ≤ closes h → reports_before g726 k (since ++ h) ≡ reports_before g726 k h
reports-before-stay zero since h le = refl
reports-before-stay (suc k) since h le =
    let ih = reports-before-stay k since h (omega arith) in
    ap (λ (n : ℕ). n + length (tick_reports g726 k (since ++ h))) ih
    ∙ ap (λ (n : List _). reports_before g726 k h + length n) (reports-stay g726 k since h (omega arith))

module _ (plan : List Timed) (k : ℕ) (its : List DumpItem) (h : Events) (at : closes (feed_of h) ≡ k) where
  abbrev next_feed : Feed
  next_feed = feed_of (after_tick plan k its h)

  pub letters-next : (peer_of : ℕ → Option Peer)
      → letters_to peer_of g726 (k + 1) next_feed ≡ letters_to peer_of g726 k (feed_of h) ++ tick_letters peer_of g726 k next_feed
  letters-next peer_of =
      let (since, e) = tick-since plan k its h in
      ap (λ (n : ℕ). letters_to peer_of g726 n next_feed) (add-one k)
      ∙ ap (λ (ls : List Letter). ls ++ tick_letters peer_of g726 k next_feed)
      (ap (letters_to peer_of g726 k) e ∙ letters-stay peer_of g726 k since (feed_of h) (omega arith))

  packets-next : sent_to g726 (k + 1) next_feed ≡ sent_to g726 k (feed_of h) ++ sent g726 k next_feed
  packets-next =
      let (since, e) = tick-since plan k its h in
      ap (λ (n : ℕ). sent_to g726 n next_feed) (add-one k)
      ∙ ap (λ (ps : List Packet). ps ++ sent g726 k next_feed)
      (ap (sent_to g726 k) e ∙ packets-stay g726 k since (feed_of h) (omega arith))

  reports-next : reports_before g726 (k + 1) next_feed ≡ reports_before g726 k (feed_of h) + length (tick_reports g726 k next_feed)
  reports-next =
      let (since, e) = tick-since plan k its h in
      ap (λ (n : ℕ). reports_before g726 n next_feed) (add-one k)
      ∙ ap (λ (n : ℕ). n + length (tick_reports g726 k next_feed))
      (ap (reports_before g726 k) e ∙ reports-before-stay k since (feed_of h) (omega arith))

-- ---- a session of told ticks ----

-- the letters up to the end of tick k, in the session that is told
abbrev pub letters_by : (ℕ → Option Peer) → List Timed → Live → ℕ → List Letter
letters_by peer_of plan live k = letters_to peer_of g726 k (feed_of (live_events plan live k))

pub letters-by-next : (peer_of : ℕ → Option Peer) (plan : List Timed) (live : Live) (k : ℕ)
    → letters_by peer_of plan live (k + 1) ≡ letters_by peer_of plan live k ++ tick_letters peer_of g726 k (feed_of (live_events plan live (k + 1)))
letters-by-next peer_of plan live k =
    let at : closes (feed_of (live_events plan live k)) ≡ k = events-closes plan (heard live) k in
    let next = letters-next plan k (heard live k) (live_events plan live k) at peer_of in
    let P : ℕ → Type 0 = λ n.
    letters_to peer_of g726 (k + 1) (feed_of (live_events plan live n)) ≡ letters_by peer_of plan live k
    ++ tick_letters peer_of g726 k (feed_of (live_events plan live n)) in
    subst P (sym (add-one k)) next

fails : (peer_of : ℕ → Option Peer) (plan : List Timed) (a b : Option Traffic) (live : Live) (k : ℕ) → Front a b (letters_by peer_of plan live (k + 1))
    → Fails peer_of plan a b live k
fails peer_of plan a b live k f = record { n = f.n; went = f.went; front = f.front; moves = f.moves }

-- a front of the letters of the ticks before was tried
pub fails-early : (peer_of : ℕ → Option Peer) (plan : List Timed) (start : ℕ) (old : Ends) (now : Option Traffic) (k n : ℕ) (answers : Option (List ℕ))
    (c : Controls)
    (h : Events) → Front old.traffic now (letters_to peer_of g726 k (feed_of h)) → IfTold old start (λ live. AsTold plan live n answers k c h)
    → IfTold old start (λ live. Fails peer_of plan old.traffic now live k)
fails-early peer_of plan start old now k n answers c h front told =
    told-with old start (λ live. AsTold plan live n answers k c h) (λ live. Fails peer_of plan old.traffic now live k) (λ live told'.
    let more = tick_letters peer_of g726 k (feed_of (live_events plan live (k + 1))) in
    let here : Front old.traffic now (letters_by peer_of plan live k) =
    subst (λ (e : Events). Front old.traffic now (letters_to peer_of g726 k (feed_of e))) told'.events_are front in
    fails peer_of plan old.traffic now live k
    (subst (λ (ls : List Letter). Front old.traffic now ls) (sym (letters-by-next peer_of plan live k))
    (front-longer old.traffic now (letters_by peer_of plan live k) more here)))
    told

-- a front of the letters by the end of tick k was tried
pub fails-late : (peer_of : ℕ → Option Peer) (plan : List Timed) (start : ℕ) (old : Ends) (now : Option Traffic) (k n : ℕ) (answers : Option (List ℕ))
    (c : Controls)
    (j : Events) → Front old.traffic now (letters_to peer_of g726 (k + 1) (feed_of j)) → IfTold old start (λ live. AsTold plan live n answers (k + 1) c j)
    → IfTold old start (λ live. Fails peer_of plan old.traffic now live k)
fails-late peer_of plan start old now k n answers c j front told =
    told-with old start (λ live. AsTold plan live n answers (k + 1) c j) (λ live. Fails peer_of plan old.traffic now live k) (λ live told'.
    fails peer_of plan old.traffic now live k
    (subst (λ (e : Events). Front old.traffic now (letters_to peer_of g726 (k + 1) (feed_of e))) told'.events_are front))
    told

-- ---- the parts of a tick ----

-- a conference was cut where the tick begins with a cut
abbrev pub Begun : (Feed → ℕ → Type 0) → (Feed → ℕ → Type 0) → ℕ → Type 0
Begun C0 Cb k = (h : Events) → C0 (feed_of h) k → closes (feed_of h) ≡ k → Cb (feed_of (after_cut k h)) k

-- the commands of the tick were applied
abbrev pub Commanded : (D0 Sc : Events → Type 0) → (Ab Ac : Feed → ℕ → Type 0) → List Timed → ℕ → Type 0
Commanded D0 Sc Ab Ac plan k = (h : Events) (n : ℕ) → D0 h → closes (feed_of h) ≡ k → Ab (feed_of (after_cut k h)) n
    → Sc (after_commands (commands_of plan k) (after_cut k h)) × Ac (applied_feed plan k h) n

-- a tick may be closed of a conference that handed out all before
abbrev pub MayClose : (Feed → ℕ → Type 0) → Type 0
MayClose C = (h : Feed) × C h (closes h) × (ended h ≡ false) × (closes h < 4320000) × (kept h < 18000) × (collects h ≡ closes h)

module _ (plan : List Timed) (k : ℕ) (D0 Sc : Events → Type 0) (C0 Cb Cc : Feed → ℕ → Type 0) (t0 tc : Tallies) (c0 cl : ℕ) (begun : Begun C0 Cb k) where
  abbrev IsReady : Events → Type 0
  IsReady h = Ready D0 (λ f n. StandsTallied C0 t0 c0 f n) k h

  pub may-command : (h : Events) × IsReady h
      → (h : Events) × (n : ℕ) × D0 h × (closes (feed_of h) ≡ k) × StandsTallied Cb t0 c0 (feed_of (after_cut k h)) n
  may-command (h, r) = (h, k, r.desk_stands, r.closed, cut-tallied C0 t0 c0 Cb k h r.closed begun r.conference_stands)

  module _ (commands : Commanded D0 Sc (λ f n. StandsTallied Cb t0 c0 f n) (λ f n. StandsTallied Cc tc cl f n) plan k) where
    pub applied : (h : Events) → IsReady h
        → Sc (after_commands (commands_of plan k) (after_cut k h)) × StandsTallied Cc tc cl (applied_feed plan k h) k
    applied h r = commands h k r.desk_stands r.closed (cut-tallied C0 t0 c0 Cb k h r.closed begun r.conference_stands)

    -- frames may be pulled once the tick was heard
    pub may-pull : (Sh : Events → Type 0) (its : List DumpItem) → ((h : Events) → Sc h → Sh (after_records its h)) → (h : Events) × IsReady h
        → (h : Events) × Sh h
    may-pull Sh its here (h, r) =
        (after_records its (after_commands (commands_of plan k) (after_cut k h)), here (after_commands (commands_of plan k) (after_cut k h)) (applied h r).0)

    -- the tick may be closed
    pub may-close : (h : Events) × IsReady h → k < 4320000 → MayClose Cc
    may-close (h, r) few =
        let g = after_cut k h in
        let applied-events = after_commands (commands_of plan k) g in
        let f = applied_feed plan k h in
        let at : closes f ≡ k = applied-closes plan k h r.closed in
        let since : kept f ≡ k % 9000 = commands-kept (commands_of plan k) g ∙ kept-cut k h r.kept_is in (
          f,
          subst (λ (n : ℕ). Cc f n) (sym at) (applied h r).1.stands,
          never-ended applied-events,
          omega arith,
          omega arith,
          all-collected applied-events,
        )

    -- so many ticks were closed
    pub closed-are : (h : Events) × IsReady h → cl ≡ k
    closed-are (h, r) = (applied h r).1.closed_are ∙ applied-closes plan k h r.closed

    module _ (packets : List Packet) (talkers : Tick) (handed : (f : Feed) → Cc f (closes f) → packets ≡ sent g726 (closes f) (Close talkers ∷ f)) where
      -- these are the packets of this tick, and those of the ticks before were counted
      pub closes-tick : (h : Events) → IsReady h → Closes k packets tc talkers (applied_feed plan k h)
      closes-tick h r =
          let f = applied_feed plan k h in
          let at : closes f ≡ k = applied-closes plan k h r.closed in
          let s = (applied h r).1 in
          record {
            at = at;
            packets_are =
                subst (λ (n : ℕ). packets ≡ sent g726 n (Close talkers ∷ f)) at (handed f (subst (λ (n : ℕ). Cc f n) (sym at) s.stands));
            keeps = subst (λ (n : ℕ). Keeps g726 tc f (sent_to g726 n f)) at s.keeps;
          }

      module _ (Sh : Events → Type 0) (its : List DumpItem) (here : (h : Events) → Sc h → Sh (after_records its h))
          (heard-is : (h : Events) → Sh h → talkers ≡ heard_now h) where
        -- the feed of the whole tick
        pub feed-is : (h : Events) → IsReady h → feed_of (after_tick plan k its h) ≡ ticked talkers (applied_feed plan k h)
        feed-is h r =
            let before = after_commands (commands_of plan k) (after_cut k h) in
            let j = after_records its before in
            ap (λ (t : Tick). ticked t (feed_of j)) (sym (heard-is j (here before (applied h r).0)))
            ∙ ap (λ (f : Feed). ticked talkers f) (records-feed its before)

        module _ (Df : Events → Type 0) (Ce : Feed → ℕ → Type 0) (te : Tallies)
            (pulled : (h : Events) → Sh h → Df (Ticks ∷ h))
            (stands : (f : Feed) → Cc f (closes f) → Ce (Collect ∷ Close talkers ∷ f) (closes f + 1)) where
          -- desk and conference after the tick
          pub ready-next : (more : ℕ) → more ≡ cl + 1 → (h : Events) (r : IsReady h)
              → Keeps g726 te (ticked talkers (applied_feed plan k h)) (sent_to g726 (k + 1) (ticked talkers (applied_feed plan k h)))
              → Ready Df (λ f n. StandsTallied Ce te more f n) (k + 1) (after_tick plan k its h)
          ready-next more one h r keeps =
              let before = after_commands (commands_of plan k) (after_cut k h) in
              let f = applied_feed plan k h in
              let at : closes f ≡ k = applied-closes plan k h r.closed in
              let s = (applied h r).1 in
              let there : Ce (ticked talkers f) (k + 1) =
              subst (λ (n : ℕ). Ce (ticked talkers f) (n + 1)) at (stands f (subst (λ (n : ℕ). Cc f n) (sym at) s.stands)) in
              let next : StandsTallied Ce te more (ticked talkers f) (k + 1) =
              record {
                stands = there;
                closed_are = one ∙ ap (λ (n : ℕ). n + 1) s.closed_are;
                keeps = subst (λ (n : ℕ). Keeps g726 te (ticked talkers f) (sent_to g726 (n + 1) (ticked talkers f))) (sym at) keeps;
              } in
              record {
                desk_stands = pulled (after_records its before) (here before (applied h r).0);
                conference_stands = subst (λ (x : Feed). StandsTallied Ce te more x (k + 1)) (sym (feed-is h r)) next;
                closed = tick-closes plan k its h ∙ ap (λ (n : ℕ). n + 1) r.closed;
                kept_is = kept-tick plan k its h r.kept_is ∙ ap kept_before (sym (add-one k));
              }

-- ---- a whole tick ----

-- the tick was heard, and all that it sends was tried
module _ (peer_of : ℕ → Option Peer) (plan : List Timed) (start k : ℕ) (old : Ends) (a b c : Option Traffic) (answers after : Option (List ℕ))
    (before now : Controls)
    (P : List (List ℕ) → Type 0) (listens : Listens a b answers after k start before now P) where
  abbrev its : List DumpItem
  its = speech k listens.ds

  module _ (unsent : ℕ) (h : Events) (at : closes (feed_of h) ≡ k)
      (was : Went plan start old (record { traffic = a; answers = answers }) k before unsent (letters_to peer_of g726 k (feed_of h)) h) where
    abbrev next : Events
    next = after_tick plan k its h

    abbrev first_letters : List Letter
    first_letters = letters_to peer_of g726 k (feed_of h)

    moves-heard : Moves (was.n + listens.n) old.traffic b first_letters was.went
    moves-heard = moves-finds was.n listens.n old.traffic a b first_letters was.went listens.ds was.moves listens.finds

    told-heard : IfTold old start (λ live. AsTold plan live (was.n + listens.n) after (k + 1) now next)
    told-heard =
        told-more plan start old k was.n listens.n a b answers after before now listens.ds h first_letters was.went
        was.moves listens.rounds_are listens.finds listens.counted was.told

    -- so it went
    pub went-on : (unsent' : ℕ) → Posts b c unsent unsent' (tick_letters peer_of g726 k (feed_of next))
        → Went plan start old (record { traffic = c; answers = after }) (k + 1) now unsent' (letters_to peer_of g726 (k + 1) (feed_of next)) next
    went-on unsent' posts =
        let more = tick_letters peer_of g726 k (feed_of next) in
        let is = letters-next plan k its h at peer_of in
        let each = was.each in
        let each' = posts.each in
        let counted = was.unsent_is in
        let counted' = posts.counted in
        let both : length (was.went ++ posts.went) ≡ length (first_letters ++ more) =
        omega (arith, length-append was.went posts.went, length-append first_letters more) in
        record {
          n = was.n + listens.n;
          went = was.went ++ posts.went;
          each = both ∙ ap (λ (ls : List Letter). length ls) (sym is);
          unsent_is = omega (arith, unsent-both was.went posts.went);
          moves =
              subst (λ (ls : List Letter). Moves (was.n + listens.n) old.traffic c ls (was.went ++ posts.went)) (sym is)
              (moves-tries (was.n + listens.n) old.traffic b c first_letters more was.went posts.went was.each moves-heard posts.tried);
          told = told-heard;
        }

    -- there was no memory for its packets
    pub fails-unsent : IfTold old start (λ live. Fails peer_of plan old.traffic b live k)
    fails-unsent =
        let more = tick_letters peer_of g726 k (feed_of next) in
        fails-late peer_of plan start old b k (was.n + listens.n) after now next
        (subst (λ (ls : List Letter). Front old.traffic b ls) (sym (letters-next plan k its h at peer_of))
        (front-longer old.traffic b first_letters more (front-all (was.n + listens.n) old.traffic b first_letters was.went was.each moves-heard)))
        told-heard

    -- or for a letter
    pub fails-sending : PostsFront b c (tick_letters peer_of g726 k (feed_of next)) → IfTold old start (λ live. Fails peer_of plan old.traffic c live k)
    fails-sending posts =
        let more = tick_letters peer_of g726 k (feed_of next) in
        fails-late peer_of plan start old c k (was.n + listens.n) after now next
        (subst (λ (ls : List Letter). Front old.traffic c ls) (sym (letters-next plan k its h at peer_of))
        (front-then (was.n + listens.n) old.traffic b c first_letters more was.went was.each moves-heard posts))
        told-heard

-- there was no memory for its commands
pub fails-commands : (peer_of : ℕ → Option Peer) (plan : List Timed) (start k : ℕ) (old : Ends) (a : Option Traffic) (answers : Option (List ℕ))
    (before : Controls)
    (unsent : ℕ) (h : Events) → Went plan start old (record { traffic = a; answers = answers }) k before unsent (letters_to peer_of g726 k (feed_of h)) h
    → IfTold old start (λ live. Fails peer_of plan old.traffic a live k)
fails-commands peer_of plan start k old a answers before unsent h was =
    fails-early peer_of plan start old a k was.n answers before h
    (front-all was.n old.traffic a (letters_to peer_of g726 k (feed_of h)) was.went was.each was.moves) was.told

-- what the tick's packets and reports come to
pub counted-next : (plan : List Timed) (k : ℕ) (its : List DumpItem) (h : Events) → closes (feed_of h) ≡ k → (old new : ℕ)
    → old ≡ length (sent_to g726 k (feed_of h)) → new ≡ old + length (sent g726 k (feed_of (after_tick plan k its h)))
    → new ≡ length (sent_to g726 (k + 1) (feed_of (after_tick plan k its h)))
counted-next plan k its h at old new was more =
    let one = sent_to g726 k (feed_of h) in
    let two = sent g726 k (feed_of (after_tick plan k its h)) in
    let all : new ≡ length (one ++ two) = omega (arith, length-append one two) in
    all ∙ ap (λ (ps : List Packet). length ps) (sym (packets-next plan k its h at))

pub reported-next : (plan : List Timed) (k : ℕ) (its : List DumpItem) (h : Events) → closes (feed_of h) ≡ k → (old new : ℕ)
    → old ≡ reports_before g726 k (feed_of h) → new ≡ old + length (tick_reports g726 k (feed_of (after_tick plan k its h)))
    → new ≡ reports_before g726 (k + 1) (feed_of (after_tick plan k its h))
reported-next plan k its h at old new was more =
    more ∙ ap (λ (n : ℕ). n + length (tick_reports g726 k (feed_of (after_tick plan k its h)))) was ∙ sym (reports-next plan k its h at)

-- desk and conference, where they stand before the tick as D0 and C0 say, and after its parts as the others say
module _ (peer_of : ℕ → Option Peer) (plan : List Timed) (start k : ℕ) (D0 Sc Sh : Events → Type 0) (C0 Cb Cc : Feed → ℕ → Type 0) (t0 tc : Tallies) (c0 cl : ℕ)
    (begun : Begun C0 Cb k)
    (commands : Commanded D0 Sc (λ f n. StandsTallied Cb t0 c0 f n) (λ f n. StandsTallied Cc tc cl f n) plan k)
    (a b c : Option Traffic) (answers after : Option (List ℕ)) (before now : Controls)
    (listens : Listens a b answers after k start before now (λ ds. (h : Events) → Sc h → Sh (after_records (speech k ds) h)))
    (packets : List Packet) (talkers : Tick)
    (heard-is : (h : Events) → Sh h → talkers ≡ heard_now h)
    (handed : (f : Feed) → Cc f (closes f) → packets ≡ sent g726 (closes f) (Close talkers ∷ f)) where
  abbrev heard_here : List DumpItem
  heard_here = speech k listens.ds

  abbrev Stood : (old : Ends) (sums : Sums) (h : Events) → Type 0
  Stood old sums h = Between D0 (λ f n. StandsTallied C0 t0 c0 f n) peer_of plan start old (record { traffic = a; answers = answers }) before sums k h

  feed-so : (h : Events) → Ready D0 (λ f n. StandsTallied C0 t0 c0 f n) k h → feed_of (after_tick plan k heard_here h) ≡ ticked talkers (applied_feed plan k h)
  feed-so = feed-is plan k D0 Sc C0 Cb Cc t0 tc c0 cl begun commands packets talkers handed Sh heard_here listens.here heard-is

  closes-so : (h : Events) → Ready D0 (λ f n. StandsTallied C0 t0 c0 f n) k h → Closes k packets tc talkers (applied_feed plan k h)
  closes-so = closes-tick plan k D0 Sc C0 Cb Cc t0 tc c0 cl begun commands packets talkers handed

  -- there was no memory for a letter
  pub failed-sending : FrontOfTick peer_of k packets tc b c → (old : Ends) (sums : Sums) (h : Events) → Stood old sums h
      → IfTold old start (λ live. Fails peer_of plan old.traffic c live k)
  failed-sending front old sums h at =
      fails-sending peer_of plan start k old a b c answers after before now _ listens sums.unsent h at.ready.closed at.went
      (subst (λ (f : Feed). PostsFront b c (tick_letters peer_of g726 k f)) (sym (feed-so h at.ready))
      (front talkers (applied_feed plan k h) (closes-so h at.ready)))

  module _ (Df : Events → Type 0) (Ce : Feed → ℕ → Type 0) (te : Tallies) (more : ℕ) (one : more ≡ cl + 1)
      (pulled : (h : Events) → Sh h → Df (Ticks ∷ h))
      (stands : (f : Feed) → Cc f (closes f) → Ce (Collect ∷ Close talkers ∷ f) (closes f + 1)) where
    -- the whole tick was run
    pub ran : (old : Ends) (sums sums' : Sums) → SendsTick peer_of k packets tc te b c sums sums' → (h : Events) → Stood old sums h
        → (next : Events)
        × Between Df (λ f n. StandsTallied Ce te more f n) peer_of plan start old (record { traffic = c; answers = after }) now sums' (k + 1) next
    ran old sums sums' sends h at =
        let is = feed-so h at.ready in
        let f = applied_feed plan k h in
        let all : HasSent peer_of k te b c sums sums' (ticked talkers f) = sends talkers f (closes-so h at.ready) in
        let keeps : Keeps g726 te (ticked talkers f) (sent_to g726 (k + 1) (ticked talkers f)) = all.keeps in
        let here : HasSent peer_of k te b c sums sums' (feed_of (after_tick plan k heard_here h)) =
        subst (λ (x : Feed). HasSent peer_of k te b c sums sums' x) (sym is) all in (
          after_tick plan k heard_here h,
          record {
            ready =
                ready-next plan k D0 Sc C0 Cb Cc t0 tc c0 cl begun commands packets talkers handed Sh heard_here listens.here heard-is Df Ce te pulled stands
                more one h at.ready keeps;
            packets = counted-next plan k heard_here h at.ready.closed sums.packets sums'.packets at.packets here.packets;
            reports = reported-next plan k heard_here h at.ready.closed sums.reports sums'.reports at.reports here.reports;
            went =
                went-on peer_of plan start k old a b c answers after before now _ listens sums.unsent h at.ready.closed at.went sums'.unsent here.posts;
          },
        )
