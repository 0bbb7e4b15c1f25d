-- How a live session ends, and what it is summed up to.
use Rattle.std.proofs.Common.{◌≡◌, ◌∙◌, ℕ, zero, suc, ◌+◌, ◌-◌, ◌^◌, ◌<◌, ◌≤◌, min, Bool, not, List, [], ◌++◌, length, Option, refl, sym, ap, subst, arith}
use Rattle.std.proofs.Common.{append_assoc, append-nil}
use Rattle.std.specs.Prelude.{is_ok, is_err}
use Rattle.std.specs.List.{filter}
use Rattle.std.proofs.lemmas.List.{length-append}
use Rattle.roster_text.specs.declared.commands.Timed.{Timed}
use Rattle.rtcp_pack.specs.Compound.{compound}
use Rattle.rtcp_pack.specs.declared.report.Report.{Report}
use Rattle.udp_edge.specs.declared.peer.Peer.{Peer}
use Rattle.udp_edge.specs.Traffic.{Traffic}
use Rattle.conference_spec.specs.declared.Packet.{Packet}
use Rattle.conference_spec.specs.Coding.{Coder}
use Rattle.conference_spec.specs.Codec.{g726}
use Rattle.conference_spec.specs.Feed.{Feed, closes}
use Rattle.conference_spec.specs.Machine.{Core}
use Rattle.conference_spec.specs.Packets.{rest}
use Rattle.conference_spec.specs.Tasks.{due}
use Rattle.conference_spec.proofs.Members.{length-filter_parts}
use Rattle.session_spec.specs.Talkers.{Events}
use Rattle.session_spec.specs.Events.{feed_of, refused}
use Rattle.session_spec.specs.Answer.{sent_to}
use Rattle.tick_core.specs.declared.book.Book.{Book}
use Rattle.tick_core.specs.Standing.{Stands}
use Rattle.desk_run.specs.BookSide.{StandsFor, HandedAll}
use Rattle.desk_run.proofs.Closed.{runs-due}
use Rattle.desk_run.proofs.Remaining.{as-many}
use Rattle.live_spec.specs.declared.LiveSummary.{LiveSummary}
use Rattle.live_spec.specs.Heard.{Live, controls, live_events}
use Rattle.live_spec.specs.Reports.{end_reports}
use Rattle.live_spec.specs.Letters.{Letter, letters, letters_to, last_letters, tick_letters, packet_letters, report_letters}
use Rattle.live_spec.specs.Summed.{reports_before, live_summary}
use Rattle.live_spec.proofs.Counting.{refusals-few, rounds-to-few}
use Rattle.live_tally.specs.declared.tallies.Tallies.{Tallies}
use Rattle.live_tally.specs.Kept.{Keeps}
use Rattle.live_link.specs.declared.controls.Controls.{Controls}
use Rattle.live_link.specs.Rounds.{with_controls}
use Rattle.live_link.specs.Posts.{Posts, PostsFront}
use Rattle.live_link.proofs.Tried.{posts-then}
use Rattle.live_link.proofs.Tried.{front-longer as posts-front-longer, front-all as posts-front-all, front-then as posts-front-then}
use Rattle.live_run.specs.declared.sums.Sums.{Sums}
use Rattle.live_run.specs.Standing.{StandsTallied}
use Rattle.live_run.specs.Running.{Ends, Moves, no_controls, AsTold, IfTold, Went, Between, Fails}
use Rattle.live_run.specs.Ended.{all_letters, Runs, SendsFront, SamePort}
use Rattle.live_run.proofs.Moving.{Front, front-none, front-longer, front-then, moves-tries, moves-port, unsent-both}
use Rattle.live_run.proofs.Telling.{told-with}
use Rattle.live_run.proofs.Ticking.{letters_by, letters-by-next}

-- ---- a front of the letters ----

letters-front : (peer_of : ℕ → Option Peer) (plan : List Timed) (live : Live) (k d : ℕ)
    → (more : List Letter) × (letters_by peer_of plan live (d + k) ≡ letters_by peer_of plan live k ++ more)
letters-front peer_of plan live k zero =
    let e : 0 + k ≡ k = omega arith in
    ([], ap (letters_by peer_of plan live) e ∙ sym (append-nil (letters_by peer_of plan live k)))
letters-front peer_of plan live k (suc d) =
    let n = d + k in
    let e : suc d + k ≡ n + 1 = omega arith in
    let (more, same) = letters-front peer_of plan live k d in
    let step = tick_letters peer_of g726 n (feed_of (live_events plan live (n + 1))) in (
      more ++ step,
      ap (letters_by peer_of plan live) e
          ∙ letters-by-next peer_of plan live n
          ∙ ap (λ (ls : List Letter). ls ++ step) same
          ∙ append_assoc (letters_by peer_of plan live k) more step,
    )

sends-front : (peer_of : ℕ → Option Peer) (plan : List Timed) (ticks : ℕ) (live : Live) (a b : Option Traffic) → Front a b (all_letters peer_of plan ticks live)
    → SendsFront peer_of plan ticks live a b
sends-front peer_of plan ticks live a b f = record { n = f.n; went = f.went; front = f.front; moves = f.moves }

pub nothing-sent : (peer_of : ℕ → Option Peer) (plan : List Timed) (ticks : ℕ) (live : Live) (a : Option Traffic) → SendsFront peer_of plan ticks live a a
nothing-sent peer_of plan ticks live a = sends-front peer_of plan ticks live a a (front-none a (all_letters peer_of plan ticks live))

-- there was no memory in a tick
pub fails-session : (peer_of : ℕ → Option Peer) (plan : List Timed) (start ticks k : ℕ) (old : Ends) (now : Option Traffic) → k < ticks
    → IfTold old start (λ live. Fails peer_of plan old.traffic now live k) → IfTold old start (λ live. SendsFront peer_of plan ticks live old.traffic now)
fails-session peer_of plan start ticks k old now lt told =
    told-with old start (λ live. Fails peer_of plan old.traffic now live k) (λ live. SendsFront peer_of plan ticks live old.traffic now) (λ live f.
    let d = ticks - (k + 1) in
    let e : d + (k + 1) ≡ ticks = omega arith in
    let (more, same) = letters-front peer_of plan live (k + 1) d in
    let here : Front old.traffic now (letters_by peer_of plan live (k + 1)) = record { n = f.n; went = f.went; front = f.front; moves = f.moves } in
    let by : Front old.traffic now (letters_by peer_of plan live ticks) =
    subst (λ (n : ℕ). Front old.traffic now (letters_by peer_of plan live n)) e
    (subst (λ (ls : List Letter). Front old.traffic now ls) (sym same) (front-longer old.traffic now (letters_by peer_of plan live (k + 1)) more here)) in
    sends-front peer_of plan ticks live old.traffic now
    (front-longer old.traffic now (letters_by peer_of plan live ticks) (last_letters peer_of g726 ticks (feed_of (live_events plan live ticks))) by))
    told

-- ---- one tick more ----

module _ (D : Events → Type 0) (C : Feed → ℕ → Type 0) (peer_of : ℕ → Option Peer) (plan plan' : List Timed) (start start' : ℕ) (ends now : Ends)
    (c : Controls) (s : Sums) (k : ℕ) (same : plan' ≡ plan) (same' : start' ≡ start) where
  abbrev After : (Ends → Events → List Timed → ℕ → Type 0) → Type 0
  After P = (old : Ends) (h : Events) → Between D C peer_of plan' start' old now c s k h → P old h plan' start'

  at-plan : (P : Ends → Events → List Timed → ℕ → Type 0) → After P → (h : Events) → Between D C peer_of plan start ends now c s k h → P ends h plan start
  at-plan P after =
      subst (λ (p : List Timed). (h : Events) → Between D C peer_of p start ends now c s k h → P ends h p start) same
      (subst (λ (t : ℕ). (h : Events) → Between D C peer_of plan' t ends now c s k h → P ends h plan' t) same' (after ends))

  pub goes-on : (D' : Events → Type 0) (C' : Feed → ℕ → Type 0) (next : Ends) (c' : Controls) (s' : Sums)
      → ((old : Ends) (h : Events) → Between D C peer_of plan' start' old now c s k h
      → (j : Events) × Between D' C' peer_of plan' start' old next c' s' (k + 1) j)
      → (h : Events) × Between D C peer_of plan start ends now c s k h → (j : Events) × Between D' C' peer_of plan start ends next c' s' (k + 1) j
  goes-on D' C' next c' s' ran (h, at) = at-plan (λ old e p t. (j : Events) × Between D' C' peer_of p t old next c' s' (k + 1) j) ran h at

  pub fails-ticks : (ticks : ℕ) (new : Option Traffic) → k < ticks
      → ((old : Ends) (h : Events) → Between D C peer_of plan' start' old now c s k h → IfTold old start' (λ live. Fails peer_of plan' old.traffic new live k))
      → (h : Events) × Between D C peer_of plan start ends now c s k h → IfTold ends start (λ live. SendsFront peer_of plan ticks live ends.traffic new)
  fails-ticks ticks new lt failed (h, at) =
      fails-session peer_of plan start ticks k ends new lt
      (at-plan (λ old e p t. IfTold old t (λ live. Fails peer_of p old.traffic new live k)) failed h at)

-- ---- after the last tick ----

-- what a session was summed up to, after these events
pub record Sum (ticks : ℕ) (h : Events) (c : Controls) (unsent : ℕ) (s : LiveSummary) : Type 0 where
  pub ticks_are : s.ticks ≡ ticks
  pub runs_are : s.runs ≡ due g726 (feed_of h)
  pub packets_are : s.packets ≡ length (sent_to g726 ticks (feed_of h)) + length (rest g726 (feed_of h))
  pub refused_are : s.refused ≡ min (min (refused h) (2 ^ 64 - 1) + c.refused) (2 ^ 64 - 1)
  pub unsent_are : s.unsent ≡ unsent
  pub reports_are : s.reports ≡ reports_before g726 ticks (feed_of h) + length (end_reports g726 ticks (feed_of h))
  pub heard_are : s.heard ≡ c.heard

same-summary : (s t : LiveSummary) → s.ticks ≡ t.ticks → s.runs ≡ t.runs → s.packets ≡ t.packets → s.refused ≡ t.refused → s.unsent ≡ t.unsent
    → s.reports ≡ t.reports → s.heard ≡ t.heard → s ≡ t
same-summary s t a b c d e f g = λ i. record { ticks = a i; runs = b i; packets = c i; refused = d i; unsent = e i; reports = f i; heard = g i }

not-over : (n r m : ℕ) → n ≡ min (min r (2 ^ 64 - 1) + m) (2 ^ 64 - 1) → r + m ≤ 283115520000 → n ≡ r + m
not-over n r m e le = omega arith

-- the refusals of a told session, none left out
refusals-are : (plan : List Timed) (live : Live) (ticks n : ℕ) (c : Controls) → ticks ≤ 4320000 → c ≡ with_controls no_controls (controls live ticks)
    → n ≡ min (min (refused (live_events plan live ticks)) (2 ^ 64 - 1) + c.refused) (2 ^ 64 - 1)
    → n ≡ refused (live_events plan live ticks) + length (filter (λ o. is_err (compound o)) (controls live ticks))
refusals-are plan live ticks n c few is e =
    let os = controls live ticks in
    let errs = length (filter (λ (o : List ℕ). is_err (compound o)) os) in
    let here : c.refused ≡ errs = ap (λ (x : Controls). x.refused) is ∙ omega arith in
    let parts = length-filter_parts (λ (o : List ℕ). is_err (compound o)) os in
    let most = refusals-few plan live ticks in
    let rounds = rounds-to-few live ticks in
    not-over n (refused (live_events plan live ticks)) errs
    (e ∙ ap (λ (m : ℕ). min (min (refused (live_events plan live ticks)) (2 ^ 64 - 1) + m) (2 ^ 64 - 1)) here) (omega arith)

-- the summary is the session's
summary-is : (plan : List Timed) (live : Live) (ticks unsent : ℕ) (went : List Bool) (c : Controls) (h : Events) (s : LiveSummary) → ticks ≤ 4320000
    → h ≡ live_events plan live ticks → c ≡ with_controls no_controls (controls live ticks) → unsent ≡ length (filter not went) → Sum ticks h c unsent s
    → s ≡ live_summary g726 plan ticks live went
summary-is plan live ticks unsent went c h s few happened is counted sum =
    let e = live_events plan live ticks in
    let f = feed_of e in
    let here : Sum ticks e c unsent s = subst (λ (x : Events). Sum ticks x c unsent s) happened sum in
    let oks = length (filter (λ (o : List ℕ). is_ok (compound o)) (controls live ticks)) in
    let none : 0 + oks ≡ oks = omega arith in
    same-summary s (live_summary g726 plan ticks live went) here.ticks_are here.runs_are
    (here.packets_are ∙ sym (length-append (sent_to g726 ticks f) (rest g726 f)))
    (refusals-are plan live ticks s.refused c few is here.refused_are) (here.unsent_are ∙ counted) here.reports_are
    (here.heard_are ∙ ap (λ (x : Controls). x.heard) is ∙ none)

module _ (peer_of : ℕ → Option Peer) (plan : List Timed) (start ticks : ℕ) (old : Ends) (a c : Option Traffic) (answers : Option (List ℕ))
    (heard : Controls) (unsent : ℕ)
    (h : Events) (was : Went plan start old (record { traffic = a; answers = answers }) ticks heard unsent (letters_to peer_of g726 ticks (feed_of h)) h) where
  abbrev first_letters : List Letter
  first_letters = letters_to peer_of g726 ticks (feed_of h)

  abbrev end_letters : List Letter
  end_letters = last_letters peer_of g726 ticks (feed_of h)

  -- a front of what was left, and of the last reports, was tried
  pub fails-last : PostsFront a c end_letters → IfTold old start (λ live. SendsFront peer_of plan ticks live old.traffic c)
  fails-last posts =
      told-with old start (λ live. AsTold plan live was.n answers ticks heard h) (λ live. SendsFront peer_of plan ticks live old.traffic c) (λ live told'.
      sends-front peer_of plan ticks live old.traffic c
      (subst (λ (e : Events). Front old.traffic c (letters peer_of g726 ticks (feed_of e))) told'.events_are
      (front-then was.n old.traffic a c first_letters end_letters was.went was.each was.moves posts)))
      was.told

  module _ (unsent' : ℕ) (posts : Posts a c unsent unsent' end_letters) where
    abbrev all_went : List Bool
    all_went = was.went ++ posts.went

    moves-all : Moves was.n old.traffic c (letters peer_of g726 ticks (feed_of h)) all_went
    moves-all = moves-tries was.n old.traffic a c first_letters end_letters was.went posts.went was.each was.moves posts.tried

    each-all : length all_went ≡ length (letters peer_of g726 ticks (feed_of h))
    each-all =
        let each = was.each in
        let each' = posts.each in
        omega (arith, length-append was.went posts.went, length-append first_letters end_letters)

    unsent-all : unsent' ≡ length (filter not all_went)
    unsent-all =
        let counted = was.unsent_is in
        let counted' = posts.counted in
        omega (arith, unsent-both was.went posts.went)

    -- the whole session was run
    pub runs-all : (s : LiveSummary) → ticks ≤ 4320000 → Sum ticks h heard unsent' s → IfTold old start (λ live. Runs peer_of plan ticks live old.traffic c s)
    runs-all s few sum =
        told-with old start (λ live. AsTold plan live was.n answers ticks heard h) (λ live. Runs peer_of plan ticks live old.traffic c s) (λ live told'.
        record {
          went = all_went;
          sends = record {
            each = subst (λ (e : Events). length all_went ≡ length (letters peer_of g726 ticks (feed_of e))) told'.events_are each-all;
            moves =
                subst (λ (n : ℕ). Moves n old.traffic c (all_letters peer_of plan ticks live) all_went) told'.rounds_are
                (subst (λ (e : Events). Moves was.n old.traffic c (letters peer_of g726 ticks (feed_of e)) all_went) told'.events_are moves-all);
          };
          summary_is = summary-is plan live ticks unsent' all_went heard h s few told'.events_are told'.controls_are unsent-all sum;
        })
        was.told

    pub port-stays : SamePort old.traffic c
    port-stays = moves-port was.n old.traffic c (letters peer_of g726 ticks (feed_of h)) all_went moves-all

-- ---- what is left, of a Book whose listeners are tallied ----

-- after the last tick, where what is left was counted in m
module _ (D : Events → Type 0) (book : Book) (t m : Tallies) (closed : ℕ) (peer_of : ℕ → Option Peer) (plan : List Timed) (start : ℕ) (old : Ends)
    (a b c : Option Traffic)
    (answers : Option (List ℕ)) (heard : Controls) (sums : Sums) (ticks : ℕ) (h : Events)
    (at : Between D (λ f n. StandsTallied (HandedAll book) t closed f n) peer_of plan start old (record { traffic = a; answers = answers })
    heard sums ticks h) where
  abbrev left_letters : List Letter
  left_letters = packet_letters peer_of (rest g726 (feed_of h))

  abbrev end_reports_letters : List Letter
  end_reports_letters = report_letters peer_of (end_reports g726 ticks (feed_of h))

  -- the Book stands for the session's feed
  pub book-stands : StandsFor book (feed_of h)
  book-stands = at.ready.conference_stands.stands.0

  -- there was no memory for what is left
  pub fails-left : ((f : Feed) → StandsFor book f → PostsFront a b (packet_letters peer_of (rest g726 f)))
      → IfTold old start (λ live. SendsFront peer_of plan ticks live old.traffic b)
  fails-left front =
      fails-last peer_of plan start ticks old a b answers heard sums.unsent h at.went
      (posts-front-longer a b left_letters end_reports_letters (front (feed_of h) book-stands))

  module _ (v : ℕ) (posted : (f : Feed) → StandsFor book f → Posts a b sums.unsent v (packet_letters peer_of (rest g726 f))) where
    -- or for the reports
    pub fails-unreported : IfTold old start (λ live. SendsFront peer_of plan ticks live old.traffic b)
    fails-unreported = fails-left (λ f s. posts-front-all a b sums.unsent v (packet_letters peer_of (rest g726 f)) (posted f s))

    module _ (reports : List Report)
        (counted : (f : Feed) → StandsFor book f → (coder : Coder) (g : Feed) (before : List Packet) → Keeps coder t g before
        → Keeps coder m g (before ++ rest g726 f))
        (ended : ℕ) (all : ended ≡ ticks) (items : List Report) (same : reports ≡ items)
        (due-are : (coder : Coder) (g : Feed) → closes g ≡ ended → Keeps coder m g (sent_to coder ended g ++ rest coder g)
        → items ≡ end_reports coder ended g) where
      -- these are the last reports
      pub reports-are : reports ≡ end_reports g726 ticks (feed_of h)
      reports-are =
          let f = feed_of h in
          let s = at.ready.conference_stands in
          let keeps : Keeps g726 t f (sent_to g726 ticks f) = subst (λ (n : ℕ). Keeps g726 t f (sent_to g726 n f)) at.ready.closed s.keeps in
          let here : Keeps g726 m f (sent_to g726 ticks f ++ rest g726 f) = counted f s.stands.0 g726 f (sent_to g726 ticks f) keeps in
          let Due : ℕ → Type 0 = λ n. closes f ≡ n → Keeps g726 m f (sent_to g726 n f ++ rest g726 f) → items ≡ end_reports g726 n f in
          let due-now : Due ticks = subst Due all (due-are g726 f) in
          same ∙ due-now at.ready.closed here

      letters-are : report_letters peer_of reports ≡ end_reports_letters
      letters-are = ap (report_letters peer_of) reports-are

      -- or for one of them
      pub fails-reporting : PostsFront b c (report_letters peer_of reports) → IfTold old start (λ live. SendsFront peer_of plan ticks live old.traffic c)
      fails-reporting front =
          fails-last peer_of plan start ticks old a c answers heard sums.unsent h at.went
          (posts-front-then a b c sums.unsent v left_letters end_reports_letters (posted (feed_of h) book-stands)
          (subst (λ (ls : List Letter). PostsFront b c ls) letters-are front))

      module _ (w : ℕ) (reported : Posts b c v w (report_letters peer_of reports)) where
        -- all was tried, and it couldn't be counted
        pub fails-counting : IfTold old start (λ live. SendsFront peer_of plan ticks live old.traffic c)
        fails-counting = fails-reporting (posts-front-all b c v w (report_letters peer_of reports) reported)

        -- all was tried and summed up
        pub summed-up : (s : LiveSummary) → ticks ≤ 4320000 → Sum ticks h heard w s
            → IfTold old start (λ live. Runs peer_of plan ticks live old.traffic c s) × SamePort old.traffic c
        summed-up s few sum =
            let posts : Posts a c sums.unsent w (last_letters peer_of g726 ticks (feed_of h)) =
            posts-then a b c sums.unsent v w left_letters end_reports_letters (posted (feed_of h) book-stands)
            (subst (λ (ls : List Letter). Posts b c v w ls) letters-are reported) in (
              runs-all peer_of plan start ticks old a c answers heard sums.unsent h at.went w posts s few sum,
              port-stays peer_of plan start ticks old a c answers heard sums.unsent h at.went w posts,
            )

        -- what it comes to
        pub sum-is : (told runs rests packets gone refusals len reported' : ℕ) → told ≡ ticks → ((x : Core) → Stands book x → runs ≡ x.issued)
            → ((x : Core) → Stands book x → rests ≡ length (rest g726 x.feed)) → packets ≡ sums.packets + rests
            → ((e : Events) → D e → gone ≡ min (refused e) (2 ^ 64 - 1)) → refusals ≡ min (gone + heard.refused) (2 ^ 64 - 1)
            → len ≡ length reports → reported' ≡ sums.reports + len
            → Sum ticks h heard w
            (record { ticks = told; runs = runs; packets = packets; refused = refusals; unsent = w; reports = reported'; heard = heard.heard })
        sum-is told runs rests packets gone refusals len reported' ticks-are issued many packed lost lost-all long reported-all =
            let f = feed_of h in
            let s = at.ready.conference_stands.stands in
            let left-are : rests ≡ length (rest g726 f) = as-many book rests f many s.0 in
            let sent-are = at.packets in
            let old-reports = at.reports in
            let reports-long : len ≡ length (end_reports g726 ticks f) = long ∙ ap (λ (rs : List Report). length rs) reports-are in
            record {
              ticks_are = ticks-are;
              runs_are = runs-due book f runs s.2 s.0 issued;
              packets_are = packed ∙ ap (λ (n : ℕ). n + rests) sent-are ∙ ap (λ (n : ℕ). length (sent_to g726 ticks f) + n) left-are;
              refused_are = lost-all ∙ ap (λ (n : ℕ). min (n + heard.refused) (2 ^ 64 - 1)) (lost h at.ready.desk_stands);
              unsent_are = refl;
              reports_are = reported-all ∙ ap (λ (n : ℕ). n + len) old-reports ∙ ap (λ (n : ℕ). reports_before g726 ticks f + n) reports-long;
              heard_are = refl;
            }
