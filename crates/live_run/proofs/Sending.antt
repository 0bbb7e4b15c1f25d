-- What a tick sends, and what is counted of it.
use Rattle.std.proofs.Common.{◌≡◌, ◌∙◌, ℕ, ◌+◌, List, [], ◌∷◌, ◌++◌, length, Option, sym, ap, subst, arith, add-one}
use Rattle.std.specs.Prelude.{◌==◌}
use Rattle.std.proofs.lemmas.Bool.{cond-true, eq-eqb}
use Rattle.rtcp_pack.specs.declared.report.Report.{Report}
use Rattle.talk_mix.specs.declared.ticks.Tick.{Tick}
use Rattle.udp_edge.specs.declared.peer.Peer.{Peer}
use Rattle.udp_edge.specs.Traffic.{Traffic}
use Rattle.conference_spec.specs.declared.Entry.TheVariants.{Close, Collect}
use Rattle.conference_spec.specs.declared.Packet.{Packet}
use Rattle.conference_spec.specs.Coding.{Coder}
use Rattle.conference_spec.specs.Codec.{g726}
use Rattle.conference_spec.specs.Feed.{Feed, closes, before}
use Rattle.conference_spec.specs.Packets.{sent}
use Rattle.session_spec.specs.Answer.{sent_to}
use Rattle.session_spec.proofs.Following.{packets-stay}
use Rattle.live_spec.specs.Reports.{tick_reports}
use Rattle.live_spec.specs.Letters.{Letter, packet_letters, report_letters, tick_letters}
use Rattle.live_tally.specs.declared.tallies.Tallies.{Tallies}
use Rattle.live_tally.specs.Kept.{Keeps}
use Rattle.live_link.specs.Posts.{Posts, PostsFront}
use Rattle.live_link.proofs.Tried.{posts-then, front-then, front-longer, front-all}
use Rattle.live_run.specs.declared.sums.Sums.{Sums}
use Rattle.live_run.specs.Sending.{ticked, Closes, HasSent}

before-ticked : (k : ℕ) (talkers : Tick) (f : Feed) → closes f ≡ k → before k (ticked talkers f) ≡ f
before-ticked k talkers f e = cond-true {A = Feed} (closes f == k) f (before k f) (eq-eqb (closes f) k e)

sent-ticked : (k : ℕ) (talkers : Tick) (f : Feed) → closes f ≡ k → sent_to g726 (k + 1) (ticked talkers f) ≡ sent_to g726 k f ++ sent g726 k (ticked talkers f)
sent-ticked k talkers f e =
    ap (λ (n : ℕ). sent_to g726 n (ticked talkers f)) (add-one k)
    ∙ ap (λ (ps : List Packet). ps ++ sent g726 k (ticked talkers f)) (packets-stay g726 k (Collect ∷ Close talkers ∷ []) f (omega arith))

-- so do tallies that packets were counted in
abbrev pub Counts : Tallies → Tallies → List Packet → Type 0
Counts t m packets = (coder : Coder) (h : Feed) (before : List Packet) → Keeps coder t h before → Keeps coder m h (before ++ packets)

-- these are the reports of a tick, for whatever the tallies stand for
abbrev pub Reports : Tallies → ℕ → List Report → Type 0
Reports m k reports =
    (coder : Coder) (h : Feed) → closes (before k h) ≡ k → Keeps coder m (before k h) (sent_to coder (k + 1) h) → reports ≡ tick_reports coder k h

pub reports-at : (m : Tallies) (j k : ℕ) (items reports : List Report) → j ≡ k → reports ≡ items → Reports m j items → Reports m k reports
reports-at m j k items reports e is due =
    subst (λ (n : ℕ). Reports m n reports) e (subst (λ (rs : List Report). Reports m j rs) (sym is) due)

module _ (peer_of : ℕ → Option Peer) (k : ℕ) (packets : List Packet) (t m : Tallies) (counted : Counts t m packets) where
  keeps-packets : (talkers : Tick) (f : Feed) → Closes k packets t talkers f → Keeps g726 m f (sent_to g726 (k + 1) (ticked talkers f))
  keeps-packets talkers f c =
      subst (λ (ps : List Packet). Keeps g726 m f ps) (ap (λ (ps : List Packet). sent_to g726 k f ++ ps) c.packets_are ∙ sym (sent-ticked k talkers f c.at))
      (counted g726 f (sent_to g726 k f) c.keeps)

  module _ (reports : List Report) (due : Reports m k reports) where
    reports-are : (talkers : Tick) (f : Feed) → Closes k packets t talkers f → reports ≡ tick_reports g726 k (ticked talkers f)
    reports-are talkers f c =
        let is = before-ticked k talkers f c.at in
        due g726 (ticked talkers f) (ap closes is ∙ c.at)
        (subst (λ (g : Feed). Keeps g726 m g (sent_to g726 (k + 1) (ticked talkers f))) (sym is) (keeps-packets talkers f c))

    letters-are : (talkers : Tick) (f : Feed) → Closes k packets t talkers f
        → packet_letters peer_of packets ++ report_letters peer_of reports ≡ tick_letters peer_of g726 k (ticked talkers f)
    letters-are talkers f c =
        ap (λ (ps : List Packet). packet_letters peer_of ps ++ report_letters peer_of reports) c.packets_are
        ∙ ap (λ (rs : List Report). packet_letters peer_of (sent g726 k (ticked talkers f)) ++ report_letters peer_of rs) (reports-are talkers f c)

    module _ (a b c' : Option Traffic) (u v w : ℕ) (posted : Posts a b u v (packet_letters peer_of packets)) where
      -- all was posted, and the tick is over
      pub has-sent : (d : Tallies) (old new : Sums) → Posts b c' v w (report_letters peer_of reports)
          → ((coder : Coder) (h : Feed) (talkers : Tick) (ps : List Packet) → closes h ≡ k → Keeps coder m h ps
          → Keeps coder d (Collect ∷ Close talkers ∷ h) ps)
          → u ≡ old.unsent → w ≡ new.unsent → new.packets ≡ old.packets + length packets → new.reports ≡ old.reports + length reports
          → (talkers : Tick) (f : Feed) → Closes k packets t talkers f → HasSent peer_of k d a c' old new (ticked talkers f)
      has-sent d old new reported closed first last ps rs talkers f c = record {
        keeps = closed g726 f talkers (sent_to g726 (k + 1) (ticked talkers f)) c.at (keeps-packets talkers f c);
        posts =
            subst (λ (ls : List Letter). Posts a c' old.unsent new.unsent ls) (letters-are talkers f c)
            (subst (λ (n : ℕ). Posts a c' n new.unsent (packet_letters peer_of packets ++ report_letters peer_of reports)) first
            (subst (λ (n : ℕ). Posts a c' u n (packet_letters peer_of packets ++ report_letters peer_of reports)) last
            (posts-then a b c' u v w (packet_letters peer_of packets) (report_letters peer_of reports) posted reported)));
        packets = ps ∙ ap (λ (qs : List Packet). old.packets + length qs) c.packets_are;
        reports = rs ∙ ap (λ (qs : List Report). old.reports + length qs) (reports-are talkers f c);
      }

      -- a front of the reports was posted
      pub front-reports : PostsFront b c' (report_letters peer_of reports) → (talkers : Tick) (f : Feed) → Closes k packets t talkers f
          → PostsFront a c' (tick_letters peer_of g726 k (ticked talkers f))
      front-reports front talkers f c =
          subst (λ (ls : List Letter). PostsFront a c' ls) (letters-are talkers f c)
          (front-then a b c' u v (packet_letters peer_of packets) (report_letters peer_of reports) posted front)

      -- all was posted, but it couldn't be counted
      pub front-both : Posts b c' v w (report_letters peer_of reports) → (talkers : Tick) (f : Feed) → Closes k packets t talkers f
          → PostsFront a c' (tick_letters peer_of g726 k (ticked talkers f))
      front-both reported = front-reports (front-all b c' v w (report_letters peer_of reports) reported)

-- a front of the packets was posted
pub front-packets : (peer_of : ℕ → Option Peer) (k : ℕ) (packets : List Packet) (t : Tallies) (a b : Option Traffic)
    → PostsFront a b (packet_letters peer_of packets)
    → (talkers : Tick) (f : Feed) → Closes k packets t talkers f → PostsFront a b (tick_letters peer_of g726 k (ticked talkers f))
front-packets peer_of k packets t a b front talkers f c =
    let last = report_letters peer_of (tick_reports g726 k (ticked talkers f)) in
    subst (λ (ps : List Packet). PostsFront a b (packet_letters peer_of ps ++ last)) c.packets_are
    (front-longer a b (packet_letters peer_of packets) last front)

-- the packets were posted, and there was no memory for the reports
pub front-unreported : (peer_of : ℕ → Option Peer) (k : ℕ) (packets : List Packet) (t : Tallies) (a b : Option Traffic) (u v : ℕ)
    → Posts a b u v (packet_letters peer_of packets) → (talkers : Tick) (f : Feed) → Closes k packets t talkers f
    → PostsFront a b (tick_letters peer_of g726 k (ticked talkers f))
front-unreported peer_of k packets t a b u v posted = front-packets peer_of k packets t a b (front-all a b u v (packet_letters peer_of packets) posted)
