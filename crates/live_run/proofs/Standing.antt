-- For what a conference stands whose listeners are tallied, as they come and go and where it is cut.
use Rattle.std.proofs.Common.{◌≡◌, ℕ, false, Bool, List, [], ◌∷◌, sym, subst, arith}
use Rattle.std.specs.Prelude.{◌==◌}
use Rattle.std.specs.List.{list_any}
use Rattle.std.proofs.lemmas.Bool.{cond_both}
use Rattle.conference_spec.specs.declared.JoinSpec.{JoinSpec}
use Rattle.conference_spec.specs.declared.Packet.{Packet}
use Rattle.conference_spec.specs.declared.Entry.{Entry}
use Rattle.conference_spec.specs.declared.Entry.TheVariants.{Join, Leave, Cut}
use Rattle.conference_spec.specs.Coding.{Coder}
use Rattle.conference_spec.specs.Codec.{g726}
use Rattle.conference_spec.specs.Feed.{Feed, Listener, listeners, closes}
use Rattle.session_spec.specs.Answer.{sent_to}
use Rattle.session_spec.proofs.Following.{packets-stay}
use Rattle.session_spec.specs.Talkers.{Events, Cuts}
use Rattle.session_spec.specs.Events.{feed_of, begins_with_cut, after_cut}
use Rattle.desk_run.specs.Handing.{leaving}
use Rattle.live_tally.specs.declared.tallies.Tallies.{Tallies}
use Rattle.live_tally.specs.Kept.{Keeps}
use Rattle.live_run.specs.Standing.{StandsTallied}

-- what was sent so far stays so, with one entry more that closes nothing
same-packets : (e : Entry) (h : Feed) → sent_to g726 (closes h) (e ∷ h) ≡ sent_to g726 (closes h) h
same-packets e h = packets-stay g726 (closes h) (e ∷ []) h (omega arith)

module _ (C : Feed → ℕ → Type 0) (t : Tallies) (closed : ℕ) where
  module _ (D : Feed → ℕ → Type 0) (u : Tallies) where
    -- a listener joined
    pub joined : (spec : JoinSpec)
        → ((coder : Coder) (h : Feed) (packets : List Packet) → closed ≡ closes h → Keeps coder t h packets → Keeps coder u (Join spec ∷ h) packets)
        → ((h : Feed) (n : ℕ) → C h n → D (Join spec ∷ h) n)
        → (h : Feed) (n : ℕ) → StandsTallied C t closed h n → StandsTallied D u closed (Join spec ∷ h) n
    joined spec tallied stands h n s = record {
      stands = stands h n s.stands;
      closed_are = s.closed_are;
      keeps =
          subst (λ (ps : List Packet). Keeps g726 u (Join spec ∷ h) ps) (sym (same-packets (Join spec) h))
          (tallied g726 h (sent_to g726 (closes h) h) s.closed_are s.keeps);
    }

    -- a member went, if it listened
    pub left : (member : ℕ)
        → ((coder : Coder) (h : Feed) (packets : List Packet) → closed ≡ closes h → Keeps coder t h packets → Keeps coder u (Leave member ∷ h) packets)
        → ((coder : Coder) (h : Feed) (packets : List Packet) → closed ≡ closes h → list_any (λ l. l.spec.member == member) (listeners coder h) ≡ false
        → Keeps coder t h packets → Keeps coder u h packets)
        → ((h : Feed) (n : ℕ) → C h n → D (leaving member h) n)
        → (h : Feed) (n : ℕ) → StandsTallied C t closed h n → StandsTallied D u closed (leaving member h) n
    left member goes nobody stands h n s =
        let b : Bool = list_any (λ (l : Listener). l.spec.member == member) (listeners g726 h) in
        let P : Feed → Type 0 = λ f. D f n → StandsTallied D u closed f n in
        let ps : List Packet = sent_to g726 (closes h) h in
        cond_both b (Leave member ∷ h) h P
        (λ is d. record {
          stands = d;
          closed_are = s.closed_are;
          keeps =
              subst (λ (qs : List Packet). Keeps g726 u (Leave member ∷ h) qs) (sym (same-packets (Leave member) h))
              (goes g726 h ps s.closed_are s.keeps);
        })
        (λ is d. record { stands = d; closed_are = s.closed_are; keeps = nobody g726 h ps s.closed_are is s.keeps })
        (stands h n s.stands)

  -- a tick began, with a cut if it begins with one
  pub cut-tallied : (D : Feed → ℕ → Type 0) (k : ℕ) (h : Events) → closes (feed_of h) ≡ k
      → ((e : Events) → C (feed_of e) k → closes (feed_of e) ≡ k → D (feed_of (after_cut k e)) k)
      → StandsTallied C t closed (feed_of h) k → StandsTallied D t closed (feed_of (after_cut k h)) k
  cut-tallied D k h at stands s =
      let P : Events → Type 0 = λ e. D (feed_of e) k → StandsTallied D t closed (feed_of e) k in
      let keeps : Keeps g726 t (feed_of h) (sent_to g726 (closes (feed_of h)) (feed_of h)) = s.keeps in
      cond_both (begins_with_cut k) (Cuts ∷ h) h P
      (λ is d. record {
        stands = d;
        closed_are = s.closed_are;
        keeps =
            subst (λ (qs : List Packet). Keeps g726 t (Cut ∷ feed_of h) qs) (sym (same-packets Cut (feed_of h)))
            (record { accounts = keeps.accounts; totals = keeps.totals });
      })
      (λ is d. record { stands = d; closed_are = s.closed_are; keeps = keeps })
      (stands h s.stands at)
