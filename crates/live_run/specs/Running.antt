-- Where a live session stands between two ticks.
use Rattle.std.specs.Prelude.{◌≡◌, ◌≤◌, ℕ, ◌+◌, Bool, not, List, ◌++◌, length, filter, drop, Option, Some, IfSome}
use Rattle.roster_text.specs.declared.commands.Timed.{Timed}
use Rattle.udp_edge.specs.declared.peer.Peer.{Peer}
use Rattle.udp_edge.specs.Traffic.{Traffic}
use Rattle.conference_spec.specs.Codec.{g726}
use Rattle.conference_spec.specs.Feed.{Feed, closes, kept}
use Rattle.session_spec.specs.Talkers.{Events}
use Rattle.session_spec.specs.Events.{feed_of, kept_before}
use Rattle.session_spec.specs.Answer.{sent_to}
use Rattle.live_spec.specs.Heard.{Live, rounds_to, after_answers, controls, live_events}
use Rattle.live_spec.specs.Letters.{Letter, letters_to, tries}
use Rattle.live_spec.specs.Summed.{reports_before}
use Rattle.live_link.specs.declared.controls.Controls.{Controls}
use Rattle.live_link.specs.Rounds.{with_controls}
use Rattle.live_run.specs.declared.sums.Sums.{Sums}

-- what a link and a clock tell
pub record Ends : Type 0 where
  pub traffic : Option Traffic
  pub answers : Option (List ℕ)

-- so many turns were taken and these letters were tried, of which these went; nothing else is told otherwise
abbrev pub Moves : ℕ → Option Traffic → Option Traffic → List Letter → List Bool → Type 0
Moves n old new letters went =
    IfSome old (λ told. new ≡ Some (record told { coming = drop n told.coming; tried = told.tried ++ tries letters went }))

-- no packet of RTCP
abbrev pub no_controls : Controls
no_controls = record { heard = 0; refused = 0 }

-- the first ticks had just the rounds, the packets of RTCP and the events that a link and a clock tell
pub record AsTold (plan : List Timed) (live : Live) (n : ℕ) (after : Option (List ℕ)) (k : ℕ) (heard : Controls) (h : Events) : Type 0 where
  pub rounds_are : n ≡ rounds_to live k
  pub after_is : after ≡ Some (after_answers n live.answers)
  pub controls_are : heard ≡ with_controls no_controls (controls live k)
  pub events_are : h ≡ live_events plan live k

-- what is given by a link and a clock that tell, where the session began at this time
abbrev pub given : Traffic → List ℕ → ℕ → Live
given told answers start = record { coming = told.coming; start = start; answers = answers }

-- where both tell, it is so of what they give
abbrev pub IfTold : Ends → ℕ → (Live → Type 0) → Type 0
IfTold ends start P = IfSome ends.traffic (λ told. IfSome ends.answers (λ answers. P (given told answers start)))

-- so many turns were taken and these letters were tried since a session began, after ticks of which these are the events
pub record Went (plan : List Timed) (start : ℕ) (old now : Ends) (k : ℕ) (heard : Controls) (unsent : ℕ) (letters : List Letter) (h : Events) : Type 0 where
  pub n : ℕ
  pub went : List Bool
  pub each : length went ≡ length letters
  pub unsent_is : unsent ≡ length (filter not went)
  pub moves : Moves n old.traffic now.traffic letters went
  pub told : IfTold old start (λ live. AsTold plan live n now.answers k heard h)

-- desk and conference stand as they do before tick k, after these events
pub record Ready (desk : Events → Type 0) (conference : Feed → ℕ → Type 0) (k : ℕ) (h : Events) : Type 0 where
  pub desk_stands : desk h
  pub conference_stands : conference (feed_of h) k
  pub closed : closes (feed_of h) ≡ k
  pub kept_is : kept (feed_of h) ≡ kept_before k

-- Before tick k, after these events: all letters of the ticks before were tried, and what they come to was counted.
pub record Between (desk : Events → Type 0) (conference : Feed → ℕ → Type 0) (peer_of : ℕ → Option Peer) (plan : List Timed) (start : ℕ) (old now : Ends)
    (heard : Controls) (sums : Sums) (k : ℕ) (h : Events) : Type 0 where
  pub ready : Ready desk conference k h
  pub packets : sums.packets ≡ length (sent_to g726 k (feed_of h))
  pub reports : sums.reports ≡ reports_before g726 k (feed_of h)
  pub went : Went plan start old now k heard sums.unsent (letters_to peer_of g726 k (feed_of h)) h

-- there was no memory in tick k: a front of the letters up to its end was tried
pub record Fails (peer_of : ℕ → Option Peer) (plan : List Timed) (old now : Option Traffic) (live : Live) (k : ℕ) : Type 0 where
  pub n : ℕ
  pub went : List Bool
  pub front : length went ≤ length (letters_to peer_of g726 (k + 1) (feed_of (live_events plan live (k + 1))))
  pub moves : Moves n old now (letters_to peer_of g726 (k + 1) (feed_of (live_events plan live (k + 1)))) went
