-- How a live session ends.
use Rattle.std.specs.Prelude.{◌≡◌, ◌≤◌, ℕ, Bool, List, length, Option, IfSome}
use Rattle.roster_text.specs.declared.commands.Timed.{Timed}
use Rattle.udp_edge.specs.declared.peer.Peer.{Peer}
use Rattle.udp_edge.specs.Traffic.{Traffic}
use Rattle.udp_edge.specs.Time.{later}
use Rattle.conference_spec.specs.Codec.{g726}
use Rattle.session_spec.specs.Events.{feed_of}
use Rattle.live_spec.specs.declared.LiveSummary.{LiveSummary}
use Rattle.live_spec.specs.Heard.{Live, next_answer, rounds_to, live_events}
use Rattle.live_spec.specs.Letters.{Letter, letters}
use Rattle.live_spec.specs.Summed.{live_summary}
use Rattle.live_run.specs.declared.live.LiveEnd.{LiveEnd}
use Rattle.live_run.specs.declared.live.LiveEnd.TheVariants.{Done, Memory}
use Rattle.live_run.specs.Running.{Moves}

-- what a session is given by a link and a clock that tell: the clock's first answer is its start
abbrev pub live_of : Traffic → List ℕ → Live
live_of told answers = record { coming = told.coming; start = next_answer answers; answers = later answers }

-- all the letters of a session of so many ticks
abbrev pub all_letters : (ℕ → Option Peer) → List Timed → ℕ → Live → List Letter
all_letters peer_of plan ticks live = letters peer_of g726 ticks (feed_of (live_events plan live ticks))

-- Each letter of the session was tried, in order, of which these went; the turns of its rounds were taken, and nothing else is told
-- otherwise.
pub record Sends (peer_of : ℕ → Option Peer) (plan : List Timed) (ticks : ℕ) (live : Live) (old new : Option Traffic) (went : List Bool) : Type 0 where
  pub each : length went ≡ length (all_letters peer_of plan ticks live)
  pub moves : Moves (rounds_to live ticks) old new (all_letters peer_of plan ticks live) went

-- the whole session was run, and this is its summary
pub record Runs (peer_of : ℕ → Option Peer) (plan : List Timed) (ticks : ℕ) (live : Live) (old new : Option Traffic) (summary : LiveSummary) : Type 0 where
  pub went : List Bool
  pub sends : Sends peer_of plan ticks live old new went
  pub summary_is : summary ≡ live_summary g726 plan ticks live went

-- a front of the session's letters was tried, in order
pub record SendsFront (peer_of : ℕ → Option Peer) (plan : List Timed) (ticks : ℕ) (live : Live) (old new : Option Traffic) : Type 0 where
  pub n : ℕ
  pub went : List Bool
  pub front : length went ≤ length (all_letters peer_of plan ticks live)
  pub moves : Moves n old new (all_letters peer_of plan ticks live) went

-- a session ended so
abbrev pub EndsSo : (ℕ → Option Peer) → List Timed → ℕ → Live → Option Traffic → Option Traffic → LiveEnd → Type 0
EndsSo peer_of plan ticks live old new (Done summary) = Runs peer_of plan ticks live old new summary
EndsSo peer_of plan ticks live old new Memory = SendsFront peer_of plan ticks live old new

-- where a link tells, its port is told as before
abbrev pub SamePort : Option Traffic → Option Traffic → Type 0
SamePort old new = IfSome old (λ told. IfSome new (λ now. now.port ≡ told.port))

-- at the end of a whole session
abbrev pub PortStays : Option Traffic → Option Traffic → LiveEnd → Type 0
PortStays old new (Done summary) = SamePort old new
PortStays old new Memory = Unit {0}
