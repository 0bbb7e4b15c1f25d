-- What a tick sends.
use Rattle.std.specs.Prelude.{◌≡◌, ℕ, ◌+◌, List, ◌∷◌, length, Option}
use Rattle.talk_mix.specs.declared.ticks.Tick.{Tick}
use Rattle.udp_edge.specs.declared.peer.Peer.{Peer}
use Rattle.udp_edge.specs.Traffic.{Traffic}
use Rattle.conference_spec.specs.declared.Entry.TheVariants.{Close, Collect}
use Rattle.conference_spec.specs.declared.Packet.{Packet}
use Rattle.conference_spec.specs.Codec.{g726}
use Rattle.conference_spec.specs.Feed.{Feed, closes}
use Rattle.conference_spec.specs.Packets.{sent}
use Rattle.session_spec.specs.Answer.{sent_to}
use Rattle.live_spec.specs.Reports.{tick_reports}
use Rattle.live_spec.specs.Letters.{tick_letters}
use Rattle.live_tally.specs.declared.tallies.Tallies.{Tallies}
use Rattle.live_tally.specs.Kept.{Keeps}
use Rattle.live_link.specs.Posts.{Posts, PostsFront}
use Rattle.live_run.specs.declared.sums.Sums.{Sums}

-- the feed after a tick that these talk in
abbrev pub ticked : Tick → Feed → Feed
ticked talkers f = Collect ∷ Close talkers ∷ f

-- this is tick k of that feed, these are its packets, and all of the ticks before were counted
pub record Closes (k : ℕ) (packets : List Packet) (tallies : Tallies) (talkers : Tick) (f : Feed) : Type 0 where
  pub at : closes f ≡ k
  pub packets_are : packets ≡ sent g726 k (ticked talkers f)
  pub keeps : Keeps g726 tallies f (sent_to g726 k f)

-- the letters of tick k were tried and counted
pub record HasSent (peer_of : ℕ → Option Peer) (k : ℕ) (tallies : Tallies) (old new : Option Traffic) (before now : Sums) (h : Feed) : Type 0 where
  pub keeps : Keeps g726 tallies h (sent_to g726 (k + 1) h)
  pub posts : Posts old new before.unsent now.unsent (tick_letters peer_of g726 k h)
  pub packets : now.packets ≡ before.packets + length (sent g726 k h)
  pub reports : now.reports ≡ before.reports + length (tick_reports g726 k h)

abbrev pub SendsTick : (ℕ → Option Peer) → ℕ → List Packet → Tallies → Tallies → Option Traffic → Option Traffic → Sums → Sums → Type 0
SendsTick peer_of k packets tallies tallies' old new before now =
    (talkers : Tick) (f : Feed) → Closes k packets tallies talkers f → HasSent peer_of k tallies' old new before now (ticked talkers f)

-- a front of them was tried
abbrev pub FrontOfTick : (ℕ → Option Peer) → ℕ → List Packet → Tallies → Option Traffic → Option Traffic → Type 0
FrontOfTick peer_of k packets tallies old new =
    (talkers : Tick) (f : Feed) → Closes k packets tallies talkers f → PostsFront old new (tick_letters peer_of g726 k (ticked talkers f))
