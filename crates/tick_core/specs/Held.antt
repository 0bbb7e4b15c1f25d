-- What a claimed run carries with it.
use Rattle.std.specs.Prelude.{ℕ, List}
use Rattle.g726_codec.specs.Run.{Run}
use Rattle.conference_spec.specs.declared.Task.{Task}
use Rattle.conference_spec.specs.declared.Packet.{Packet}

-- a number, and the task that has it
pub record Held : Type 0 where
  pub number : ℕ
  pub task : Task

-- what an encoder run at this tick was given
abbrev pub held_of : ℕ → Run → Held
held_of tick run = record { number = run.number; task = record { tick = tick; triple = record { rate = run.rate; state = run.before; mix = run.mix } } }

-- a tick with its packets
pub record Sent : Type 0 where
  pub tick : ℕ
  pub packets : List Packet
