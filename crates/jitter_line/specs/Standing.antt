-- When a line stands for a history, and what it then answers.
use Rattle.std.specs.Prelude.{◌≡◌, ℕ, ◌+◌, ◌*◌, ℤ, length, Option, None, slice_index_or}
use Rattle.jitter_line.specs.declared.line.Put.{Put}
use Rattle.jitter_line.specs.declared.line.Put.TheVariants.{Took, Late, Early, Restarted}
use Rattle.jitter_line.specs.Kept.{Kept}
use Rattle.jitter_line.specs.Histories.{Packet, History, Gauge, position_of, Fate, First, Taken, TooLate, TooEarly, Restarts, fate_of, gauge, offset_of, held, ahead, new_of}

-- a line at which a history left this gauge, and these samples at the places from its last start on
pub record StandsAs (l : Kept) (g : Gauge) (at : ℕ → Option ℤ) : Type 0 where
  pub position : l.position ≡ position_of g.origin g.pulls
  pub refusals : l.refusals ≡ g.refusals
  pub places : (i : ℕ) → slice_index_or l.places i None ≡ at (160 * g.pulls + i)

-- the line keeps just what the history gives
abbrev pub Stands : Kept → History → Type 0
Stands l h = StandsAs l (gauge h) (held h)

abbrev pub answer_by : Fate → History → Packet → Put
answer_by First h p = Took (length p.samples)
answer_by Taken h p = Took (new_of (ahead h) (offset_of (gauge h) p) (length p.samples))
answer_by TooLate h p = Late
answer_by TooEarly h p = Early
answer_by Restarts h p = Restarted

-- what a packet after this history is answered
abbrev pub answer : History → Packet → Put
answer h p = answer_by (fate_of (gauge h) p) h p

-- the fact, where the packet was late or early
abbrev pub OnRefused : Put → Type 0 → Type 0
OnRefused Late P = P
OnRefused Early P = P
OnRefused (Took new) P = Unit {0}
OnRefused Restarted P = Unit {0}
