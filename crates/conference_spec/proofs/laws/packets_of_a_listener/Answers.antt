use Rattle.conference_spec.proofs.Chunks.{full-at, waits-at, last-at, none-left-at, early-at, late-at, packets-whole}
use Rattle.conference_spec.proofs.laws.packets_of_a_listener.Goals as goal

pub returns : goal.returns
returns c = record {
  full = full-at;
  waits = waits-at;
  last = last-at;
  none_left = none-left-at;
  early = early-at;
  late = late-at;
  whole = packets-whole;
}
