use Rattle.std.proofs.Common.{◌∷◌, []}
use Rattle.conference_spec.specs.Feed.{collects, listeners}
use Rattle.book_lists.proofs.Collecting.{over-rows, collect-carries, rests-open, rests-settled, later-closed}
use Rattle.book_lists.proofs.laws.collect_carries.Goals as goal

pub returns : goal.returns
returns c = record {
  over = λ coder tells d front v rests queue issued k car. over-rows coder tells d front v k car.opens car.runs car.once;
  others_open = λ coder tells d w front v rests queue issued k car over.
      collect-carries coder tells d (w ∷ front) v rests rests queue issued k car over
      (rests-open coder (collects d.feed) d.feed rests (listeners coder d.feed)
      (later-closed coder (collects d.feed) d.runs w front v d.feed car.opens) car.present);
  none_open = λ coder tells d v rests settled queue issued k car over st.
      collect-carries coder tells d [] v rests settled queue issued k car over
      (rests-settled coder tells d v rests settled k car.opens car.runs car.once over car.present st);
}
