-- What summing a session up comes to, over an answer in memory.
use Rattle.std.specs.Prelude.{◌≡◌, ◌≢◌, ℕ, List, Some, Err, IfOk}
use Rattle.edge_io.specs.declared.faults.PutFault.TheVariants.{Failed}
use Rattle.conference_spec.specs.Feed.{Feed}
use Rattle.session_spec.specs.Talkers.{Events}
use Rattle.session_spec.specs.Events.{feed_of}
use Rattle.tick_core.specs.declared.book.Book.{Book}
use Rattle.desk_run.specs.BookSide.{StandsFor}
use Rattle.desk_run.specs.Whole.{Leaves, TellsSame}
use Rattle.roster_desk.specs.Serving.{Begins}
use Rattle.roster_desk.specs.declared.serving.RosterDesk.{RosterDesk}
use Rattle.rooms_run.specs.declared.closing.Summed.{Summed}

-- what is left was written behind these octets, unless there was no memory
pub record Sums (ticks packets : ℕ) (desk : RosterDesk) (before : List ℕ) (book : Book) (s : Summed) : Type 0 where
  pub left : IfOk s.end (λ summary. (h : Events) (f : Feed) → Begins desk h → StandsFor book f → TellsSame f (feed_of h)
      → Leaves ticks packets (Some before) (Some s.out.octets) h summary)
  pub calm : s.end ≢ Err Failed
