-- A session whose ticks were all run, as it is summed up.
use Rattle.std.specs.Prelude.{◌≡◌, ℕ, None}
use Rattle.session_spec.specs.Talkers.{Events}
use Rattle.session_spec.specs.Events.{feed_of}
use Rattle.desk_run.specs.Whole.{Leaves}
use Rattle.session_account.specs.Account.{Account}
use Rattle.session_account.specs.Arriving.{arrived}
use Rattle.session_account.specs.Speaking.{Spoken, spoken}
use Rattle.session_account.specs.Listening.{listeners_of}
use Rattle.session_account.specs.Encoding.{runs_of}

-- of these events, which had so many ticks and packets, this is what there is to say, with these talkers
pub record SumsUp (ticks packets : ℕ) (start : Spoken) (h : Events) (a : Account) : Type 0 where
  pub leaves : Leaves ticks packets None None h a.summary
  pub arrived_are : a.arrived ≡ arrived h
  pub spoken_are : a.spoken ≡ spoken start (feed_of h)
  pub listeners_are : a.listeners ≡ listeners_of (feed_of h)
  pub runs_are : a.runs ≡ runs_of (feed_of h)
