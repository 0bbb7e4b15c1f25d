-- What there is to say of a session.
use Rattle.rtp_dump.specs.Capture.{capture}
use Rattle.conference_spec.specs.Codec.{g726}
use Rattle.session_spec.specs.Answer.{summary_of}
use Rattle.desk_run.specs.Whole.{Given, events_to, feed_to}
use Rattle.session_account.specs.Account.{Account}
use Rattle.session_account.specs.Arriving.{arrived}
use Rattle.session_account.specs.Speaking.{silent, spoken}
use Rattle.session_account.specs.Listening.{listeners_of}
use Rattle.session_account.specs.Encoding.{runs_of}

-- its summary, and what arrived, who was heard, who listened and what was encoded in all of its ticks
abbrev pub account_of : Given → Account
account_of given = record {
  summary = summary_of g726 given.plan given.ticks (capture given.bytes);
  arrived = arrived (events_to given given.ticks);
  spoken = spoken (silent given.plan) (feed_to given given.ticks);
  listeners = listeners_of (feed_to given given.ticks);
  runs = runs_of (feed_to given given.ticks);
}
