use Rattle.std.proofs.Common.{◌∙◌, Some}
use Rattle.conference_spec.specs.Feed.{Feed}
use Rattle.desk_run.specs.BookSide.{StandsFor}
use Rattle.desk_run.proofs.BookFeed.{new-stands}
use Rattle.bridge_calls.proofs.DemoRuns.{roster-short, comes-to, no-memory}
use Rattle.bridge_calls.proofs.demos.run_demo.Goals as goal

pub read_roster-requires : goal.read_roster-requires
read_roster-requires c = record { short = rw c.in_ok-session.ensures.roster roster-short }

pub run_session-requires : goal.run_session-requires
run_session-requires c = record { begun = new-stands _ c.new-book.ensures.begun }

pub returns-clause-summary : goal.returns-clause-summary
returns-clause-summary c =
    comes-to c.args.number c.in_ok-session.session.roster c.new-dump.result c.in_ok-roster.roster (record { left = Some c.run_session.new.dump; old = Some c.new-out.result.octets; new = Some c.run_session.new.out.octets })
    (λ (f : Feed). StandsFor c.run_session.new.book f) c.run_session.result c.in_ok-session.ensures.roster (c.new-dump.ensures ∙ c.in_ok-session.ensures.dump)
    c.in_ok-roster.ensures.ok c.roster_is_lawful.ensures c.run_session.ensures.told

pub returns-clause-memory : goal.returns-clause-memory
returns-clause-memory c =
    no-memory c.args.number c.new-dump.result c.in_ok-roster.roster (record { left = Some c.run_session.new.dump; old = Some c.new-out.result.octets; new = Some c.run_session.new.out.octets })
    (λ (f : Feed). StandsFor c.run_session.new.book f) _ c.run_session.result (c.new-dump.ensures ∙ c.in_ok-session.ensures.dump)
    (c.capture_is_whole.ensures c.args.number) c.run_session.ensures.ends c.run_session.ensures.read c.run_session.ensures.write c.run_session.ensures.told
