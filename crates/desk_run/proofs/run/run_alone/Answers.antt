use Rattle.std.proofs.Common.{◌∙◌, ap}
use Rattle.session_spec.specs.Events.{feed_of}
use Rattle.desk_run.specs.BookSide.{StandsFor, HandedAll}
use Rattle.desk_run.specs.Whole.{end_of}
use Rattle.desk_run.proofs.Closed.{even-session, tells-itself, finished_all, unfinished, stopped-run}
use Rattle.desk_run.proofs.run.run_alone.Goals as goal

pub sum_up-requires-clause-even : goal.sum_up-requires-clause-even
sum_up-requires-clause-even g c = even-session c.run_session.new.conference (λ h. g.D.DeskSide.begins c.run_session.new.desk h) c.args.ticks c.in-Ok.ensures.stands

pub returns-in-Ok-sum_up-clause-told : goal.returns-in-Ok-sum_up-clause-told
returns-in-Ok-sum_up-clause-told g c =
    let book = c.run_session.new.conference in
    finished_all _ _ c.args.ticks _ _ _ _ (λ h. g.D.DeskSide.begins c.run_session.new.desk h) (λ f. HandedAll book f c.args.ticks) (λ f. StandsFor book f)
    c.in-Ok.packets c.in-Ok-sum_up.summary c.requires.short (λ h d s. s.0)
    (λ h d s. c.in-Ok-sum_up.ensures.left h (feed_of h) d s.0 (tells-itself h)) c.in-Ok.ensures.ran

pub returns-in-Err-sum_up-clause-told : goal.returns-in-Err-sum_up-clause-told
returns-in-Err-sum_up-clause-told g c =
    let book = c.run_session.new.conference in
    unfinished _ _ c.args.ticks _ _ _ _ (λ h. g.D.DeskSide.begins c.run_session.new.desk h) (λ f. HandedAll book f c.args.ticks) _
    c.in-Ok.packets c.in-Err-sum_up.fault c.from-in-Err-sum_up.result (c.from-in-Err-sum_up.ensures ∙ ap end_of c.from.ensures)
    (λ h d s. c.in-Err-sum_up.ensures.fault (feed_of h) s.0) c.in-Ok.ensures.ran

pub returns-in-Err-clause-told : goal.returns-in-Err-clause-told
returns-in-Err-clause-told g c =
    stopped-run _ _ c.args.ticks _ _ c.in-Err.stop c.from-in-Err.result c.from-in-Err.ensures c.in-Err.ensures.stopped
