use Rattle.std.proofs.Common.{◌≡◌, ◌∙◌, ◌∷◌, [], List, ap, sym, subst, rules}
use Rattle.edge_io.specs.Told.{GrowsByFront}
use Rattle.conference_spec.specs.declared.Entry.TheVariants.{End}
use Rattle.conference_spec.specs.declared.Packet.{Packet}
use Rattle.conference_spec.specs.Feed.{Feed, closes}
use Rattle.session_spec.specs.Talkers.{Events}
use Rattle.session_spec.specs.Answer.{tick_text}
use Rattle.session_spec.specs.Events.{feed_of}
use Rattle.tick_core.specs.declared.book.Book.{Book}
use Rattle.desk_run.specs.BookSide.{StandsFor}
use Rattle.desk_run.specs.Whole.{end_of}
use Rattle.desk_run.proofs.Closed.{finished_all, unfinished, stopped-run}
use Rattle.desk_shared.specs.Shared.{IsOver, WentAlong}
use Rattle.desk_shared.proofs.Sharing.{for-lock, none-seen, none-begun, even-along, ended-well, ran-well, stopped-so, closed-run, went-along, tells-along}
use Rattle.desk_shared.proofs.shared.run_shared.Goals as goal

pub new-requires-2 : goal.new-requires-2
new-requires-2 g c =
    let s = subst (λ (b : Book). StandsFor b []) (sym c.replace-mine.ensures.value) c.requires.stands.1 in
    record { stands = for-lock c.replace-mine.result s }

pub run_seated-requires-clause-fresh : goal.run_seated-requires-clause-fresh
run_seated-requires-clause-fresh g c =
    let s = subst (λ (b : Book). StandsFor b []) (sym c.replace-mine.ensures.value) c.requires.stands.1 in
    let seen = ap (λ p. p.view.seen) c.new-seat.ensures ∙ none-seen c.replace-mine.result c.in-Ok.pass.view.seen s c.in-Ok.ensures.seen in
    let out = ap (λ p. p.view.out) c.new-seat.ensures ∙ ap (λ v. v.out) c.in-Ok.ensures.desk in
    search (seen, out, rules)

pub returns-in_default-run_seated-clause-told : goal.returns-in_default-run_seated-clause-told
returns-in_default-run_seated-clause-told g c =
    none-begun (g.S.Source.rest c.args.dump.now) (g.S.Source.rest c.run_seated.new.dump) (g.K.Sink.held c.args.out.now) (g.K.Sink.held c.run_seated.new.out)
    (g.D.DeskSide.plan c.args.desk.now) c.args.ticks (λ f. Unit {0})
    (ap (λ k. g.K.Sink.held k) c.in_default-run_seated.ensures.untouched.1)

pub sum_up-requires-clause-even : goal.sum_up-requires-clause-even
sum_up-requires-clause-even g c =
    even-along c.close.result c.in-Ok-run_seated.pass.view.seen (λ h. g.D.DeskSide.begins c.run_seated.new.desk h) c.args.ticks c.close.ensures.stands
    (ended-well _ _ _ c.in-Ok-run_seated.end c.in-Ok-end.packets c.in-Ok-end.is c.in-Ok-run_seated.ensures.ended)

pub returns-in-Ok-sum_up-clause-told : goal.returns-in-Ok-sum_up-clause-told
returns-in-Ok-sum_up-clause-told g c =
    let seen = c.in-Ok-run_seated.pass.view.seen in
    let D = λ (h : Events). g.D.DeskSide.begins c.run_seated.new.desk h in
    let over = λ (f : Feed). IsOver seen f c.args.ticks in
    finished_all _ _ c.args.ticks _ _ _ _ D (λ f. over f × (closes f ≡ c.args.ticks)) (λ f. WentAlong c.close.result f)
    c.in-Ok-end.packets c.in-Ok-sum_up.summary c.requires.short
    (λ h d b. went-along c.close.result seen (feed_of h) c.args.ticks c.close.ensures.stands b.0 (sym b.1))
    (λ h d b.
    let w = went-along c.close.result seen (feed_of h) c.args.ticks c.close.ensures.stands b.0 (sym b.1) in
    c.in-Ok-sum_up.ensures.left h (End ∷ w.own) d w.stands (tells-along w.own (feed_of h) w.same w.even))
    (closed-run _ _ c.args.ticks _ D over c.in-Ok-end.packets
    (ran-well _ D over c.in-Ok-run_seated.end c.in-Ok-end.packets c.in-Ok-end.is c.in-Ok-run_seated.ensures.ended))

pub returns-in-Err-sum_up-clause-told : goal.returns-in-Err-sum_up-clause-told
returns-in-Err-sum_up-clause-told g c =
    let seen = c.in-Ok-run_seated.pass.view.seen in
    let D = λ (h : Events). g.D.DeskSide.begins c.run_seated.new.desk h in
    let over = λ (f : Feed). IsOver seen f c.args.ticks in
    unfinished _ _ c.args.ticks _ _ _ _ D (λ f. over f × (closes f ≡ c.args.ticks)) _
    c.in-Ok-end.packets c.in-Err-sum_up.fault c.from-in-Err-sum_up.result (c.from-in-Err-sum_up.ensures ∙ ap end_of c.from.ensures)
    (λ h d b.
    let w = went-along c.close.result seen (feed_of h) c.args.ticks c.close.ensures.stands b.0 (sym b.1) in
    subst (λ (ps : List Packet). GrowsByFront (g.K.Sink.held c.run_seated.new.out) (g.K.Sink.held c.sum_up.new.out) (tick_text c.args.ticks ps)) (tells-along w.own (feed_of h) w.same w.even).left
    (c.in-Err-sum_up.ensures.fault (End ∷ w.own) w.stands))
    (closed-run _ _ c.args.ticks _ D over c.in-Ok-end.packets
    (ran-well _ D over c.in-Ok-run_seated.end c.in-Ok-end.packets c.in-Ok-end.is c.in-Ok-run_seated.ensures.ended))
