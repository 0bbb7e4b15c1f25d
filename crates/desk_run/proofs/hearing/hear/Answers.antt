use Rattle.std.proofs.Common.{◌∙◌, rules}
use Rattle.desk_run.proofs.Results.{if-err}
use Rattle.desk_run.proofs.Taken.{hearing-more, hearing-end, hearing-broken, why-now, going-on, if-open, none-of}
use Rattle.desk_run.proofs.hearing.hear.Goals as goal

pub records-preserved : goal.records-preserved
records-preserved g c =
    let e = c.in_ok-item.ensures in
    let was = c.records.invariant in
    record {
      same_source = search rules;
      going = going-on c.records.reader c.next_before.new.self c.in_ok-item.field-0 was.going e.state e.sound;
      plan = search rules;
      counts = if-open _ _ was.going.open' e.counts ∙ was.counts;
      heard =
          hearing-more (λ s. g.S.Source.rest s) c.args.reader.now c.records.reader c.next_before.new.self c.args.end c.in_ok-item.field-0 c.in-Some.item
          (λ h. g.D.DeskSide.stands c.args.desk.now h) (λ h. g.D.DeskSide.stands c.records.desk h) (λ h. g.D.DeskSide.stands c.hand.new.desk h)
          was.heard c.in-Some.is e.early e.goes_on e.taken c.hand.ensures.stands;
    }

pub returns-clause-heard : goal.returns-clause-heard
returns-clause-heard g c =
    let e = c.in_ok-item.ensures in
    let was = c.records.invariant in
    hearing-end (λ s. g.S.Source.rest s) c.args.reader.now c.records.reader c.next_before.new.self c.args.end c.in_ok-item.field-0 _ was.heard
    (none-of c.in_ok-item.field-0 c.in_default.not-Some) was.going.open' e.state e.taken e.late e.answer e.sound

pub returns-in_err-item-clause-broken : goal.returns-in_err-item-clause-broken
returns-in_err-item-clause-broken g c =
    let e = c.in_err-item.ensures in
    let was = c.records.invariant in
    if-err c.from_residual.result c.in_err-item.field-0.0 _ c.from_residual.ensures.1
    (hearing-broken (λ s. g.S.Source.rest s) _ _ _ _ _ _ was.heard
    (why-now (λ s. g.S.Source.rest s) c.in_err-item.field-0.0 c.records.reader c.next_before.new.self was.going.open' e.read_open e.answer e.read_taken))
