use Rattle.std.proofs.Common.{◌≡◌, List, ◌∷◌, sym, subst}
use Rattle.book_lists.specs.declared.mails.Mail.{Mail}
use Rattle.tick_core.specs.Posting.{Walks}
use Rattle.tick_core.proofs.Turning.{walks-on}
use Rattle.tick_core.proofs.mails.+walk.Goals as goal

pub returns : goal.returns
returns t c =
    let mail = c.in-Some.mail.now in
    let others = c.in-Some.others.now in
    let rows = c.args.table.now.rows in
    let ps = c.args.packets.now.items in
    let split : c.args.mails.now ≡ mail ∷ others = c.in-Some.ensures.cases.0 in
    record {
      walks = subst (λ (ms : List Mail). Walks c.args.tick rows c.args.seats.now ms ps (c.turn-left.new.mail ∷ c.walk.new.mails) c.walk.new.packets.items) (sym split)
          (walks-on c.args.tick rows c.args.seats.now c.turn-left.result.now mail c.turn-left.new.mail others c.walk.new.mails ps c.turn-left.new.packets.items c.walk.new.packets.items
          c.turn-left.ensures.turns c.walk.ensures.walks);
    }
