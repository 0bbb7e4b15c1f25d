use Rattle.std.proofs.Common.{◌≡◌, ◌-◌, set, refl, ap, ◌∙◌}
use Rattle.triple_table.specs.Rows.{Row, staged}
use Rattle.conference_spec.specs.declared.Stage.TheVariants.{Out}
use Rattle.book_feed.specs.Logged.{closed_in}
use Rattle.book_lists.specs.Levels.{Level, with_rows}
use Rattle.tick_core.proofs.Places.{same-level, at-row}
use Rattle.tick_core.proofs.book.Book.take.Goals as goal

pub returns : goal.returns
returns c =
    let there = c.requires.there in
    let items = c.args.self.now.open_ticks.items in
    let place = c.place_of-place.result in
    let at = c.args.ticket.at in
    let now = c.index_mut-open.result.now in
    let row = there.ticket.row in
    let e : now ≡ there.level = same-level items place (closed_in c.args.self.now.log.feed - 1 - c.args.ticket.tick) there.level now c.place_of-place.ensures there.there c.index_mut-open.ensures.value in
    let job = at-row there.level now at row
    (λ (r : Row). c.take.result ≡ record { number = r.number; task = record { tick = c.args.ticket.tick; triple = r.triple } }) e there.ticket.there c.take.ensures.job in
    let new : c.take.new.self ≡ with_rows now (set now.rows at (staged row Out)) =
    at-row there.level now at row (λ (r : Row). c.take.new.self ≡ with_rows now (set now.rows at (staged r Out))) e there.ticket.there c.take.ensures.rows in
    let left = new ∙ ap (λ (v : Level). with_rows v (set v.rows at (staged row Out))) e in
    record {
      taken = record {
        level = there.level;
        there = there.there;
        ticket = there.ticket;
        job = job ∙ ap (λ n. record { number = n; task = record { tick = c.args.ticket.tick; triple = row.triple } }) there.ticket.number;
        open' = (λ i. set items (c.place_of-place.ensures i) (left i));
        log = refl;
        present = refl;
        queue = refl;
        outbox = refl;
        rooms = refl;
        stays = refl;
      };
    }
