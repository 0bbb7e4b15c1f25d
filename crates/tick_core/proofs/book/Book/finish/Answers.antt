use Rattle.std.proofs.Common.{◌≡◌, List, length, length-set, set, sym, ap, ◌∙◌, subst, arith}
use Rattle.std.proofs.lemmas.List.{with_items_is}
use Rattle.std.specs.Vec.{with_item, with_items}
use Rattle.conference_spec.specs.declared.Stage.TheVariants.{Finished}
use Rattle.book_lists.specs.Levels.{Level}
use Rattle.tick_core.specs.Sweeping.{AllFit, SweptFrom, all_unknown}
use Rattle.tick_core.proofs.Bounds.{stands-bounded, few-waiting}
use Rattle.tick_core.proofs.Staging.{publish-stands, swept-length, to-sweep, staged-level}
use Rattle.tick_core.proofs.book.Book.finish.Goals as goal

pub sweep_from-requires-clause-fit : goal.sweep_from-requires-clause-fit
sweep_from-requires-clause-fit c =
    let t = to-sweep c.args.self.now c.requires.known.0 c.args.done.now c.args.place c.args.at c.requires.known.1 c.requires.out c.finish.new.self (staged-level c.args.self.now.open_ticks.items c.args.place c.args.at c.requires.out.level c.index_mut-open.result.now c.finish.new.self c.requires.out.row Finished c.requires.out.there c.requires.out.run c.index_mut-open.ensures.value c.finish.ensures.rows) in
    subst AllFit (sym c.deref_mut.ensures.value) t.fit

pub sweep_from-requires-clause-room : goal.sweep_from-requires-clause-room
sweep_from-requires-clause-room c =
    let t = to-sweep c.args.self.now c.requires.known.0 c.args.done.now c.args.place c.args.at c.requires.known.1 c.requires.out c.finish.new.self (staged-level c.args.self.now.open_ticks.items c.args.place c.args.at c.requires.out.level c.index_mut-open.result.now c.finish.new.self c.requires.out.row Finished c.requires.out.there c.requires.out.run c.index_mut-open.ensures.value c.finish.ensures.rows) in
    let e = ap all_unknown c.deref_mut.ensures.value ∙ t.unknown_is in
    let small = (stands-bounded c.args.self.now c.requires.known.0 c.requires.known.1).waiting in
    omega arith

pub sweep_from-requires-clause-numbers : goal.sweep_from-requires-clause-numbers
sweep_from-requires-clause-numbers c =
    let b = c.args.self.now in
    let core = c.requires.known.0 in
    let st = c.requires.known.1 in
    let t = to-sweep b core c.args.done.now c.args.place c.args.at st c.requires.out c.finish.new.self (staged-level c.args.self.now.open_ticks.items c.args.place c.args.at c.requires.out.level c.index_mut-open.result.now c.finish.new.self c.requires.out.row Finished c.requires.out.there c.requires.out.run c.index_mut-open.ensures.value c.finish.ensures.rows) in
    let e = ap all_unknown c.deref_mut.ensures.value ∙ t.unknown_is in
    let small = stands-bounded b core st in
    let few = few-waiting core b.open_ticks.items b.present.items b.queue.tickets b.queue.issued st.kept st.carries st.roomy.fit in
    let n = small.issued in
    let s = small.seats in
    omega arith

pub returns : goal.returns
returns c =
    let b = c.args.self.now in
    let ticks = with_item b.open_ticks c.args.place c.finish.new.self in
    let sw = c.sweep_from.ensures.swept in
    let from = subst (λ (vs : List Level). SweptFrom c.args.place vs b.queue c.sweep_from.new.ticks c.sweep_from.new.queue) c.deref_mut.ensures.value sw in
    let long : length c.sweep_from.new.ticks ≡ b.open_ticks.len =
    swept-length c.args.place (set b.open_ticks.items c.args.place c.finish.new.self) c.sweep_from.new.ticks b.queue c.sweep_from.new.queue from
    ∙ (length-set b.open_ticks.items c.args.place c.finish.new.self ∙ sym b.open_ticks.ok.0) in
    record {
      finished = λ core st.
          publish-stands b (with_items ticks c.sweep_from.new.ticks) c.sweep_from.new.queue core c.args.done.now c.args.place c.args.at st c.requires.out c.finish.new.self (staged-level c.args.self.now.open_ticks.items c.args.place c.args.at c.requires.out.level c.index_mut-open.result.now c.finish.new.self c.requires.out.row Finished c.requires.out.there c.requires.out.run c.index_mut-open.ensures.value c.finish.ensures.rows)
          c.sweep_from.new.ticks (with_items_is ticks c.sweep_from.new.ticks long) from;
    }
