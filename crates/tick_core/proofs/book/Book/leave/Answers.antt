use Rattle.std.proofs.Common.{◌≡◌, length, map, true, false, ◌∙◌, refl, sym, ap, arith, rules}
use Rattle.std.specs.Prelude.{◌==◌}
use Rattle.std.specs.List.{list_any}
use Rattle.std.proofs.lemmas.Bool.{false≢true}
use Rattle.std.proofs.lemmas.Fn.{filter_same}
use Rattle.std.proofs.lemmas.List.{with_items_is}
use Rattle.conference_spec.proofs.Events.{length-map}
use Rattle.conference_spec.specs.declared.Entry.TheVariants.{Leave}
use Rattle.book_lists.specs.declared.seats.Rest.{Rest}
use Rattle.book_lists.specs.Mailing.{mail_goes}
use Rattle.std.specs.Vec.{with_items}
use Rattle.tick_core.specs.declared.book.Book.{Book}
use Rattle.tick_core.proofs.Keeping.{leave-stands}
use Rattle.tick_core.proofs.Twins.{before-on, takes-all, listener-all, ended-all}
use Rattle.tick_core.proofs.book.Book.leave.Goals as goal

pub returns-then-not-is_present-clause-absent : goal.returns-then-not-is_present-clause-absent
returns-then-not-is_present-clause-absent c = λ core s.
    let is = λ (r : Rest). r.spec.member == c.args.member in
    let none : list_any is c.args.self.now.present.items ≡ false = ap (list_any is) (sym c.deref.ensures.value) ∙ sym c.is_present.ensures ∙ c.if-not-is_present.true in
    ((λ e. sym (listener-all c.args.self.now core c.args.member s) ∙ none), (λ e. refl))

-- what the calls leave
abbrev after : goal.After-leave → Book
after c = record c.args.self.now { present = c.retain.new.self; outbox = with_items c.args.self.now.outbox c.mail_leaves.new.mails; log = c.leave.new.self }

pub returns-clause-ok : goal.returns-clause-ok
returns-clause-ok c = takes-all c.args.self.now (after c) (Leave c.args.member) (λ core s.
    let b = c.args.self.now in
    let goes = c.mail_leaves.ensures in
    let long = ap length goes ∙ (length-map (mail_goes c.args.member c.closed.result) c.deref_mut.result.now ∙ (ap length c.deref_mut.ensures.value ∙ sym b.outbox.ok.0)) in
    let outbox = with_items_is b.outbox c.mail_leaves.new.mails long ∙ (goes ∙ (λ i. map (mail_goes c.args.member (c.closed.ensures i)) (c.deref_mut.ensures.value i))) in
    let is = λ (r : Rest). r.spec.member == c.args.member in
    let there : list_any is c.args.self.now.present.items ≡ true = ap (list_any is) (sym c.deref.ensures.value) ∙ sym c.is_present.ensures ∙ c.if-not-is_present.false in
    leave-stands c.args.self.now (after c) core c.args.member (before-on b c.requires.before_end) there c.leave.ensures.feed
    outbox
    (filter_same _ _ _ (λ x b f' k. search rules) _ _ c.retain.ensures.filtered)
    c.leave.ensures.room (record { open' = refl; rooms = refl; tickets = refl; issued = refl; room = omega arith; stays = refl; spare = omega arith }) s)

pub returns-clause-absent : goal.returns-clause-absent
returns-clause-absent c = λ core s.
    let is = λ (r : Rest). r.spec.member == c.args.member in
    let there : list_any is c.args.self.now.present.items ≡ true = ap (list_any is) (sym c.deref.ensures.value) ∙ sym c.is_present.ensures ∙ c.if-not-is_present.false in
    ((λ e. absurd (false≢true e)), (λ e. sym e ∙ sym (listener-all c.args.self.now core c.args.member s) ∙ there))

pub leave-requires-clause-not_ended : goal.leave-requires-clause-not_ended
leave-requires-clause-not_ended c = let k = c.requires.before_end in ended-all c.args.self.now k.0 k.1 ∙ k.2
