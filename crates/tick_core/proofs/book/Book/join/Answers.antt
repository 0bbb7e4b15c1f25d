use Rattle.std.proofs.Common.{◌≡◌, ℕ, true, false, ◌∙◌, refl, sym, ap, arith}
use Rattle.std.specs.Prelude.{◌==◌}
use Rattle.std.specs.List.{list_any}
use Rattle.std.proofs.lemmas.Bool.{false≢true}
use Rattle.conference_spec.specs.declared.Entry.TheVariants.{Join}
use Rattle.conference_spec.specs.Codec.{g726}
use Rattle.conference_spec.specs.Feed.{joined}
use Rattle.tick_core.proofs.Bounds.{few-listeners}
use Rattle.tick_core.proofs.Feeds.{any-err}
use Rattle.tick_core.proofs.Twins.{before-on, takes-all, keeps-one, joined-all, kept-all, present-all}
use Rattle.tick_core.proofs.book.Book.join.Goals as goal

pub returns-then-has_joined-clause-full : goal.returns-then-has_joined-clause-full
returns-then-has_joined-clause-full c = λ core s.
    let is = λ (m : ℕ). m == c.args.spec.member in
    let there : list_any is (joined core.feed) ≡ true = ap (list_any is) (sym (joined-all c.args.self.now core s)) ∙ sym c.has_joined.ensures ∙ c.if-has_joined.true in
    ((λ e. absurd (cc)), (λ p. absurd (false≢true (sym p.0 ∙ there))))

pub returns-then-len-ge-LISTENERS_MOST-clause-used :
    goal.returns-then-len-ge-LISTENERS_MOST-clause-used
returns-then-len-ge-LISTENERS_MOST-clause-used c = λ core s.
    let is = λ (m : ℕ). m == c.args.spec.member in
    let none : list_any is (joined core.feed) ≡ false = ap (list_any is) (sym (joined-all c.args.self.now core s)) ∙ sym c.has_joined.ensures ∙ c.if-has_joined.false in
    ((λ e. absurd (cc)), (λ e. absurd (false≢true (sym none ∙ e))))

pub returns-then-len-ge-LISTENERS_MOST-clause-full :
    goal.returns-then-len-ge-LISTENERS_MOST-clause-full
returns-then-len-ge-LISTENERS_MOST-clause-full c = λ core s.
    let is = λ (m : ℕ). m == c.args.spec.member in
    let none : list_any is (joined core.feed) ≡ false = ap (list_any is) (sym (joined-all c.args.self.now core s)) ∙ sym c.has_joined.ensures ∙ c.if-has_joined.false in
    let few = few-listeners g726 core.feed (kept-all c.args.self.now core s).carried.legal in
    let n = present-all c.args.self.now core s in
    ((λ e. (none, omega arith)), (λ p. refl))

pub returns-in_err-enter-clause-used : goal.returns-in_err-enter-clause-used
returns-in_err-enter-clause-used c = λ core s.
    let is = λ (m : ℕ). m == c.args.spec.member in
    let none : list_any is (joined core.feed) ≡ false = ap (list_any is) (sym (joined-all c.args.self.now core s)) ∙ sym c.has_joined.ensures ∙ c.if-has_joined.false in
    ((λ e. let h = rw e at c.from_residual.ensures.1 in absurd (cc h)), (λ e. absurd (false≢true (sym none ∙ e))))

pub returns-in_err-enter-clause-full : goal.returns-in_err-enter-clause-full
returns-in_err-enter-clause-full c = λ core s.
    let n = present-all c.args.self.now core s in
    ((λ e. let h = rw e at c.from_residual.ensures.1 in absurd (cc h)), (λ p. let m = p.1 in absurd (omega arith)))

pub returns-then-has_joined-clause-used : goal.returns-then-has_joined-clause-used
returns-then-has_joined-clause-used c = λ core s.
    let is = λ (m : ℕ). m == c.args.spec.member in
    let there : list_any is (joined core.feed) ≡ true = ap (list_any is) (sym (joined-all c.args.self.now core s)) ∙ sym c.has_joined.ensures ∙ c.if-has_joined.true in
    ((λ e. there), (λ e. refl))

pub enter-requires-clause-before_end : goal.enter-requires-clause-before_end
enter-requires-clause-before_end c = before-on c.args.self.now c.requires.before_end

pub returns-in_err-enter-clause-err : goal.returns-in_err-enter-clause-err
returns-in_err-enter-clause-err c = any-err c.from_residual.result (keeps-one c.args.self.now c.enter.new.self c.in_err-enter.ensures.err)

pub returns-clause-ok : goal.returns-clause-ok
returns-clause-ok c = takes-all c.args.self.now _ (Join c.args.spec) c.in_ok-enter.ensures.ok

pub returns-clause-used : goal.returns-clause-used
returns-clause-used c = λ core s.
    let is = λ (m : ℕ). m == c.args.spec.member in
    let none : list_any is (joined core.feed) ≡ false = ap (list_any is) (sym (joined-all c.args.self.now core s)) ∙ sym c.has_joined.ensures ∙ c.if-has_joined.false in
    ((λ e. absurd (cc)), (λ e. absurd (false≢true (sym none ∙ e))))

pub returns-clause-full : goal.returns-clause-full
returns-clause-full c = λ core s.
    let n = present-all c.args.self.now core s in
    let few = c.if-len-ge-LISTENERS_MOST.false in
    let len = c.len.ensures in
    let same = c.args.self.now.present.ok.0 in
    ((λ e. absurd (cc)), (λ p. let m = p.1 in absurd (omega arith)))
