use Rattle.std.proofs.Common.{◌≡◌, ◌++◌, ◌∷◌, [], ◌≤◌, length, get_or, sym, subst, ap, ◌∙◌, arith, vec_len}
use Rattle.rooms_run.specs.Opening.{AreFresh, IsKeyed, IsFresh}
use Rattle.std.proofs.lemmas.List.Elements.{All-nil, All-push}
use Rattle.rooms_run.proofs.Fresh.{one_fewer, few_passes}
use Rattle.rooms_run.proofs.opening.open_all.Goals as goal

pub loop-pass-init : goal.loop-pass-init
loop-pass-init g c =
    let few : length c.args.passes.items ≤ length c.args.locks.now = few_passes c.args.locks.now c.args.passes.items c.requires.fresh in
    record {
      fresh = c.requires.fresh;
      within = omega (arith, c.args.passes.ok.0, few);
      keyed = rw c.new-keyed.ensures.items (All-nil (IsKeyed 0));
      count = omega (arith, c.new-keyed.ensures.len);
    }

pub new-requires-clause-lock : goal.new-requires-clause-lock
new-requires-clause-lock g c =
    let locks = c.args.locks.now in
    let r = c.index-locks-len.result in
    let o = one_fewer locks c.pop.new.self.items c.in-Some.pass (subst (AreFresh locks) c.in-Some.ensures.items c.loop-pass.invariant.fresh) in
    (o.last r).home ∙ ap (λ k. get_or locks k r) (sym (c.len.ensures ∙ c.pop.new.self.ok.0)) ∙ sym c.index-locks-len.is

pub new-requires-clause-desk : goal.new-requires-clause-desk
new-requires-clause-desk g c =
    let o = one_fewer c.args.locks.now c.pop.new.self.items c.in-Some.pass (subst (AreFresh c.args.locks.now) c.in-Some.ensures.items c.loop-pass.invariant.fresh) in
    (o.last c.index-locks-len.result).desk

pub loop-pass-preserved : goal.loop-pass-preserved
loop-pass-preserved g c =
    let locks = c.args.locks.now in
    let r = c.index-locks-len.result in
    let o = one_fewer locks c.pop.new.self.items c.in-Some.pass (subst (AreFresh locks) c.in-Some.ensures.items c.loop-pass.invariant.fresh) in
    let last = o.last r in
    let lock = ap (λ k. get_or locks k r) (sym (c.len.ensures ∙ c.pop.new.self.ok.0)) ∙ sym c.index-locks-len.is in
    let was = c.loop-pass.invariant in
    record {
      fresh = o.rest;
      within = omega (arith, c.in-Some.ensures.cases, was.within);
      keyed = rw c.in_ok-push.ensures.items
          (All-push (IsKeyed 0) c.loop-pass.keyed.items _ was.keyed (record {
            home = ap (λ p. p.home) c.new.ensures ∙ last.home ∙ lock;
            seen = ap (λ p. p.view.seen) c.new.ensures ∙ last.seen;
            out = ap (λ p. p.view.out) c.new.ensures ∙ last.out;
          }));
      count = omega (arith, c.in_ok-push.ensures.len, c.in-Some.ensures.cases, was.count);
    }
