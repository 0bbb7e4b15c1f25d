use Rattle.std.proofs.Common.{◌≡◌, ◌∙◌, ◌+◌, ◌*◌, refl, arith}
use Rattle.live_link.proofs.Hearing.{so-none, so-more, so-last, so-all, looks-few}
use Rattle.live_link.proofs.listening.listen.Goals as goal

pub rounds-init : goal.rounds-init
rounds-init g c = record {
  opened = c.requires.open;
  plan = refl;
  few = omega arith;
  so = so-none _ _ c.args.tick c.args.start c.args.controls.now _ (λ h s. s);
}

pub rounds-preserved : goal.rounds-preserved
rounds-preserved g c =
    let was = c.rounds.invariant in
    let e = c.look.ensures in
    let counted = looks-few _ _ _ _ _ (65536 * c.args.tick + c.rounds._round) e.heard was.few in
    record {
      opened = e.opened;
      plan = e.plan ∙ was.plan;
      few = omega arith;
      so =
          so-more (λ h. g.D.DeskSide.stands c.args.desk.now h) (λ h. g.D.DeskSide.stands c.rounds.desk h) (λ h. g.D.DeskSide.stands c.look.new.desk h)
          _ _ _ _ _ _ c.args.tick c.args.start c.rounds._round _ _ _ c.now-time.result was.so e.heard c.now-time.ensures (omega arith) (omega arith);
    }

pub returns-then-gone-end-clause-heard : goal.returns-then-gone-end-clause-heard
returns-then-gone-end-clause-heard g c =
    let was = c.rounds.invariant in
    so-last (λ h. g.D.DeskSide.stands c.args.desk.now h) (λ h. g.D.DeskSide.stands c.rounds.desk h) (λ h. g.D.DeskSide.stands c.look.new.desk h)
    _ _ _ _ _ _ c.args.tick c.args.start c.rounds._round _ _ _ c.now-time.result was.so c.look.ensures.heard c.now-time.ensures (omega arith) (omega arith)

pub returns-clause-heard : goal.returns-clause-heard
returns-clause-heard g c = so-all _ _ _ _ c.args.tick c.args.start c.rounds._round _ _ _ (omega arith) c.rounds.invariant.so

pub returns-then-gone-end-clause-few : goal.returns-then-gone-end-clause-few
returns-then-gone-end-clause-few g c =
    let counted = looks-few _ _ _ _ _ (65536 * c.args.tick + c.rounds._round) c.look.ensures.heard c.rounds.invariant.few in
    omega arith
