use Rattle.desk_run.proofs.Ticked.{may_cut}
use Rattle.live_run.proofs.ticks.begin.Goals as goal

pub cut-requires : goal.cut-requires
cut-requires g c =
    may_cut (λ f n. g.C.Audience.stands c.args.conference.now f n) (λ f n. g.C.Audience.stands c.args.conference.now f n)
    c.args.tick c.args.tick c.if-tick-gt0.true (λ f s e. s) c.requires
