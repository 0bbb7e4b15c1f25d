use Rattle.std.proofs.Common.{arith}
use Rattle.conference_spec.specs.Codec.{g726}
use Rattle.tick_core.proofs.Follows.{may-be-cut}
use Rattle.bench_book.proofs.Steps.{goes-cut, goes-refl}
use Rattle.bench_book.proofs.run.forget.Goals as goal

pub cut-requires : goal.cut-requires
cut-requires c =
    let s = c.requires.settled in
    let k = c.kept.ensures s.0 s.1 in
    let le = c.if-kept-lt-TICKS_KEPT.false in
    record { may_cut = (s.0, s.1, may-be-cut g726 s.0.feed (record { collected = s.2.collected; some = omega arith; open' = s.2.open' })) }

pub returns-then-kept-lt-TICKS_KEPT : goal.returns-then-kept-lt-TICKS_KEPT
returns-then-kept-lt-TICKS_KEPT c = record { forgot = goes-refl c.args.book.now }

pub returns : goal.returns
returns c = record { forgot = goes-cut c.args.book.now c.cut.new.self c.cut.ensures.cut }
