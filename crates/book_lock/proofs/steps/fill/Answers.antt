use Rattle.std.proofs.Common.{Some, None, sym, subst, arith, rules}
use Rattle.book_lock.specs.Boxed.{Boxed}
use Rattle.book_lock.specs.Views.{filling}
use Rattle.book_lock.proofs.Opening.{opens_at, fills_at}
use Rattle.book_lock.proofs.Turning.{replaced}
use Rattle.book_lock.proofs.steps.fill.Goals as goal

pub load-requires : goal.load-requires
load-requires g c = (c.requires.seat.0, omega arith, opens_at (Boxed g.T.Turned.stands) _ _ c.args.seat.now.me c.requires.seat.1)

pub fetch_add-requires : goal.fetch_add-requires
fetch_add-requires g c =
    let st = c.requires.stands in
    let is = replaced _ c.exchange-empty.new.seat.me filling None (Some c.args.value) c.load.ensures.2 c.exchange-empty.ensures.3 in
    (search rules, omega arith, fills_at (Boxed g.T.Turned.stands) _ _ c.fed-length.result c.args.value c.exchange-empty.new.seat.me is st.0 st.1 st.2 (c.fed-length.ensures st.0 st.1 (subst (λ x. g.T.Turned.stands x st.0 st.1) (sym c.deref.ensures) st.2)) (search rules))
