use Rattle.std.proofs.Common.{◌≡◌, Some, refl, ap, ◌∙◌, subst, arith, rules}
use Rattle.book_seat.specs.Steps.{BackGives}
use Rattle.room_pool.proofs.Turning.{turned_at, within_last}
use Rattle.room_pool.proofs.turns.RoomTurns.give_back_at.Goals as goal

pub returns-clause-turned : goal.returns-clause-turned
returns-clause-turned g c =
    turned_at c.args.self.now _ (BackGives c.args.job c.give_back.result) c.args.at c.index_mut-pass.result.now c.give_back.new.self c.self.inside.passes.items
    (ap (λ t. t.passes) c.self.view_is) c.requires.last
    (within_last c.self.inside.last c.args.at c.self.inside.passes.items (ap (λ t. t.last) c.self.view_is ∙ c.requires.last) c.self.invariant)
    c.index_mut-pass.ensures.value refl c.give_back.ensures.turn c.give_back.ensures.home
