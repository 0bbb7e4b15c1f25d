-- What a publication sets going.
use Rattle.std.proofs.Common.{suc, ◌≡◌, ◌+◌, ◌-◌, ◌<◌, Bool, true, false, List, [], ◌∷◌, ◌++◌, length, get_or, refl, sym, ◌∙◌, ap, arith, length-append, append_assoc}
use Rattle.std.specs.Prelude.{◌==◌}
use Rattle.std.proofs.lemmas.Bool.{false≢true}
use Rattle.conference_spec.specs.Codec.{g726}
use Rattle.book_lists.specs.Levels.{Level, Pulls, tickets, new_tickets}
use Rattle.tick_core.specs.Queued.{Queued}
use Rattle.tick_core.specs.Opened.{Fits, Pulled}
use Rattle.tick_core.specs.Sweeping.{Swept}
use Rattle.tick_core.proofs.Seats.{length-tickets}

pub not-empty : (us : List Level) → (length us == 0) ≡ false → 0 < length us
not-empty [] e = absurd (false≢true (sym e))
not-empty (u ∷ us) e = omega arith

-- the tick before has moved, and this one takes its states
pub swept-pulled : (v v' d : Level) (us us' : List Level) (q q' q'' : Queued) (moved : Bool) → 0 < length us → Fits v → Swept us q us' q' true
    → Pulled (get_or us' 0 d) v q' v' q'' moved → Swept (v ∷ us) q (v' ∷ us') q'' moved
swept-pulled v v' d [] us' q q' q'' moved lt fits s p = absurd (omega arith)
swept-pulled v v' d (u ∷ us) [] q q' q'' moved lt fits s p = let a = s.as_many in absurd (omega arith)
swept-pulled v v' d (u ∷ us) (u' ∷ us') q q' q'' moved lt fits s p =
    let p' : Pulled u' v q' v' q'' moved = p in
    let took = p'.pulled in
    let more = took.numbers.more in
    let older = new_tickets (u ∷ us) (u' ∷ us') q.issued in
    let mine = tickets v.number (length v.rows) q'.issued (length more) in
    let grown : length v'.rows ≡ length v.rows + length more = ap length took.numbers.grown ∙ length-append v.rows more in
    let diff : length v'.rows - length v.rows ≡ length more = omega arith in
    let told : new_tickets (v ∷ u ∷ us) (v' ∷ u' ∷ us') q.issued ≡ older ++ mine =
    ap (λ c. older ++ tickets v.number (length v.rows) (q.issued + length older) c) diff
    ∙ ap (λ n. older ++ tickets v.number (length v.rows) n (length more)) (sym s.count) in
    let l : length (new_tickets (v ∷ u ∷ us) (v' ∷ u' ∷ us') q.issued) ≡ length older + length more =
    ap length told ∙ length-append older mine ∙ ap (λ n. length older + n) (length-tickets v.number (length v.rows) q'.issued (length more)) in
    let fewer = s.fewer in
    let fit = took.fits in
    let seats = took.as_many in
    let n = took.numbers.count in
    let m = s.count in
    let pulls : Pulls g726 u' v q'.issued v' q''.issued moved = record {
      number = p'.number;
      talkers = p'.talkers;
      placing = took.placing;
      seats = took.takes;
      quiet = took.quiet;
    } in
    record {
      sweeps = (v', u', us', q'.issued, true, refl, s.sweeps, pulls);
      waiting = took.numbers.waiting ∙ ap (λ ts. ts ++ mine) s.waiting ∙ append_assoc q.tickets older mine ∙ ap (λ ts. q.tickets ++ ts) (sym told);
      count = omega arith;
      room = took.numbers.room ∙ s.room;
      fit = ((omega arith), s.fit);
      seats = (let a = s.seats in omega arith);
      fewer = omega arith;
      as_many = ap suc s.as_many;
    }
