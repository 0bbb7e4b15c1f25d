-- Those who aren't heard in a tick: what they hear, and where their runs are.
use Rattle.std.proofs.Common.{◌≡◌, ℕ, ◌+◌, ◌<◌, ◌==◌, false, not, List, [], ◌∷◌, ◌++◌, length, take, get_or, refl, sym, ◌∙◌, ap, subst, Option, Some, None, map}
use Rattle.std.specs.Prelude.{slice_get, if◌then◌else◌, IfSome}
use Rattle.std.specs.List.{range_with_len}
use Rattle.std.proofs.lemmas.List.Elements.{filter-append}
use Rattle.g726_bits.specs.State.{CodecState}
use Rattle.g726_bits.specs.declared.Rate.{Rate}
use Rattle.g726_bits.specs.declared.Frame.{Frame}
use Rattle.g726_codec.specs.declared.Triple.{Triple}
use Rattle.talk_mix.specs.Mix.{others, mix, sum_at, limited}
use Rattle.talk_mix.specs.Voices.{Voice}
use Rattle.talk_mix.specs.declared.ticks.Tick.{Tick}
use Rattle.triple_table.specs.Rows.{Row}
use Rattle.book_lists.specs.Levels.{IsAt}
use Rattle.book_lists.proofs.Seating.{get-front}
use Rattle.tick_core.specs.declared.mixes.Mixes.{Mixes}
use Rattle.tick_core.specs.Queued.{Queued, Places}
use Rattle.tick_core.specs.Hearing.{whole, IsRowFor, IsLast, Remembers}
use Rattle.tick_core.proofs.Zips.{take-one}
use Rattle.tick_core.proofs.Tickets.{places-there}

-- who isn't heard hears all voices
pub mix-whole : (m : ℕ) (tick : Tick) → others m tick ≡ tick → mix m tick ≡ whole tick
unfolding mix whole
mix-whole m tick e = ap (λ (vs : List Voice). map (λ place. limited (sum_at vs place)) (range_with_len 0 160)) e

-- the voice at a place isn't the member's either
pub others-more : (m : ℕ) (vs : List Voice) (i : ℕ) (v : Voice) → i < length vs → others m (take i vs) ≡ take i vs → get_or vs i v ≡ v → (v.0 == m) ≡ false
    → others m (take (i + 1) vs) ≡ take (i + 1) vs
others-more m vs i v lt before is other =
    let one : take (i + 1) vs ≡ take i vs ++ v ∷ [] = take-one vs i v lt ∙ ap (λ (w : Voice). take i vs ++ w ∷ []) is in
    let alone : others m (v ∷ []) ≡ v ∷ [] = ap (λ b. if not b then v ∷ [] else []) other in
    ap (others m) one ∙ filter-append (λ (w : Voice). not (w.0 == m)) (take i vs) (v ∷ [])
    ∙ ap (λ (us : List Voice). us ++ others m (v ∷ [])) before ∙ ap (λ (us : List Voice). take i vs ++ us) alone ∙ sym one

-- ---- more rows ----

row-more : (rows more : List Row) (rate : Rate) (mixed : Frame) (o : Option ℕ) → IsLast rows rate mixed o → IsLast (rows ++ more) rate mixed o
row-more rows more rate mixed None h = tt
row-more rows more rate mixed (Some at) h = record { row = h.row; there = get-front rows more at h.row h.there; rate_is = h.rate_is; mix_is = h.mix_is }

pub remembers-more : (tick : Tick) (rows more rows' : List Row) (m : Mixes) → rows' ≡ rows ++ more → Remembers tick rows m → Remembers tick rows' m
remembers-more tick rows more rows' m e r =
    subst (λ (rs : List Row). Remembers tick rs m) (sym e) (record {
      made = r.made;
      at16 = row-more rows more _ (whole tick) m.r16 r.at16;
      at24 = row-more rows more _ (whole tick) m.r24 r.at24;
      at32 = row-more rows more _ (whole tick) m.r32 r.at32;
      at40 = row-more rows more _ (whole tick) m.r40 r.at40;
    })

-- ---- runs ----

abbrev pub triple_for : Rate → CodecState → Frame → Triple
triple_for rate st mixed = record { rate = rate; state = st; mix = mixed }

-- the state of the row that is there
pub state-there : (rows : List Row) (at : ℕ) (r : Row) (st : CodecState) → slice_get rows at ≡ Some r → IfSome (slice_get rows at) (λ r. r.triple.state ≡ st)
    → r.triple.state ≡ st
state-there rows at r st e some = subst (λ (o : Option Row). IfSome o (λ r. r.triple.state ≡ st)) e some

-- the last run, in its state
pub last-in_state : (rows : List Row) (rate : Rate) (st : CodecState) (mixed : Frame) (at : ℕ) → (r : IsRowFor rows rate mixed at) → r.row.triple.state ≡ st
    → IsAt rows at (triple_for rate st mixed)
last-in_state rows rate st mixed at r e =
    record { row = r.row; there = r.there; same = (λ i. record { rate = r.rate_is i; state = e i; mix = r.mix_is i }) }

pub placed-there : (k : ℕ) (t : Triple) (rows : List Row) (q : Queued) (at : ℕ) → IsAt rows at t → Places k t rows q rows q at
placed-there k t rows q at is = places-there k t rows rows q q at is.row is.there is.same refl refl refl refl

-- a run with a mix that is equal
pub placed-as : (k : ℕ) (rate : Rate) (st : CodecState) (f g : Frame) (rows : List Row) (q : Queued) (rows' : List Row) (q' : Queued) (at : ℕ) → f ≡ g
    → Places k (triple_for rate st f) rows q rows' q' at → Places k (triple_for rate st g) rows q rows' q' at
placed-as k rate st f g rows q rows' q' at e p =
    subst (λ (x : Frame). Places k (triple_for rate st x) rows q rows' q' at) e p

pub row-placed : (k : ℕ) (rate : Rate) (st : CodecState) (mixed : Frame) (rows : List Row) (q : Queued) (rows' : List Row) (q' : Queued) (at : ℕ)
    → Places k (triple_for rate st mixed) rows q rows' q' at → IsRowFor rows' rate mixed at
row-placed k rate st mixed rows q rows' q' at p =
    let is = p.there in
    record { row = is.row; there = is.there; rate_is = ap (λ t. t.rate) is.same; mix_is = ap (λ t. t.mix) is.same }
