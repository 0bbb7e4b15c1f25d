-- What a table keeps, and what its answers say.
use Rattle.std.specs.Prelude.{◌≡◌, ◌≢◌, ℕ, ◌+◌, List, [], ◌∷◌, ◌++◌, length, Some, slice_get, vec_len}
use Rattle.std.specs.List.{AllZip}
use Rattle.g726_codec.specs.declared.Triple.{Triple}
use Rattle.g726_codec.specs.declared.Encoded.{Encoded}
use Rattle.conference_spec.specs.declared.Stage.{Stage}
use Rattle.conference_spec.specs.declared.Stage.TheVariants.{Waiting, Out, Finished}
use Rattle.std.specs.Global.{Vec}
use Rattle.std.specs.declared.hash.FoldHasher.{FoldHasher}
use Rattle.std.specs.declared.hash.BuildHasherDefault.{BuildHasherDefault}
use Rattle.indexmap.specs.IndexSet.{IndexSet, IsUnique, index_set_len}
use Rattle.conference_spec.specs.Codec.{g726, is_same_triple}
use Rattle.triple_table.specs.declared.Slot.{Slot}
use Rattle.triple_table.specs.declared.Progress.{Progress}
use Rattle.triple_table.specs.declared.Progress.TheVariants as progress
use Rattle.triple_table.specs.declared.Placed.{Placed}
use Rattle.triple_table.specs.declared.Placed.TheVariants as placed
use Rattle.triple_table.specs.Rows.{Row, IsNewTriple}

abbrev pub stage_of : Progress → Stage
stage_of (progress.Waiting permit) = Waiting
stage_of progress.Out = Out
stage_of (progress.Finished state payload) = Finished

-- the row of a triple and its slot
abbrev pub row_of : Triple → Slot → Row
row_of t s = record { triple = t; number = s.number; stage = stage_of s.progress }

abbrev pub rows_of : List Triple → List Slot → List Row
rows_of [] slots = []
rows_of (t ∷ ts) [] = []
rows_of (t ∷ ts) (s ∷ slots) = row_of t s ∷ rows_of ts slots

-- a waiting row has its own permit, and a finished one what the encoder makes of its triple
abbrev pub Fits : Triple → ℕ → Progress → Type 0
Fits t number (progress.Waiting permit) = permit ≡ number
Fits t number progress.Out = Unit {0}
Fits t number (progress.Finished state payload) =
    (state ≡ (g726.encoded t.rate t.state t.mix).0) × (payload ≡ (g726.encoded t.rate t.state t.mix).1)

abbrev pub SlotFits : Triple → Slot → Type 0
SlotFits t s = Fits t s.number s.progress

-- what a run has made of its triple
abbrev pub MadeBy : Encoded → Progress → Type 0
MadeBy e (progress.Waiting permit) = ⊥
MadeBy e progress.Out = ⊥
MadeBy e (progress.Finished state payload) =
    (state ≡ (g726.encoded e.rate e.before e.mix).0) × (payload ≡ (g726.encoded e.rate e.before e.mix).1)

-- the slot of the row at this place
pub record IsSlotOf (rows : List Row) (at : ℕ) (s : Slot) : Type 0 where
  pub triple : Triple
  pub there : slice_get rows at ≡ Some (row_of triple s)
  pub fits : SlotFits triple s

-- what `place` answers: a new row at the end with the next number, or the place of the row that is there
abbrev pub PlacesAt : List Row → List Row → ℕ → ℕ → Triple → Placed → Type 0
PlacesAt old new issued issued' t (placed.New at) =
    IsNewTriple old t × (at ≡ length old) × (new ≡ old ++ record { triple = t; number = issued + 1; stage = Waiting } ∷ []) × (issued' ≡ issued + 1)
PlacesAt old new issued issued' t (placed.Joined at) =
    (r : Row) × (slice_get old at ≡ Some r) × (r.triple ≡ t) × (r.stage ≢ Finished) × (new ≡ old) × (issued' ≡ issued)
PlacesAt old new issued issued' t (placed.Done at) =
    (r : Row) × (slice_get old at ≡ Some r) × (r.triple ≡ t) × (r.stage ≡ Finished) × (new ≡ old) × (issued' ≡ issued)

-- keys and slots go together, each slot fits its triple, and no triple stands twice
pub record TableFits (triples : IndexSet Triple (BuildHasherDefault FoldHasher)) (slots : Vec Slot) : Type 0 where
  pub pairs : length triples.keys ≡ length slots.items
  pub slots_len : vec_len slots ≡ length slots.items
  pub set_len : index_set_len triples ≡ length triples.keys
  pub fits : AllZip SlotFits triples.keys slots.items
  pub unique : IsUnique is_same_triple triples
