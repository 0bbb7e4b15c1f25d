-- What a reader handed out, and what is still to come.
use Rattle.std.specs.Prelude.{◌≡◌, ℕ, ◌<◌, ◌≤◌, List, [], ◌∷◌, ◌++◌, Option, Some, None, IfSome}
use Rattle.edge_io.specs.Told.{Loses}
use Rattle.rtp_dump.specs.declared.item.DumpItem.{DumpItem}
use Rattle.rtp_dump.specs.declared.faults.DumpFault.{DumpFault}
use Rattle.rtp_dump.specs.declared.faults.DumpFault.TheVariants as fault
use Rattle.rtp_dump.specs.declared.stage.Stage.TheVariants.{Open}
use Rattle.rtp_dump.specs.Spelling.{Capture, record_octets}
use Rattle.rtp_dump.specs.Reading.{Reading, ahead, answered, from_here, octets_of, IsBegun, IsLate, IsPartOfRecord, IsSound}
use Rattle.session_spec.specs.Captured.{items}

-- the octets of records, one after the other
abbrev pub octets_all : List DumpItem → List ℕ
octets_all [] = []
octets_all (i ∷ is) = record_octets i ++ octets_all is

-- each lies before this moment
abbrev pub Before : ℕ → List DumpItem → Type 0
Before end [] = Unit {0}
Before end (i ∷ is) = (i.offset < end) × Before end is

-- a capture's records are these and then those of another, which ends as it does
pub record Joins (its : List DumpItem) (other whole : Capture) : Type 0 where
  pub items_are : items whole ≡ its ++ items other
  pub fault_is : whole.fault ≡ other.fault

-- the record that is held back lies at or past this moment; where none is, the capture has ended
abbrev pub IsPast : ℕ → Option DumpItem → Capture → Type 0
IsPast moment (Some item) c = moment ≤ item.offset
IsPast moment None c = (items c ≡ []) × (c.fault ≡ None)

module _ {S : Type 0} where
  -- its line and file head were read, and no fault was met
  pub record IsGoing (reader : Reading S) : Type 0 where
    pub begun : IsBegun reader
    pub open' : answered reader ≡ None
    pub sound : IsSound reader

  module _ (rest : S → Option (List ℕ)) where
    -- these records were handed out, whatever follows them
    pub record Hands (old new : Reading S) (out : List DumpItem) : Type 0 where
      pub follows : (more : List ℕ) → Joins out (from_here new more) (from_here old (octets_all out ++ more))
      pub taken : Loses (rest old.source) (rest new.source) (λ front. octets_of old.held ++ front ≡ octets_all out ++ octets_of new.held)

    -- these were handed out, P holds of them, and what follows lies past the moment
    pub record Heard (old new : Reading S) (end : ℕ) (P : List DumpItem → Type 0) : Type 0 where
      pub its : List DumpItem
      pub hands : Hands old new its
      pub early : Before end its
      pub late : IsLate end new.stage new.held
      pub past : IfSome (rest new.source) (λ octets. IsPast end new.held (ahead new octets))
      pub sound : IsSound new
      pub here : P its

    -- why a reader gave up, after it stood at mid
    abbrev pub Why : DumpFault → Reading S → Reading S → Type 0
    Why (fault.Bad at kind) mid new =
        IfSome (rest mid.source) (λ octets. (items (ahead mid octets) ≡ []) × ((ahead mid octets).fault ≡ Some (record { at = at; kind = kind })))
    Why fault.Read mid new = (mid.held ≡ None) × (mid.stage ≡ Open) × Loses (rest mid.source) (rest new.source) IsPartOfRecord
    Why fault.Memory mid new = Unit {0}

    -- these were handed out before the reader gave up
    pub record Broken (old new : Reading S) (end : ℕ) (why : DumpFault) : Type 0 where
      pub mid : Reading S
      pub its : List DumpItem
      pub hands : Hands old mid its
      pub same : its ≡ [] → mid ≡ old
      pub early : Before end its
      pub because : Why why mid new
