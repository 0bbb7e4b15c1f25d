-- How a capture is spelled (the rtpdump format of rtptools): a line, a file head, records, and what may
-- stand after the last whole one.
use Rattle.std.specs.Prelude.{◌≡◌, ◌≢◌, ℕ, ◌+◌, ◌^◌, ◌<◌, ◌≤◌, ◌⊎◌, List, [], ◌∷◌, ◌++◌, length, take, Option, Some, None, Contains, codes}
use Rattle.std.specs.List.{flat_map, AllByRecursion}
use Rattle.std.specs.Option.{option_map}
use Rattle.byteorder.specs.Endian.{big_bytes, big_number}
use Rattle.rtp_dump.specs.declared.item.TheConstants.{MAX_LINE_LEN, MAX_RECORDS, MAX_OCTETS}
use Rattle.rtp_dump.specs.declared.item.DumpItem.{DumpItem}
use Rattle.rtp_dump.specs.declared.faults.DumpKind.{DumpKind}
use Rattle.rtp_dump.specs.declared.faults.DumpKind.TheVariants.{NotDump, TornHead, ShortLength, TornRecord, TooMany}

-- a record, and the place at which it begins
pub record Placed : Type 0 where
  pub at : ℕ
  pub item : DumpItem

-- what is wrong, and where
pub record Fault : Type 0 where
  pub at : ℕ
  pub kind : DumpKind

-- a capture: its whole records in order, and the fault after them, unless the octets end there
pub record Capture : Type 0 where
  pub records : List Placed
  pub fault : Option Fault

-- what a line begins with
abbrev pub magic : List ℕ
magic = codes "#!rtpplay1.0"

abbrev pub newline : ℕ
newline = 10

-- a line begins with the magic, goes on with any octets but newline, and ends with a newline
pub record IsLine (line : List ℕ) : Type 0 where
  pub text : List ℕ
  pub spelled : line ≡ magic ++ text ++ newline ∷ []
  pub one : ¬ Contains text newline
  pub short : length line ≤ MAX_LINE_LEN

-- some line begins with these octets
abbrev pub BeginsLine : List ℕ → Type 0
BeginsLine front = (more : List ℕ) × IsLine (front ++ more)

-- the longest front of the octets that some line begins with has this length
pub record IsLongestFront (bytes : List ℕ) (len : ℕ) : Type 0 where
  pub within : len ≤ length bytes
  pub begins : BeginsLine (take len bytes)
  pub longest : (n : ℕ) → n ≤ length bytes → BeginsLine (take n bytes) → n ≤ len

-- a record: its length with the eight octets of its head, the packet's length on the wire, its offset,
-- and the octets that were kept of it
abbrev pub record_octets : DumpItem → List ℕ
record_octets item = big_bytes 2 (length item.octets + 8) ++ big_bytes 2 item.plen ++ big_bytes 4 item.offset ++ item.octets

-- what a record can hold
pub record Fits (item : DumpItem) : Type 0 where
  pub plen : item.plen < 2 ^ 16
  pub offset : item.offset < 2 ^ 32
  pub octets : length item.octets ≤ MAX_OCTETS

-- records one after the other, the first at this place
abbrev pub placed : ℕ → List DumpItem → List Placed
placed at [] = []
placed at (item ∷ items) = record { at = at; item = item } ∷ placed (at + (length item.octets + 8)) items

-- the length that the head of a record says
abbrev pub length_word : List ℕ → ℕ
length_word bytes = big_number 2 bytes

-- what follows so many whole records is nothing, or no record in this way
abbrev pub Follows : ℕ → List ℕ → Option DumpKind → Type 0
Follows count rest None = rest ≡ []
Follows count rest (Some NotDump) = ⊥
Follows count rest (Some TooMany) = (count ≡ MAX_RECORDS) × (rest ≢ [])
Follows count rest (Some TornHead) = (count < MAX_RECORDS) × (rest ≢ []) × (length rest < 8)
Follows count rest (Some ShortLength) = (count < MAX_RECORDS) × (8 ≤ length rest) × (length_word rest < 8)
Follows count rest (Some TornRecord) = (count < MAX_RECORDS) × (8 ≤ length rest) × (8 ≤ length_word rest) × (length rest < length_word rest)

-- no line stands at the front of the octets
pub record IsNoDump (bytes : List ℕ) (capture : Capture) : Type 0 where
  pub no_line : (line rest : List ℕ) → IsLine line → bytes ≢ line ++ rest
  pub at : ℕ
  pub longest : IsLongestFront bytes at
  pub gives : capture ≡ record { records = []; fault = Some (record { at = at; kind = NotDump }) }

-- the octets end inside the file head
pub record IsTornFile (bytes : List ℕ) (capture : Capture) : Type 0 where
  pub line : List ℕ
  pub rest : List ℕ
  pub is_line : IsLine line
  pub spelled : bytes ≡ line ++ rest
  pub torn : length rest < 16
  pub gives : capture ≡ record { records = []; fault = Some (record { at = length line; kind = TornHead }) }

-- a line, sixteen octets of file head, whole records, and what follows them
pub record IsFile (bytes : List ℕ) (capture : Capture) : Type 0 where
  pub line : List ℕ
  pub head : List ℕ
  pub items : List DumpItem
  pub rest : List ℕ
  pub end : Option DumpKind
  pub is_line : IsLine line
  pub is_head : length head ≡ 16
  pub each : AllByRecursion Fits items
  pub few : length items ≤ MAX_RECORDS
  pub spelled : bytes ≡ line ++ head ++ flat_map record_octets items ++ rest
  pub follows : Follows (length items) rest end
  pub gives : capture ≡ record {
    records = placed (length line + 16) items;
    fault = option_map (λ kind. record { at = length line + 16 + length (flat_map record_octets items); kind = kind }) end;
  }

-- the octets spell this capture
abbrev pub Spells : List ℕ → Capture → Type 0
Spells bytes capture = IsNoDump bytes capture ⊎ (IsTornFile bytes capture ⊎ IsFile bytes capture)
