-- What octets are as a capture: its records with their places, and the first fault with its kind and place.
use Rattle.std.specs.Prelude.{ℕ, zero, suc, ◌+◌, ◌-◌, ◌==◌, List, [], ◌∷◌, length, min, take, drop, Some, None, Result, Ok, Err, nat_eq, nat_lt, if◌then◌else◌}
use Rattle.std.specs.List.{common_prefix_len, position_or_len}
use Rattle.byteorder.specs.Endian.{big_number}
use Rattle.rtp_dump.specs.declared.item.TheConstants.{MAX_LINE_LEN, MAX_RECORDS}
use Rattle.rtp_dump.specs.declared.item.DumpItem.{DumpItem}
use Rattle.rtp_dump.specs.declared.faults.DumpKind.{DumpKind}
use Rattle.rtp_dump.specs.declared.faults.DumpKind.TheVariants.{NotDump, TornHead, ShortLength, TornRecord, TooMany}
use Rattle.rtp_dump.specs.Spelling.{Placed, Fault, Capture, magic, newline, length_word}

-- how many octets at the front are those of the magic
abbrev pub magic_len : List ℕ → ℕ
magic_len bytes = common_prefix_len nat_eq magic bytes

-- where the first newline stands, or how many octets there are without one
abbrev pub newline_at : List ℕ → ℕ
newline_at bytes = position_or_len (λ b. b == newline) bytes

-- the length of the line at the front; without one, that of the longest front that some line begins with
unfoldable pub line_at : List ℕ → Result ℕ ℕ
line_at bytes =
    if nat_lt (magic_len bytes) (length magic) then Err (magic_len bytes)
    else if nat_lt (newline_at bytes) (min (length bytes) MAX_LINE_LEN) then Ok (newline_at bytes + 1)
    else Err (min (length bytes) (MAX_LINE_LEN - 1))

-- the record at the front, which is whole
abbrev pub item_at : List ℕ → DumpItem
item_at bytes = record {
  plen = big_number 2 (drop 2 bytes);
  offset = big_number 4 (drop 4 bytes);
  octets = take (length_word bytes - 8) (drop 8 bytes);
}

-- nothing but a fault
abbrev pub broken : ℕ → DumpKind → Capture
broken at kind = record { records = []; fault = Some (record { at = at; kind = kind }) }

-- a record before the others
abbrev pub before : Placed → Capture → Capture
before first others = record { records = first ∷ others.records; fault = others.fault }

-- the records from a place on, where so many are still allowed
unfoldable pub records_from : ℕ → ℕ → List ℕ → Capture
records_from allowed at [] = record { records = []; fault = None }
records_from zero at (b ∷ bytes) = broken at TooMany
records_from (suc allowed) at (b ∷ bytes) =
    if nat_lt (length (b ∷ bytes)) 8 then broken at TornHead
    else if nat_lt (length_word (b ∷ bytes)) 8 then broken at ShortLength
    else if nat_lt (length (b ∷ bytes)) (length_word (b ∷ bytes)) then broken at TornRecord
    else before (record { at = at; item = item_at (b ∷ bytes) }) (records_from allowed (at + length_word (b ∷ bytes)) (drop (length_word (b ∷ bytes)) (b ∷ bytes)))

-- the length of the line and the file head, or the fault in them
abbrev pub opening_of : Result ℕ ℕ → List ℕ → Result ℕ Fault
opening_of (Err at) bytes = Err (record { at = at; kind = NotDump })
opening_of (Ok line) bytes = if nat_lt (length bytes) (line + 16) then Err (record { at = line; kind = TornHead }) else Ok (line + 16)

abbrev pub opening : List ℕ → Result ℕ Fault
opening bytes = opening_of (line_at bytes) bytes

abbrev pub capture_of : Result ℕ Fault → List ℕ → Capture
capture_of (Err fault) bytes = broken fault.at fault.kind
capture_of (Ok start) bytes = records_from MAX_RECORDS start (drop start bytes)

-- the capture that the octets are
unfoldable pub capture : List ℕ → Capture
capture bytes = capture_of (opening bytes) bytes
