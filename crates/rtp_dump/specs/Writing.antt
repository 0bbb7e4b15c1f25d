-- What a writer of captures is seen as, and what it writes.
use Rattle.std.specs.Prelude.{ℕ, ◌++◌, ◌∷◌, [], List, length, replicate, codes}
use Rattle.rtp_dump.specs.declared.item.DumpItem.{DumpItem}
use Rattle.rtp_dump.specs.Spelling.{newline}

-- a writer: the loan of its sink, and the sink as it stands
pub record Writing (K : Type 0) : Type 0 where
  pub ghost_name : ℕ
  pub sink : K

-- the line, and a file head of zeros
abbrev pub output_head : List ℕ
output_head = codes "#!rtpplay1.0 0.0.0.0/0" ++ newline ∷ [] ++ replicate 16 0

-- the record of a whole packet
abbrev pub written : ℕ → List ℕ → DumpItem
written offset octets = record { plen = length octets; offset = offset; octets = octets }
