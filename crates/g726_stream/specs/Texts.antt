-- The texts of the program. Numbers are in decimal without leading zeros.
use Rattle.std.specs.Prelude.{ℕ, ◌++◌, List, [], Option, Some, codes, decimal}
use Rattle.g726_stream.specs.declared.asked.Asked.{Asked}
use Rattle.g726_stream.specs.declared.asked.Asked.TheVariants.{Help, Version}
use Rattle.g726_stream.specs.declared.status.Status.{Status}
use Rattle.g726_stream.specs.declared.status.Status.TheVariants.{Done, Usage, ReadFault, WriteFault, Memory, OddOctet, TornFrame}

-- the line of each status but Done
abbrev pub line_of : Status → List ℕ
line_of Done = []
line_of Usage = codes "usage: g726 encode RATE or g726 decode RATE\n"
line_of ReadFault = codes "read failed\n"
line_of WriteFault = codes "write failed\n"
line_of Memory = codes "out of memory\n"
line_of (OddOctet at) = codes "samples at " ++ decimal at ++ codes ": " ++ codes "odd octet" ++ codes "\n"
line_of (TornFrame at) = codes "codes at " ++ decimal at ++ codes ": " ++ codes "torn frame" ++ codes "\n"

-- what `--help` and `--version` write
abbrev pub help_text : List ℕ
help_text =
    codes "usage: g726 encode RATE or g726 decode RATE\n\n"
    ++ codes "G.726 at RATE 16, 24, 32 or 40 kbit/s, from standard input to standard output.\n"
    ++ codes "Samples are 16 bits, low octet first, at 8000 a second; codes are packed as RFC 3551 says.\n"

abbrev pub version_text : List ℕ
version_text = codes "g726 0.1.0\n"

-- where a text is asked for, P holds of it
abbrev pub IfText : Option Asked → (List ℕ → Type 0) → Type 0
IfText (Some Help) P = P help_text
IfText (Some Version) P = P version_text
IfText asked P = Unit {0}
