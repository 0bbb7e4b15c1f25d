-- Which words are a command line, and what it asks for.
use Rattle.std.specs.Prelude.{ℕ, List, [], ◌∷◌, Option, Some, None, codes, if◌then◌else◌}
use Rattle.std.specs.Str.{bytes_eq}
use Rattle.g726_bits.specs.declared.Rate.{Rate}
use Rattle.g726_bits.specs.declared.Rate.TheVariants.{R16, R24, R32, R40}
use Rattle.g726_stream.specs.declared.asked.Way.{Way}
use Rattle.g726_stream.specs.declared.asked.Way.TheVariants.{Encode, Decode}
use Rattle.g726_stream.specs.declared.asked.Asked.{Asked}
use Rattle.g726_stream.specs.declared.asked.Asked.TheVariants.{Coding, Help, Version}

abbrev pub way_of : List ℕ → Option Way
way_of word =
    if bytes_eq word (codes "encode") then Some Encode
    else if bytes_eq word (codes "decode") then Some Decode
    else None

abbrev pub rate_of : List ℕ → Option Rate
rate_of word =
    if bytes_eq word (codes "16") then Some R16
    else if bytes_eq word (codes "24") then Some R24
    else if bytes_eq word (codes "32") then Some R32
    else if bytes_eq word (codes "40") then Some R40
    else None

abbrev pub info_of : List ℕ → Option Asked
info_of word =
    if bytes_eq word (codes "--help") then Some Help
    else if bytes_eq word (codes "--version") then Some Version
    else None

abbrev pub coding_of : Option Way → Option Rate → Option Asked
coding_of (Some way) (Some rate) = Some (Coding way rate)
coding_of way rate = None

-- a way and a rate, or one of two words that ask for a text
abbrev pub asked_of : List (List ℕ) → Option Asked
asked_of (word ∷ []) = info_of word
asked_of (way ∷ rate ∷ []) = coding_of (way_of way) (rate_of rate)
asked_of words = None

-- where a stream through the codec is asked for, P holds of its way and rate
abbrev pub IfCoding : Option Asked → (Way → Rate → Type 0) → Type 0
IfCoding (Some (Coding way rate)) P = P way rate
IfCoding asked P = Unit {0}
