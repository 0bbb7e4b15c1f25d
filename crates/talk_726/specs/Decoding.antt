-- What a talker of G.726 says, by the history of its line: the codes of its payloads stand at the line's places, and a
-- decoder goes over what is pulled.
use Rattle.std.specs.Prelude.{ℕ, zero, suc, ◌*◌, ◌/◌, ◌^◌, ℤ, pos, negsuc, List, [], ◌∷◌, length, map, Option, Some, None}
use Rattle.g726_bits.specs.declared.Rate.{Rate}
use Rattle.g726_bits.specs.Rates.{bits_of}
use Rattle.g726_bits.specs.Packing.{number, digits}
use Rattle.g726_bits.specs.State.{CodecState, start}
use Rattle.g726_bits.specs.Step.{state_after, sample_of}
use Rattle.jitter_line.specs.Histories.{Puts, Pulls, History, Fate, First, Taken, TooLate, TooEarly, Restarts, fate_of, gauge, said}

-- the codes of a payload of any length, as many as fit (RFC 3551, 4.5.4: the first code in the least significant bits)
unfoldable pub codes_in : Rate → List ℕ → List ℕ
codes_in rate octets = digits (2 ^ bits_of rate) (8 * length octets / bits_of rate) (number 256 octets)

-- what a line holds for a code: one more, since it says 0 where it holds nothing
abbrev pub place_of : ℕ → ℤ
place_of code = pos (suc code)

-- what a line holds for a payload
abbrev pub places_of : Rate → List ℕ → List ℤ
places_of rate octets = map place_of (codes_in rate octets)

-- the code of what a line says of a place
abbrev pub code_at : ℤ → Option ℕ
code_at (pos zero) = None
code_at (pos (suc code)) = Some code
code_at (negsuc n) = None

-- the decoder moves at a code, and stays at a place without one
abbrev pub state_at : Rate → CodecState → Option ℕ → CodecState
state_at rate s None = s
state_at rate s (Some code) = state_after rate s code

-- a place without a code is silent
abbrev pub sample_at : Rate → CodecState → Option ℕ → ℤ
sample_at rate s None = pos 0
sample_at rate s (Some code) = sample_of rate s code

-- the decoder's state past these places
unfoldable pub state_past : Rate → CodecState → List ℤ → CodecState
state_past rate s [] = s
state_past rate s (x ∷ xs) = state_past rate (state_at rate s (code_at x)) xs

-- the samples that a decoder gives for these places
unfoldable pub samples_for : Rate → CodecState → List ℤ → List ℤ
samples_for rate s [] = []
samples_for rate s (x ∷ xs) = sample_at rate s (code_at x) ∷ samples_for rate (state_at rate s (code_at x)) xs

-- a packet that restarts the line sets the decoder to its start state
abbrev pub unless_restarted : Fate → CodecState → CodecState
unless_restarted Restarts s = start
unless_restarted First s = s
unless_restarted Taken s = s
unless_restarted TooLate s = s
unless_restarted TooEarly s = s

-- the decoder's state, by its line's history: the start state at first and at each restart
abbrev pub decoder : Rate → History → CodecState
decoder rate [] = start
decoder rate (Puts p ∷ h) = unless_restarted (fate_of (gauge h) p) (decoder rate h)
decoder rate (Pulls ∷ h) = state_past rate (decoder rate h) (said h)

-- the frame that is said next
abbrev pub decoded : Rate → History → List ℤ
decoded rate h = samples_for rate (decoder rate h) (said h)
