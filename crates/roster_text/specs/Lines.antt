-- Lines and words of a text, the fields of a word, and decimal numbers.
use Rattle.std.specs.Prelude.{ℕ, ◌+◌, ◌-◌, ◌*◌, Bool, false, not, ◌==◌, ◌||◌, ◌&&◌, nat_le, if◌then◌else◌, List, [], ◌∷◌, length, Option, None, Some}

-- an octet put before the first of these lines or words
abbrev pub onto : ℕ → List (List ℕ) → List (List ℕ)
onto b [] = (b ∷ []) ∷ []
onto b (l ∷ ls) = (b ∷ l) ∷ ls

-- the lines of a text, as many as newlines, and one more where octets follow the last newline
abbrev pub lines_of : List ℕ → List (List ℕ)
lines_of [] = []
lines_of (b ∷ bs) = if b == 10 then [] ∷ lines_of bs else onto b (lines_of bs)

-- space, tab and carriage return part words, and no other octet does
abbrev pub parts : ℕ → Bool
parts b = (b == 32) || (b == 9) || (b == 13)

-- a word begins right here
abbrev pub goes_on : List ℕ → Bool
goes_on [] = false
goes_on (b ∷ bs) = not (parts b)

-- the words of a line
abbrev pub words_of : List ℕ → List (List ℕ)
words_of [] = []
words_of (b ∷ bs) =
    if parts b then words_of bs
    else if goes_on bs then onto b (words_of bs)
    else (b ∷ []) ∷ words_of bs

-- the fields of a word, parted by this octet: as many as there are of it, and one more
abbrev pub fields_of : ℕ → List ℕ → List (List ℕ)
fields_of stop [] = [] ∷ []
fields_of stop (b ∷ bs) = if b == stop then [] ∷ fields_of stop bs else onto b (fields_of stop bs)

abbrev pub is_digit : ℕ → Bool
is_digit b = nat_le 48 b && nat_le b 57

-- the number that begins with n and goes on with these digits, if they are digits and it is at most the greatest
abbrev pub number_from : ℕ → ℕ → List ℕ → Option ℕ
number_from greatest n [] = if nat_le n greatest then Some n else None
number_from greatest n (b ∷ bs) = if is_digit b then number_from greatest (n * 10 + (b - 48)) bs else None

-- the number that 1 to 10 decimal digits spell, if it is at most the greatest
abbrev pub number_of : ℕ → List ℕ → Option ℕ
number_of greatest w = if nat_le 1 (length w) && nat_le (length w) 10 then number_from greatest 0 w else None
