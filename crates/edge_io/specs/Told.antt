-- What the ends of a program tell of what they hold, and when a count of failures rose.
-- `None` is an end that tells nothing: a real file, a pipe, a terminal.
use Rattle.std.specs.Prelude.{Bool, true, false, ◌≡◌, ℕ, ◌+◌, ◌-◌, ◌^◌, ◌<◌, ◌≤◌, min, Option, Some, None, List, ◌++◌, take, drop}

-- a count rose: it is greater now than before, or stands at the last value of a counter
abbrev pub Rose : ℕ → ℕ → Type 0
Rose before now = min (before + 1) (2 ^ 64 - 1) ≤ now

-- a count of failures rose, where the answer was one, and else stands as before; it never falls
abbrev pub Counts : ℕ → Bool → ℕ → Type 0
Counts before true now = Rose before now × (before ≤ now)
Counts before false now = now ≡ before

-- a told rest has lost a front of this kind
abbrev pub Loses : Option (List ℕ) → Option (List ℕ) → (List ℕ → Type 0) → Type 0
Loses None new P = new ≡ None
Loses (Some rest) new P = (front after : List ℕ) × P front × (rest ≡ front ++ after) × (new ≡ Some after)

-- a told rest has lost its first n octets, and these stand at the front of the buffer
abbrev pub Takes : Option (List ℕ) → Option (List ℕ) → ℕ → List ℕ → Type 0
Takes None new n buf = new ≡ None
Takes (Some rest) new n buf = (take n buf ≡ take n rest) × (new ≡ Some (drop n rest))

-- a told rest has lost fewer octets than this from its front
abbrev pub LosesFewer : Option (List ℕ) → Option (List ℕ) → ℕ → Type 0
LosesFewer None new limit = new ≡ None
LosesFewer (Some rest) new limit = (n : ℕ) × (n < limit) × (new ≡ Some (drop n rest))

-- what is told to be held has grown by this piece
abbrev pub Grows : Option (List ℕ) → Option (List ℕ) → List ℕ → Type 0
Grows None new piece = new ≡ None
Grows (Some held) new piece = new ≡ Some (held ++ piece)

-- what is told to be held has grown by a front of this piece, maybe by none of it
abbrev pub GrowsByFront : Option (List ℕ) → Option (List ℕ) → List ℕ → Type 0
GrowsByFront None new piece = new ≡ None
GrowsByFront (Some held) new piece = (n : ℕ) × (new ≡ Some (held ++ take n piece))
