-- A bundle's arrays, of which the rest is zeros.
use Rattle.std.specs.Prelude.{ℕ, List, [], ◌∷◌, ◌≡◌, ◌+◌, ◌-◌, ◌*◌, ◌≤◌, ◌++◌, length, take, drop, replicate}
use Rattle.std.specs.List.{flat_map}

-- the sum of sizes
abbrev pub total : List ℕ → ℕ
total [] = 0
total (n ∷ sizes) = n + total sizes

-- octets cut at these sizes
abbrev pub pieces : List ℕ → List ℕ → List (List ℕ)
pieces [] octets = []
pieces (n ∷ sizes) octets = take n octets ∷ pieces sizes (drop n octets)

-- one after the other
abbrev pub joined : List (List ℕ) → List ℕ
joined payloads = flat_map (λ octets. octets) payloads

-- 400 octets and four sizes, of which the first ones count and the others are 0
pub record IsBundled (octets sizes : List ℕ) (count filled : ℕ) : Type 0 where
  pub long : length octets ≡ 400
  pub places : length sizes ≡ 4
  pub within : count ≤ 4
  pub sum : total (take count sizes) ≡ filled
  pub most : filled ≤ 100 * count
  pub rest : drop filled octets ≡ replicate (400 - filled) 0
  pub no_sizes : drop count sizes ≡ replicate (4 - count) 0

-- a list with zeros up to n
abbrev pub filled_up : ℕ → List ℕ → List ℕ
filled_up n xs = xs ++ replicate (n - length xs) 0
