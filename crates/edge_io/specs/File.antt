-- What a shelf tells of a name.
use Rattle.std.specs.Prelude.{◌≡◌, ℕ, ◌<◌, List, length}

-- nothing is told, there is no such name, or it has this content
pub data File : Type 0 where
  untold : File
  missing : File
  content : List ℕ → File

-- where it is told, these are the whole content
abbrev pub IsWhole : File → List ℕ → Type 0
IsWhole untold octets = Unit {0}
IsWhole missing octets = ⊥
IsWhole (content held) octets = octets ≡ held

-- where it is told, the content is longer than this
abbrev pub IsLonger : File → ℕ → Type 0
IsLonger untold limit = Unit {0}
IsLonger missing limit = ⊥
IsLonger (content held) limit = limit < length held
