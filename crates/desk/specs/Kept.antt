-- What a desk keeps.
use Rattle.std.specs.Prelude.{◌≡◌, ◌≢◌, ℕ, List, [], ◌∷◌, length, map}
use Rattle.std.specs.List.{AllByRecursion}
use Rattle.talk_mix.specs.Voices.{Voice}
use Rattle.desk.specs.declared.channel.Channel.{Channel}

-- the channels of those who talk, in the order of their joins, and how many arrivals weren't accepted
pub record Kept : Type 0 where
  pub channels : List Channel
  pub refused : ℕ

abbrev pub members : List Channel → List ℕ
members channels = map (λ (c : Channel). c.member) channels

-- each number is another than those after it
abbrev pub EachOther : List ℕ → Type 0
EachOther [] = Unit {0}
EachOther (n ∷ ns) = AllByRecursion (λ other. other ≢ n) ns × EachOther ns

-- no two channels are of one member, and there is room for a voice of each
pub record IsSound (channels : List Channel) (voices : List Voice) : Type 0 where
  pub differ : EachOther (members channels)
  pub room : length voices ≡ length channels
