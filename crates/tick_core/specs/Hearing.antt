-- What those hear who aren't heard in a tick, and where their runs are.
use Rattle.std.specs.Prelude.{◌≡◌, ℕ, List, map, Option, Some, None, slice_get}
use Rattle.std.specs.List.{range_with_len}
use Rattle.g726_bits.specs.declared.Rate.{Rate}
use Rattle.g726_bits.specs.declared.Rate.TheVariants.{R16, R24, R32, R40}
use Rattle.g726_bits.specs.declared.Frame.{Frame}
use Rattle.talk_mix.specs.Mix.{limited, sum_at}
use Rattle.talk_mix.specs.declared.ticks.Tick.{Tick}
use Rattle.triple_table.specs.Rows.{Row}
use Rattle.tick_core.specs.declared.mixes.Mixes.{Mixes}

-- all voices, added up sample by sample and limited once
unfoldable pub whole : Tick → Frame
whole tick = map (λ place. limited (sum_at tick place)) (range_with_len 0 160)

-- the row at this place is of this rate and this mix
pub record IsRowFor (rows : List Row) (rate : Rate) (mixed : Frame) (at : ℕ) : Type 0 where
  pub row : Row
  pub there : slice_get rows at ≡ Some row
  pub rate_is : row.triple.rate ≡ rate
  pub mix_is : row.triple.mix ≡ mixed

abbrev pub IsLast : List Row → Rate → Frame → Option ℕ → Type 0
IsLast rows rate mixed None = Unit {0}
IsLast rows rate mixed (Some at) = IsRowFor rows rate mixed at

abbrev pub IsMade : Frame → Option Frame → Type 0
IsMade mixed None = Unit {0}
IsMade mixed (Some f) = f ≡ mixed

-- the mix of those who aren't heard is made of this tick, and the last rows are of it and of their rates
pub record Remembers (tick : Tick) (rows : List Row) (m : Mixes) : Type 0 where
  pub made : IsMade (whole tick) m.others
  pub at16 : IsLast rows R16 (whole tick) m.r16
  pub at24 : IsLast rows R24 (whole tick) m.r24
  pub at32 : IsLast rows R32 (whole tick) m.r32
  pub at40 : IsLast rows R40 (whole tick) m.r40
