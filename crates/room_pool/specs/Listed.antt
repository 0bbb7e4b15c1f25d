-- What a list of rooms says: the names of each room, or its first bad line.
use Rattle.std.specs.Prelude.{◌≢◌, ◌≤◌, All, ℕ, ◌+◌, Bool, not, ◌&&◌, nat_lt, if◌then◌else◌, List, [], ◌∷◌, ◌++◌, length, Option, None, Some, Result, Ok, Err}
use Rattle.std.specs.List.{list_any}
use Rattle.std.specs.Str.{bytes_eq, is_utf8}
use Rattle.roster_text.specs.Lines.{lines_of, words_of}
use Rattle.roster_text.specs.Roster.{is_skipped}
use Rattle.room_pool.specs.Named.{Named}

-- the names that a line of these words says: three words that are text
abbrev pub said_by : List (List ℕ) → Option Named
said_by (roster ∷ dump ∷ out ∷ []) =
    if is_utf8 roster && is_utf8 dump && is_utf8 out then Some (record { roster = roster; dump = dump; out = out }) else None
said_by words = None

-- there is a place for one more room with this output: fewer than 16 stand before, and none of them has it
abbrev pub has_place : List Named → List ℕ → Bool
has_place rooms out = nat_lt (length rooms) 16 && not (list_any (λ r. bytes_eq r.out out) rooms)

-- the rooms with one more behind them
abbrev pub with_room : List Named → Option Named → Option (List Named)
with_room rooms None = None
with_room rooms (Some n) = if has_place rooms n.out then Some (rooms ++ n ∷ []) else None

-- the rooms after one more line, unless it is bad
abbrev pub line_step : List Named → List (List ℕ) → Option (List Named)
line_step rooms words = if is_skipped words then Some rooms else with_room rooms (said_by words)

-- the whole list, where no line is left; without a room the line behind the last is bad
abbrev pub closed : ℕ → List Named → Result (List Named) ℕ
closed line [] = Err line
closed line (n ∷ rooms) = Ok (n ∷ rooms)

-- goes on after a line, or ends with it
abbrev pub goes : (List Named → Result (List Named) ℕ) → ℕ → Option (List Named) → Result (List Named) ℕ
goes f line None = Err line
goes f line (Some rooms) = f rooms

-- what these lines make of the rooms before, where the first has this number
abbrev pub lines_make : List (List ℕ) → ℕ → List Named → Result (List Named) ℕ
lines_make [] line rooms = closed line rooms
lines_make (l ∷ ls) line rooms = goes (λ next. lines_make ls (line + 1) next) line (line_step rooms (words_of l))

-- the rooms that a text lists, or its first bad line
abbrev pub room_list : List ℕ → Result (List Named) ℕ
room_list bytes = lines_make (lines_of bytes) 1 []

-- no two rooms have one output
abbrev pub Apart : List Named → Type 0
Apart [] = Unit {0}
Apart (n ∷ rooms) = All (λ m. m.out ≢ n.out) rooms × Apart rooms

-- what every list is, up to any of its lines
pub record IsList (rooms : List Named) : Type 0 where
  pub apart : Apart rooms
  pub few : length rooms ≤ 16
