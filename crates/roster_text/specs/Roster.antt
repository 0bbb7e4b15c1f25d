-- A roster: its timed commands and its end, or its first bad line.
use Rattle.std.specs.Prelude.{◌≡◌, ℕ, ◌+◌, ◌/◌, Bool, true, if◌then◌else◌, List, [], ◌∷◌, reverse, Option, None, Some, Result, Ok, Err, codes}
use Rattle.roster_text.specs.declared.commands.Timed.{Timed}
use Rattle.roster_text.specs.declared.entry.Entry.{Entry}
use Rattle.roster_text.specs.declared.entry.Entry.TheVariants.{Says, Ends}
use Rattle.roster_text.specs.declared.faults.RosterKind.{RosterKind}
use Rattle.roster_text.specs.declared.faults.RosterKind.TheVariants as kinds
use Rattle.roster_text.specs.Lines.{lines_of, words_of}
use Rattle.roster_text.specs.Grammar.{begins, if_right, said_by}
use Rattle.roster_text.specs.Places.{place_fault}

-- what a roster without a fault tells: its commands in their order, and the time of its end in milliseconds
pub record Told : Type 0 where
  pub timed : List Timed
  pub end : ℕ

-- a bad line, counted from 1
pub record Fault : Type 0 where
  pub line : ℕ
  pub kind : RosterKind

-- what is known after some lines: the commands from the newest, and the end, if there was one
pub record Known : Type 0 where
  pub past : List Timed
  pub end : Option ℕ

-- a line without a word, or whose first word begins with '#', says nothing
abbrev pub is_skipped : List (List ℕ) → Bool
is_skipped [] = true
is_skipped (w ∷ words) = begins (codes "#") w

-- what was said, if it may stand here
abbrev pub placed : List Timed → Entry → Result Entry RosterKind
placed past entry = elim (place_fault past entry) [ None ↦ Ok entry | Some kind ↦ Err kind ]

-- what a line that isn't skipped says after what is known
abbrev pub line_says : List Timed → Option ℕ → List (List ℕ) → Result Entry RosterKind
line_says past (Some end) words = Err kinds.AfterEnd
line_says past None words = if_right (said_by words) (placed past)

abbrev pub with_entry : Known → Entry → Known
with_entry known (Says t) = record { past = t ∷ known.past; end = known.end }
with_entry known (Ends at) = record { past = known.past; end = Some at }

-- what is known after one more line
abbrev pub line_step : Known → List (List ℕ) → Result Known RosterKind
line_step known words =
    if is_skipped words then Ok known else if_right (line_says known.past known.end words) (λ entry. Ok (with_entry known entry))

-- the whole roster, where no line is left, and its fault where there is no end
abbrev pub closed : ℕ → List Timed → Option ℕ → Result Told Fault
closed line past None = Err (record { line = line; kind = kinds.NoEnd })
closed line past (Some end) = Ok (record { timed = reverse past; end = end })

-- goes on after a line, or ends with that line's fault
abbrev pub goes : (Known → Result Told Fault) → ℕ → Result Known RosterKind → Result Told Fault
goes f line (Err kind) = Err (record { line = line; kind = kind })
goes f line (Ok known) = f known

-- what these lines make of what is known before, where the first has this number
abbrev pub lines_make : List (List ℕ) → ℕ → Known → Result Told Fault
lines_make [] line known = closed line known.past known.end
lines_make (l ∷ ls) line known = goes (λ next. lines_make ls (line + 1) next) line (line_step known (words_of l))

abbrev pub nothing_known : Known
nothing_known = record { past = []; end = None }

-- the roster that a text spells, or the first bad line
abbrev pub roster : List ℕ → Result Told Fault
roster bytes = lines_make (lines_of bytes) 1 nothing_known

-- some text spells this roster
abbrev pub IsRoster : Told → Type 0
IsRoster told = (bytes : List ℕ) × (roster bytes ≡ Ok told)

-- how many ticks of 20 ms a session has, the last one perhaps not whole
abbrev pub ticks_of : ℕ → ℕ
ticks_of end = (end + 19) / 20
