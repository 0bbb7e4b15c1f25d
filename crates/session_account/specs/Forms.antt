-- A report's text in its two forms: lines of names and numbers, or one document of JSON (RFC 8259).
use Rattle.std.specs.Prelude.{ℕ, List, [], ◌∷◌, ◌++◌, codes, decimal}
use Rattle.std.specs.List.{flat_map}
use Rattle.session_account.specs.declared.forms.Form.{Form}
use Rattle.session_account.specs.declared.forms.Form.TheVariants.{Table, Json}

-- a number with its name
pub record Named : Type 0 where
  pub name : List ℕ
  pub value : ℕ

-- the parts of a document of JSON are the members of an object
abbrev pub begin_of : Form → List ℕ
begin_of Table = []
begin_of Json = codes "{"

abbrev pub end_of : Form → List ℕ
end_of Table = []
end_of Json = codes "}\n"

-- in front of a number's name, where another stands before it in its row
abbrev pub other_of : Form → List ℕ
other_of Table = codes " "
other_of Json = codes ",\""

-- between a number's name and the number
abbrev pub mid_of : Form → List ℕ
mid_of Table = codes " "
mid_of Json = codes "\":"

-- behind a row
abbrev pub close_of : Form → List ℕ
close_of Table = codes "\n"
close_of Json = codes "}"

-- behind rows of one kind
abbrev pub tail_of : Form → List ℕ
tail_of Table = []
tail_of Json = codes "]"

-- between two rows of one kind, and between two parts
abbrev pub sep_of : Form → List ℕ
sep_of Table = []
sep_of Json = codes ",\n"

-- in front of a row: its name, or what opens an object up to the name of the first number
abbrev pub open_of : Form → List ℕ → List ℕ
open_of Table name = name ++ codes " "
open_of Json name = codes "{\""

-- in JSON a part's name in quotes, with what follows it
abbrev pub lead_of : Form → List ℕ → List ℕ → List ℕ
lead_of Table name after = []
lead_of Json name after = codes "\"" ++ name ++ after

-- in front of a part that is one row, and of one that is rows of one kind
abbrev pub single_of : Form → List ℕ → List ℕ
single_of form name = lead_of form name (codes "\":")

abbrev pub head_of : Form → List ℕ → List ℕ
head_of form name = lead_of form name (codes "\":[")

-- a number: its name, and its digits without leading zeros
abbrev pub number_text : Form → Named → List ℕ
number_text form n = n.name ++ mid_of form ++ decimal n.value

abbrev pub numbers_text : Form → List Named → List ℕ
numbers_text form [] = []
numbers_text form (n ∷ ns) = number_text form n ++ flat_map (λ m. other_of form ++ number_text form m) ns

-- a row of this name
abbrev pub row_text : Form → List ℕ → List Named → List ℕ
row_text form name ns = open_of form name ++ numbers_text form ns ++ close_of form

-- rows, parted
abbrev pub rows_text : Form → List ℕ → List (List Named) → List ℕ
rows_text form name [] = []
rows_text form name (r ∷ rs) = row_text form name r ++ flat_map (λ s. sep_of form ++ row_text form name s) rs

-- a part of one row, and a part of rows of one kind, of which each has this name
abbrev pub single_text : Form → List ℕ → List Named → List ℕ
single_text form name ns = single_of form name ++ row_text form name ns

abbrev pub list_text : Form → List ℕ → List (List Named) → List ℕ
list_text form name rows = head_of form name ++ rows_text form name rows ++ tail_of form
