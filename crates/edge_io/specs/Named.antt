-- The files of a shelf in memory, by their names.
use Rattle.std.specs.Prelude.{ℕ, List, [], ◌∷◌, Option, Some, None}
use Rattle.std.specs.Bool.{if◌then◌else◌}
use Rattle.std.specs.Str.{bytes_eq}
use Rattle.edge_io.specs.declared.named.Named.{Named}
use Rattle.edge_io.specs.File.{File, missing, content}

-- the content of the first file with this name
abbrev pub content_among : List Named → List ℕ → Option (List ℕ)
content_among [] name = None
content_among (file ∷ files) name = if bytes_eq file.name name then Some file.content else content_among files name

-- what is told of a name that has this content, if any
abbrev pub file_with : Option (List ℕ) → File
file_with None = missing
file_with (Some octets) = content octets

-- the file of a name
abbrev pub file_among : List Named → List ℕ → File
file_among files name = file_with (content_among files name)
