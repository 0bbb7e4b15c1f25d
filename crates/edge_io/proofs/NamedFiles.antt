-- How a file is found among others, and what one more file changes.
use Rattle.std.proofs.Common.{◌≡◌, ◌≢◌, ◌<◌, ◌+◌, ◌∷◌, [], ◌++◌, ◌∙◌, ℕ, Bool, true, false, List, length, drop, get_or, refl, sym, ap, Option, Some, None}
use Rattle.std.specs.Bool.{Decides, if◌then◌else◌}
use Rattle.std.specs.Str.{bytes_eq}
use Rattle.std.proofs.lemmas.List.{drop_more}
use Rattle.std.proofs.lemmas.Slice.Eq.{bytes_eq-Decides}
use Rattle.edge_io.specs.declared.named.Named.{Named}
use Rattle.edge_io.specs.File.{missing, content}
use Rattle.edge_io.specs.Named.{content_among, file_among, file_with}

-- the file at a place has the name
pub found_here : (files : List Named) (name : List ℕ) (i : ℕ) (file : Named) → i < length files → get_or files i file ≡ file
    → bytes_eq file.name name ≡ true → content_among (drop i files) name ≡ Some file.content
found_here files name i file within is same = rw (drop_more files i file within, is, same) refl

-- it has another name
pub found_later : (files : List Named) (name : List ℕ) (i : ℕ) (file : Named) → i < length files → get_or files i file ≡ file
    → bytes_eq file.name name ≡ false → content_among (drop i files) name ≡ content_among (drop (i + 1) files) name
found_later files name i file within is other = rw (drop_more files i file within, is, other) refl

-- the first, and else the second
abbrev either : Option (List ℕ) → Option (List ℕ) → Option (List ℕ)
either (Some octets) other = Some octets
either None other = other

either-none : (first : Option (List ℕ)) → either first None ≡ first
either-none (Some octets) = refl
either-none None = refl

either-step : (b : Bool) (octets : List ℕ) (x y z : Option (List ℕ)) → x ≡ either y z
    → (if b then Some octets else x) ≡ either (if b then Some octets else y) z
either-step true octets x y z e = refl
either-step false octets x y z e = e

-- one more file is found where none before it has the name
found_behind : (files : List Named) (file : Named) (name : List ℕ)
    → content_among (files ++ file ∷ []) name ≡ either (content_among files name) (if bytes_eq file.name name then Some file.content else None)
found_behind [] file name = refl
found_behind (f ∷ files) file name = either-step (bytes_eq f.name name) f.content _ _ _ (found_behind files file name)

none_among : (found : Option (List ℕ)) → file_with found ≡ missing → found ≡ None
none_among None e = refl
none_among (Some octets) e = absurd (cc)

refused : (b : Bool) (P : Type 0) → Decides b P → ¬ P → b ≡ false
refused true P decides apart = absurd (apart (decides.0 refl))
refused false P decides apart = refl

same_name : (name : List ℕ) → bytes_eq name name ≡ true
same_name name = (bytes_eq-Decides name name).1 refl

-- under a name that isn't there, it is told
pub added_is_told : (files : List Named) (file : Named) → file_among files file.name ≡ missing
    → file_among (files ++ file ∷ []) file.name ≡ file_with (Some file.content)
added_is_told files file absent =
    let none : content_among files file.name ≡ None = none_among _ absent in
    let last : content_among (files ++ file ∷ []) file.name ≡ Some file.content =
    found_behind files file file.name ∙ rw (none, same_name file.name) refl in
    ap file_with last

-- and what is told of the others stays
pub others_stay : (files : List Named) (file : Named) (other : List ℕ) → other ≢ file.name
    → file_among (files ++ file ∷ []) other ≡ file_among files other
others_stay files file other apart =
    let not_it : bytes_eq file.name other ≡ false = refused _ _ (bytes_eq-Decides file.name other) (λ e. apart (sym e)) in
    let before : content_among (files ++ file ∷ []) other ≡ content_among files other =
    found_behind files file other ∙ rw not_it (either-none (content_among files other)) in
    ap file_with before
