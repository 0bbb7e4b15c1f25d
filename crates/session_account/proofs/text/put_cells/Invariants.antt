use Rattle.std.proofs.Common.{◌≡◌, ◌++◌, take, map}
use Rattle.std.specs.List.{flat_map}
use Rattle.session_account.specs.Cells.{said}
use Rattle.session_account.specs.Forms.{other_of, number_text}
use Rattle.session_account.proofs.text.put_cells.Given as goal

abbrev pub invariant-loop-cell : goal.invariant-loop-cell
invariant-loop-cell l =
    l.text.items ≡ l.initial.text.items ++ flat_map (λ m. other_of l.form ++ number_text l.form m) (map said (take l.cell-index l.others))
