use Rattle.std.proofs.Common.{◌≡◌, Some, None, sym, ap, ◌∙◌, rules}
use Rattle.std.specs.List.{position}
use Rattle.room_pool.specs.Kept.{has_name, octets_of}
use Rattle.room_pool.proofs.Filling.{stands_at, held_there, held_nowhere}
use Rattle.room_pool.proofs.filled.octets_among.Goals as goal

pub returns-in-Some : goal.returns-in-Some
returns-in-Some c =
    let files = c.args.files.now in
    let name = c.args.name.now in
    let f = c.index-files-at.result in
    let placed : position (has_name name) files ≡ Some c.in-Some.at = sym c.in-Some.ensures in
    c.octets.ensures ∙ sym (held_there files name c.in-Some.at f (stands_at files name c.in-Some.at f placed c.index-files-at.is))

pub returns-in-None : goal.returns-in-None
returns-in-None c =
    let none : position (has_name c.args.name.now) c.args.files.now ≡ None = sym c.in-None.ensures in
    sym (ap octets_of (held_nowhere c.args.files.now c.args.name.now none))
