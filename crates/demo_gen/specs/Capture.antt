-- The capture of a demo session.
use Rattle.std.specs.Prelude.{ℕ, ◌+◌, ◌*◌, List, [], ◌∷◌, ◌++◌, replicate}
use Rattle.std.specs.List.{flat_map}
use Rattle.rtp_dump.specs.declared.item.DumpItem.{DumpItem}
use Rattle.rtp_dump.specs.Spelling.{record_octets}
use Rattle.rtp_dump.specs.Writing.{output_head, written}
use Rattle.rtp_head.specs.Rtp.{head_octets}
use Rattle.demo_gen.specs.declared.turns.Turn.{Turn}
use Rattle.demo_gen.specs.Draws.{draws}
use Rattle.demo_gen.specs.Turns.{turns_before, tick_count, head, copies}

-- the packet of a turn with this speech, as a record; the offset is the tick's start in milliseconds
abbrev pub item : Turn → List ℕ → DumpItem
item t speech = written (20 * t.tick) (head_octets (head t) ++ speech)

-- the records of a session's turns from the one at a place on: each has 160 draws, after those of the turns before it
abbrev pub items_from : ℕ → ℕ → List Turn → List DumpItem
items_from number place [] = []
items_from number place (t ∷ turns) =
    replicate (copies t) (item t (draws number (160 * place) 160)) ++ items_from number (place + 1) turns

-- the records of the session
abbrev pub items : ℕ → List DumpItem
items number = items_from number 0 (turns_before tick_count)

-- line and file head, and the records
unfoldable pub capture : ℕ → List ℕ
capture number = output_head ++ flat_map record_octets (items number)
