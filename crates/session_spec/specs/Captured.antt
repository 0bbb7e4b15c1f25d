-- Which records of a capture are heard in which tick, and in which tick a fault is met.
use Rattle.std.specs.Prelude.{ℕ, zero, suc, ◌+◌, ◌/◌, max, min, nat_lt, if◌then◌else◌, List, [], ◌∷◌, ◌++◌, map, take, Option, Some, None, Result, Ok, Err}
use Rattle.roster_text.specs.declared.commands.Timed.{Timed}
use Rattle.rtp_dump.specs.declared.item.DumpItem.{DumpItem}
use Rattle.rtp_dump.specs.Spelling.{Fault, Capture}
use Rattle.rtp_dump.specs.Capture.{opening}
use Rattle.session_spec.specs.Talkers.{Events}
use Rattle.session_spec.specs.Events.{begin_of, events}

-- the records up to and without the first at or past a moment
abbrev pub until : ℕ → List DumpItem → List DumpItem
until moment [] = []
until moment (i ∷ is) = if nat_lt i.offset moment then i ∷ until moment is else []

-- those from that one on
abbrev pub from : ℕ → List DumpItem → List DumpItem
from moment [] = []
from moment (i ∷ is) = if nat_lt i.offset moment then from moment is else i ∷ is

-- The records of tick k. Offsets need not rise: a record past a tick holds back all that follow it.
abbrev pub heard_in : List DumpItem → ℕ → List DumpItem
heard_in items k = until (begin_of (k + 1)) (from (begin_of k) items)

-- how many ticks these records end: each ends all ticks before its own
abbrev pub ticks_ended : List DumpItem → ℕ
ticks_ended [] = 0
ticks_ended (i ∷ is) = max (i.offset / 20) (ticks_ended is)

-- the records of a capture, without their places
abbrev pub items : Capture → List DumpItem
items c = map (λ placed. placed.item) c.records

-- how many of a session's ticks can be run: all of them, or those before the one that meets the fault
abbrev pub ticks_before : ℕ → List DumpItem → Option Fault → ℕ
ticks_before ticks items None = ticks
ticks_before ticks items (Some fault) = min ticks (ticks_ended items)

abbrev pub ticks_run : ℕ → Capture → ℕ
ticks_run ticks c = ticks_before ticks (items c) c.fault

-- a fault, and the tick that it is met in
pub record Meeting : Type 0 where
  pub fault : Fault
  pub tick : ℕ

abbrev pub met_after : ℕ → List DumpItem → Option Fault → Option Meeting
met_after ticks items None = None
met_after ticks items (Some fault) =
    if nat_lt (ticks_ended items) ticks then Some (record { fault = fault; tick = ticks_ended items }) else None

-- the fault that is met among the records, if there is one
abbrev pub met : ℕ → Capture → Option Meeting
met ticks c = met_after ticks (items c) c.fault

-- the fault in the line or the file head, which is met before any tick
abbrev pub fault_in : Result ℕ Fault → Option Fault
fault_in (Ok len) = None
fault_in (Err fault) = Some fault

abbrev pub head_fault : List ℕ → Option Fault
head_fault bytes = fault_in (opening bytes)

-- the records that a session takes: up to and with the first that ends its last tick
abbrev pub part : ℕ → List DumpItem → List DumpItem
part zero items = []
part (suc k) items = until (begin_of (k + 1)) items ++ take 1 (from (begin_of (k + 1)) items)

-- the events of the first ticks of a session over a capture's records
abbrev pub events_over : List Timed → List DumpItem → ℕ → Events
events_over plan items k = events plan (heard_in items) k
