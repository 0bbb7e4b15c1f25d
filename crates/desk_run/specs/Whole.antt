-- How a session ends: what then stands on the sink, and what was taken of the source.
use Rattle.std.specs.Prelude.{◌≡◌, ℕ, ◌<◌, ◌+◌, ◌-◌, ◌^◌, min, ◌⊎◌, Bool, true, false, List, ◌++◌, length, Option, Some, None}
use Rattle.edge_io.specs.Told.{Grows, GrowsByFront}
use Rattle.roster_text.specs.declared.commands.Timed.{Timed}
use Rattle.rtp_dump.specs.declared.faults.DumpKind.{DumpKind}
use Rattle.rtp_dump.specs.Capture.{capture}
use Rattle.conference_spec.specs.Codec.{g726}
use Rattle.conference_spec.specs.Feed.{Feed, closes, collects}
use Rattle.conference_spec.specs.Packets.{rest}
use Rattle.conference_spec.specs.Tasks.{due}
use Rattle.session_spec.specs.declared.Summary.{Summary}
use Rattle.session_spec.specs.Talkers.{Events}
use Rattle.session_spec.specs.Events.{feed_of, refused}
use Rattle.session_spec.specs.Captured.{items, part, ticks_ended, met, head_fault, events_over}
use Rattle.session_spec.specs.Answer.{answer_to, after_head, tick_text, ticks_text, sent_to, written, summary_of}
use Rattle.desk_run.specs.declared.stops.Stop.{Stop}
use Rattle.desk_run.specs.declared.stops.Stop.TheVariants as stop
use Rattle.desk_run.specs.declared.run.RunEnd.{RunEnd}
use Rattle.desk_run.specs.declared.run.RunEnd.TheVariants.{Done, Dump, Read, Write, Memory}

-- what a session is given: the roster's commands, the number of ticks, and the capture's octets
pub record Given : Type 0 where
  pub plan : List Timed
  pub ticks : ℕ
  pub bytes : List ℕ

-- what is left of the capture after it, and what the sink held before and holds after
pub record Traces : Type 0 where
  pub left : Option (List ℕ)
  pub old : Option (List ℕ)
  pub new : Option (List ℕ)

-- the events of the first ticks
abbrev pub events_to : Given → ℕ → Events
events_to given k = events_over given.plan (items (capture given.bytes)) k

-- the feed that they make
abbrev pub feed_to : Given → ℕ → Feed
feed_to given k = feed_of (events_to given k)

-- just the part of the capture that the session needs was read
pub record TakesPart (given : Given) (left : Option (List ℕ)) : Type 0 where
  pub front : List ℕ
  pub after : List ℕ
  pub whole : given.bytes ≡ front ++ after
  pub left_is : left ≡ Some after
  pub part_is : items (capture front) ≡ part given.ticks (items (capture given.bytes))
  pub no_fault : (capture front).fault ≡ None

-- all ticks were run and written; what is left after them is still to be
pub record HasRun (given : Given) (t : Traces) (desk : Events → Type 0) (conference : Feed → Type 0) (packets : ℕ) : Type 0 where
  pub head : head_fault given.bytes ≡ None
  pub faultless : met given.ticks (capture given.bytes) ≡ None
  pub answer : Grows t.old t.new (answer_to g726 given.ticks (feed_to given given.ticks))
  pub desk_stands : desk (events_to given given.ticks)
  pub conference_stands : conference (feed_to given given.ticks)
  pub counted : packets ≡ length (sent_to g726 given.ticks (feed_to given given.ticks))
  pub taken : TakesPart given t.left

-- the first feed has collected all that it closed, and it tells the same as the second of what is left and of the runs
pub record TellsSame (f g : Feed) : Type 0 where
  pub even : collects f ≡ closes f
  pub left : rest g726 f ≡ rest g726 g
  pub runs : due g726 f ≡ due g726 g

-- what is left after so many ticks was written, and the session summed up
pub record Leaves (ticks packets : ℕ) (old new : Option (List ℕ)) (h : Events) (summary : Summary) : Type 0 where
  pub wrote : Grows old new (tick_text ticks (rest g726 (feed_of h)))
  pub summary_is : summary ≡ record {
    ticks = ticks;
    runs = due g726 (feed_of h);
    packets = packets + length (rest g726 (feed_of h));
    refused = min (refused h) (2 ^ 64 - 1);
  }

-- the whole answer was written, and the summary is the session's
pub record Finished (given : Given) (t : Traces) (conference : Feed → Type 0) (summary : Summary) : Type 0 where
  pub head : head_fault given.bytes ≡ None
  pub faultless : met given.ticks (capture given.bytes) ≡ None
  pub answer : Grows t.old t.new (written g726 given.plan given.ticks given.bytes)
  pub summary_is : summary ≡ summary_of g726 given.plan given.ticks (capture given.bytes)
  pub feed : conference (feed_to given given.ticks)
  pub taken : TakesPart given t.left

-- a fault was met: in the line or the file head, or in tick k
abbrev pub MeetsFault : Given → Traces → ℕ → DumpKind → Type 0
MeetsFault given t at kind =
    ((head_fault given.bytes ≡ Some (record { at = at; kind = kind })) × (t.new ≡ t.old))
    ⊎ ((head_fault given.bytes ≡ None) × (k : ℕ) × (met given.ticks (capture given.bytes) ≡ Some (record { fault = record { at = at; kind = kind }; tick = k }))
    × Grows t.old t.new (answer_to g726 k (feed_to given k)))

-- A read failed. What was taken is a front: of the line and the file head, and nothing was written; or its records end the ticks that
-- were written.
pub record Stalled (given : Given) (t : Traces) : Type 0 where
  pub front : List ℕ
  pub after : List ℕ
  pub whole : given.bytes ≡ front ++ after
  pub left_is : t.left ≡ Some after
  pub below : head_fault front ≡ None → ticks_ended (items (capture front)) < given.ticks
  pub answer : let k = ticks_ended (items (capture front)) in
      Grows t.old t.new (after_head (head_fault front) (ticks_text g726 k (feed_to given k)))

-- a front of all that the session can write stands on the sink
abbrev pub WritesFront : Given → Traces → Type 0
WritesFront given t = GrowsByFront t.old t.new (written g726 given.plan given.ticks given.bytes)

-- what ended a session before its answer was whole, and what was written and taken
abbrev pub HasStopped : Given → Traces → Stop → Type 0
HasStopped given t (stop.Dump at kind) = MeetsFault given t at kind
HasStopped given t stop.Read = Stalled given t
HasStopped given t stop.Write = WritesFront given t
HasStopped given t stop.Memory = WritesFront given t

-- the same as the end of a run
abbrev pub end_of : Stop → RunEnd
end_of (stop.Dump at kind) = Dump at kind
end_of stop.Read = Read
end_of stop.Write = Write
end_of stop.Memory = Memory

-- whether a run ended with a failed write
abbrev pub run_write_failed : RunEnd → Bool
run_write_failed (Done summary) = false
run_write_failed (Dump at kind) = false
run_write_failed Read = false
run_write_failed Write = true
run_write_failed Memory = false

abbrev pub RunEnds : Given → Traces → (Feed → Type 0) → RunEnd → Type 0
RunEnds given t conference (Done summary) = Finished given t conference summary
RunEnds given t conference (Dump at kind) = MeetsFault given t at kind
RunEnds given t conference Read = Stalled given t
RunEnds given t conference Write = WritesFront given t
RunEnds given t conference Memory = WritesFront given t
