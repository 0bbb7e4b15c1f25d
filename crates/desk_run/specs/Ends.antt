-- How a tick ends.
use Rattle.std.specs.Prelude.{◌≡◌, ℕ, ◌<◌, ◌≤◌, ◌+◌, ◌*◌, ◌⊎◌, List, ◌++◌, length, Option, Some, None}
use Rattle.edge_io.specs.Told.{Grows, GrowsByFront}
use Rattle.roster_text.specs.declared.commands.Timed.{Timed}
use Rattle.rtp_dump.specs.declared.faults.DumpKind.{DumpKind}
use Rattle.rtp_dump.specs.declared.faults.DumpFault.{DumpFault}
use Rattle.rtp_dump.specs.declared.faults.DumpFault.TheVariants as fault
use Rattle.rtp_dump.specs.Reading.{Reading, ahead}
use Rattle.conference_spec.specs.Codec.{g726}
use Rattle.conference_spec.specs.Feed.{Feed, closes, kept}
use Rattle.session_spec.specs.Talkers.{Events}
use Rattle.session_spec.specs.Events.{feed_of, kept_before, after_tick}
use Rattle.session_spec.specs.Captured.{items, part, ticks_ended, met, events_over}
use Rattle.session_spec.specs.Answer.{ticks_text, sent_to, text_of}
use Rattle.desk_run.specs.declared.stops.Stop.{Stop}
use Rattle.desk_run.specs.declared.stops.Stop.TheVariants.{Dump, Read, Write, Memory}
use Rattle.desk_run.specs.Handing.{Amount}
use Rattle.desk_run.specs.Taking.{Heard, Broken}

-- so many of the answer's ticks stand on the sink, and their packets were counted
pub record HasWritten (old new : Option (List ℕ)) (w : Amount) (h : Feed) : Type 0 where
  pub wrote : Grows old new (ticks_text g726 w.ticks h)
  pub counted : w.packets ≡ length (sent_to g726 w.ticks h)

-- Desk, conference and answer stand as they do before tick k, after these events. Ticks that were closed may still be to be
-- handed out.
pub record Between (desk : Events → Type 0) (conference : Feed → ℕ → Type 0) (old new : Option (List ℕ)) (w : Amount) (k : ℕ) (h : Events) : Type 0 where
  pub desk_stands : desk h
  pub conference_stands : conference (feed_of h) w.ticks
  pub closed : closes (feed_of h) ≡ k
  pub behind : w.ticks ≤ k
  pub kept_is : kept (feed_of h) ≡ kept_before k
  pub written : HasWritten old new w (feed_of h)

-- after the reader gave up all ticks before were written, or a front of them
abbrev pub GivesUp : DumpFault → (whole front : Type 0) → Stop → Type 0
GivesUp why whole front (Dump at kind) = (why ≡ fault.Bad at kind) × whole
GivesUp why whole front Read = (why ≡ fault.Read) × whole
GivesUp why whole front Write = front
GivesUp why whole front Memory = front

-- by the end of tick k, where P held before it: the text of the ticks before stands on the sink, or a front of it
abbrev pub HasTextTo : (Option (List ℕ) → Events → Type 0) → Option (List ℕ) → ℕ → Type 0
HasTextTo before now k = (start : Option (List ℕ)) (h : Events) → before start h → Grows start now (ticks_text g726 k (feed_of h))

abbrev pub HasFrontTo : (Option (List ℕ) → Events → Type 0) → Option (List ℕ) → ℕ → Type 0
HasFrontTo before now k = (start : Option (List ℕ)) (h : Events) → before start h → GrowsByFront start now (ticks_text g726 k (feed_of h))

module _ {S : Type 0} (rest : S → Option (List ℕ)) (r r' : Reading S) (plan : List Timed) (k : ℕ) where
  -- the records of tick k were heard, and what holds before it leads to what holds after it
  abbrev pub HearsTick : (Option (List ℕ) → Events → Type 0) → (Option (List ℕ) → Events → Type 0) → Type 0
  HearsTick before after = Heard rest r r' (20 * (k + 1)) (λ its. (start : Option (List ℕ)) (h : Events) → before start h
      → after start (after_tick plan k its h))

  -- all of its records were heard, and a front of what was to be written by its end was
  abbrev pub EndsLate : (Option (List ℕ) → Events → Type 0) → Option (List ℕ) → Type 0
  EndsLate before now = HearsTick before (λ start h. GrowsByFront start now (ticks_text g726 (k + 1) (feed_of h)))

  -- It was stopped: the reader gave up, and the ticks before were written; or a front of these was, or of this tick too.
  abbrev pub TickStops : (Option (List ℕ) → Events → Type 0) → Option (List ℕ) → Stop → Type 0
  TickStops before now (Dump at kind) = Broken rest r r' (20 * (k + 1)) (fault.Bad at kind) × HasTextTo before now k
  TickStops before now Read = Broken rest r r' (20 * (k + 1)) fault.Read × HasTextTo before now k
  TickStops before now Write = HasFrontTo before now k ⊎ EndsLate before now
  TickStops before now Memory = HasFrontTo before now k ⊎ EndsLate before now

module _ {S : Type 0} (reader : Reading S) (octets : List ℕ) (left : Option (List ℕ)) (plan : List Timed) (ticks : ℕ) (old new : Option (List ℕ)) where
  -- All ticks were run over what lay ahead of a reader, in these octets: no fault was met, the text stands on the sink, and just the part
  -- that the session needs was read.
  pub record AllRun (desk : Events → Type 0) (conference : Feed → Type 0) (packets : ℕ) : Type 0 where
    pub faultless : met ticks (ahead reader octets) ≡ None
    pub wrote : Grows old new (ticks_text g726 ticks (feed_of (events_over plan (items (ahead reader octets)) ticks)))
    pub desk_stands : desk (events_over plan (items (ahead reader octets)) ticks)
    pub conference_stands : conference (feed_of (events_over plan (items (ahead reader octets)) ticks))
    pub counted : packets ≡ length (sent_to g726 ticks (feed_of (events_over plan (items (ahead reader octets)) ticks)))
    pub front : List ℕ
    pub after : List ℕ
    pub whole : octets ≡ front ++ after
    pub left_is : left ≡ Some after
    pub part_is : items (ahead reader front) ≡ part ticks (items (ahead reader octets))
    pub no_fault : (ahead reader front).fault ≡ None

  -- a fault was met in tick k, and the text up to that tick was written
  abbrev pub Meets : ℕ → DumpKind → Type 0
  Meets at kind =
      (k : ℕ) × (met ticks (ahead reader octets) ≡ Some (record { fault = record { at = at; kind = kind }; tick = k }))
      × Grows old new (ticks_text g726 k (feed_of (events_over plan (items (ahead reader octets)) k)))

  -- a read failed: the records that were wholly taken end the ticks that were written
  pub record Stalls : Type 0 where
    pub front : List ℕ
    pub after : List ℕ
    pub whole : octets ≡ front ++ after
    pub left_is : left ≡ Some after
    pub below : ticks_ended (items (ahead reader front)) < ticks
    pub wrote : let k = ticks_ended (items (ahead reader front)) in
        Grows old new (ticks_text g726 k (feed_of (events_over plan (items (ahead reader octets)) k)))

  -- what ended a run over ticks, and what was written
  abbrev pub OnStop : Stop → Type 0
  OnStop (Dump at kind) = Meets at kind
  OnStop Read = Stalls
  OnStop Write = GrowsByFront old new (text_of g726 plan ticks (ahead reader octets))
  OnStop Memory = GrowsByFront old new (text_of g726 plan ticks (ahead reader octets))
