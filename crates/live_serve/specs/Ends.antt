-- How a call ends, and what then stands on its ends.
use Rattle.std.specs.Prelude.{◌≡◌, ◌⊎◌, ℕ, List, Option, Some, IfSome, Result, Ok, Err}
use Rattle.edge_io.specs.Told.{Grows}
use Rattle.program_edge.specs.Report.{Tells, TellsAfter}
use Rattle.udp_edge.specs.Traffic.{Traffic}
use Rattle.live_spec.specs.declared.LiveSummary.{LiveSummary}
use Rattle.live_run.specs.Ended.{live_of, Runs, SendsFront}
use Rattle.live_serve.specs.declared.status.ServeStatus.{ServeStatus}
use Rattle.live_serve.specs.declared.status.ServeStatus.TheVariants.{Done, Usage, RosterFault, RosterLong, PeersLong, PeerFault, PeerMissing, LinkFault, ReadFault, WriteFault, Memory}
use Rattle.live_serve.specs.Asked.{Session}
use Rattle.live_serve.specs.Texts.{line_of, summary_line}

-- so the call ended, or for want of memory, or a file couldn't be read
abbrev pub MayEnd : ServeStatus → ServeStatus → Type 0
MayEnd result status = (result ≡ status) ⊎ (result ≡ Memory) ⊎ (result ≡ ReadFault)

-- the statuses that words and files ask for
abbrev pub IsAskedEnd : ServeStatus → Type 0
IsAskedEnd Usage = Unit {0}
IsAskedEnd (RosterFault line kind) = Unit {0}
IsAskedEnd RosterLong = Unit {0}
IsAskedEnd PeersLong = Unit {0}
IsAskedEnd (PeerFault line kind) = Unit {0}
IsAskedEnd (PeerMissing member) = Unit {0}
IsAskedEnd status = ⊥

-- those that are met before the link is opened
abbrev pub IsBeforeOpen : ServeStatus → Type 0
IsBeforeOpen ReadFault = Unit {0}
IsBeforeOpen status = IsAskedEnd status

-- those of a session
abbrev pub IsSessionEnd : ServeStatus → Type 0
IsSessionEnd Done = Unit {0}
IsSessionEnd LinkFault = Unit {0}
IsSessionEnd ReadFault = Unit {0}
IsSessionEnd WriteFault = Unit {0}
IsSessionEnd Memory = Unit {0}
IsSessionEnd status = ⊥

-- those of a session that isn't run whole
abbrev pub IsRunEnd : ServeStatus → Type 0
IsRunEnd LinkFault = Unit {0}
IsRunEnd Memory = Unit {0}
IsRunEnd status = ⊥

-- those without a summary
abbrev pub IsWorkEnd : ServeStatus → Type 0
IsWorkEnd Done = ⊥
IsWorkEnd WriteFault = ⊥
IsWorkEnd status = Unit {0}

-- there is no summary: so the steps ended, or for want of memory, or a file couldn't be read
abbrev pub EndsEarly : Result LiveSummary ServeStatus → ServeStatus → Type 0
EndsEarly (Ok summary) status = ⊥
EndsEarly (Err end) status = MayEnd end status

-- the link was opened at a port
abbrev pub opened : Traffic → ℕ → Traffic
opened told port = record told { port = Some port }

module _ (session : Session) (told : Traffic) (answers : List ℕ) (now : Option Traffic) where
  -- the whole session was run, and came to this
  abbrev pub Ran : LiveSummary → Type 0
  Ran summary = Runs session.peers session.plan session.ticks (live_of told answers) (Some (opened told session.port)) now summary

  -- nothing was tried, or a front of the session's letters
  abbrev pub RanFront : Type 0
  RanFront = (now ≡ Some told) ⊎ SendsFront session.peers session.plan session.ticks (live_of told answers) (Some (opened told session.port)) now

  -- the steps up to the summary ended so
  abbrev pub WorkEnds : Result LiveSummary ServeStatus → Type 0
  WorkEnds (Ok summary) = Ran summary
  WorkEnds (Err LinkFault) = now ≡ Some (opened told session.port)
  WorkEnds (Err ReadFault) = now ≡ Some told
  WorkEnds (Err Memory) = RanFront
  WorkEnds (Err status) = ⊥

  module _ (old new : Option (List ℕ)) (rose : Type 0) where
    -- the whole session was run, but its summary couldn't be written: a front of it stands before the status's own line
    abbrev pub Unsaid : ServeStatus → Type 0
    Unsaid status = (summary : LiveSummary) × Ran summary × TellsAfter old new (summary_line summary) (line_of status) rose

    -- a call that is asked this session ended so
    abbrev pub CallEnds : ServeStatus → Type 0
    CallEnds Done = (summary : LiveSummary) × Ran summary × Grows old new (summary_line summary)
    CallEnds WriteFault = Unsaid WriteFault
    CallEnds Memory = (RanFront × Tells old new (line_of Memory) rose) ⊎ Unsaid Memory
    CallEnds LinkFault = (now ≡ Some (opened told session.port)) × Tells old new (line_of LinkFault) rose
    CallEnds ReadFault = (now ≡ Some told) × Tells old new (line_of ReadFault) rose
    CallEnds status = ⊥

-- what stands on the error stream: the summary's line; or the status's own, before which a front of a summary's line may stand
abbrev pub Reported : ServeStatus → Option (List ℕ) → Option (List ℕ) → (rose : Type 0) → Type 0
Reported Done old new rose = (s : LiveSummary) × Grows old new (summary_line s)
Reported WriteFault old new rose = (s : LiveSummary) × TellsAfter old new (summary_line s) (line_of WriteFault) rose × rose
Reported Memory old new rose = Tells old new (line_of Memory) rose ⊎ ((s : LiveSummary) × TellsAfter old new (summary_line s) (line_of Memory) rose × rose)
Reported status old new rose = Tells old new (line_of status) rose

-- at the end of a session and where the link couldn't be opened, the port is told
abbrev pub PortTold : ServeStatus → Option Traffic → Option Traffic → ℕ → Type 0
PortTold Done old new port = IfSome old (λ told. IfSome new (λ now. now.port ≡ Some port))
PortTold LinkFault old new port = IfSome old (λ told. new ≡ Some (opened told port))
PortTold status old new port = Unit {0}

-- the same of the steps up to the summary
abbrev pub WorkPort : Result LiveSummary ServeStatus → Option Traffic → Option Traffic → ℕ → Type 0
WorkPort (Ok summary) old new port = PortTold Done old new port
WorkPort (Err status) old new port = PortTold status old new port
