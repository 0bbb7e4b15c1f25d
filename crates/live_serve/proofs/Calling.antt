-- How the call ends, by the way that its steps ended.
use Rattle.std.proofs.Common.{◌≡◌, ◌≢◌, ℕ, ◌⊎◌, ⊎_elim, inl, inr, List, refl, sym, subst, arith}
use Rattle.std.specs.Prelude.{Option, Some, None, Ok, Err, IfSome}
use Rattle.edge_io.specs.Told.{Grows}
use Rattle.program_edge.specs.Report.{Tells, TellsAfter}
use Rattle.udp_edge.specs.Traffic.{Traffic}
use Rattle.live_spec.specs.declared.LiveSummary.{LiveSummary}
use Rattle.live_serve.specs.declared.status.ServeStatus.{ServeStatus}
use Rattle.live_serve.specs.declared.status.ServeStatus.TheVariants.{Done, Usage, RosterFault, RosterLong, PeersLong, PeerFault, PeerMissing, LinkFault, ReadFault, WriteFault, Memory}
use Rattle.live_serve.specs.Asked.{Asked, Ends, Unknown, Asks, Session, OnSession}
use Rattle.live_serve.specs.Texts.{line_of, summary_line}
use Rattle.live_serve.specs.Ends.{IsSessionEnd, WorkEnds, CallEnds}

-- what follows where it is so of the session that is asked
pub session-with : (a : Asked) (P Q : Session → Type 0) → ((s : Session) → P s → Q s) → OnSession a P → OnSession a Q
session-with (Ends s) P Q f h = tt
session-with Unknown P Q f h = tt
session-with (Asks session) P Q f h = f session h

-- where a link and a clock tell
pub both-with : {X Y : Type 0} (x : Option X) (y : Option Y) (P Q : X → Y → Type 0) → ((a : X) (b : Y) → P a b → Q a b)
    → IfSome x (λ a. IfSome y (λ b. P a b)) → IfSome x (λ a. IfSome y (λ b. Q a b))
both-with None y P Q f h = tt
both-with (Some a) None P Q f h = tt
both-with (Some a) (Some b) P Q f h = f a b h

-- the steps stopped before the link was opened
pub stop-ends : (old : Option Traffic) (answers : Option (List ℕ)) (session : Session) (s : ServeStatus) → (s ≡ ReadFault) ⊎ (s ≡ Memory)
    → IfSome old (λ told. IfSome answers (λ given. WorkEnds session told given old (Err s)))
stop-ends None answers session s h = tt
stop-ends (Some told) None session s h = tt
stop-ends (Some told) (Some given) session s h =
    let P : ServeStatus → Type 0 = λ q. WorkEnds session told given (Some told) (Err q) in
    ⊎_elim (λ e. subst P (sym e) refl) (λ e. subst P (sym e) (inl refl)) h

pub stop-session : (s : ServeStatus) → (s ≡ ReadFault) ⊎ (s ≡ Memory) → IsSessionEnd s
stop-session s h = ⊎_elim (λ e. subst IsSessionEnd (sym e) tt) (λ e. subst IsSessionEnd (sym e) tt) h

module _ (session : Session) (told : Traffic) (given : List ℕ) (now : Option Traffic) (old new : Option (List ℕ)) (rose : Type 0) where
  -- where all was run, the call ends as its summary's line was written
  pub said-ends : (summary : LiveSummary) (s : ServeStatus) → (s ≡ Done) ⊎ (s ≡ WriteFault) ⊎ (s ≡ Memory) → (s ≡ Done → Grows old new (summary_line summary))
      → (s ≢ Done → TellsAfter old new (summary_line summary) (line_of s) rose) → WorkEnds session told given now (Ok summary)
      → CallEnds session told given now old new rose s
  said-ends summary Done ends done cut h = (summary, h, done refl)
  said-ends summary WriteFault ends done cut h = (summary, h, cut (λ q. cc))
  said-ends summary Memory ends done cut h = inr (summary, h, cut (λ q. cc))
  said-ends summary Usage ends done cut h = absurd (grind arith)
  said-ends summary (RosterFault line kind) ends done cut h = absurd (grind arith)
  said-ends summary RosterLong ends done cut h = absurd (grind arith)
  said-ends summary PeersLong ends done cut h = absurd (grind arith)
  said-ends summary (PeerFault line kind) ends done cut h = absurd (grind arith)
  said-ends summary (PeerMissing member) ends done cut h = absurd (grind arith)
  said-ends summary LinkFault ends done cut h = absurd (grind arith)
  said-ends summary ReadFault ends done cut h = absurd (grind arith)

  -- where the steps were cut short, the status's line alone was told
  pub told-ends : (s : ServeStatus) → Tells old new (line_of s) rose → WorkEnds session told given now (Err s) → CallEnds session told given now old new rose s
  told-ends Done tells h = absurd h
  told-ends Usage tells h = h
  told-ends (RosterFault line kind) tells h = h
  told-ends RosterLong tells h = h
  told-ends PeersLong tells h = h
  told-ends (PeerFault line kind) tells h = h
  told-ends (PeerMissing member) tells h = h
  told-ends LinkFault tells h = (h, tells)
  told-ends ReadFault tells h = (h, tells)
  told-ends WriteFault tells h = absurd h
  told-ends Memory tells h = inl (h, tells)
