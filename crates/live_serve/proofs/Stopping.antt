-- How the call ends before the link is opened.
use Rattle.std.proofs.Common.{◌≡◌, ◌∙◌, ℕ, ◌≤◌, arith, ◌⊎◌, inl, inr, List, refl, sym, ap, subst}
use Rattle.std.specs.Prelude.{Option, Some, None, Result, Ok, Err, IfErr}
use Rattle.edge_io.specs.File.{File, content}
use Rattle.edge_io.specs.Told.{Rose}
use Rattle.roster_text.specs.Roster.{Told, roster}
use Rattle.live_serve.specs.CommandLine.{Form}
use Rattle.live_serve.specs.declared.preparing.Prepared.{Prepared}
use Rattle.live_serve.specs.declared.status.ServeStatus.{ServeStatus}
use Rattle.live_serve.specs.declared.status.ServeStatus.TheVariants.{Done, Usage, RosterFault, RosterLong, PeersLong, PeerFault, PeerMissing, LinkFault, ReadFault, WriteFault, Memory}
use Rattle.live_serve.specs.Asked.{Asked, Ends, Unknown, Asks, Session, asked_by, with_roster, with_peers, peers_of, CanBe, MayAsk, OnEnd, OnSession}
use Rattle.live_serve.specs.Ends.{MayEnd, IsAskedEnd, IsBeforeOpen}
use Rattle.live_serve.specs.Steps.{HasRoster, NoRoster, NoPeers, Stops}
use Rattle.live_serve.proofs.Asking.{after_roster, after_peers, from_roster, from_peers, GoesOn, goes-then, end-goes, session-goes, can-be-self, text-goes, text-makes, long-goes, long-whole, long-file, roster-makes}

-- whatever is asked
end-any : (a : Asked) (Q : ServeStatus → Type 0) → ((s : ServeStatus) → Q s) → OnEnd a Q
end-any (Ends s) Q q = q s
end-any Unknown Q q = tt
end-any (Asks session) Q q = tt

session-any : (a : Asked) (Q : Session → Type 0) → ((s : Session) → Q s) → OnSession a Q
session-any (Ends s) Q q = tt
session-any Unknown Q q = tt
session-any (Asks session) Q q = q session

asked-before : (s : ServeStatus) → IsAskedEnd s → IsBeforeOpen s
asked-before Done h = absurd h
asked-before Usage h = h
asked-before (RosterFault line kind) h = h
asked-before RosterLong h = h
asked-before PeersLong h = h
asked-before (PeerFault line kind) h = h
asked-before (PeerMissing member) h = h
asked-before LinkFault h = absurd h
asked-before ReadFault h = absurd h
asked-before WriteFault h = absurd h
asked-before Memory h = absurd h

-- no words of the program
pub usage-stops : (file : List ℕ → File) (rose : Type 0) → Stops None file rose Usage
usage-stops file rose = record {
  on_end = inl refl;
  only = λ _. refl;
  on_session = tt;
  read = λ e. cc;
  early = inl tt;
}

module _ (form : Form) (file : List ℕ → File) (rose : Type 0) where
  abbrev all : Asked
  all = asked_by form.port (file form.roster) (file form.peers)

  -- it ends as it is asked
  asked-stops : (s : ServeStatus) → GoesOn all (Ends s) → IsAskedEnd s → MayAsk (Some form) file s → Stops (Some form) file rose s
  asked-stops s goes is may = record {
    on_end = end-goes all (Ends s) (λ end. MayEnd s end) goes (inl refl);
    only = λ _. may;
    on_session = session-goes all (Ends s) (λ session. (s ≡ ReadFault) ⊎ (s ≡ Memory)) goes tt;
    read = λ e. absurd (subst IsAskedEnd e is);
    early = inl (asked-before s is);
  }

  read-stops : rose → Stops (Some form) file rose ReadFault
  read-stops rises = record {
    on_end = end-any all (λ end. MayEnd ReadFault end) (λ end. inr (inr refl));
    only = λ h. absurd h;
    on_session = session-any all (λ session. (ReadFault ≡ ReadFault) ⊎ (ReadFault ≡ Memory)) (λ session. inl refl);
    read = λ _. rises;
    early = inl tt;
  }

  memory-stops : Stops (Some form) file rose Memory
  memory-stops = record {
    on_end = end-any all (λ end. MayEnd Memory end) (λ end. inr (inl refl));
    only = λ h. absurd h;
    on_session = session-any all (λ session. (Memory ≡ ReadFault) ⊎ (Memory ≡ Memory)) (λ session. inr refl);
    read = λ e. cc;
    early = inr refl;
  }

  -- no roster was read
  pub roster-stops : (s : ServeStatus) → NoRoster (file form.roster) rose s → Stops (Some form) file rose s
  roster-stops Done h = absurd h
  roster-stops Usage h = absurd h
  roster-stops (RosterFault line kind) h =
      let next : Asked = Ends (RosterFault line kind) in
      let P : List ℕ → Type 0 = λ text. roster text ≡ Err (record { line = line; kind = kind }) in
      let makes : (text : List ℕ) → P text → from_roster form.port (file form.peers) text ≡ next =
      λ text e. ap (λ r. with_roster r (after_roster form.port (file form.peers))) e in
      asked-stops (RosterFault line kind)
      (text-goes (file form.roster) RosterLong (from_roster form.port (file form.peers)) next P makes h) tt (
        content h.text,
        file form.peers,
        h.can_be,
        can-be-self (file form.peers),
        text-makes (file form.roster) RosterLong (from_roster form.port (file form.peers)) next P makes h,
      )
  roster-stops RosterLong h =
      let whole = long-whole (file form.roster) h in
      asked-stops RosterLong (long-goes (file form.roster) RosterLong (from_roster form.port (file form.peers)) h) tt
      (content whole.0, file form.peers, whole.1, can-be-self (file form.peers), long-file whole.0 RosterLong (from_roster form.port (file form.peers)) whole.2)
  roster-stops PeersLong h = absurd h
  roster-stops (PeerFault line kind) h = absurd h
  roster-stops (PeerMissing member) h = absurd h
  roster-stops LinkFault h = absurd h
  roster-stops ReadFault h = read-stops h
  roster-stops WriteFault h = absurd h
  roster-stops Memory h = memory-stops

  module _ (told : Told) (has : HasRoster (file form.roster) told) where
    -- what follows the roster
    roster-goes : GoesOn all (after_roster form.port (file form.peers) told)
    roster-goes = text-goes (file form.roster) RosterLong (from_roster form.port (file form.peers)) (after_roster form.port (file form.peers) told)
        (λ text. roster text ≡ Ok told) (roster-makes form.port (file form.peers) told) has

    roster-whole : (listings : File) → asked_by form.port (content has.text) listings ≡ after_roster form.port listings told
    roster-whole listings = text-makes (file form.roster) RosterLong (from_roster form.port listings) (after_roster form.port listings told)
        (λ text. roster text ≡ Ok told) (roster-makes form.port listings told) has

    next-stops : (s : ServeStatus) → GoesOn (after_roster form.port (file form.peers) told) (Ends s) → IsAskedEnd s
        → (listings : File) → CanBe (file form.peers) listings → after_roster form.port listings told ≡ Ends s → Stops (Some form) file rose s
    next-stops s goes is listings can whole =
        asked-stops s (goes-then all (after_roster form.port (file form.peers) told) (Ends s) roster-goes goes) is
        (content has.text, listings, has.can_be, can, roster-whole listings ∙ whole)

    -- no peers were read
    pub peers-stops : (s : ServeStatus) → NoPeers (file form.peers) rose s → Stops (Some form) file rose s
    peers-stops Done h = absurd h
    peers-stops Usage h = absurd h
    peers-stops (RosterFault line kind) h = absurd h
    peers-stops RosterLong h = absurd h
    peers-stops PeersLong h =
        let whole = long-whole (file form.peers) h in
        next-stops PeersLong (long-goes (file form.peers) PeersLong (from_peers form.port told) h) tt
        (content whole.0) whole.1 (long-file whole.0 PeersLong (from_peers form.port told) whole.2)
    peers-stops (PeerFault line kind) h =
        let next : Asked = Ends (PeerFault line kind) in
        let P : List ℕ → Type 0 = λ text. peers_of text ≡ Err (record { line = line; kind = kind }) in
        let makes : (text : List ℕ) → P text → from_peers form.port told text ≡ next =
        λ text e. ap (λ r. with_peers r (after_peers form.port told)) e in
        next-stops (PeerFault line kind) (text-goes (file form.peers) PeersLong (from_peers form.port told) next P makes h) tt
        (content h.text) h.can_be (text-makes (file form.peers) PeersLong (from_peers form.port told) next P makes h)
    peers-stops (PeerMissing member) h = absurd h
    peers-stops LinkFault h = absurd h
    peers-stops ReadFault h = read-stops h
    peers-stops WriteFault h = absurd h
    peers-stops Memory h = memory-stops

-- no peers were read since some step before
pub no-peers-since : (file file' : File) (rose rose' : Type 0) (s : ServeStatus) → file' ≡ file → (rose' → rose) → NoPeers file' rose' s → NoPeers file rose s
no-peers-since file file' rose rose' s same rises h = later s (subst (λ (f : File). NoPeers f rose' s) same h)
  where
    later : (s : ServeStatus) → NoPeers file rose' s → NoPeers file rose s
    later Done h = h
    later Usage h = h
    later (RosterFault line kind) h = h
    later RosterLong h = h
    later PeersLong h = h
    later (PeerFault line kind) h = h
    later (PeerMissing member) h = h
    later LinkFault h = h
    later ReadFault h = rises h
    later WriteFault h = h
    later Memory h = h

pub rose-since : (first mid last : ℕ) → first ≤ mid → Rose mid last → Rose first last
rose-since first mid last le rose = omega arith

-- the same, said of the words and of the answer
pub formed-stops : (o : Option Form) (form : Form) (file : List ℕ → File) (rose : Type 0) (s : ServeStatus) (r : Result Prepared ServeStatus)
    → o ≡ Some form → r ≡ Err s
    → Stops (Some form) file rose s → IfErr r (λ status. Stops o file rose status)
formed-stops o form file rose s r formed same h =
    subst (λ (q : Result Prepared ServeStatus). IfErr q (λ status. Stops o file rose status)) (sym same)
    (subst (λ (f : Option Form). Stops f file rose s) (sym formed) h)
