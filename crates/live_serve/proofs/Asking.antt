-- What is asked goes on from step to step, as far as the files are told.
use Rattle.std.proofs.Common.{◌≡◌, ◌∙◌, ℕ, suc, arith, ◌<◌, ◌≤◌, ◌⊎◌, ⊎_elim, inl, inr, List, length, refl, sym, ap, subst}
use Rattle.std.specs.Prelude.{nat_le, Option, Ok}
use Rattle.std.proofs.Math.ListN.{replicate}
use Rattle.std.proofs.lemmas.List.{length-replicate}
use Rattle.std.proofs.lemmas.Bool.{cond-true, cond-false, le-leb, lt-leb}
use Rattle.edge_io.specs.File.{File, untold, missing, content, IsLonger}
use Rattle.roster_text.specs.Roster.{Told, roster}
use Rattle.udp_edge.specs.declared.peer.Peer.{Peer}
use Rattle.live_serve.specs.declared.status.ServeStatus.{ServeStatus}
use Rattle.live_serve.specs.declared.status.ServeStatus.TheVariants.{PeersLong}
use Rattle.live_serve.specs.Asked.{Asked, Ends, Unknown, Asks, Session, with_file, with_roster, with_peers, peers_of, unless_missing, first_missing, session_of, CanBe, OnEnd, OnSession}
use Rattle.live_serve.specs.Steps.{Taken}

-- what is asked after the peers, and after the roster
abbrev pub after_peers : ℕ → Told → (ℕ → Option Peer) → Asked
after_peers port told known = unless_missing (first_missing known told.timed) (Asks (session_of port told known))

abbrev pub from_peers : ℕ → Told → List ℕ → Asked
from_peers port told listing = with_peers (peers_of listing) (after_peers port told)

abbrev pub after_roster : ℕ → File → Told → Asked
after_roster port listings told = with_file listings PeersLong (from_peers port told)

abbrev pub from_roster : ℕ → File → List ℕ → Asked
from_roster port listings text = with_roster (roster text) (after_roster port listings)

-- it is the same, as far as is known
abbrev pub GoesOn : Asked → Asked → Type 0
GoesOn a next = (a ≡ next) ⊎ (a ≡ Unknown)

pub goes-then : (a b c : Asked) → GoesOn a b → GoesOn b c → GoesOn a c
goes-then a b c first second = ⊎_elim (λ e. ⊎_elim (λ q. inl (e ∙ q)) (λ q. inr (e ∙ q)) second) (λ e. inr e) first

pub end-goes : (a next : Asked) (Q : ServeStatus → Type 0) → GoesOn a next → OnEnd next Q → OnEnd a Q
end-goes a next Q goes h =
    ⊎_elim (λ e. subst (λ (x : Asked). OnEnd x Q) (sym e) h) (λ e. subst (λ (x : Asked). OnEnd x Q) (sym e) tt) goes

pub session-goes : (a next : Asked) (Q : Session → Type 0) → GoesOn a next → OnSession next Q → OnSession a Q
session-goes a next Q goes h =
    ⊎_elim (λ e. subst (λ (x : Asked). OnSession x Q) (sym e) h) (λ e. subst (λ (x : Asked). OnSession x Q) (sym e) tt) goes

-- a file of a lawful length, and one that is too long
pub short-file : (held : List ℕ) (long : ServeStatus) (f : List ℕ → Asked) → length held ≤ 1048576 → with_file (content held) long f ≡ f held
short-file held long f short = cond-true (nat_le (length held) 1048576) (f held) (Ends long) (le-leb (length held) 1048576 short)

pub long-file : (held : List ℕ) (long : ServeStatus) (f : List ℕ → Asked) → 1048576 < length held → with_file (content held) long f ≡ Ends long
long-file held long f longer = cond-false (nat_le (length held) 1048576) (f held) (Ends long) (lt-leb (length held) 1048576 longer)

-- what a file can be
pub can-be-self : (file : File) → CanBe file file
can-be-self untold = tt
can-be-self missing = refl
can-be-self (content held) = refl

not-missing : (text : List ℕ) → CanBe missing (content text) → ⊥
not-missing text e = cc

same-text : (held text : List ℕ) → CanBe (content held) (content text) → text ≡ held
same-text held text e = cc

-- a text of which it is known what it makes is gone on from, or isn't told
pub text-goes : (file : File) (long : ServeStatus) (f : List ℕ → Asked) (next : Asked) (P : List ℕ → Type 0)
    → ((text : List ℕ) → P text → f text ≡ next) → Taken file P → GoesOn (with_file file long f) next
text-goes untold long f next P makes h = inr refl
text-goes missing long f next P makes h = absurd (not-missing h.text h.can_be)
text-goes (content held) long f next P makes h =
    let same : h.text ≡ held = same-text held h.text h.can_be in
    inl (short-file held long f (subst (λ (xs : List ℕ). length xs ≤ 1048576) same h.short) ∙ makes held (subst P same h.so))

-- such a text by itself
pub text-makes : (file : File) (long : ServeStatus) (f : List ℕ → Asked) (next : Asked) (P : List ℕ → Type 0)
    → ((text : List ℕ) → P text → f text ≡ next) → (h : Taken file P) → with_file (content h.text) long f ≡ next
text-makes file long f next P makes h = short-file h.text long f h.short ∙ makes h.text h.so

-- a text that is too long ends it, or isn't told
pub long-goes : (file : File) (long : ServeStatus) (f : List ℕ → Asked) → IsLonger file 1048576 → GoesOn (with_file file long f) (Ends long)
long-goes untold long f longer = inr refl
long-goes missing long f longer = absurd longer
long-goes (content held) long f longer = inl (long-file held long f longer)

longer-than : (n : ℕ) → (held : List ℕ) × (n < length held)
longer-than n = (replicate (suc n) 0, omega (arith, length-replicate {A = ℕ} (suc n) 0))

pub long-whole : (file : File) → IsLonger file 1048576 → (held : List ℕ) × CanBe file (content held) × (1048576 < length held)
long-whole untold longer = let some = longer-than 1048576 in (some.0, tt, some.1)
long-whole missing longer = absurd longer
long-whole (content held) longer = (held, refl, longer)

-- the roster that was read
pub roster-makes : (port : ℕ) (listings : File) (told : Told) (text : List ℕ) → roster text ≡ Ok told
    → from_roster port listings text ≡ after_roster port listings told
roster-makes port listings told text e = ap (λ r. with_roster r (after_roster port listings)) e
