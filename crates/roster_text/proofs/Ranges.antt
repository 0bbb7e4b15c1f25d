-- What a line says has its payload types and its bundle in range.
use Rattle.std.proofs.Common.{◌≡◌, ℕ, Bool, true, false, cond, ◌&&◌, List, refl, subst, arith, Some, None, Ok, Err}
use Rattle.std.specs.Prelude.{Option, Result, nat_le, codes, IfSome}
use Rattle.std.proofs.lemmas.Bool.{and_parts}
use Rattle.std.proofs.lemmas.Bool.Decides.{nat_tests}
use Rattle.roster_text.specs.declared.commands.Talk.{Talk}
use Rattle.roster_text.specs.declared.commands.Listen.{Listen}
use Rattle.roster_text.specs.declared.commands.Law.TheVariants.{Mu, A, G726}
use Rattle.roster_text.specs.declared.entry.Entry.{Entry}
use Rattle.roster_text.specs.declared.entry.Entry.TheVariants.{Says, Ends}
use Rattle.roster_text.specs.declared.numbers.Sends.{Sends}
use Rattle.roster_text.specs.declared.numbers.Sends.TheVariants as sends
use Rattle.roster_text.specs.declared.numbers.Gets.{Gets}
use Rattle.roster_text.specs.declared.faults.RosterKind.{RosterKind}
use Rattle.roster_text.specs.declared.faults.RosterKind.TheVariants as kinds
use Rattle.roster_text.specs.Lines.{number_of}
use Rattle.roster_text.specs.Grammar.{ListenTexts, Shape, EndLine, LeaveLine, JoinLine, spells, shape_of, or_fault, if_right, greatest_word, greatest_seq, rate_of, bundle_of, sends_of, gets_of, own_type, talk_of, listen_of, entry_of, said_by}
use Rattle.roster_text.specs.Ranges.{IsOwnType, IsBundle, TalksInRange, ListensInRange, IsInRange}

abbrev pub SaidInRange : Entry → Type 0
SaidInRange (Says t) = IsInRange t.command
SaidInRange (Ends at) = Unit {0}

-- what holds of whatever a step that was right goes on with holds of what it comes to
or_fault_ok : {X Y : Type 0} (kind : RosterKind) (o : Option X) (f : X → Result Y RosterKind) (y : Y) (P : Type 0) → or_fault kind o f ≡ Ok y
    → ((x : X) → o ≡ Some x → f x ≡ Ok y → P) → P
or_fault_ok kind None f y P e more = cc
or_fault_ok kind (Some x) f y P e more = more x refl e

if_right_ok : {X Y : Type 0} (r : Result X RosterKind) (f : X → Result Y RosterKind) (y : Y) (P : Type 0) → if_right r f ≡ Ok y
    → ((x : X) → r ≡ Ok x → f x ≡ Ok y → P) → P
if_right_ok (Err kind) f y P e more = cc
if_right_ok (Ok x) f y P e more = more x refl e

ok_same : {X : Type 0} (x y : X) → ◌≡◌ {A = Result X RosterKind} (Ok x) (Ok y) → x ≡ y
ok_same x y e = cc

own_by : (b : Bool) (pt p : ℕ) → (b ≡ true → IsOwnType pt) → cond b (Some pt) None ≡ Some p → IsOwnType p
own_by true pt p low e = let same : pt ≡ p = cc in subst IsOwnType same (low refl)
own_by false pt p low e = cc

own_in_range : (pt p : ℕ) → own_type pt ≡ Some p → IsOwnType p
own_in_range pt p e =
    own_by (nat_le 96 pt && nat_le pt 127) pt p (λ t.
    let parts = and_parts (nat_le 96 pt) (nat_le pt 127) t in
    (grind (arith, nat_tests, parts.0), grind (arith, nat_tests, parts.1))) e

-- of a word's tests
picked : (b : Bool) (n : ℕ) (rest : Option ℕ) → IsBundle n → IfSome rest IsBundle → IfSome (cond b (Some n) rest) IsBundle
picked true n rest here there = here
picked false n rest here there = there

bundle_in_range : (word : Option (List ℕ)) → IfSome (bundle_of word) IsBundle
bundle_in_range None = (omega arith, omega arith)
bundle_in_range (Some w) =
    picked (spells (codes "1") w) 1 _ (omega arith, omega arith)
    (picked (spells (codes "2") w) 2 _ (omega arith, omega arith)
    (picked (spells (codes "3") w) 3 _ (omega arith, omega arith)
    (picked (spells (codes "4") w) 4 None (omega arith, omega arith) tt)))

abbrev pub HasBundle : Option Gets → Type 0
HasBundle None = Unit {0}
HasBundle (Some g) = IfSome g.ticks IsBundle

gets_in_range : (words : Option ListenTexts) (g : Option Gets) → gets_of words ≡ Ok g → HasBundle g
gets_in_range None g e = subst HasBundle (ok_same None g e) tt
gets_in_range (Some w) g e =
    or_fault_ok kinds.Number (number_of greatest_word w.pt) _ g (HasBundle g) e (λ pt _ e1.
    or_fault_ok kinds.Number (number_of greatest_word w.ssrc) _ g (HasBundle g) e1 (λ ssrc _ e2.
    or_fault_ok kinds.Number (number_of greatest_seq w.seq) _ g (HasBundle g) e2 (λ seq _ e3.
    or_fault_ok kinds.Number (number_of greatest_word w.stamp) _ g (HasBundle g) e3 (λ stamp _ e4.
    or_fault_ok kinds.Rate (rate_of w.rate) _ g (HasBundle g) e4 (λ rate _ e5.
    subst HasBundle (ok_same (Some (record { rate = rate; pt = pt; ssrc = ssrc; seq = seq; stamp = stamp; ticks = bundle_of w.bundle })) g e5)
    (bundle_in_range w.bundle))))))

listen_in_range : (g : Option Gets) (l : Option Listen) → HasBundle g → listen_of g ≡ Ok l → ListensInRange l
listen_in_range None l has e = subst ListensInRange (ok_same None l e) tt
listen_in_range (Some g) l has e =
    or_fault_ok kinds.PayType (own_type g.pt) _ l (ListensInRange l) e (λ p is_p e1.
    or_fault_ok kinds.Bundle g.ticks _ l (ListensInRange l) e1 (λ ticks is_ticks e2.
    subst ListensInRange (ok_same (Some (record { rate = g.rate; pt = p; ssrc = g.ssrc; first_seq = g.seq; first_stamp = g.stamp; ticks = ticks })) l e2)
    (own_in_range g.pt p is_p, subst (λ (o : Option ℕ). IfSome o IsBundle) is_ticks has)))

talk_in_range : (s : Option Sends) (t : Option Talk) → talk_of s ≡ Ok t → TalksInRange t
talk_in_range None t e = subst TalksInRange (ok_same None t e) tt
talk_in_range (Some (sends.Mu ssrc)) t e = subst TalksInRange (ok_same (Some (record { law = Mu; ssrc = ssrc })) t e) tt
talk_in_range (Some (sends.A ssrc)) t e = subst TalksInRange (ok_same (Some (record { law = A; ssrc = ssrc })) t e) tt
talk_in_range (Some (sends.G726 rate pt ssrc)) t e =
    or_fault_ok kinds.PayType (own_type pt) _ t (TalksInRange t) e (λ p is_p e1.
    subst TalksInRange (ok_same (Some (record { law = G726 rate p; ssrc = ssrc })) t e1) (own_in_range pt p is_p))

entry_in_range : (shape : Shape) (entry : Entry) → entry_of shape ≡ Ok entry → SaidInRange entry
entry_in_range (EndLine time) entry e =
    or_fault_ok kinds.Number (number_of greatest_word time) _ entry (SaidInRange entry) e (λ at _ e1. subst SaidInRange (ok_same _ entry e1) tt)
entry_in_range (LeaveLine time member) entry e =
    or_fault_ok kinds.Number (number_of greatest_word time) _ entry (SaidInRange entry) e (λ at _ e1.
    or_fault_ok kinds.Number (number_of greatest_word member) _ entry (SaidInRange entry) e1 (λ m _ e2.
    subst SaidInRange (ok_same _ entry e2) tt))
entry_in_range (JoinLine time member talk listen) entry e =
    or_fault_ok kinds.Number (number_of greatest_word time) _ entry (SaidInRange entry) e (λ at _ e1.
    or_fault_ok kinds.Number (number_of greatest_word member) _ entry (SaidInRange entry) e1 (λ m _ e2.
    if_right_ok (sends_of talk) _ entry (SaidInRange entry) e2 (λ s _ e3.
    if_right_ok (gets_of listen) _ entry (SaidInRange entry) e3 (λ g is_g e4.
    if_right_ok (talk_of s) _ entry (SaidInRange entry) e4 (λ t is_t e5.
    if_right_ok (listen_of g) _ entry (SaidInRange entry) e5 (λ l is_l e6.
    subst SaidInRange (ok_same _ entry e6) (talk_in_range s t is_t, listen_in_range g l (gets_in_range listen g is_g) is_l)))))))

-- what is said by a line's words alone
pub said_in_range : (words : List (List ℕ)) (entry : Entry) → said_by words ≡ Ok entry → SaidInRange entry
said_in_range words entry e =
    or_fault_ok kinds.Words (shape_of words) entry_of entry (SaidInRange entry) e (λ shape _ e1. entry_in_range shape entry e1)
