-- Where the records of an answer end, and the packet that a place lies in.
use Rattle.std.proofs.Common.{◌≡◌, ◌∙◌, ℕ, zero, suc, ◌+◌, ◌-◌, ◌<◌, ◌≤◌, List, [], ◌∷◌, ◌++◌, length, take, drop, refl, sym, ap, subst, arith, length-append, append_assoc}
use Rattle.std.specs.Prelude.{Bool, true, false, nat_le, filter, Option, Some, None}
use Rattle.std.specs.List.{flat_map}
use Rattle.std.proofs.lemmas.Bool.{le-leb, lt-leb, cond-true, cond-false}
use Rattle.std.proofs.lemmas.List.{take_at, drop_at, append-nil}
use Rattle.std.proofs.lemmas.Grind.{flat_map-append}
use Rattle.rtp_dump.specs.Writing.{output_head}
use Rattle.conference_spec.specs.Packets.{Sending}
use Rattle.audit_check.specs.declared.status.Where.{Where}
use Rattle.audit_check.specs.Sendings.{record_text, answer_of}
use Rattle.audit_check.specs.Difference.{ends_from, ended_by, begin_of_record, first_of}

-- the records of some packets
abbrev pub texts : List Sending → List ℕ
texts ss = flat_map record_text ss

-- those of their ends that lie at or before a place
abbrev pub ends_by : ℕ → ℕ → List Sending → List ℕ
ends_by p place ss = filter (λ end. nat_le end p) (ends_from place ss)

ends-yes : (p place : ℕ) (s : Sending) (ss : List Sending) → place + length (record_text s) ≤ p
    → length (ends_by p place (s ∷ ss)) ≡ suc (length (ends_by p (place + length (record_text s)) ss))
ends-yes p place s ss le =
    let end = place + length (record_text s) in
    ap (λ (xs : List ℕ). length xs) (cond-true (nat_le end p) (end ∷ ends_by p end ss) (ends_by p end ss) (le-leb end p le))

ends-no : (p place : ℕ) (s : Sending) (ss : List Sending) → p < place + length (record_text s)
    → ends_by p place (s ∷ ss) ≡ ends_by p (place + length (record_text s)) ss
ends-no p place s ss lt =
    let end = place + length (record_text s) in
    cond-false (nat_le end p) (end ∷ ends_by p end ss) (ends_by p end ss) (lt-leb end p lt)

long : (s : Sending) (ss : List Sending) → length (texts (s ∷ ss)) ≡ length (record_text s) + length (texts ss)
long s ss = length-append (record_text s) (texts ss)

-- none ends before it begins
pub none-ended : (p place : ℕ) (ss : List Sending) → p < place → length (ends_by p place ss) ≡ 0
none-ended p place [] lt = refl
none-ended p place (s ∷ ss) lt =
    ap (λ (xs : List ℕ). length xs) (ends-no p place s ss (omega arith)) ∙ none-ended p (place + length (record_text s)) ss (omega arith)

-- all that come before a place end by it
pub ended-behind : (p place : ℕ) (ss ts : List Sending) → place + length (texts ss) ≤ p
    → length (ends_by p place (ss ++ ts)) ≡ length ss + length (ends_by p (place + length (texts ss)) ts)
ended-behind p place [] ts le =
    let e : place + 0 ≡ place = omega arith in
    let same = ap (λ (n : ℕ). length (ends_by p n ts)) e in
    omega arith
ended-behind p place (s ∷ ss) ts le =
    let sum = long s ss in
    let yes = ends-yes p place s (ss ++ ts) (omega arith) in
    let ih = ended-behind p (place + length (record_text s)) ss ts (omega arith) in
    let e : (place + length (record_text s)) + length (texts ss) ≡ place + length (texts (s ∷ ss)) = omega arith in
    let same = ap (λ (n : ℕ). length (ends_by p n ts)) e in
    omega arith

-- how long an answer is
pub answer-length : (ss : List Sending) → length (answer_of ss) ≡ 39 + length (texts ss)
answer-length ss = length-append output_head (texts ss)

pub answer-append : (ss ts : List Sending) → answer_of (ss ++ ts) ≡ answer_of ss ++ texts ts
answer-append ss ts =
    ap (λ (xs : List ℕ). output_head ++ xs) (flat_map-append record_text ss ts) ∙ sym (append_assoc output_head (texts ss) (texts ts))

-- one more packet, and whatever follows it
pub one-more : (ss : List Sending) (s : Sending) (more : List Sending) → (ss ++ s ∷ []) ++ more ≡ ss ++ s ∷ more
one-more ss s more = append_assoc ss (s ∷ []) more

pub answer-more : (ss : List Sending) (s : Sending) (more : List Sending)
    → answer_of ((ss ++ s ∷ []) ++ more) ≡ answer_of ss ++ (record_text s ++ texts more)
answer-more ss s more = ap answer_of (one-more ss s more) ∙ answer-append ss (s ∷ more)

pub answer-one : (ss : List Sending) (s : Sending) → answer_of (ss ++ s ∷ []) ≡ answer_of ss ++ record_text s
answer-one ss s = answer-append ss (s ∷ []) ∙ ap (λ (xs : List ℕ). answer_of ss ++ xs) (append-nil (record_text s))

module _ (ss : List Sending) (s : Sending) (more : List Sending) (p : ℕ) (from : length (answer_of ss) ≤ p)
    (below : p < length (answer_of ss) + length (record_text s)) where
  -- a place in a packet's record: that many records end before
  pub in-record : ended_by p ((ss ++ s ∷ []) ++ more) ≡ length ss
  in-record =
      let size = answer-length ss in
      let moved = ap (λ (ts : List Sending). ended_by p ts) (one-more ss s more) in
      let behind = ended-behind p 39 ss (s ∷ more) (omega arith) in
      let out = ap (λ (xs : List ℕ). length xs) (ends-no p (39 + length (texts ss)) s more (omega arith)) in
      let none = none-ended p (39 + length (texts ss) + length (record_text s)) more (omega arith) in
      omega arith

  pub its-begin : begin_of_record (ended_by p ((ss ++ s ∷ []) ++ more)) ((ss ++ s ∷ []) ++ more) ≡ length (answer_of ss)
  its-begin =
      ap (λ (n : ℕ). begin_of_record n ((ss ++ s ∷ []) ++ more)) in-record
      ∙ ap (λ (ts : List Sending). begin_of_record (length ss) ts) (one-more ss s more)
      ∙ ap (λ (ts : List Sending). 39 + length (texts ts)) (take_at ss (s ∷ more) (length ss) refl)
      ∙ sym (answer-length ss)

  pub its-packet : first_of (ended_by p ((ss ++ s ∷ []) ++ more)) (drop (ended_by p ((ss ++ s ∷ []) ++ more)) ((ss ++ s ∷ []) ++ more))
      ≡ Some (record { packet = length ss; tick = s.tick; member = s.packet.member })
  its-packet =
      let all = (ss ++ s ∷ []) ++ more in
      let left : drop (length ss) all ≡ s ∷ more = ap (λ (ts : List Sending). drop (length ss) ts) (one-more ss s more) ∙ drop_at ss (s ∷ more) (length ss) refl in
      ap (λ (n : ℕ). first_of n (drop n all)) in-record ∙ ap (first_of (length ss)) left
