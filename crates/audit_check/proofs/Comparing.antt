-- Octets that are compared with an answer, record by record.
use Rattle.std.proofs.Common.{◌≡◌, ◌≢◌, ◌∙◌, ℕ, zero, suc, ◌+◌, ◌-◌, ◌<◌, ◌≤◌, ◌⊎◌, ⊎_elim, inl, inr, List, [], ◌∷◌, ◌++◌, length, take, drop, refl, sym, ap, subst, arith, length-append, length-drop, append_assoc}
use Rattle.std.specs.Prelude.{Bool, true, false, ◌==◌, nat_lt, if◌then◌else◌, Option, Some, None, is_some, is_none}
use Rattle.std.proofs.lemmas.Bool.{eq-eqb, ne_eqb, cases_eq, cases_lt, lt-ltb, le-ltb, cond-true, cond-false, cases_Bool}
use Rattle.std.proofs.lemmas.List.{take_at, drop_at, drop_all, append-nil}
use Rattle.rtp_dump.specs.Writing.{output_head}
use Rattle.conference_spec.specs.Packets.{Sending}
use Rattle.audit_check.specs.declared.status.Part.{Part}
use Rattle.audit_check.specs.declared.status.Part.TheVariants.{FileHead, RecordHead, RtpHead, Payload, Missing, Extra}
use Rattle.audit_check.specs.declared.status.Where.{Where}
use Rattle.audit_check.specs.declared.compare.Difference.{Difference}
use Rattle.audit_check.specs.declared.compare.Compare.{Compare}
use Rattle.audit_check.specs.Sendings.{record_text, answer_of}
use Rattle.audit_check.specs.Difference.{common, part_within, part_at, in_packet, first_of, ended_by, first_difference, Judges}
use Rattle.audit_check.specs.Comparing.{IsFront, IsShort, Settles, ComparedBy, Compared}
use Rattle.audit_check.proofs.Fronts.{after-same, all-same, before-more, differ, other-front, one-front, within-one, within-other}
use Rattle.audit_check.proofs.Places.{texts, none-ended, answer-length, answer-append, answer-more, answer-one, in-record, its-begin, its-packet}

-- ---- the part ----

part-missing : (p : ℕ) (out : List ℕ) (ss : List Sending) → p ≡ length out → part_at p out ss ≡ Missing
part-missing p out ss e = cond-true (p == length out) Missing _ (eq-eqb p (length out) e)

part-extra : (p : ℕ) (out : List ℕ) (ss : List Sending) → p ≢ length out → p ≡ length (answer_of ss) → part_at p out ss ≡ Extra
part-extra p out ss n e =
    cond-false (p == length out) Missing _ (ne_eqb p (length out) n) ∙ cond-true (p == length (answer_of ss)) Extra _ (eq-eqb p (length (answer_of ss)) e)

part-head : (p : ℕ) (out : List ℕ) (ss : List Sending) → p ≢ length out → p ≢ length (answer_of ss) → p < 39 → part_at p out ss ≡ FileHead
part-head p out ss n m lt =
    cond-false (p == length out) Missing _ (ne_eqb p (length out) n)
    ∙ cond-false (p == length (answer_of ss)) Extra _ (ne_eqb p (length (answer_of ss)) m)
    ∙ cond-true (nat_lt p 39) FileHead _ (lt-ltb p 39 lt)

part-record : (p b q : ℕ) (out : List ℕ) (ss : List Sending) → p ≢ length out → p ≢ length (answer_of ss) → 39 ≤ p
    → 39 + length (texts (take (ended_by p ss) ss)) ≡ b → p ≡ b + q → part_at p out ss ≡ part_within q
part-record p b q out ss n m le begin is =
    let e : p - (39 + length (texts (take (ended_by p ss) ss))) ≡ q = omega arith in
    cond-false (p == length out) Missing _ (ne_eqb p (length out) n)
    ∙ cond-false (p == length (answer_of ss)) Extra _ (ne_eqb p (length (answer_of ss)) m)
    ∙ cond-false (nat_lt p 39) FileHead _ (le-ltb p 39 le)
    ∙ ap part_within e

-- in each part of a record the packet is named
within-named : (q : ℕ) (found : Option Where) → in_packet (part_within q) found ≡ found
within-named q found = by-head (nat_lt q 8) (nat_lt q 20)
  where
    by-head : (a b : Bool) → in_packet (if a then RecordHead else if b then RtpHead else Payload) found ≡ found
    by-head true b = refl
    by-head false true = refl
    by-head false false = refl

-- ---- what was found ----

abbrev pub found_at : ℕ → Part → Option Where → Difference
found_at at part place = record { at = at; part = part; place = place }

same-difference : (out : List ℕ) (ss : List Sending) (p : ℕ) (part : Part) (place : Option Where) → common out (answer_of ss) ≡ p → part_at p out ss ≡ part
    → in_packet part (first_of (ended_by p ss) (drop (ended_by p ss) ss)) ≡ place → found_at p part place ≡ first_difference out ss
same-difference out ss p part place at is named =
    let d : ℕ → Difference = λ n. found_at n (part_at n out ss) (in_packet (part_at n out ss) (first_of (ended_by n ss) (drop (ended_by n ss) ss))) in
    sym (ap d at
    ∙ ap (λ (q : Part). found_at p q (in_packet q (first_of (ended_by p ss) (drop (ended_by p ss) ss)))) is
    ∙ ap (found_at p part) named)

-- the packet of a record in which the octets differ, or within which they end
module _ (out rest : List ℕ) (ss : List Sending) (s : Sending) (whole : out ≡ answer_of ss ++ rest)
    (less : common rest (record_text s) < length (record_text s)) where
  abbrev place : ℕ
  place = length (answer_of ss) + common rest (record_text s)

  abbrev here : Option Where
  here = Some (record { packet = length ss; tick = s.tick; member = s.packet.member })

  at-place : (more : List Sending) → common out (answer_of ((ss ++ s ∷ []) ++ more)) ≡ place
  at-place more =
      ap (λ (xs : List ℕ). common xs (answer_of ((ss ++ s ∷ []) ++ more))) whole
      ∙ ap (λ (ys : List ℕ). common (answer_of ss ++ rest) ys) (answer-more ss s more)
      ∙ after-same (answer_of ss) rest (record_text s ++ texts more)
      ∙ ap (λ (n : ℕ). length (answer_of ss) + n) (before-more rest (record_text s) (texts more) less)

  longer : (more : List Sending) → place < length (answer_of ((ss ++ s ∷ []) ++ more))
  longer more =
      let size = ap (λ (xs : List ℕ). length xs) (answer-more ss s more) in
      let a = length-append (answer_of ss) (record_text s ++ texts more) in
      let b = length-append (record_text s) (texts more) in
      omega arith

  another : (more : List Sending) → out ≢ answer_of ((ss ++ s ∷ []) ++ more)
  another more =
      let at = at-place more in
      let lt = longer more in
      differ out (answer_of ((ss ++ s ∷ []) ++ more)) (omega arith)

  sized : length out ≡ length (answer_of ss) + length rest
  sized = ap (λ (xs : List ℕ). length xs) whole ∙ length-append (answer_of ss) rest

  -- the octets end within it
  pub settles-missing : common rest (record_text s) ≡ length rest → Settles out (ss ++ s ∷ []) (found_at place Missing here)
  settles-missing e more =
      let size = sized in (
        another more,
        same-difference out ((ss ++ s ∷ []) ++ more) place Missing here (at-place more)
            (part-missing place out ((ss ++ s ∷ []) ++ more) (omega arith))
            (its-packet ss s more place (omega arith) (omega arith)),
      )

  -- they differ in it
  pub settles-record : common rest (record_text s) ≢ length rest
      → Settles out (ss ++ s ∷ []) (found_at place (part_within (common rest (record_text s))) here)
  settles-record n more =
      let size = sized in
      let lt = longer more in
      let head = answer-length ss in (
        another more,
        same-difference out ((ss ++ s ∷ []) ++ more) place (part_within (common rest (record_text s))) here (at-place more)
            (part-record place (length (answer_of ss)) (common rest (record_text s)) out ((ss ++ s ∷ []) ++ more)
            (λ e. n (omega arith)) (λ e. absurd (omega arith)) (omega arith) (its-begin ss s more place (omega arith) (omega arith)) refl)
            (within-named (common rest (record_text s)) _ ∙ its-packet ss s more place (omega arith) (omega arith)),
      )

-- ---- octets that end within the line and the file head ----

module _ (out more' : List ℕ) (cut : output_head ≡ out ++ more') (short : length out < 39) where
  at-end : (ss : List Sending) → common out (answer_of ss) ≡ length out
  at-end ss =
      let whole : answer_of ss ≡ out ++ (more' ++ texts ss) = ap (λ (xs : List ℕ). xs ++ texts ss) cut ∙ append_assoc out more' (texts ss) in
      let mine : out ≡ out ++ [] = sym (append-nil out) in
      let same = after-same out [] (more' ++ texts ss) in
      ap (λ (ys : List ℕ). common out ys) whole ∙ ap (λ (xs : List ℕ). common xs (out ++ (more' ++ texts ss))) mine ∙ same ∙ (omega arith)

  short-another : (ss : List Sending) → out ≢ answer_of ss
  short-another ss =
      let at = at-end ss in
      let size = answer-length ss in
      differ out (answer_of ss) (omega arith)

  pub settles-short : (s : Sending) → Settles out (s ∷ []) (found_at (length out) Missing (Some (record { packet = 0; tick = s.tick; member = s.packet.member })))
  settles-short s more =
      let all = s ∷ more in
      let none : ended_by (length out) all ≡ 0 = none-ended (length out) 39 all (omega arith) in (
        short-another all,
        same-difference out all (length out) Missing (Some (record { packet = 0; tick = s.tick; member = s.packet.member })) (at-end all)
            (part-missing (length out) out all refl)
            (ap (λ (n : ℕ). first_of n (drop n all)) none),
      )

  pub short-judged : Judges out [] (Some (found_at (length out) Missing None))
  short-judged =
      (short-another [], same-difference out [] (length out) Missing None (at-end []) (part-missing (length out) out [] refl) refl)

-- they differ from the line and the file head
pub settles-head : (out : List ℕ) → common out output_head < 39 → common out output_head ≢ length out
    → Settles out [] (found_at (common out output_head) FileHead None)
settles-head out lt n ss =
    let p = common out output_head in
    let at : common out (answer_of ss) ≡ p = before-more out output_head (texts ss) lt in
    let size = answer-length ss in (
      differ out (answer_of ss) (omega arith),
      same-difference out ss p FileHead None at
          (part-head p out ss n (λ e. absurd (omega arith)) lt) refl,
    )

-- ---- the end of the answer ----

pub whole-judged : (out rest : List ℕ) (ss : List Sending) → out ≡ answer_of ss ++ rest → length out ≡ length (answer_of ss) → Judges out ss None
whole-judged out [] ss whole len = whole ∙ append-nil (answer_of ss)
whole-judged out (x ∷ rest) ss whole len =
    let size = ap (λ (xs : List ℕ). length xs) whole ∙ length-append (answer_of ss) (x ∷ rest) in
    absurd (omega arith)

none-left : (out : List ℕ) → common out [] ≡ 0
none-left [] = refl
none-left (x ∷ xs) = refl

pub longer-judged : (out rest : List ℕ) (ss : List Sending) → out ≡ answer_of ss ++ rest → length (answer_of ss) < length out
    → Judges out ss (Some (found_at (length (answer_of ss)) Extra None))
longer-judged out rest ss whole lt =
    let n = length (answer_of ss) in
    let at : common out (answer_of ss) ≡ n =
    ap (λ (xs : List ℕ). common xs (answer_of ss)) whole
    ∙ ap (λ (ys : List ℕ). common (answer_of ss ++ rest) ys) (sym (append-nil (answer_of ss)))
    ∙ after-same (answer_of ss) rest [] ∙ ap (λ (k : ℕ). n + k) (none-left rest) ∙ (omega arith) in
    let other : out ≢ answer_of ss = λ e. (let same = ap (λ (xs : List ℕ). length xs) e in omega arith) in
    (other, same-difference out ss n Extra None at (part-extra n out ss (λ e. absurd (omega arith)) refl) refl)

-- ---- one step of it ----

module _ (c : Compare) (ss : List Sending) (s : Sending) (text : List ℕ) (q : ℕ) (open' : c.found ≡ None) (was : Compared c ss)
    (is : record_text s ≡ text) (some : 0 < length text) (same : q ≡ common (drop c.at c.out) text) where
  so_far : IsFront c ss ⊎ IsShort c ss
  so_far = subst (λ (o : Option Difference). ComparedBy o c ss) open' was

  -- what is left of the octets
  left-front : (f : IsFront c ss) → drop c.at c.out ≡ f.rest
  left-front f =
      ap (λ (n : ℕ). drop n c.out) f.at_is ∙ ap (λ (xs : List ℕ). drop (length (answer_of ss)) xs) f.whole
      ∙ drop_at (answer_of ss) f.rest (length (answer_of ss)) refl

  left-short : (f : IsShort c ss) → drop c.at c.out ≡ []
  left-short f = drop_all c.at c.out (omega (arith, f.at_is))

  pub within : c.at ≤ length c.out
  within = ⊎_elim
      (λ (f : IsFront c ss). (let size = ap (λ (xs : List ℕ). length xs) f.whole ∙ length-append (answer_of ss) f.rest in omega (arith, f.at_is)))
      (λ (f : IsShort c ss). omega (arith, f.at_is)) so_far

  -- the record stands there whole
  pub keeps : q ≡ length text
      → Compared (record { out = c.out; at = c.at + q; packets = c.packets + 1; ticks = c.ticks; found = c.found }) (ss ++ s ∷ [])
  keeps e =
      let c' : Compare = record { out = c.out; at = c.at + q; packets = c.packets + 1; ticks = c.ticks; found = c.found } in
      let by-front : IsFront c ss → IsFront c' (ss ++ s ∷ []) = λ f. (
      let left = left-front f in
      let equal : common f.rest text ≡ length text = ap (λ (xs : List ℕ). common xs text) (sym left) ∙ sym same ∙ e in
      let split : f.rest ≡ text ++ drop (length text) f.rest = other-front f.rest text equal in
      let one : answer_of (ss ++ s ∷ []) ≡ answer_of ss ++ text = answer-one ss s ∙ ap (λ (xs : List ℕ). answer_of ss ++ xs) is in
      let size = ap (λ (xs : List ℕ). length xs) one ∙ length-append (answer_of ss) text in
      let many = length-append ss (s ∷ []) in
      record {
        rest = drop (length text) f.rest;
        whole = f.whole ∙ ap (λ (xs : List ℕ). answer_of ss ++ xs) split ∙ sym (append_assoc (answer_of ss) text (drop (length text) f.rest))
            ∙ ap (λ (xs : List ℕ). xs ++ drop (length text) f.rest) (sym one);
        at_is = omega (arith, f.at_is);
        counted = omega (arith, f.counted);
        few = omega (arith, f.few);
      }) in
      let by-short : IsShort c ss → IsFront c' (ss ++ s ∷ []) = λ f. (
      let none : common (drop c.at c.out) text ≡ 0 = ap (λ (xs : List ℕ). common xs text) (left-short f) in
      absurd (omega arith)) in
      subst (λ (o : Option Difference). ComparedBy o c' (ss ++ s ∷ [])) (sym open') (inl (⊎_elim by-front by-short so_far))

  -- it doesn't, and the difference is found
  pub finds : (part : Part) → q ≢ length text → (q ≡ length (drop c.at c.out) → part ≡ Missing) → (q ≢ length (drop c.at c.out) → part ≡ part_within q)
      → Settles c.out (ss ++ s ∷ []) (found_at (c.at + q) part (Some (record { packet = c.packets; tick = s.tick; member = s.packet.member })))
  finds part ne missing other = ⊎_elim by-front by-short so_far
    where
      by-front : IsFront c ss → Settles c.out (ss ++ s ∷ []) (found_at (c.at + q) part (Some (record { packet = c.packets; tick = s.tick; member = s.packet.member })))
      by-front f =
          let left = left-front f in
          let equal : common f.rest (record_text s) ≡ q = ap (λ (xs : List ℕ). common f.rest xs) is ∙ ap (λ (xs : List ℕ). common xs text) (sym left) ∙ sym same in
          let most : common f.rest (record_text s) ≤ length (record_text s) = within-other f.rest (record_text s) in
          let size = ap (λ (xs : List ℕ). length xs) is in
          let less : common f.rest (record_text s) < length (record_text s) = omega arith in
          let len = ap (λ (xs : List ℕ). length xs) left in
          let to : (p : Part) → part ≡ p → Settles c.out (ss ++ s ∷ []) (found_at (length (answer_of ss) + common f.rest (record_text s)) p (Some (record { packet = length ss; tick = s.tick; member = s.packet.member })))
          → Settles c.out (ss ++ s ∷ []) (found_at (c.at + q) part (Some (record { packet = c.packets; tick = s.tick; member = s.packet.member }))) =
          λ (p : Part) e h. (
          let place : length (answer_of ss) + common f.rest (record_text s) ≡ c.at + q = omega (arith, f.at_is) in
          rw (e, f.counted, ← place) h) in
          elim (cases_eq (common f.rest (record_text s)) (length f.rest)) [
            | inl all ↦ to Missing (missing (omega arith)) (settles-missing c.out f.rest ss s f.whole less all)
            | inr n ↦ to (part_within (common f.rest (record_text s))) (other (λ e. n (omega arith)) ∙ ap part_within (sym equal)) (settles-record c.out f.rest ss s f.whole less n)
          ]

      by-short : IsShort c ss → Settles c.out (ss ++ s ∷ []) (found_at (c.at + q) part (Some (record { packet = c.packets; tick = s.tick; member = s.packet.member })))
      by-short f =
          let none : common (drop c.at c.out) text ≡ 0 = ap (λ (xs : List ℕ). common xs text) (left-short f) in
          let len = ap (λ (xs : List ℕ). length xs) (left-short f) in
          let place : length c.out ≡ c.at + q = omega (arith, f.at_is) in
          let is-missing : part ≡ Missing = missing (omega arith) in
          let all : ss ++ s ∷ [] ≡ s ∷ [] = ap (λ (ts : List Sending). ts ++ s ∷ []) f.none in
          rw (is-missing, f.counted, ← place, all) (settles-short c.out f.more f.cut f.short s)

  -- the same, where tick and member are told by other names
  pub finds-in : (part : Part) → q ≢ length text → (q ≡ length (drop c.at c.out) → part ≡ Missing) → (q ≢ length (drop c.at c.out) → part ≡ part_within q)
      → (tick member : ℕ) → tick ≡ s.tick → s.packet.member ≡ member
      → Settles c.out (ss ++ s ∷ []) (found_at (c.at + q) part (Some (record { packet = c.packets; tick = tick; member = member })))
  finds-in part ne missing other tick member t m = rw (t, ← m) (finds part ne missing other)

-- ---- where it begins ----

pub opened-whole : (out : List ℕ) (at : ℕ) → at ≡ common out output_head → at ≡ 39 → Compared (record { out = out; at = at; packets = 0; ticks = 0; found = None }) []
opened-whole out at is e =
    let none = append-nil output_head in
    inl (record {
      rest = drop 39 out;
      whole = other-front out output_head (sym is ∙ e) ∙ ap (λ (xs : List ℕ). xs ++ drop 39 out) (sym none);
      at_is = e;
      counted = refl;
      few = omega arith;
    })

pub opened-short : (out : List ℕ) (at : ℕ) → at ≡ common out output_head → at ≢ 39 → at ≡ length out → Compared (record { out = out; at = at; packets = 0; ticks = 0; found = None }) []
opened-short out at is n e =
    let most : common out output_head ≤ 39 = within-other out output_head in
    inr (record {
      none = refl;
      more = drop (length out) output_head;
      cut = one-front out output_head (sym is ∙ e);
      short = omega arith;
      at_is = e;
      counted = refl;
    })

pub opened-other : (out : List ℕ) (at : ℕ) → at ≡ common out output_head → at ≢ 39 → at ≢ length out → Settles out [] (found_at at FileHead None)
opened-other out at is n m =
    let most : common out output_head ≤ 39 = within-other out output_head in
    rw is (settles-head out (omega arith) (λ e. m (is ∙ e)))

pub opened : (out : List ℕ) (at : ℕ) (found : Option Difference) → at ≡ common out output_head → (at ≡ 39 → found ≡ None) → (at ≡ length out → found ≡ None)
    → (at ≢ 39 → at ≢ length out → found ≡ Some (found_at at FileHead None)) → Compared (record { out = out; at = at; packets = 0; ticks = 0; found = found }) []
opened out at found is whole short other = elim (cases_eq at 39) [
  | inl e ↦ rw (whole e) (opened-whole out at is e)
  | inr n ↦ elim (cases_eq at (length out)) [
    | inl e ↦ rw (short e) (opened-short out at is n e)
    | inr m ↦ rw (other n m) (opened-other out at is n m)
  ]
]

-- ---- and where it ends ----

module _ (c : Compare) (ss : List Sending) (was : Compared c ss) where
  -- what was found holds of the whole answer
  pub ends-found : {d : Difference} → c.found ≡ Some d → Judges c.out ss (Some d)
  ends-found {d} e =
      let settled : Settles c.out ss d = subst (λ (o : Option Difference). ComparedBy o c ss) e was in
      subst (λ (ts : List Sending). Judges c.out ts (Some d)) (append-nil ss) (settled [])

  pub ends-any : is_some c.found ≡ true → Judges c.out ss c.found
  ends-any some = by-found c.found refl some
    where
      by-found : (o : Option Difference) → c.found ≡ o → is_some o ≡ true → Judges c.out ss o
      by-found None e t = absurd (cc)
      by-found (Some d) e t = ends-found e

  module _ (open' : c.found ≡ None) where
    by-part : IsFront c ss ⊎ IsShort c ss
    by-part = subst (λ (o : Option Difference). ComparedBy o c ss) open' was

    pub ends-short : c.at < 39 → Judges c.out ss (Some (found_at c.at Missing None))
    ends-short lt = ⊎_elim
        (λ (f : IsFront c ss). (let size = answer-length ss in absurd (omega (arith, f.at_is))))
        (λ (f : IsShort c ss). rw (f.at_is, f.none) (short-judged c.out f.more f.cut f.short)) by-part

    pub ends-longer : 39 ≤ c.at → c.at < length c.out → Judges c.out ss (Some (found_at c.at Extra None))
    ends-longer le lt = ⊎_elim
        (λ (f : IsFront c ss). rw f.at_is (longer-judged c.out f.rest ss f.whole (omega (arith, f.at_is))))
        (λ (f : IsShort c ss). absurd (omega (arith, f.at_is, f.short))) by-part

    pub ends-whole : 39 ≤ c.at → length c.out ≤ c.at → Judges c.out ss None
    ends-whole le ge = ⊎_elim
        (λ (f : IsFront c ss). (let size = ap (λ (xs : List ℕ). length xs) f.whole ∙ length-append (answer_of ss) f.rest in
        whole-judged c.out f.rest ss f.whole (omega (arith, f.at_is))))
        (λ (f : IsShort c ss). absurd (omega (arith, f.at_is, f.short))) by-part

-- ---- what leaves it as it is ----

-- where a difference was found, what follows changes nothing
pub stays-found : (c : Compare) (ss ts : List Sending) → is_none c.found ≡ false → Compared c ss → Compared c (ss ++ ts)
stays-found c ss ts some was = by-found c.found some was
  where
    by-found : (o : Option Difference) → is_none o ≡ false → ComparedBy o c ss → ComparedBy o c (ss ++ ts)
    by-found None t was = absurd (cc)
    by-found (Some d) t was = λ more. subst (λ (us : List Sending). Judges c.out us (Some d)) (sym (append_assoc ss ts more)) (was (ts ++ more))

-- the count of ticks says nothing of the octets
pub at-tick : (c : Compare) (k : ℕ) (ss : List Sending) → Compared c ss
    → Compared (record { out = c.out; at = c.at; packets = c.packets; ticks = k; found = c.found }) ss
at-tick c k ss was = by-found c.found was
  where
    by-found : (o : Option Difference) → ComparedBy o c ss → ComparedBy o (record { out = c.out; at = c.at; packets = c.packets; ticks = k; found = c.found }) ss
    by-found None (inl f) = inl (record { rest = f.rest; whole = f.whole; at_is = f.at_is; counted = f.counted; few = f.few })
    by-found None (inr f) = inr (record { none = f.none; more = f.more; cut = f.cut; short = f.short; at_is = f.at_is; counted = f.counted })
    by-found (Some d) was = was
