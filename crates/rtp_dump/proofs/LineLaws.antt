-- The line that is found is the line that is spelled.
use Rattle.std.proofs.Common.{◌≡◌, ◌≢◌, ◌<◌, ◌≤◌, ◌+◌, ◌-◌, ◌++◌, ◌∷◌, [], ℕ, List, length, take, drop, refl, sym, ap, ◌∙◌, arith, Ok, Err, ◌⊎◌, inl, inr, get_or}
use Rattle.std.proofs.lemmas.Bool.{cases_lt}
use Rattle.std.proofs.lemmas.List.{get_or-take, get_or_append_left, get_or_at, get_or-append_right, get_or_default, length-append, length-take, take_more}
use Rattle.rtp_dump.specs.Spelling.{BeginsLine, IsLine, IsLongestFront, magic, newline}
use Rattle.rtp_dump.specs.Capture.{line_at}
use Rattle.rtp_dump.proofs.Lines.{Stands, StandTo, completes, ends_line, line_at-ends, LineFact, magic-clear}

-- what stands in a line: its octets up to the last, which is the newline
pub record IsSpelledLine (line : List ℕ) : Type 0 where
  pub long : 12 < length line
  pub short : length line ≤ 1024
  pub stand : StandTo (length line - 1) line
  pub ends : get_or line (length line - 1) 0 ≡ newline

-- the octets of a line before its newline
stand_line : (text : List ℕ) → (¬ ((k : ℕ) × (k < length text) × (get_or text k newline ≡ newline))) → (k : ℕ) → k < 12 + length text → Stands k (get_or (magic ++ text) k 0)
stand_line text one k h = elim (cases_lt k 12) [
  | inl early ↦
      let is : get_or (magic ++ text) k 0 ≡ get_or magic k 0 = get_or_append_left magic text 0 k early in
      rw is (record { magical = λ _. refl; clear = magic-clear k early })
  | inr late ↦
      let is : get_or (magic ++ text) k 0 ≡ get_or text (k - 12) 0 = get_or-append_right magic text 12 k 0 refl late in
      rw is (record {
        magical = λ early. absurd (omega arith);
        clear = λ e. one (k - 12, omega arith, get_or_default text (k - 12) newline 0 (omega arith) ∙ e);
      })
]

pub line_spelled : (line : List ℕ) → IsLine line → IsSpelledLine line
line_spelled line is =
    let front : List ℕ = magic ++ is.text in
    let size : length front ≡ 12 + length is.text = length-append magic is.text in
    let whole : length line ≡ length front + 1 = ap length is.spelled ∙ length-append front (newline ∷ []) in
    record {
      long = omega arith;
      short = is.short;
      stand = λ k h.
          let at : get_or line k 0 ≡ get_or front k 0 = ap (λ (l : List ℕ). get_or l k 0) is.spelled ∙ get_or_append_left front (newline ∷ []) 0 k (omega arith) in
          rw at (stand_line is.text is.one k (omega arith));
      ends = ap (λ (l : List ℕ). get_or l (length line - 1) 0) is.spelled ∙ get_or_at front newline [] 0 (length line - 1) (omega arith);
    }

-- a line at the front is found
pub line_at-line : (line rest : List ℕ) → IsLine line → line_at (line ++ rest) ≡ Ok (length line)
line_at-line line rest is =
    let s = line_spelled line is in
    let before : (k : ℕ) → k < length line → get_or (line ++ rest) k 0 ≡ get_or line k 0 = λ k h. get_or_append_left line rest 0 k h in
    let len : length line ≡ (length line - 1) + 1 = omega (arith, s.long) in
    line_at-ends (line ++ rest) (length line - 1) (omega (arith, s.long, length-append line rest)) (omega (arith, s.long)) (omega (arith, s.long, s.short))
    (λ k h. rw (before k (omega arith)) (s.stand k h))
    (before (length line - 1) (omega (arith, s.long)) ∙ s.ends)
    ∙ ap Ok (sym len)

-- what is found is a line
pub is_line : (octets : List ℕ) (len : ℕ) → LineFact octets (Ok len) → IsLine (take len octets)
is_line octets len (long, short, within, stand, ends) =
    let front : List ℕ = take (len - 1) octets in
    let size : length front ≡ len - 1 = omega (arith, length-take (len - 1) octets) in
    let one : (len - 1) + 1 ≡ len = omega arith in
    let whole : take len octets ≡ front ++ newline ∷ [] =
    ap (λ (k : ℕ). take k octets) (sym one) ∙ take_more octets (len - 1) 0 (omega arith)
    ∙ ap (λ (b : ℕ). front ++ b ∷ []) ends in
    let stands : StandTo (length front) front = λ k h. rw (get_or-take (len - 1) octets k 0 (omega arith)) (stand k (omega arith)) in
    rw whole (ends_line front stands (omega arith) (omega arith))

-- no longer front begins a line
not_longer : (octets : List ℕ) (n k : ℕ) → k ≤ length octets → n < 1024
    → (n < length octets → ((n < 12) × (get_or octets n 0 ≢ get_or magic n 0)) ⊎ ((n ≡ 1023) × (get_or octets n 0 ≢ newline)))
    → BeginsLine (take k octets) → k ≤ n
not_longer octets n k inside short wrong (more, is) = elim (cases_lt n k) [
  | inr below ↦ below
  | inl above ↦
      let s = line_spelled (take k octets ++ more) is in
      let size : length (take k octets) ≡ k = omega (arith, length-take k octets) in
      let len : length (take k octets ++ more) ≡ k + length more = length-append (take k octets) more ∙ ap (λ (j : ℕ). j + length more) size in
      let same : get_or (take k octets ++ more) n 0 ≡ get_or octets n 0 =
      get_or_append_left (take k octets) more 0 n (omega arith) ∙ get_or-take k octets n 0 above in
      elim (wrong (omega arith)) [
        | inl (early, differs) ↦ absurd (differs (sym same ∙ (s.stand n (omega (arith, s.long))).magical early))
        | inr (last, no_newline) ↦
            let at : length (take k octets ++ more) - 1 ≡ n = omega (arith, s.short) in
            absurd (no_newline (sym same ∙ ap (λ (j : ℕ). get_or (take k octets ++ more) j 0) (sym at) ∙ s.ends))
      ]
]

-- without a line, the place is the length of the longest front that some line begins with
pub longest_front : (octets : List ℕ) (n : ℕ) → LineFact octets (Err n) → IsLongestFront octets n
longest_front octets n (within, short, stand, wrong) =
    let size : length (take n octets) ≡ n = omega (arith, length-take n octets) in
    let stands : StandTo (length (take n octets)) (take n octets) = λ k h. rw (get_or-take n octets k 0 (omega arith)) (stand k (omega arith)) in
    record {
      within = within;
      begins = (drop (length (take n octets)) magic ++ newline ∷ [], completes (take n octets) stands (omega arith));
      longest = λ k inside begins. not_longer octets n k inside short wrong begins;
    }
