-- The line of a capture, octet by octet.
use Rattle.std.proofs.Common.{◌≡◌, ◌≢◌, ◌<◌, ◌≤◌, ◌+◌, ◌-◌, ◌++◌, ◌∷◌, [], ℕ, zero, suc, List, length, take, drop, min, refl, sym, ap, ◌∙◌, subst, arith, true, false, Result, Ok, Err, ◌⊎◌, inl, inr, get_or}
use Rattle.std.specs.Prelude.{nat_lt, nat_eq, ◌==◌}
use Rattle.std.specs.List.{common_prefix_len}
use Rattle.std.proofs.lemmas.Bool.{cases_eq, cases_lt, ne_eqb, eq-eqb, le-ltb, lt-ltb, eqb-false, eqb-true}
use Rattle.std.proofs.lemmas.List.{append-nil, ext_get_or, take-append-drop, drop_all, length-take, length-drop, length-append, append_assoc, get_or-take, get_or-drop, get_or_default}
use Rattle.std.proofs.lemmas.List.Sums.{common_prefix_len-le, fails_before_first, passes_at_first, position_or_len_is}
use Rattle.rtp_dump.specs.Spelling.{IsLine, magic, newline}
use Rattle.rtp_dump.specs.Capture.{line_at, magic_len, newline_at}

-- an octet may stand at a place of a line, before its newline
pub record Stands (place octet : ℕ) : Type 0 where
  pub magical : place < 12 → octet ≡ get_or magic place 0
  pub clear : octet ≢ newline

-- each octet stands where it may, up to a place
abbrev pub StandTo : ℕ → List ℕ → Type 0
StandTo n bytes = (k : ℕ) → k < n → Stands k (get_or bytes k 0)

-- the magic has no newline
pub magic-clear : (k : ℕ) → k < 12 → get_or magic k 0 ≢ newline
magic-clear k h e = eqb-false _ _ (fails_before_first (λ b. b == newline) magic k 0 h) e

-- the first place at which two lists differ
common_prefix_len_is : (xs ys : List ℕ) (n : ℕ) → n ≤ length xs → n ≤ length ys → ((k : ℕ) → k < n → get_or xs k 0 ≡ get_or ys k 0)
    → (n < length xs → n < length ys → get_or xs n 0 ≢ get_or ys n 0) → common_prefix_len nat_eq xs ys ≡ n
common_prefix_len_is [] ys n p q same other = omega arith
common_prefix_len_is (x ∷ xs) [] n p q same other = omega arith
common_prefix_len_is (x ∷ xs) (y ∷ ys) zero p q same other = rw (ne_eqb x y (other (omega arith) (omega arith))) refl
common_prefix_len_is (x ∷ xs) (y ∷ ys) (suc n) p q same other =
    let rest : common_prefix_len nat_eq xs ys ≡ n =
    common_prefix_len_is xs ys n (omega arith) (omega arith) (λ k h. same (suc k) (omega arith)) (λ a b. other (omega arith) (omega arith)) in
    rw (eq-eqb x y (same 0 (omega arith)), rest) (omega arith)

same_here : (x y : ℕ) (xs ys : List ℕ) (k : ℕ) → x ≡ y → ((j : ℕ) → k ≡ suc j → get_or xs j 0 ≡ get_or ys j 0) → get_or (x ∷ xs) k 0 ≡ get_or (y ∷ ys) k 0
same_here x y xs ys zero same rest = same
same_here x y xs ys (suc k) same rest = rest k refl

-- below it they are equal
common_prefix_len_same : (xs ys : List ℕ) (k : ℕ) → k < common_prefix_len nat_eq xs ys → get_or xs k 0 ≡ get_or ys k 0
common_prefix_len_same [] ys k h = absurd (omega arith)
common_prefix_len_same (x ∷ xs) [] k h = absurd (omega arith)
common_prefix_len_same (x ∷ xs) (y ∷ ys) k h = elim (cases_eq x y) [
  | inr apart ↦ let none : 0 ≡ common_prefix_len nat_eq (x ∷ xs) (y ∷ ys) = rw (ne_eqb x y apart) refl in absurd (omega arith)
  | inl same ↦
      let more : 1 + common_prefix_len nat_eq xs ys ≡ common_prefix_len nat_eq (x ∷ xs) (y ∷ ys) = rw (eq-eqb x y same) refl in
      same_here x y xs ys k same (λ j e. common_prefix_len_same xs ys j (omega arith))
]

-- at it they differ
common_prefix_len_other : (xs ys : List ℕ) → common_prefix_len nat_eq xs ys < length xs → common_prefix_len nat_eq xs ys < length ys
    → get_or xs (common_prefix_len nat_eq xs ys) 0 ≢ get_or ys (common_prefix_len nat_eq xs ys) 0
common_prefix_len_other [] ys p q = absurd (omega arith)
common_prefix_len_other (x ∷ xs) [] p q = absurd (omega arith)
common_prefix_len_other (x ∷ xs) (y ∷ ys) p q = elim (cases_eq x y) [
  | inr apart ↦
      let none : common_prefix_len nat_eq (x ∷ xs) (y ∷ ys) ≡ 0 = rw (ne_eqb x y apart) refl in
      rw none apart
  | inl same ↦
      let more : common_prefix_len nat_eq (x ∷ xs) (y ∷ ys) ≡ suc (common_prefix_len nat_eq xs ys) = rw (eq-eqb x y same) (omega arith) in
      rw more (common_prefix_len_other xs ys (omega arith) (omega arith))
]

-- no line goes on past a place
pub line_at-stops : (bytes : List ℕ) (n : ℕ) → n ≤ length bytes → n < 1024 → StandTo n bytes
    → (n < length bytes → (n < 12) × (get_or bytes n 0 ≢ get_or magic n 0)) → line_at bytes ≡ Err n
unfolding line_at
line_at-stops bytes n within short stand ends = elim (cases_lt n 12) [
  | inl early ↦
      let agrees : magic_len bytes ≡ n =
      common_prefix_len_is magic bytes n (omega arith) within (λ k h. sym ((stand k h).magical (omega arith)))
      (λ p q e. (ends q).1 (sym e)) in
      let cut : nat_lt (magic_len bytes) 12 ≡ true = rw agrees (lt-ltb n 12 early) in
      rw (cut, agrees) refl
  | inr late ↦
      let all : n ≡ length bytes = elim (cases_lt n (length bytes)) [ inl more ↦ absurd (omega (arith, (ends more).0)) | inr same ↦ omega arith ] in
      let agrees : magic_len bytes ≡ 12 =
      common_prefix_len_is magic bytes 12 (omega arith) (omega arith) (λ k h. sym ((stand k (omega arith)).magical h)) (λ p q e. absurd (omega arith)) in
      let none : newline_at bytes ≡ n = position_or_len_is (λ b. b == newline) bytes n 0 within (λ k h. ne_eqb _ _ (stand k h).clear) (λ h. absurd (omega arith)) in
      let whole : nat_lt (magic_len bytes) 12 ≡ false = rw agrees refl in
      let clear : nat_lt (newline_at bytes) (min (length bytes) 1024) ≡ false = le-ltb _ _ (omega arith) in
      rw (whole, clear) (ap Err (omega arith))
]

-- a newline ends the line
pub line_at-ends : (bytes : List ℕ) (n : ℕ) → n < length bytes → 12 ≤ n → n < 1024 → StandTo n bytes → get_or bytes n 0 ≡ newline → line_at bytes ≡ Ok (n + 1)
unfolding line_at
line_at-ends bytes n within long short stand ends =
    let agrees : magic_len bytes ≡ 12 =
    common_prefix_len_is magic bytes 12 (omega arith) (omega arith) (λ k h. sym ((stand k (omega arith)).magical h)) (λ p q e. absurd (omega arith)) in
    let found : newline_at bytes ≡ n = position_or_len_is (λ b. b == newline) bytes n 0 (omega arith) (λ k h. ne_eqb _ _ (stand k h).clear) (λ h. eq-eqb _ _ ends) in
    let whole : nat_lt (magic_len bytes) 12 ≡ false = rw agrees refl in
    let here : nat_lt (newline_at bytes) (min (length bytes) 1024) ≡ true = lt-ltb _ _ (omega arith) in
    rw (whole, here) (ap Ok (omega arith))

-- no newline comes
pub line_at-long : (bytes : List ℕ) → 1024 ≤ length bytes → StandTo 1024 bytes → line_at bytes ≡ Err 1023
unfolding line_at
line_at-long bytes long stand =
    let agrees : magic_len bytes ≡ 12 =
    common_prefix_len_is magic bytes 12 (omega arith) (omega arith) (λ k h. sym ((stand k (omega arith)).magical h)) (λ p q e. absurd (omega arith)) in
    let far : 1024 ≤ newline_at bytes = elim (cases_lt (newline_at bytes) 1024) [
      | inr far ↦ far
      | inl near ↦
          let ends : get_or bytes (newline_at bytes) 0 ≡ newline = eqb-true _ _ (passes_at_first (λ b. b == newline) bytes 0 (omega arith)) in
          absurd ((stand (newline_at bytes) near).clear ends)
    ] in
    let whole : nat_lt (magic_len bytes) 12 ≡ false = rw agrees refl in
    let clear : nat_lt (newline_at bytes) (min (length bytes) 1024) ≡ false = le-ltb _ _ (omega arith) in
    rw (whole, clear) (ap Err (omega arith))

-- so far a line
pub record IsFront (front : List ℕ) : Type 0 where
  pub stand : StandTo (length front) front
  pub short : length front ≤ 1024

-- a front with the rest of the magic
front-magic : (front : List ℕ) → StandTo (length front) front → front ++ drop (length front) magic ≡ magic ++ drop 12 front
front-magic front stand = elim (cases_lt (length front) 12) [
  | inl early ↦
      let begins : front ≡ take (length front) magic =
      ext_get_or 0 front (take (length front) magic) (omega (arith, length-take (length front) magic))
      (λ k h. (stand k h).magical (omega arith) ∙ sym (get_or-take (length front) magic k 0 h)) in
      let none : drop 12 front ≡ [] = drop_all 12 front (omega arith) in
      ap (λ (f : List ℕ). f ++ drop (length front) magic) begins ∙ take-append-drop (length front) magic ∙ sym (append-nil magic) ∙ ap (λ (r : List ℕ). magic ++ r) (sym none)
  | inr late ↦
      let begins : take 12 front ≡ magic =
      ext_get_or 0 (take 12 front) magic (omega (arith, length-take 12 front))
      (λ k h. get_or-take 12 front k 0 (omega (arith, length-take 12 front)) ∙ (stand k (omega (arith, length-take 12 front))).magical (omega (arith, length-take 12 front))) in
      let none : drop (length front) magic ≡ [] = drop_all (length front) magic (omega arith) in
      ap (λ (r : List ℕ). front ++ r) none ∙ append-nil front ∙ sym (take-append-drop 12 front) ∙ ap (λ (f : List ℕ). f ++ drop 12 front) begins
]

-- a front can be gone on to a line
pub completes : (front : List ℕ) → StandTo (length front) front → length front < 1024 → IsLine (front ++ (drop (length front) magic ++ newline ∷ []))
completes front stand short = record {
  text = drop 12 front;
  spelled = sym (append_assoc front (drop (length front) magic) (newline ∷ [])) ∙ ap (λ (f : List ℕ). f ++ newline ∷ []) (front-magic front stand);
  one = λ (k, within, is).
      (stand (12 + k) (omega (arith, length-drop 12 front))).clear
      (sym (get_or-drop 12 front k 0) ∙ get_or_default (drop 12 front) k 0 newline within ∙ is);
  short = omega (arith, length-append front (drop (length front) magic ++ newline ∷ []), length-append (drop (length front) magic) (newline ∷ []), length-drop (length front) magic);
}

-- a newline ends a front that has the magic
pub ends_line : (front : List ℕ) → StandTo (length front) front → 12 ≤ length front → length front < 1024 → IsLine (front ++ newline ∷ [])
ends_line front stand long short =
    let P : List ℕ → Type 0 = λ more. IsLine (front ++ (more ++ newline ∷ [])) in
    subst P (drop_all (length front) magic (omega arith)) (completes front stand short)

-- what the octets are by their line
abbrev pub LineFact : List ℕ → Result ℕ ℕ → Type 0
LineFact bytes (Ok len) = (12 < len) × (len ≤ 1024) × (len ≤ length bytes) × StandTo (len - 1) bytes × (get_or bytes (len - 1) 0 ≡ newline)
LineFact bytes (Err n) = (n ≤ length bytes) × (n < 1024) × StandTo n bytes
    × (n < length bytes → ((n < 12) × (get_or bytes n 0 ≢ get_or magic n 0)) ⊎ ((n ≡ 1023) × (get_or bytes n 0 ≢ newline)))

-- the octets that agree with the magic stand
stand_magic : (bytes : List ℕ) (k : ℕ) → k < magic_len bytes → Stands k (get_or bytes k 0)
stand_magic bytes k h =
    let same : get_or magic k 0 ≡ get_or bytes k 0 = common_prefix_len_same magic bytes k h in
    let early : k < 12 = omega (arith, (common_prefix_len-le nat_eq magic bytes).0) in
    record { magical = λ _. sym same; clear = λ e. magic-clear k early (same ∙ e) }

-- where the magic is whole, the octets up to the newline stand
stand_clear : (bytes : List ℕ) (n : ℕ) → 12 ≤ magic_len bytes → n ≤ newline_at bytes → StandTo n bytes
stand_clear bytes n magical far = λ k h. record {
  magical = λ early. (stand_magic bytes k (omega arith)).magical early;
  clear = λ e. eqb-false _ _ (fails_before_first (λ b. b == newline) bytes k 0 (omega arith)) e;
}

pub line_at-fact : (bytes : List ℕ) → LineFact bytes (line_at bytes)
unfolding line_at
line_at-fact bytes =
    elim (cases_lt (magic_len bytes) 12) [
      | inl early ↦
          let is : line_at bytes ≡ Err (magic_len bytes) = rw (lt-ltb (magic_len bytes) 12 early) refl in
          let fact : LineFact bytes (Err (magic_len bytes)) = (
            (common_prefix_len-le nat_eq magic bytes).1,
            omega arith,
            λ k h. stand_magic bytes k h,
            λ more. inl (early, λ e. common_prefix_len_other magic bytes early more (sym e)),
          ) in
          subst (LineFact bytes) (sym is) fact
      | inr whole ↦ elim (cases_lt (newline_at bytes) (min (length bytes) 1024)) [
        | inl near ↦
            let is : line_at bytes ≡ Ok (newline_at bytes + 1) =
            rw (le-ltb (magic_len bytes) 12 whole, lt-ltb (newline_at bytes) (min (length bytes) 1024) near) refl in
            let ends : get_or bytes (newline_at bytes) 0 ≡ newline = eqb-true _ _ (passes_at_first (λ b. b == newline) bytes 0 (omega arith)) in
            let behind : 12 ≤ newline_at bytes = elim (cases_lt (newline_at bytes) 12) [
              | inr behind ↦ behind
              | inl early ↦ absurd ((stand_magic bytes (newline_at bytes) (omega arith)).clear ends)
            ] in
            let back : newline_at bytes + 1 - 1 ≡ newline_at bytes = omega arith in
            let fact : LineFact bytes (Ok (newline_at bytes + 1)) = (
              omega arith,
              omega arith,
              omega arith,
              stand_clear bytes (newline_at bytes + 1 - 1) whole (omega arith),
              ap (λ (k : ℕ). get_or bytes k 0) back ∙ ends,
            ) in
            subst (LineFact bytes) (sym is) fact
        | inr far ↦
            let is : line_at bytes ≡ Err (min (length bytes) 1023) =
            rw (le-ltb (magic_len bytes) 12 whole, le-ltb (newline_at bytes) (min (length bytes) 1024) far) refl in
            let fact : LineFact bytes (Err (min (length bytes) 1023)) = (
              omega arith,
              omega arith,
              stand_clear bytes (min (length bytes) 1023) whole (omega arith),
              λ more. inr (omega arith, λ e. (stand_clear bytes 1024 whole (omega arith) (min (length bytes) 1023) (omega arith)).clear e),
            ) in
            subst (LineFact bytes) (sym is) fact
      ]
    ]
