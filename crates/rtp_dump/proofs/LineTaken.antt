-- What a reader took for the line and the file head, and what that shows of the octets that were left.
use Rattle.std.proofs.Common.{◌≡◌, ◌≢◌, ◌<◌, ◌≤◌, ◌+◌, ◌-◌, ◌++◌, ◌∷◌, [], ℕ, List, length, take, drop, min, refl, sym, ap, ◌∙◌, subst, arith, true, false, replicate, Option, Some, None, Ok, Err, inl, inr, get_or}
use Rattle.std.specs.Prelude.{IfSome, nat_le, ◌==◌, ◌||◌}
use Rattle.std.proofs.lemmas.Bool.{cases_lt, eqb-true, eqb-false, or_cases, or_parts, leb-true, leb-false}
use Rattle.std.proofs.lemmas.List.{append-nil, append_assoc, drop_at, get_or_append_left, get_or_at, length-append, length-replicate, length-take, take-append-drop}
use Rattle.edge_io.specs.Told.{Loses, LosesFewer, Takes}
use Rattle.rtp_dump.specs.Spelling.{BeginsLine, IsLine, magic, newline}
use Rattle.rtp_dump.specs.declared.item.TheConstants.{MAX_RECORDS}
use Rattle.rtp_dump.specs.Capture.{capture, line_at, opening, records_from}
use Rattle.rtp_dump.specs.declared.faults.DumpKind.TheVariants.{NotDump}
use Rattle.rtp_dump.specs.declared.faults.HeadEnd.TheVariants.{Bad}
use Rattle.rtp_dump.specs.Reading.{AnswersLine, AnswersOpening, IsOpening, IsPartOfOpening}
use Rattle.rtp_dump.proofs.Lines.{IsFront, Stands, StandTo, completes, ends_line, line_at-ends, line_at-long, line_at-stops, magic-clear}

-- a front of this length
abbrev pub Front : ℕ → List ℕ → Type 0
Front n front = (length front ≡ n) × IsFront front

no_octets : (bytes : List ℕ) → length bytes ≡ 0 → bytes ≡ []
no_octets [] e = refl
no_octets (b ∷ bytes) e = absurd (omega arith)

-- what is left begins with the octet that was read
first_octet : (after buf : List ℕ) (got : ℕ) → got ≡ 1 → 0 < length after → take got buf ≡ take got after → after ≡ get_or buf 0 0 ∷ drop 1 after
first_octet [] buf got one some same = absurd (omega arith)
first_octet (a ∷ after) [] got one some same = let e : take 1 [] ≡ take 1 (a ∷ after) = subst (λ (k : ℕ). take k [] ≡ take k (a ∷ after)) one same in absurd (cc)
first_octet (a ∷ after) (b ∷ buf) got one some same = let e : take 1 (b ∷ buf) ≡ take 1 (a ∷ after) = subst (λ (k : ℕ). take k (b ∷ buf) ≡ take k (a ∷ after)) one same in cc

-- the octets of a front stand whatever follows it
stand-append : (front after : List ℕ) → StandTo (length front) front → StandTo (length front) (front ++ after)
stand-append front after stand = λ k h. rw (get_or_append_left front after 0 k h) (stand k h)

-- the same where the front's length is known
stand_before : (n : ℕ) (front after : List ℕ) → length front ≡ n → StandTo (length front) front → StandTo n (front ++ after)
stand_before n front after len stand =
    let P : ℕ → Type 0 = λ k. StandTo k (front ++ after) in subst P len (stand-append front after stand)

-- an octet that may stand at its place, and is no newline
pub stands : (at b : ℕ) → true ≡ (nat_le 12 at || (b == get_or magic at 0)) → b ≢ newline → Stands at b
stands at b may clear = record {
  magical = λ early. elim (or_cases _ _ (sym may)) [ inl late ↦ absurd (omega (arith, leb-true 12 at late)) | inr same ↦ eqb-true _ _ same ];
  clear = clear;
}

-- only behind the magic a newline may stand
pub late : (at b : ℕ) → true ≡ (nat_le 12 at || (b == get_or magic at 0)) → b ≡ newline → 12 ≤ at
late at b may ends = elim (cases_lt at 12) [
  | inr behind ↦ behind
  | inl early ↦ elim (or_cases (nat_le 12 at) (b == get_or magic at 0) (sym may)) [
    | inl behind ↦ leb-true 12 at behind
    | inr same ↦ absurd (magic-clear at early (sym (eqb-true _ _ same) ∙ ends))
  ]
]

-- what a fault of the line is
pub is_no_dump : (old : Option (List ℕ)) (at : ℕ) → IfSome old (λ octets. line_at octets ≡ Err at)
    → IfSome old (λ octets. AnswersLine (Err (Bad at NotDump)) (line_at octets))
is_no_dump None at h = tt
is_no_dump (Some rest) at h = (refl, h)

-- one octet more stands
stand_push : (front : List ℕ) (b : ℕ) → StandTo (length front) front → Stands (length front) b → StandTo (length front + 1) (front ++ b ∷ [])
stand_push front b stand here = λ k h. elim (cases_lt k (length front)) [
  | inl below ↦ rw (get_or_append_left front (b ∷ []) 0 k below) (stand k below)
  | inr at ↦
      let e : k ≡ length front = omega arith in
      rw (e, get_or_at front b [] 0 (length front) refl) here
]

-- a read of an octet behind a front
record Seen (rest : List ℕ) (new : Option (List ℕ)) (at got : ℕ) (buf : List ℕ) : Type 0 where
  front : List ℕ
  after : List ℕ
  len : length front ≡ at
  is : IsFront front
  split : rest ≡ front ++ after
  count : got ≡ min (length after) 1
  same : take got buf ≡ take got after
  left : new ≡ Some (drop got after)

seen : (rest : List ℕ) (cur new : Option (List ℕ)) (at got : ℕ) (buf : List ℕ) → Loses (Some rest) cur (Front at)
    → IfSome cur (λ octets. got ≡ min (length octets) 1) → Takes cur new got buf → Seen rest new at got buf
seen rest cur new at got buf (front, after, (len, is), split, cur_is) told taken =
    let P : Option (List ℕ) → Type 0 = λ cur. Takes cur new got buf in
    let Q : Option (List ℕ) → Type 0 = λ cur. IfSome cur (λ octets. got ≡ min (length octets) 1) in
    let here : Takes (Some after) new got buf = subst P cur_is taken in
    record { front = front; after = after; len = len; is = is; split = split; count = subst Q cur_is told; same = here.0; left = here.1 }

-- where nothing is told before, nothing is told after
untold : (cur new : Option (List ℕ)) (got : ℕ) (buf : List ℕ) → cur ≡ None → Takes cur new got buf → new ≡ None
untold cur new got buf lost taken = let P : Option (List ℕ) → Type 0 = λ cur. Takes cur new got buf in subst P lost taken

-- one octet more of the front
pub front_more : (old cur new : Option (List ℕ)) (at got : ℕ) (buf : List ℕ) → Loses old cur (Front at)
    → IfSome cur (λ octets. got ≡ min (length octets) 1) → Takes cur new got buf → got ≢ 0 → at < 1024 → Stands at (get_or buf 0 0)
    → Loses old new (Front (at + 1))
front_more None cur new at got buf lost told taken some short stand = untold cur new got buf lost taken
front_more (Some rest) cur new at got buf lost told taken some short stand =
    let s = seen rest cur new at got buf lost told taken in
    let one : got ≡ 1 = omega (arith, s.count) in
    let next : s.after ≡ get_or buf 0 0 ∷ drop 1 s.after = first_octet s.after buf got one (omega (arith, s.count)) s.same in
    let here : Stands (length s.front) (get_or buf 0 0) = rw s.len stand in
    let size : length (s.front ++ get_or buf 0 0 ∷ []) ≡ length s.front + 1 = length-append s.front (get_or buf 0 0 ∷ []) in (
      s.front ++ get_or buf 0 0 ∷ [],
      drop 1 s.after,
      (
        size ∙ ap (λ (k : ℕ). k + 1) s.len,
        record {
          stand = rw size (stand_push s.front (get_or buf 0 0) s.is.stand here);
          short = omega (arith, s.len, size);
        },
      ),
      s.split ∙ ap (λ (r : List ℕ). s.front ++ r) next ∙ sym (append_assoc s.front (get_or buf 0 0 ∷ []) (drop 1 s.after)),
      s.left ∙ ap (λ (k : ℕ). Some (drop k s.after)) one,
    )

-- the line ends at a newline
pub line_ends : (old cur new : Option (List ℕ)) (at got : ℕ) (buf : List ℕ) → Loses old cur (Front at)
    → IfSome cur (λ octets. got ≡ min (length octets) 1) → Takes cur new got buf → got ≢ 0 → at < 1024 → 12 ≤ at → get_or buf 0 0 ≡ newline
    → IfSome old (λ octets. line_at octets ≡ Ok (at + 1))
line_ends None cur new at got buf lost told taken some short late ends = tt
line_ends (Some rest) cur new at got buf lost told taken some short late ends =
    let s = seen rest cur new at got buf lost told taken in
    let one : got ≡ 1 = omega (arith, s.count) in
    let next : s.after ≡ get_or buf 0 0 ∷ drop 1 s.after = first_octet s.after buf got one (omega (arith, s.count)) s.same in
    let whole : rest ≡ s.front ++ get_or buf 0 0 ∷ drop 1 s.after = s.split ∙ ap (λ (r : List ℕ). s.front ++ r) next in
    let here : get_or (s.front ++ get_or buf 0 0 ∷ drop 1 s.after) at 0 ≡ newline = get_or_at s.front (get_or buf 0 0) (drop 1 s.after) 0 at s.len ∙ ends in
    let stand : StandTo at (s.front ++ get_or buf 0 0 ∷ drop 1 s.after) = stand_before at s.front (get_or buf 0 0 ∷ drop 1 s.after) s.len s.is.stand in
    rw whole (line_at-ends (s.front ++ get_or buf 0 0 ∷ drop 1 s.after) at
    (omega (arith, s.len, length-append s.front (get_or buf 0 0 ∷ drop 1 s.after))) late short stand here)

-- and it was taken
pub line_taken : (old cur new : Option (List ℕ)) (at got : ℕ) (buf : List ℕ) → Loses old cur (Front at)
    → IfSome cur (λ octets. got ≡ min (length octets) 1) → Takes cur new got buf → got ≢ 0 → at < 1024 → 12 ≤ at → get_or buf 0 0 ≡ newline
    → Loses old new (λ front. IsLine front × (length front ≡ at + 1))
line_taken None cur new at got buf lost told taken some short late ends = untold cur new got buf lost taken
line_taken (Some rest) cur new at got buf lost told taken some short late ends =
    let s = seen rest cur new at got buf lost told taken in
    let one : got ≡ 1 = omega (arith, s.count) in
    let next : s.after ≡ newline ∷ drop 1 s.after =
    first_octet s.after buf got one (omega (arith, s.count)) s.same ∙ ap (λ (b : ℕ). b ∷ drop 1 s.after) ends in (
      s.front ++ newline ∷ [],
      drop 1 s.after,
      (ends_line s.front s.is.stand (omega (arith, s.len)) (omega (arith, s.len)), length-append s.front (newline ∷ []) ∙ ap (λ (k : ℕ). k + 1) s.len),
      s.split ∙ ap (λ (r : List ℕ). s.front ++ r) next ∙ sym (append_assoc s.front (newline ∷ []) (drop 1 s.after)),
      s.left ∙ ap (λ (k : ℕ). Some (drop k s.after)) one,
    )

-- the octets end before the line does
pub line_torn : (old cur new : Option (List ℕ)) (at got : ℕ) (buf : List ℕ) → Loses old cur (Front at)
    → IfSome cur (λ octets. got ≡ min (length octets) 1) → Takes cur new got buf → got ≡ 0 → at < 1024
    → IfSome old (λ octets. line_at octets ≡ Err at)
line_torn None cur new at got buf lost told taken none short = tt
line_torn (Some rest) cur new at got buf lost told taken none short =
    let s = seen rest cur new at got buf lost told taken in
    let none_left : s.after ≡ [] = no_octets s.after (omega (arith, s.count)) in
    let all : rest ≡ s.front = s.split ∙ ap (λ (r : List ℕ). s.front ++ r) none_left ∙ append-nil s.front in
    let stand : StandTo at (s.front ++ []) = stand_before at s.front [] s.len s.is.stand in
    rw all (line_at-stops s.front at (omega (arith, s.len)) short (rw append-nil at stand) (λ more. absurd (omega (arith, s.len))))

-- an octet stands where it may not
pub line_wrong : (old cur new : Option (List ℕ)) (at got : ℕ) (buf : List ℕ) → Loses old cur (Front at)
    → IfSome cur (λ octets. got ≡ min (length octets) 1) → Takes cur new got buf → got ≢ 0 → false ≡ (nat_le 12 at || (get_or buf 0 0 == get_or magic at 0))
    → IfSome old (λ octets. line_at octets ≡ Err at)
line_wrong None cur new at got buf lost told taken some wrong = tt
line_wrong (Some rest) cur new at got buf lost told taken some wrong =
    let s = seen rest cur new at got buf lost told taken in
    let one : got ≡ 1 = omega (arith, s.count) in
    let next : s.after ≡ get_or buf 0 0 ∷ drop 1 s.after = first_octet s.after buf got one (omega (arith, s.count)) s.same in
    let whole : rest ≡ s.front ++ get_or buf 0 0 ∷ drop 1 s.after = s.split ∙ ap (λ (r : List ℕ). s.front ++ r) next in
    let here : get_or (s.front ++ get_or buf 0 0 ∷ drop 1 s.after) at 0 ≡ get_or buf 0 0 = get_or_at s.front (get_or buf 0 0) (drop 1 s.after) 0 at s.len in
    let stand : StandTo at (s.front ++ get_or buf 0 0 ∷ drop 1 s.after) = stand_before at s.front (get_or buf 0 0 ∷ drop 1 s.after) s.len s.is.stand in
    let (early, other) = or_parts _ _ (sym wrong) in
    let below : at < 12 = leb-false 12 at early in
    rw whole (line_at-stops (s.front ++ get_or buf 0 0 ∷ drop 1 s.after) at
    (omega (arith, s.len, length-append s.front (get_or buf 0 0 ∷ drop 1 s.after))) (omega arith) stand
    (λ more. (below, λ e. eqb-false _ _ other (sym here ∙ e))))

-- no newline comes
pub line_long : (old cur : Option (List ℕ)) (at : ℕ) → at ≡ 1024 → Loses old cur (Front at) → IfSome old (λ octets. line_at octets ≡ Err 1023)
line_long None cur at all lost = tt
line_long (Some rest) cur at all (front, after, (len, is), split, left) =
    let stand : StandTo 1024 (front ++ after) = stand_before 1024 front after (len ∙ all) is.stand in
    rw split (line_at-long (front ++ after) (omega (arith, len, all, length-append front after)) stand)

-- a failed read inside the line took what a line begins with
pub part_of_line : (old cur new : Option (List ℕ)) (at : ℕ) → Loses old cur (Front at) → at < 1024 → LosesFewer cur new 1 → Loses old new BeginsLine
part_of_line None cur new at lost short fewer =
    let P : Option (List ℕ) → Type 0 = λ cur. LosesFewer cur new 1 in subst P lost fewer
part_of_line (Some rest) cur new at (front, after, (len, is), split, cur_is) short fewer =
    let P : Option (List ℕ) → Type 0 = λ cur. LosesFewer cur new 1 in
    let (n, none, left) = subst P cur_is fewer in (
      front,
      after,
      (drop (length front) magic ++ newline ∷ [], completes front is.stand (omega (arith, len))),
      split,
      left ∙ (let zero_is : n ≡ 0 = omega arith in ap (λ (k : ℕ). Some (drop k after)) zero_is),
    )

-- the rest of a line and a file head
IsOpening-begun : (front : List ℕ) → BeginsLine front → IsPartOfOpening front
IsOpening-begun front (more, line) =
    let sixteen : List ℕ = replicate 16 0 in
    let sixteen_len : length sixteen ≡ 16 = refl in (
      more ++ sixteen,
      omega (arith, length-append more sixteen, sixteen_len),
      (front ++ more, sixteen, line, sixteen_len, sym (append_assoc front more sixteen)),
    )

-- a failed read inside the line took a part of the opening
pub part_of_opening : (old new : Option (List ℕ)) → Loses old new BeginsLine → Loses old new IsPartOfOpening
part_of_opening None new lost = lost
part_of_opening (Some rest) new (front, after, begun, split, left) = (front, after, IsOpening-begun front begun, split, left)

-- so did a failed read inside the file head
pub part_of_file_head : (old cur new : Option (List ℕ)) (len : ℕ) → Loses old cur (λ front. IsLine front × (length front ≡ len))
    → LosesFewer cur new 16 → Loses old new IsPartOfOpening
part_of_file_head None cur new len lost fewer =
    let P : Option (List ℕ) → Type 0 = λ cur. LosesFewer cur new 16 in subst P lost fewer
part_of_file_head (Some rest) cur new len (line, after, (is, size), split, cur_is) fewer =
    let P : Option (List ℕ) → Type 0 = λ cur. LosesFewer cur new 16 in
    let (n, few, left) = subst P cur_is fewer in
    let short : length (take n after) ≤ n = omega (arith, length-take n after) in
    let zeros : List ℕ = replicate (16 - length (take n after)) 0 in
    let zeros_len : length zeros ≡ 16 - length (take n after) = length-replicate (16 - length (take n after)) 0 in (
      line ++ take n after,
      drop n after,
      (zeros, omega arith, (line, take n after ++ zeros, is, omega (arith, length-append (take n after) zeros), append_assoc line (take n after) zeros)),
      split ∙ ap (λ (r : List ℕ). line ++ r) (sym (take-append-drop n after)) ∙ sym (append_assoc line (take n after) (drop n after)),
      left,
    )

-- a whole opening was taken
pub opening_taken : (old cur new : Option (List ℕ)) (len got : ℕ) (buf : List ℕ)
    → Loses old cur (λ front. IsLine front × (length front ≡ len)) → IfSome cur (λ octets. got ≡ min (length octets) 16) → Takes cur new got buf → 16 ≤ got
    → Loses old new (λ front. IsOpening front × (length front ≡ len + 16))
opening_taken None cur new len got buf lost told taken long = untold cur new got buf lost taken
opening_taken (Some rest) cur new len got buf (line, after, (is, size), split, cur_is) told taken long =
    let P : Option (List ℕ) → Type 0 = λ cur. IfSome cur (λ octets. got ≡ min (length octets) 16) in
    let Q : Option (List ℕ) → Type 0 = λ cur. Takes cur new got buf in
    let count : got ≡ min (length after) 16 = subst P cur_is told in
    let here : Takes (Some after) new got buf = subst Q cur_is taken in
    let head_len : length (take got after) ≡ 16 = omega (arith, length-take got after) in (
      line ++ take got after,
      drop got after,
      ((line, take got after, is, head_len, refl), omega (arith, length-append line (take got after))),
      split ∙ ap (λ (r : List ℕ). line ++ r) (sym (take-append-drop got after)) ∙ sym (append_assoc line (take got after) (drop got after)),
      here.1,
    )

-- what was left for the records is still ahead
pub goes_on_opening : (old new : Option (List ℕ)) (len : ℕ) → IfSome old (λ octets. AnswersOpening (Ok len) (opening octets))
    → Loses old new (λ front. IsOpening front × (length front ≡ len)) → IfSome old (λ octets. IfSome new (λ left. capture octets ≡ records_from MAX_RECORDS len left))
unfolding capture
goes_on_opening None new len found lost = tt
goes_on_opening (Some rest) None len found lost = tt
goes_on_opening (Some rest) (Some left) len found (front, after, (is, size), split, left_is) =
    let same : drop len rest ≡ left = ap (drop len) split ∙ drop_at front after len size ∙ cc in
    rw (found, same) refl
