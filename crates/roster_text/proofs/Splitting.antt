-- Where the first line of a text, the first word of a line and the first field of a word end, and how a number goes on.
use denote.Ref.{Bor}
use Rattle.std.proofs.Common.{◌≡◌, ◌++◌, ◌+◌, ◌-◌, ◌*◌, ◌<◌, ◌≤◌, ℕ, zero, suc, true, false, not, cond, nat_eq, nat_le, List, [], ◌∷◌, length, take, drop, get_or, Option, None, Some, refl, sym, ap, ◌∙◌, arith}
use Rattle.std.proofs.lemmas.Bool.{cond-true, cond-false, eq-eqb, ne_eqb, lt-leb, true≢false}
use Rattle.std.proofs.lemmas.List.{append-nil, append_assoc, map-append, drop_more, get_or-drop, length-drop}
use Rattle.roster_text.specs.Lines.{onto, lines_of, fields_of, parts, goes_on, words_of, is_digit, number_from}
use Rattle.roster_text.specs.Grammar.{talker_of}
use Rattle.roster_text.specs.Lent.{texts}

-- the first newline ends the first line
pub line_at : (bs : List ℕ) (k : ℕ) → k < length bs → ((i : ℕ) → i < k → get_or bs i 0 ≡ 10 → ⊥) → get_or bs k 0 ≡ 10
    → lines_of bs ≡ take k bs ∷ lines_of (drop (suc k) bs)
line_at [] k h clear here = absurd (omega arith)
line_at (b ∷ bs) zero h clear here = cond-true {A = List (List ℕ)} (nat_eq b 10) ([] ∷ lines_of bs) (onto b (lines_of bs)) (eq-eqb b 10 here)
line_at (b ∷ bs) (suc k) h clear here =
    cond-false {A = List (List ℕ)} (nat_eq b 10) ([] ∷ lines_of bs) (onto b (lines_of bs)) (ne_eqb b 10 (clear 0 (omega arith)))
    ∙ ap (onto b) (line_at bs k (omega arith) (λ i l. clear (suc i) (omega arith)) here)

-- without a newline all is one line
pub line_last : (bs : List ℕ) → 0 < length bs → ((i : ℕ) → i < length bs → get_or bs i 0 ≡ 10 → ⊥) → lines_of bs ≡ bs ∷ []
line_last [] some clear = absurd (omega arith)
line_last (b ∷ []) some clear = cond-false {A = List (List ℕ)} (nat_eq b 10) ([] ∷ []) (onto b []) (ne_eqb b 10 (clear 0 (omega arith)))
line_last (b ∷ c ∷ cs) some clear =
    cond-false {A = List (List ℕ)} (nat_eq b 10) ([] ∷ lines_of (c ∷ cs)) (onto b (lines_of (c ∷ cs))) (ne_eqb b 10 (clear 0 (omega arith)))
    ∙ ap (onto b) (line_last (c ∷ cs) (omega arith) (λ i l. clear (suc i) (omega arith)))

-- the first octet that parts fields ends the first field
pub field_at : (stop : ℕ) (bs : List ℕ) (k : ℕ) → k < length bs → ((i : ℕ) → i < k → get_or bs i 0 ≡ stop → ⊥) → get_or bs k 0 ≡ stop
    → fields_of stop bs ≡ take k bs ∷ fields_of stop (drop (suc k) bs)
field_at stop [] k h clear here = absurd (omega arith)
field_at stop (b ∷ bs) zero h clear here = cond-true {A = List (List ℕ)} (nat_eq b stop) ([] ∷ fields_of stop bs) (onto b (fields_of stop bs)) (eq-eqb b stop here)
field_at stop (b ∷ bs) (suc k) h clear here =
    cond-false {A = List (List ℕ)} (nat_eq b stop) ([] ∷ fields_of stop bs) (onto b (fields_of stop bs)) (ne_eqb b stop (clear 0 (omega arith)))
    ∙ ap (onto b) (field_at stop bs k (omega arith) (λ i l. clear (suc i) (omega arith)) here)

-- without one all is one field
pub field_last : (stop : ℕ) (bs : List ℕ) → ((i : ℕ) → i < length bs → get_or bs i 0 ≡ stop → ⊥) → fields_of stop bs ≡ bs ∷ []
field_last stop [] clear = refl
field_last stop (b ∷ bs) clear =
    cond-false {A = List (List ℕ)} (nat_eq b stop) ([] ∷ fields_of stop bs) (onto b (fields_of stop bs)) (ne_eqb b stop (clear 0 (omega arith)))
    ∙ ap (onto b) (field_last stop bs (λ i l. clear (suc i) (omega arith)))

-- a word has a field
some_field : (stop : ℕ) (bs : List ℕ) → (f : List ℕ) × (fs : List (List ℕ)) × (fields_of stop bs ≡ f ∷ fs)
some_field stop [] = ([], [], refl)
some_field stop (b ∷ bs) =
    let rest = some_field stop bs in
    elim (nat_eq b stop) as (λ t. (f : List ℕ) × (fs : List (List ℕ)) × (cond t ([] ∷ fields_of stop bs) (onto b (fields_of stop bs)) ≡ f ∷ fs)) [
      | true ↦ ([], fields_of stop bs, refl)
      | false ↦ (b ∷ rest.0, rest.1, ap (onto b) rest.2)
    ]

-- nobody sends by a word of four fields and more
pub none_longer : (bs a after_a b after_b c after_c : List ℕ) → fields_of 58 bs ≡ a ∷ fields_of 58 after_a → fields_of 58 after_a ≡ b ∷ fields_of 58 after_b
    → fields_of 58 after_b ≡ c ∷ fields_of 58 after_c → talker_of (fields_of 58 bs) ≡ None
none_longer bs a after_a b after_b c after_c first second third =
    let last = some_field 58 after_c in
    ap talker_of (first ∙ ap (λ (l : List (List ℕ)). a ∷ l) (second ∙ ap (λ (l : List (List ℕ)). b ∷ l) (third ∙ ap (λ (l : List (List ℕ)). c ∷ l) last.2)))

-- the octets before the first word say nothing
pub words_skip : (bs : List ℕ) (k : ℕ) → k ≤ length bs → ((i : ℕ) → i < k → parts (get_or bs i 0) ≡ true) → words_of bs ≡ words_of (drop k bs)
words_skip bs zero h gap = refl
words_skip [] (suc k) h gap = refl
words_skip (b ∷ bs) (suc k) h gap =
    cond-true {A = List (List ℕ)} (parts b) (words_of bs) (cond (goes_on bs) (onto b (words_of bs)) ((b ∷ []) ∷ words_of bs)) (gap 0 (omega arith))
    ∙ words_skip bs k (omega arith) (λ i l. gap (suc i) (omega arith))

ends_here : (b : ℕ) (bs : List ℕ) → parts b ≡ false → goes_on bs ≡ false → words_of (b ∷ bs) ≡ (b ∷ []) ∷ words_of bs
ends_here b bs p e =
    cond-false {A = List (List ℕ)} (parts b) (words_of bs) (cond (goes_on bs) (onto b (words_of bs)) ((b ∷ []) ∷ words_of bs)) p
    ∙ cond-false {A = List (List ℕ)} (goes_on bs) (onto b (words_of bs)) ((b ∷ []) ∷ words_of bs) e

goes_further : (b : ℕ) (bs : List ℕ) → parts b ≡ false → goes_on bs ≡ true → words_of (b ∷ bs) ≡ onto b (words_of bs)
goes_further b bs p e =
    cond-false {A = List (List ℕ)} (parts b) (words_of bs) (cond (goes_on bs) (onto b (words_of bs)) ((b ∷ []) ∷ words_of bs)) p
    ∙ cond-true {A = List (List ℕ)} (goes_on bs) (onto b (words_of bs)) ((b ∷ []) ∷ words_of bs) e

-- a word of an octet and k more
word_at : (b : ℕ) (bs : List ℕ) (k : ℕ) → k ≤ length bs → parts b ≡ false → ((i : ℕ) → i < k → parts (get_or bs i 0) ≡ false)
    → (k < length bs → parts (get_or bs k 0) ≡ true) → words_of (b ∷ bs) ≡ (b ∷ take k bs) ∷ words_of (drop k bs)
word_at b [] zero h p word gap = ends_here b [] p refl
word_at b (c ∷ cs) zero h p word gap = ends_here b (c ∷ cs) p (ap not (gap (omega arith)))
word_at b [] (suc k) h p word gap = absurd (omega arith)
word_at b (c ∷ cs) (suc k) h p word gap =
    goes_further b (c ∷ cs) p (ap not (word 0 (omega arith)))
    ∙ ap (onto b) (word_at c cs k (omega arith) (word 0 (omega arith)) (λ i l. word (suc i) (omega arith)) (λ l. gap (omega arith)))

word_front : (bs : List ℕ) (n : ℕ) → 0 < length bs → n ≤ length bs → parts (get_or bs 0 0) ≡ false → ((i : ℕ) → i < n → parts (get_or bs i 0) ≡ false)
    → (n < length bs → parts (get_or bs n 0) ≡ true) → words_of bs ≡ take n bs ∷ words_of (drop n bs)
word_front [] n some h p word gap = absurd (omega arith)
word_front (b ∷ bs) zero some h p word gap = absurd (true≢false (sym (gap (omega arith)) ∙ p))
word_front (b ∷ bs) (suc k) some h p word gap = word_at b bs k (omega arith) p (λ i l. word (suc i) (omega arith)) (λ l. gap (omega arith))

-- after a gap of g octets, the first word has n
pub word_first : (line from : List ℕ) (g n : ℕ) → from ≡ drop g line → g ≤ length line → 0 < length from
    → ((i : ℕ) → i < g → parts (get_or line i 0) ≡ true) → (g < length line → parts (get_or line g 0) ≡ false)
    → n ≤ length from → ((i : ℕ) → i < n → parts (get_or from i 0) ≡ false)
    → (n < length from → parts (get_or from n 0) ≡ true)
    → words_of line ≡ take n from ∷ words_of (drop n from)
word_first line from g n is h some gap begins within word ends =
    let z : g + 0 ≡ g = omega arith in
    let inside : g < length line = omega (arith, some, ap length is, length-drop g line) in
    let same : get_or from 0 0 ≡ get_or line g 0 = ap (λ (l : List ℕ). get_or l 0 0) is ∙ get_or-drop g line 0 0 ∙ ap (λ (i : ℕ). get_or line i 0) z in
    words_skip line g h gap ∙ ap words_of (sym is) ∙ word_front from n some within (ap parts same ∙ begins inside) word ends

empty : (xs : List ℕ) → length xs ≡ 0 → xs ≡ []
empty [] h = refl
empty (x ∷ xs) h = absurd (omega arith)

-- where nothing follows the gap, there is no word
pub no_word : (line from : List ℕ) (g : ℕ) → from ≡ drop g line → g ≤ length line → ((i : ℕ) → i < g → parts (get_or line i 0) ≡ true) → length from ≡ 0
    → words_of line ≡ []
no_word line from g is h gap none = words_skip line g h gap ∙ ap words_of (sym is ∙ empty from none)

-- one word more of a line
pub word_pushed : (items : List (Bor (List ℕ))) (w : Bor (List ℕ)) (rest after : List ℕ) (all : List (List ℕ)) → texts items ++ words_of rest ≡ all
    → words_of rest ≡ w.now ∷ words_of after → texts (items ++ w ∷ []) ++ words_of after ≡ all
word_pushed items w rest after all so_far next =
    ap (λ (l : List (List ℕ)). l ++ words_of after) (map-append (λ (v : Bor (List ℕ)). v.now) items (w ∷ []))
    ∙ append_assoc (texts items) (w.now ∷ []) (words_of after)
    ∙ ap (λ (l : List (List ℕ)). texts items ++ l) (sym next)
    ∙ so_far

pub words_done : (items : List (Bor (List ℕ))) (rest : List ℕ) (all : List (List ℕ)) → texts items ++ words_of rest ≡ all → words_of rest ≡ [] → texts items ≡ all
words_done items rest all so_far none = sym (append-nil (texts items)) ∙ ap (λ (l : List (List ℕ)). texts items ++ l) (sym none) ∙ so_far

-- a number over its greatest stays so
too_large : (g n : ℕ) (w : List ℕ) → g < n → number_from g n w ≡ None
too_large g n [] h = cond-false {A = Option ℕ} (nat_le n g) (Some n) None (lt-leb n g h)
too_large g n (b ∷ bs) h =
    elim (is_digit b) as (λ t. cond t (number_from g (n * 10 + (b - 48)) bs) None ≡ None) [
      | true ↦ too_large g (n * 10 + (b - 48)) bs (omega arith)
      | false ↦ refl
    ]

-- one more digit, and one that takes the number over its greatest
number_grows : (g n i : ℕ) (w : List ℕ) → i < length w → is_digit (get_or w i 0) ≡ true
    → number_from g n (drop i w) ≡ number_from g (n * 10 + (get_or w i 0 - 48)) (drop (i + 1) w)
number_grows g n i w h d =
    ap (number_from g n) (drop_more w i 0 h)
    ∙ cond-true {A = Option ℕ} (is_digit (get_or w i 0)) (number_from g (n * 10 + (get_or w i 0 - 48)) (drop (i + 1) w)) None d

pub number_passes : (g n i : ℕ) (w : List ℕ) → i < length w → is_digit (get_or w i 0) ≡ true → g < n * 10 + (get_or w i 0 - 48)
    → number_from g n (drop i w) ≡ None
number_passes g n i w h d large =
    number_grows g n i w h d ∙ too_large g (n * 10 + (get_or w i 0 - 48)) (drop (i + 1) w) large
