-- What a line makes of the rooms before it.
use Rattle.std.proofs.Common.{Bool, length, length-append, subst, arith, ◌<◌, ◌≡◌, ◌≢◌, ◌+◌, ℕ, true, false, List, [], ◌∷◌, ◌++◌, Option, Some, None, Result, Ok, Err, refl, sym, ◌∙◌}
use Rattle.roster_text.specs.Lines.{words_of}
use Rattle.roster_text.specs.Roster.{is_skipped}
use Rattle.room_pool.specs.Named.{Named}
use Rattle.room_pool.specs.Listed.{said_by, has_place, with_room, line_step, lines_make, Apart, IsList}
use Rattle.std.specs.Prelude.{not, ◌&&◌, ◌||◌, nat_lt, if◌then◌else◌}
use Rattle.std.specs.List.{list_any}
use Rattle.std.specs.Str.{bytes_eq}
use Rattle.std.proofs.lemmas.Slice.Eq.{bytes_eq-Decides}
use Rattle.std.proofs.lemmas.Bool.{false≢true}
use Rattle.std.proofs.lemmas.Bool.Decides.{nat_tests}
use Rattle.std.proofs.lemmas.List.Elements.{All-nil, All-push}

pub skipped : (rooms : List Named) (words : List (List ℕ)) → is_skipped words ≡ true → line_step rooms words ≡ Some rooms
skipped rooms words skips = rw skips refl

pub unsaid : (rooms : List Named) (words : List (List ℕ)) → is_skipped words ≡ false → said_by words ≡ None → line_step rooms words ≡ None
unsaid rooms words says none = rw (says, none) refl

pub no_room : (rooms : List Named) (words : List (List ℕ)) (n : Named) → is_skipped words ≡ false → said_by words ≡ Some n →
    has_place rooms n.out ≡ false → line_step rooms words ≡ None
no_room rooms words n says is full = rw (says, is, full) refl

pub learned : (rooms : List Named) (words : List (List ℕ)) (n : Named) → is_skipped words ≡ false → said_by words ≡ Some n →
    has_place rooms n.out ≡ true → line_step rooms words ≡ Some (rooms ++ n ∷ [])
learned rooms words n says is free = rw (says, is, free) refl

-- a bad line ends the list, and another one goes before the others
pub bad_line : (lines ls : List (List ℕ)) (l : List ℕ) (line : ℕ) (rooms : List Named) (meant : Result (List Named) ℕ) →
    lines ≡ l ∷ ls → lines_make lines line rooms ≡ meant → line_step rooms (words_of l) ≡ None → meant ≡ Err line
bad_line lines ls l line rooms meant are same bad = sym same ∙ rw (are, bad) refl

pub next_line : (lines ls : List (List ℕ)) (l : List ℕ) (line : ℕ) (rooms next : List Named) (meant : Result (List Named) ℕ) →
    lines ≡ l ∷ ls → lines_make lines line rooms ≡ meant → line_step rooms (words_of l) ≡ Some next →
    lines_make ls (line + 1) next ≡ meant
next_line lines ls l line rooms next meant are same step = sym (rw (are, step) refl) ∙ same

-- where no line is left
pub none_listed : (lines : List (List ℕ)) (line : ℕ) (rooms : List Named) (meant : Result (List Named) ℕ) →
    lines ≡ [] → rooms ≡ [] → lines_make lines line rooms ≡ meant → meant ≡ Err line
none_listed lines line rooms meant none empty same = sym same ∙ rw (none, empty) refl

some_closed : (line : ℕ) (rooms : List Named) → rooms ≢ [] → lines_make [] line rooms ≡ Ok rooms
some_closed line [] some = absurd (some refl)
some_closed line (n ∷ rooms) some = refl

pub all_listed : (lines : List (List ℕ)) (line : ℕ) (rooms : List Named) (meant : Result (List Named) ℕ) →
    lines ≡ [] → rooms ≢ [] → lines_make lines line rooms ≡ meant → meant ≡ Ok rooms
all_listed lines line rooms meant none some same = sym same ∙ rw none (some_closed line rooms some)

-- ---- what every list is ----

and_true : (a b : Bool) → (a && b) ≡ true → (a ≡ true) × (b ≡ true)
and_true true b e = (refl, e)
and_true false b e = absurd (cc)

or_false : (a b : Bool) → (a || b) ≡ false → (a ≡ false) × (b ≡ false)
or_false false b e = (refl, e)
or_false true b e = absurd (cc)

not_true : (b : Bool) → not b ≡ true → b ≡ false
not_true false e = refl
not_true true e = absurd (cc)

apart_push : (rooms : List Named) (n : Named) → Apart rooms → list_any (λ r. bytes_eq r.out n.out) rooms ≡ false → Apart (rooms ++ n ∷ [])
apart_push [] n apart none = (All-nil _, tt)
apart_push (m ∷ rooms) n apart none =
    let both : (bytes_eq m.out n.out ≡ false) × (list_any (λ r. bytes_eq r.out n.out) rooms ≡ false) =
    or_false (bytes_eq m.out n.out) (list_any (λ r. bytes_eq r.out n.out) rooms) none in
    let other : n.out ≢ m.out = λ e. false≢true (sym both.0 ∙ (bytes_eq-Decides m.out n.out).1 (sym e)) in
    (All-push (λ k. k.out ≢ m.out) rooms n apart.0 other, apart_push rooms n apart.1 both.1)

placed_kept : (rooms next : List Named) (n : Named) (p : Bool) → has_place rooms n.out ≡ p → (if p then Some (rooms ++ n ∷ []) else None) ≡ Some next
    → IsList rooms → IsList next
placed_kept rooms next n false place is kept = absurd (cc)
placed_kept rooms next n true place is kept =
    let same : rooms ++ n ∷ [] ≡ next = cc in
    let parts = and_true (nat_lt (length rooms) 16) (not (list_any (λ r. bytes_eq r.out n.out) rooms)) place in
    let few : length rooms < 16 = grind (arith, nat_tests, parts.0) in
    subst IsList same (record {
      apart = apart_push rooms n kept.apart (not_true _ parts.1);
      few = omega (arith, length-append rooms (n ∷ []));
    })

said_kept : (rooms next : List Named) (said : Option Named) → with_room rooms said ≡ Some next → IsList rooms → IsList next
said_kept rooms next None is kept = absurd (cc)
said_kept rooms next (Some n) is kept = placed_kept rooms next n (has_place rooms n.out) refl is kept

skips_kept : (rooms next : List Named) (said : Option Named) (b : Bool) → (if b then Some rooms else with_room rooms said) ≡ Some next → IsList rooms → IsList next
skips_kept rooms next said true is kept = let same : rooms ≡ next = cc in subst IsList same kept
skips_kept rooms next said false is kept = said_kept rooms next said is kept

pub step_kept : (rooms next : List Named) (words : List (List ℕ)) → line_step rooms words ≡ Some next → IsList rooms → IsList next
step_kept rooms next words is kept = skips_kept rooms next (said_by words) (is_skipped words) is kept
