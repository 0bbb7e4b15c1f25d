-- What the grammar of rosters says of the commands of one: each may stand where it stands, their times rise, and each is in range.
use Rattle.std.proofs.Common.{◌≡◌, ℕ, ◌+◌, ◌≤◌, Bool, true, false, cond, List, [], ◌∷◌, ◌++◌, refl, ap, ◌∙◌, sym, subst, arith, Some, None, Ok, Err}
use Rattle.std.specs.Prelude.{Option, Result, reverse, nat_lt}
use Rattle.std.proofs.lemmas.Bool.{ltb-false}
use Rattle.roster_text.specs.declared.commands.Timed.{Timed}
use Rattle.roster_text.specs.declared.entry.Entry.{Entry}
use Rattle.roster_text.specs.declared.entry.Entry.TheVariants.{Says, Ends}
use Rattle.roster_text.specs.declared.faults.RosterKind.{RosterKind}
use Rattle.roster_text.specs.declared.faults.RosterKind.TheVariants as kinds
use Rattle.roster_text.specs.Lines.{lines_of, words_of}
use Rattle.roster_text.specs.Grammar.{if_right, said_by}
use Rattle.roster_text.specs.Places.{latest, misplaced, place_fault}
use Rattle.roster_text.specs.Roster.{Told, Fault, Known, IsRoster, is_skipped, placed, line_says, with_entry, line_step, closed, goes, lines_make, nothing_known}
use Rattle.std.specs.List.{AllByRecursion}
use mathlib.Core.List.{reverse-cons}
use Rattle.std.proofs.lemmas.List.{reverse-reverse}
use Rattle.roster_text.specs.Orders.{Rises, EachPlaced, AreInOrder}
use Rattle.roster_text.specs.Ranges.{IsInRange, AreInRange}
use Rattle.roster_text.proofs.Ranges.{SaidInRange, said_in_range}

-- no command's time is below that of the one before; the newest stands first
abbrev pub Falls : List Timed → Type 0
Falls [] = Unit {0}
Falls (t ∷ past) = (latest past ≤ t.at) × Falls past

-- commands, the newest first, that a roster may have
pub record IsLawful (past : List Timed) : Type 0 where
  pub placed : EachPlaced past
  pub falls : Falls past
  pub ranges : AreInRange past

-- a roster's commands are such, read backwards
pub record ComesFrom (timed : List Timed) : Type 0 where
  pub past : List Timed
  pub is : timed ≡ reverse past
  pub lawful : IsLawful past

not_back : (b : Bool) (rest : Option RosterKind) → cond b (Some kinds.Back) rest ≡ None → (b ≡ false) × (rest ≡ None)
not_back true rest e = cc
not_back false rest e = (refl, e)

said_lawful : (past : List Timed) (t : Timed) → IsLawful past → IsInRange t.command → place_fault past (Says t) ≡ None → IsLawful (t ∷ past)
said_lawful past t lawful fit none =
    let parts = not_back (nat_lt t.at (latest past)) (misplaced past t.command) none in
    record { placed = (parts.1, lawful.placed); falls = (ltb-false t.at (latest past) parts.0, lawful.falls); ranges = (fit, lawful.ranges) }

-- by what is wrong with a line that says this
entry_lawful : (known next : Known) (entry : Entry) (fault : Option RosterKind) → IsLawful known.past → SaidInRange entry → place_fault known.past entry ≡ fault
    → if_right (elim fault [ None ↦ Ok entry | Some kind ↦ Err kind ]) (λ e. Ok (with_entry known e)) ≡ Ok next → IsLawful next.past
entry_lawful known next entry (Some kind) lawful fit is step = cc
entry_lawful known next (Says t) None lawful fit is step =
    let e : with_entry known (Says t) ≡ next = cc in
    subst (λ (k : Known). IsLawful k.past) e (said_lawful known.past t lawful fit is)
entry_lawful known next (Ends at) None lawful fit is step =
    let e : with_entry known (Ends at) ≡ next = cc in
    subst (λ (k : Known). IsLawful k.past) e lawful

-- by what a line's words say
words_lawful : (known next : Known) (said : Result Entry RosterKind) → IsLawful known.past → ((entry : Entry) → said ≡ Ok entry → SaidInRange entry)
    → if_right (if_right said (placed known.past)) (λ e. Ok (with_entry known e)) ≡ Ok next → IsLawful next.past
words_lawful known next (Err kind) lawful fit step = cc
words_lawful known next (Ok entry) lawful fit step = entry_lawful known next entry (place_fault known.past entry) lawful (fit entry refl) refl step

-- by whether an end stands before
open_lawful : (known next : Known) (end : Option ℕ) (words : List (List ℕ)) → IsLawful known.past
    → if_right (line_says known.past end words) (λ e. Ok (with_entry known e)) ≡ Ok next → IsLawful next.past
open_lawful known next (Some end) words lawful step = cc
open_lawful known next None words lawful step = words_lawful known next (said_by words) lawful (said_in_range words) step

step_lawful_by : (known next : Known) (words : List (List ℕ)) (skipped : Bool) → IsLawful known.past
    → cond skipped (Ok known) (if_right (line_says known.past known.end words) (λ e. Ok (with_entry known e))) ≡ Ok next → IsLawful next.past
step_lawful_by known next words true lawful step =
    let e : known ≡ next = cc in
    subst (λ (k : Known). IsLawful k.past) e lawful
step_lawful_by known next words false lawful step = open_lawful known next known.end words lawful step

step_lawful : (known next : Known) (words : List (List ℕ)) → IsLawful known.past → line_step known words ≡ Ok next → IsLawful next.past
step_lawful known next words lawful step = step_lawful_by known next words (is_skipped words) lawful step

closed_lawful : (line : ℕ) (past : List Timed) (end : Option ℕ) (told : Told) → IsLawful past → closed line past end ≡ Ok told → ComesFrom told.timed
closed_lawful line past None told lawful is = cc
closed_lawful line past (Some end) told lawful is =
    let whole : Told = record { timed = reverse past; end = end } in
    let e : whole ≡ told = cc in
    record { past = past; is = ap (λ (t : Told). t.timed) (sym e); lawful = lawful }

goes_lawful : (f : Known → Result Told Fault) (line : ℕ) (known : Known) (told : Told) (words : List (List ℕ)) (r : Result Known RosterKind)
    → ((next : Known) → IsLawful next.past → f next ≡ Ok told → ComesFrom told.timed)
    → IsLawful known.past → line_step known words ≡ r → goes f line r ≡ Ok told → ComesFrom told.timed
goes_lawful f line known told words (Err kind) more lawful is goes_on = cc
goes_lawful f line known told words (Ok next) more lawful is goes_on = more next (step_lawful known next words lawful is) goes_on

lines_lawful : (lines : List (List ℕ)) (line : ℕ) (known : Known) (told : Told) → IsLawful known.past → lines_make lines line known ≡ Ok told
    → ComesFrom told.timed
lines_lawful [] line known told lawful is = closed_lawful line known.past known.end told lawful is
lines_lawful (l ∷ lines) line known told lawful is =
    goes_lawful (λ next. lines_make lines (line + 1) next) line known told (words_of l) (line_step known (words_of l))
    (λ next law rest. lines_lawful lines (line + 1) next told law rest) lawful refl is

roster_lawful : (told : Told) → IsRoster told → ComesFrom told.timed
roster_lawful told spelled = lines_lawful (lines_of spelled.0) 1 nothing_known told (record { placed = tt; falls = tt; ranges = tt }) spelled.1

all_push : (P : Timed → Type 0) (ts : List Timed) (t : Timed) → AllByRecursion P ts → P t → AllByRecursion P (ts ++ t ∷ [])
all_push P [] t all last = (last, tt)
all_push P (u ∷ ts) t all last = (all.0, all_push P ts t all.1 last)

all_reverse : (P : Timed → Type 0) (ts : List Timed) → AllByRecursion P ts → AllByRecursion P (reverse ts)
all_reverse P [] all = tt
all_reverse P (t ∷ ts) all = rw (reverse-cons t ts) (all_push P (reverse ts) t (all_reverse P ts all.1) all.0)

rises_push : (ts : List Timed) (t : Timed) → Rises ts → AllByRecursion (λ u. u.at ≤ t.at) ts → Rises (ts ++ t ∷ [])
rises_push [] t rises below = (tt, tt)
rises_push (u ∷ ts) t rises below = (all_push (λ w. u.at ≤ w.at) ts t rises.0 below.0, rises_push ts t rises.1 below.1)

all_before : (n : ℕ) (past : List Timed) → Falls past → latest past ≤ n → AllByRecursion (λ u. u.at ≤ n) past
all_before n [] falls low = tt
all_before n (t ∷ past) falls low =
    let below : latest past ≤ n = omega (arith, falls.0) in
    (low, all_before n past falls.1 below)

rises_reverse : (past : List Timed) → Falls past → Rises (reverse past)
rises_reverse [] falls = tt
rises_reverse (t ∷ past) falls =
    rw (reverse-cons t past)
    (rises_push (reverse past) t (rises_reverse past falls.1) (all_reverse (λ u. u.at ≤ t.at) past (all_before t.at past falls.1 falls.0)))

rises_told : (timed : List Timed) → ComesFrom timed → Rises timed
rises_told timed from = subst Rises (sym from.is) (rises_reverse from.past from.lawful.falls)

pub roster_in_order : (told : Told) → IsRoster told → AreInOrder told.timed
roster_in_order told spelled =
    let from = roster_lawful told spelled in
    record {
      rises = rises_told told.timed from;
      placed = subst EachPlaced (sym (ap reverse from.is ∙ reverse-reverse from.past)) from.lawful.placed;
    }

pub roster_in_range : (told : Told) → IsRoster told → AreInRange told.timed
roster_in_range told spelled =
    let from = roster_lawful told spelled in
    subst AreInRange (sym from.is) (all_reverse (λ t. IsInRange t.command) from.past from.lawful.ranges)
