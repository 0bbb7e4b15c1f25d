-- What outputs in memory hold after octets were added to one of them.
use Rattle.edge_io.specs.Told.{GrowsByFront}
use Rattle.std.proofs.Common.{◌≡◌, ◌≢◌, append-nil, ℕ, ◌<◌, ◌≤◌, Bool, true, false, cond, List, [], ◌∷◌, ◌++◌, length, get_or, Option, Some, None, Result, Ok, Err, OnErr, refl, sym, ap, ◌∙◌, subst, arith}
use Rattle.std.proofs.Math.ListN.{set}
use Rattle.std.specs.List.{find, position, position_or_len, slice_get}
use Rattle.std.specs.Option.{option_or}
use Rattle.std.specs.Str.{bytes_eq}
use Rattle.std.specs.Bool.{Decides}
use Rattle.std.specs.Prelude.{nat_lt}
use Rattle.std.proofs.lemmas.Slice.Eq.{bytes_eq-Decides}
use Rattle.std.proofs.lemmas.Bool.Decides.{nat_tests}
use Rattle.std.proofs.lemmas.Option.{slice_get-get_or, slice_get_past}
use Rattle.std.proofs.lemmas.List.Folds.{find_at, find-set, find_past, find-append}
use Rattle.room_pool.specs.Kept.{Holding, has_name, held_among, octets_of}

-- what is found passes
passes_then : (p : Holding → Bool) (x y : Holding) (rest : Option Holding) (b : Bool) → p y ≡ b → cond b (Some y) rest ≡ Some x
    → (rest ≡ Some x → p x ≡ true) → p x ≡ true
passes_then p x y rest true is found later = let same : y ≡ x = cc in subst (λ (z : Holding). p z ≡ true) same is
passes_then p x y rest false is found later = later found

found_passes : (p : Holding → Bool) (xs : List Holding) (x : Holding) → find p xs ≡ Some x → p x ≡ true
found_passes p [] x found = absurd (cc)
found_passes p (y ∷ ys) x found = passes_then p x y (find p ys) (p y) refl found (λ later. found_passes p ys x later)

refused : (b : Bool) (P : Type 0) → Decides b P → ¬ P → b ≡ false
refused true P decides apart = absurd (apart (decides.0 refl))
refused false P decides apart = refl

pub same_name : (name : List ℕ) → bytes_eq name name ≡ true
same_name name = (bytes_eq-Decides name name).1 refl

other_name : (name other : List ℕ) → other ≢ name → bytes_eq name other ≡ false
other_name name other apart = refused _ _ (bytes_eq-Decides name other) (λ e. apart (sym e))

at_place : (n len i : ℕ) (b : Bool) → nat_lt n len ≡ b → cond b (Some n) None ≡ Some i → (n ≡ i) × (n < len)
at_place n len i true is found = let same : n ≡ i = cc in (same, grind (arith, nat_tests))
at_place n len i false is found = absurd (cc)

no_place : (n len : ℕ) (b : Bool) → nat_lt n len ≡ b → cond b (Some n) None ≡ None → len ≤ n
no_place n len true is found = absurd (cc)
no_place n len false is found = grind (arith, nat_tests)

-- the first file with a name stands at its place
pub record StandsAt (files : List Holding) (name : List ℕ) (i : ℕ) (f : Holding) : Type 0 where
  pub place : i ≡ position_or_len (has_name name) files
  pub within : i < length files
  pub found : find (has_name name) files ≡ Some f
  pub named : bytes_eq f.name name ≡ true

pub stands_at : (files : List Holding) (name : List ℕ) (i : ℕ) (f : Holding) → position (has_name name) files ≡ Some i → f ≡ get_or files i f
    → StandsAt files name i f
stands_at files name i f placed is =
    let p : Holding → Bool = has_name name in
    let at : (position_or_len p files ≡ i) × (position_or_len p files < length files) = at_place _ _ i _ refl placed in
    let within : i < length files = omega arith in
    let found : find p files ≡ Some f =
    find_at p files ∙ ap (λ (k : ℕ). slice_get files k) at.0 ∙ slice_get-get_or files i f within ∙ ap (λ (x : Holding). Some x) (sym is) in
    record { place = sym at.0; within = within; found = found; named = found_passes p files f found }

pub held_there : (files : List Holding) (name : List ℕ) (i : ℕ) (f : Holding) → StandsAt files name i f → held_among files name ≡ f.octets
held_there files name i f s = ap octets_of s.found

pub held_nowhere : (files : List Holding) (name : List ℕ) → position (has_name name) files ≡ None → find (has_name name) files ≡ None
held_nowhere files name none =
    let p : Holding → Bool = has_name name in
    let past : length files ≤ position_or_len p files = no_place _ _ _ refl none in
    find_at p files ∙ slice_get_past files (position_or_len p files) past

-- the file at the place is changed, and keeps its name
pub held_changed : (files : List Holding) (name : List ℕ) (i : ℕ) (f g : Holding) → StandsAt files name i f → g.name ≡ f.name
    → held_among (set files i g) name ≡ g.octets
held_changed files name i f g s same =
    let named : bytes_eq g.name name ≡ true = ap (λ (n : List ℕ). bytes_eq n name) same ∙ s.named in
    ap octets_of (find-set (has_name name) files i g s.place s.within named)

pub others_kept : (files : List Holding) (name : List ℕ) (i : ℕ) (f g : Holding) → StandsAt files name i f → f ≡ get_or files i f → g.name ≡ f.name
    → (other : List ℕ) → other ≢ name → held_among (set files i g) other ≡ held_among files other
others_kept files name i f g s is same other apart =
    let is_name : f.name ≡ name = (bytes_eq-Decides f.name name).0 s.named in
    let not_f : bytes_eq f.name other ≡ false = ap (λ (n : List ℕ). bytes_eq n other) is_name ∙ other_name name other apart in
    let not_g : bytes_eq g.name other ≡ false = ap (λ (n : List ℕ). bytes_eq n other) same ∙ not_f in
    let not_there : has_name other (get_or files i f) ≡ false = subst (λ (x : Holding). has_name other x ≡ false) is not_f in
    ap octets_of (find_past (has_name other) files i g f not_there not_g)

-- a file is added behind the others
either_none : (first : Option Holding) → option_or first None ≡ first
either_none (Some f) = refl
either_none None = refl

pub held_pushed : (files : List Holding) (name : List ℕ) (g : Holding) → position (has_name name) files ≡ None → g.name ≡ name
    → held_among (files ++ g ∷ []) name ≡ g.octets
held_pushed files name g none named =
    let p : Holding → Bool = has_name name in
    let last : bytes_eq g.name name ≡ true = ap (λ (n : List ℕ). bytes_eq n name) named ∙ same_name name in
    let found : find p (files ++ g ∷ []) ≡ Some g = find-append p files (g ∷ []) ∙ rw (held_nowhere files name none, last) refl in
    ap octets_of found

pub others_behind : (files : List Holding) (name : List ℕ) (g : Holding) → g.name ≡ name
    → (other : List ℕ) → other ≢ name → held_among (files ++ g ∷ []) other ≡ held_among files other
others_behind files name g named other apart =
    let p : Holding → Bool = has_name other in
    let last : bytes_eq g.name other ≡ false = ap (λ (n : List ℕ). bytes_eq n other) named ∙ other_name name other apart in
    let found : find p (files ++ g ∷ []) ≡ find p files = find-append p files (g ∷ []) ∙ rw last (either_none (find p files)) in
    ap octets_of found

-- nothing is a front of what was to be added
pub grows_by_none : (old new octets : List ℕ) → new ≡ old → GrowsByFront (Some old) (Some new) octets
grows_by_none old new octets same = (0, ap (λ (h : List ℕ). Some h) (same ∙ sym (append-nil old)))

pub on_err : {T E : Type 0} (r : Result T E) (P : Type 0) → P → OnErr r P
on_err (Ok x) P p = tt
on_err (Err e) P p = p

-- the same of a list and a name that were lent
pub stands_lent : (files lent : List Holding) (name bytes : List ℕ) (i : ℕ) (f : Holding) → lent ≡ files → bytes ≡ name
    → Some i ≡ position (has_name bytes) lent → f ≡ get_or files i f → StandsAt files name i f
stands_lent files lent name bytes i f same_list same_bytes placed is =
    let there : Some i ≡ position (has_name name) files = rw (same_list, same_bytes) at placed in
    stands_at files name i f (sym there) is

pub nowhere_lent : (files lent : List Holding) (name bytes : List ℕ) → lent ≡ files → bytes ≡ name
    → None ≡ position (has_name bytes) lent → position (has_name name) files ≡ None
nowhere_lent files lent name bytes same_list same_bytes none =
    let there : None ≡ position (has_name name) files = rw (same_list, same_bytes) at none in
    sym there

pub held_none : (files : List Holding) (name : List ℕ) → position (has_name name) files ≡ None → held_among files name ≡ []
held_none files name none = ap octets_of (held_nowhere files name none)
