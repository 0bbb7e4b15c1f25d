-- The rule of the lock, which holds between any two steps of its passes.
-- The words are the next ticket, the ticket that is served, and the length of the history.
use Rattle.std.specs.Prelude.{◌≡◌, ℕ, ◌+◌, ◌^◌, ◌<◌, ◌≤◌, Bool, true, false, List, [], ◌∷◌, ◌⊎◌, length, Option, Some, None}
use mathlib.Core.Option.{some, none}
use lib.ListN.{get_elem?}
use Rattle.atomic_table.specs.Table.{State}
use Rattle.book_lock.specs.declared.view.View.{View}
use Rattle.book_lock.specs.Histories.{GoesOn}
use Rattle.book_lock.specs.Views.{opening, filling}

abbrev pub one : Bool → ℕ
one true = 1
one false = 0

module _ {E S : Type 0} where
  -- how many of the views are workers'
  abbrev pub workers : List (View E S) → ℕ
  workers [] = 0
  workers (v ∷ vs) = one v.worker + workers vs

  -- what is true of each view
  pub record Fits (next serving : ℕ) (history : List E) (v : View E S) : Type 0 where
    -- It has seen the history, or an earlier one.
    pub seen : GoesOn v.seen history
    -- Its ticket was drawn, and wasn't served before.
    pub ticket : (t : ℕ) → v.ticket ≡ Some t → (serving ≤ t) × (t < next)
    -- In its turn its ticket is the one that is served, and it has seen the whole history.
    pub turn : v.holds ≡ true → (v.ticket ≡ Some serving) × (v.seen ≡ history)
    -- If it is neither the desk's nor a worker's, it has no ticket.
    pub live : v.desk ≡ false → v.worker ≡ false → v.ticket ≡ None

  abbrev pub Each : List (View E S) → ℕ → ℕ → List E → Type 0
  Each views next serving history = (seat : ℕ) (v : View E S) → get_elem? views seat ≡ some v → Fits next serving history v

  -- two views with one ticket are one view
  abbrev pub Apart : List (View E S) → Type 0
  Apart views = (a b : ℕ) (v w : View E S) (t : ℕ) → get_elem? views a ≡ some v → get_elem? views b ≡ some w → v.ticket ≡ Some t → w.ticket ≡ Some t → a ≡ b

  -- each ticket that was drawn and not yet served is some view's
  abbrev pub Waiting : List (View E S) → ℕ → ℕ → Type 0
  Waiting views next serving = (t : ℕ) → serving ≤ t → t < next → (seat : ℕ) × (v : View E S) × (get_elem? views seat ≡ some v) × (v.ticket ≡ Some t)

  -- the desk's view
  pub record Desk (views : List (View E S)) (history : List E) : Type 0 where
    pub seat : ℕ
    pub view : View E S
    -- It is there, and it is the desk's.
    pub there : get_elem? views seat ≡ some view
    pub desk : view.desk ≡ true
    -- No other is.
    pub only : (other : ℕ) (v : View E S) → get_elem? views other ≡ some v → v.desk ≡ true → other ≡ seat
    -- The history is what it has seen.
    pub seen : view.seen ≡ history
    -- It knows how many workers' passes are out.
    pub out : view.out ≡ workers views

  -- no view has the turn
  abbrev pub Nobody : List (View E S) → Type 0
  Nobody views = (seat : ℕ) (v : View E S) → get_elem? views seat ≡ some v → v.holds ≡ false

module _ {T E S : Type 0} where
  -- No value was put in yet: the first pass is alone, and the slot is empty, or away while it is filled
  abbrev pub Empty : State (Option T) (View E S) → Type 0
  Empty s = (s.words ≡ 0 ∷ 0 ∷ 0 ∷ []) × (((s.views ≡ opening ∷ []) × (s.homes ≡ some None ∷ [])) ⊎ ((s.views ≡ filling ∷ []) × (s.homes ≡ none ∷ [])))

module _ {T E S : Type 0} (stands : T → List E → S → Type 0) where
  -- where the slot is, by whether a view has the turn
  abbrev pub Place : List (mathlib.Core.Option.Option (Option T)) → List (View E S) → List E → Type 0
  Place homes views history =
      ((seat : ℕ) × (v : View E S) × (get_elem? views seat ≡ some v) × (v.holds ≡ true) × (homes ≡ none ∷ []))
      ⊎ (Nobody views × ((x : T) × (state : S) × (homes ≡ some (Some x) ∷ []) × stands x history state))

  pub record Keeps (s : State (Option T) (View E S)) : Type 0 where
    pub next : ℕ
    pub serving : ℕ
    pub history : List E
    -- The words are the next ticket, the ticket that is served, and the length of the history.
    pub words : s.words ≡ next ∷ serving ∷ length history ∷ []
    -- No ticket is served before it is drawn,
    pub ordered : serving ≤ next
    -- and the next one fits its word.
    pub small : next < 2 ^ 64
    -- Each view fits the words and the history.
    pub each : Each s.views next serving history
    -- The tickets of the views are the numbers from `serving` up to `next`: none is two views',
    pub apart : Apart s.views
    -- and each is some view's.
    pub waiting : Waiting s.views next serving
    -- Just one view is the desk's, which has seen the whole history.
    pub desk : Desk s.views history
    -- The slot is away while a view has the turn; else it is at home, with a value that stands for the history.
    pub place : Place s.homes s.views history

  -- the rule, from the moment at which the table is made
  abbrev pub Rule : State (Option T) (View E S) → Type 0
  Rule s = Empty s ⊎ Keeps s
