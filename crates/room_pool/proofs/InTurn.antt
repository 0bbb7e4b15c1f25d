-- What asking rooms in turn leaves of their passes, and when it says that all are over.
use Rattle.std.proofs.Common.{◌≡◌, ◌⊎◌, ℕ, zero, suc, ◌+◌, ◌<◌, true, false, List, [], ◌∷◌, ◌++◌, length, map, take, drop, get_or, All, Option, Some, None, refl, sym, ap, ◌∙◌, subst, inl, inr, arith}
use Rattle.std.specs.List.{AllZip}
use Rattle.std.proofs.lemmas.List.{map-append, take-append-drop}
use Rattle.std.proofs.lemmas.List.Elements.{All-cons, All-nil}
use Rattle.atomic_table.specs.Seated.{TableId}
use Rattle.conference_spec.specs.Feed.{ended}
use Rattle.tick_core.specs.Held.{Held}
use Rattle.tick_core.specs.declared.jobs.Claim.{Claim}
use Rattle.tick_core.specs.declared.jobs.Claim.TheVariants as claim
use Rattle.book_seat.specs.Seated.{Working}
use Rattle.book_seat.proofs.Told.{claim-over}
use Rattle.room_pool.specs.declared.asking.Asked.{Asked}
use Rattle.room_pool.specs.declared.asking.Asked.TheVariants.{Job, Nothing}
use Rattle.room_pool.specs.Turning.{Answers, HasNone, NoneHas, OneIdles, Gives, GivesFrom, AskedFrom}
use Rattle.room_pool.proofs.Turning.{homes, none_have}

none_home : (v w : Working) → HasNone Answers v w → w.pass.home ≡ v.pass.home
none_home v w has = elim has [ inl a ↦ a.home | inr a ↦ a.home ]

none_homes : (vs ws : List Working) → AllZip (HasNone Answers) vs ws → homes ws ≡ homes vs
none_homes [] [] all = refl
none_homes [] (w ∷ ws) all = absurd all
none_homes (v ∷ vs) [] all = absurd all
none_homes (v ∷ vs) (w ∷ ws) all =
    let here : w.pass.home ≡ v.pass.home = none_home v w all.0 in
    let rest : homes ws ≡ homes vs = none_homes vs ws all.1 in
    rw (here, rest) refl

gives_homes : (vs ws : List Working) (at : ℕ) (job : Held) → Gives Answers vs ws at job → homes ws ≡ homes vs
gives_homes [] ws at job given = absurd given
gives_homes (v ∷ vs) [] at job given = absurd given
gives_homes (v ∷ vs) (w ∷ ws) zero job given =
    let here : w.pass.home ≡ v.pass.home = given.0.home in
    rw (here, given.1) refl
gives_homes (v ∷ vs) (w ∷ ws) (suc at) job given =
    let here : w.pass.home ≡ v.pass.home = none_home v w given.0 in
    let rest : homes ws ≡ homes vs = gives_homes vs ws at job given.1 in
    rw (here, rest) refl

both_homes : (n : ℕ) (vs ws : List Working) → homes (take n ws) ≡ homes (take n vs) → homes (drop n ws) ≡ homes (drop n vs) → homes ws ≡ homes vs
both_homes n vs ws front back =
    let parts : (us : List Working) → homes us ≡ homes (take n us) ++ homes (drop n us) =
    λ us. ap homes (sym (take-append-drop n us)) ∙ map-append (λ w. w.pass.home) (take n us) (drop n us) in
    parts ws ∙ rw (front, back) (sym (parts vs))

from_homes : (first : ℕ) (vs ws : List Working) (at : ℕ) (job : Held) → GivesFrom Answers first vs ws at job → homes ws ≡ homes vs
from_homes first vs ws at job given =
    elim given [
      | inl later ↦ both_homes first vs ws (ap homes later.3) (gives_homes (drop first vs) (drop first ws) later.0 job later.2)
      | inr earlier ↦ both_homes first vs ws (gives_homes (take first vs) (take first ws) at job earlier.1) (none_homes (drop first vs) (drop first ws) earlier.0)
    ]

pub asked_homes : (first : ℕ) (vs ws : List Working) (asked : Asked) → AskedFrom Answers first vs ws asked → homes ws ≡ homes vs
asked_homes first vs ws (Job at job) given = from_homes first vs ws at job given
asked_homes first vs ws (Nothing over) none = none_homes vs ws (none_have Answers vs ws over none)

abbrev pub IsOver : Working → Type 0
IsOver w = ended w.pass.view.seen ≡ true

over_ended : (v w : Working) → Answers claim.Over v w → IsOver w
over_ended v w a = claim-over v.pass.view w.pass.view claim.Over a.turn

pub all_ended : (vs ws : List Working) → AllZip (Answers claim.Over) vs ws → All IsOver ws
all_ended [] [] all = All-nil IsOver
all_ended [] (w ∷ ws) all = absurd all
all_ended (v ∷ vs) [] all = absurd all
all_ended (v ∷ vs) (w ∷ ws) all = All-cons IsOver w ws (over_ended v w all.0) (all_ended vs ws all.1)

tail_of : (w : Working) (ws : List Working) → All IsOver (w ∷ ws) → All IsOver ws
tail_of w ws all = λ k d within. all (suc k) d (omega arith)

pub one_goes_on : (vs ws : List Working) → OneIdles Answers vs ws → All IsOver ws → ⊥
one_goes_on [] ws one all = absurd one
one_goes_on (v ∷ vs) [] one all = absurd one
one_goes_on (v ∷ vs) (w ∷ ws) one all =
    elim one [
      | inl a ↦ claim-over v.pass.view w.pass.view claim.Idle a.turn (all 0 w (omega arith))
      | inr more ↦ one_goes_on vs ws more (tail_of w ws all)
    ]
