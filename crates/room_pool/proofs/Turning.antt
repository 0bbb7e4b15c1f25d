-- What a turn of one of several passes leaves of the others, and what asking them comes to.
use Rattle.std.proofs.Common.{◌≡◌, ◌⊎◌, ℕ, zero, suc, ◌+◌, ◌<◌, ◌≤◌, Bool, true, false, ◌&&◌, List, [], ◌∷◌, ◌++◌, length, map, take, drop, get_or, All, Option, Some, None, MatchOption, refl, sym, ap, ◌∙◌, subst, inl, inr, arith, add-one}
use Rattle.std.proofs.Math.ListN.{set}
use Rattle.std.proofs.Math.Seq.{take-append_seam, drop-append_seam}
use Rattle.std.specs.List.{AllZip, slice_get, slice_set}
use Rattle.std.proofs.lemmas.Option.{slice_get_read}
use Rattle.atomic_table.specs.Seated.{TableId}
use Rattle.conference_spec.specs.Machine.{Core}
use Rattle.conference_spec.specs.Feed.{ended}
use Rattle.tick_core.specs.Held.{Held}
use Rattle.tick_core.specs.declared.jobs.Claim.{Claim}
use Rattle.tick_core.specs.declared.jobs.Claim.TheVariants as claim
use Rattle.book_seat.specs.Seated.{Working}
use Rattle.book_seat.specs.Steps.{ClaimGives}
use Rattle.book_seat.specs.Taken.{TookTurn}
use Rattle.room_pool.specs.declared.asking.Asked.{Asked}
use Rattle.room_pool.specs.declared.asking.Asked.TheVariants.{Job, Nothing}
use Rattle.room_pool.specs.Asking.{behind_one, with_over}
use Rattle.room_pool.specs.Turning.{Turning, Turned, HasNone, NoneHas, OneIdles, Gives, AskedEach, GivesFrom, AskedFrom, TurnedLast, ComesToLast, IsWithin}

-- the lock of each pass
abbrev pub homes : List Working → List TableId
homes ws = map (λ w. w.pass.home) ws

home_set : (ws : List Working) (at : ℕ) (v w : Working) → slice_get ws at ≡ Some v → w.pass.home ≡ v.pass.home → homes (set ws at w) ≡ homes ws
home_set [] at v w there same = refl
home_set (x ∷ ws) zero v w there same =
    let is : x ≡ v = cc in
    ap (λ (h : TableId). h ∷ homes ws) (same ∙ ap (λ (y : Working). y.pass.home) (sym is))
home_set (x ∷ ws) (suc at) v w there same = ap (λ (hs : List TableId). x.pass.home ∷ hs) (home_set ws at v w there same)

pub home_stays : (old new : Turning) (step : Core → Core → Type 0) → TurnedLast old new step → homes new.passes ≡ homes old.passes
home_stays old new step t = ap homes t.is ∙ home_set old.passes t.at t.pass t.after t.was t.turned.home

pub turned_at : (old new : Turning) (step : Core → Core → Type 0) (at : ℕ) (pass after : Working) (items : List Working) → items ≡ old.passes
    → old.last ≡ Some at → at < length items → pass ≡ get_or items at pass → new.passes ≡ set items at after
    → TookTurn pass.pass.view after.pass.view step → after.pass.home ∷ [] ≡ pass.pass.home ∷ [] → TurnedLast old new step
turned_at old new step at pass after items are last within is new_is turn home = record {
  at = at;
  last = last;
  pass = pass;
  was = subst (λ (ws : List Working). slice_get ws at ≡ Some pass) are (slice_get_read items (length items) at pass refl within is);
  after = after;
  is = subst (λ (ws : List Working). new.passes ≡ set ws at after) are new_is;
  turned = record { turn = turn; home = cc };
}

pub within_last : (last : Option ℕ) (at : ℕ) (ws : List Working) → last ≡ Some at → IsWithin last ws → at < length ws
within_last last at ws is within = rw is at within

-- what came to the last room is said of the passes alone
comes_for : (old new after : Turning) (step : Core → Core → Type 0) (back : Type 0) (last : Option ℕ) → after.passes ≡ new.passes
    → MatchOption last ((new.passes ≡ old.passes) × back) (λ at. TurnedLast old new step)
    → MatchOption last ((after.passes ≡ old.passes) × back) (λ at. TurnedLast old after step)
comes_for old new after step back None same comes = (same ∙ comes.0, comes.1)
comes_for old new after step back (Some at) same comes = record {
  at = comes.at;
  last = comes.last;
  pass = comes.pass;
  was = comes.was;
  after = comes.after;
  is = same ∙ comes.is;
  turned = comes.turned;
}

pub comes_along : (old new after : Turning) (step : Core → Core → Type 0) (back : Type 0) → after.passes ≡ new.passes
    → ComesToLast old new step back → ComesToLast old after step back
comes_along old new after step back same comes = comes_for old new after step back old.last same comes

module _ {P : Type 0} (answers : Claim → P → P → Type 0) where
  over_has_none : (vs ws : List P) → AllZip (answers claim.Over) vs ws → AllZip (HasNone answers) vs ws
  over_has_none [] [] all = tt
  over_has_none [] (w ∷ ws) all = absurd all
  over_has_none (v ∷ vs) [] all = absurd all
  over_has_none (v ∷ vs) (w ∷ ws) all = (inl all.0, over_has_none vs ws all.1)

  pub none_have : (vs ws : List P) (over : Bool) → NoneHas answers vs ws over → AllZip (HasNone answers) vs ws
  none_have vs ws true none = over_has_none vs ws none
  none_have vs ws false none = none.0

  -- the first was asked, and answered that it is over, or idle
  abbrev pub FirstAsked : P → P → Bool → Type 0
  FirstAsked v w true = answers claim.Over v w
  FirstAsked v w false = answers claim.Idle v w

  first_has_none : (v w : P) (over : Bool) → FirstAsked v w over → HasNone answers v w
  first_has_none v w true a = inl a
  first_has_none v w false a = inr a

  none_behind : (v w : P) (vs ws : List P) (over last : Bool) → FirstAsked v w over → NoneHas answers vs ws last
      → NoneHas answers (v ∷ vs) (w ∷ ws) (over && last)
  none_behind v w vs ws true true a none = (a, none)
  none_behind v w vs ws true false a none = ((inl a, none.0), inr none.1)
  none_behind v w vs ws false true a none = ((inr a, over_has_none vs ws none), inl a)
  none_behind v w vs ws false false a none = ((inr a, none.0), inl a)

  pub asked_behind : (v w : P) (vs ws : List P) (over : Bool) (others : Asked) → FirstAsked v w over → AskedEach answers vs ws others
      → AskedEach answers (v ∷ vs) (w ∷ ws) (behind_one over others)
  asked_behind v w vs ws over (Job at job) a asked =
      subst (λ (n : ℕ). Gives answers (v ∷ vs) (w ∷ ws) n job) (sym (add-one at)) (first_has_none v w over a, asked)
  asked_behind v w vs ws over (Nothing last) a asked = none_behind v w vs ws over last a asked

  pub given_first : (all : List P) (v w : P) (vs : List P) (job : Held) → all ≡ v ∷ vs → answers (claim.Job job) v w
      → Gives answers all (w ∷ vs) 0 job
  given_first all v w vs job is a = rw is (a, refl)

  zip_both : (R : P → P → Type 0) (vs ws us xs : List P) → AllZip R vs ws → AllZip R us xs → AllZip R (vs ++ us) (ws ++ xs)
  zip_both R [] [] us xs all more = more
  zip_both R [] (w ∷ ws) us xs all more = absurd all
  zip_both R (v ∷ vs) [] us xs all more = absurd all
  zip_both R (v ∷ vs) (w ∷ ws) us xs all more = (all.0, zip_both R vs ws us xs all.1 more)

  idles_front : (vs ws us xs : List P) → OneIdles answers vs ws → OneIdles answers (vs ++ us) (ws ++ xs)
  idles_front [] ws us xs one = absurd one
  idles_front (v ∷ vs) [] us xs one = absurd one
  idles_front (v ∷ vs) (w ∷ ws) us xs one = elim one [ inl a ↦ inl a | inr more ↦ inr (idles_front vs ws us xs more) ]

  idles_back : (vs ws us xs : List P) → AllZip (HasNone answers) vs ws → OneIdles answers us xs → OneIdles answers (vs ++ us) (ws ++ xs)
  idles_back [] [] us xs all one = one
  idles_back [] (w ∷ ws) us xs all one = absurd all
  idles_back (v ∷ vs) [] us xs all one = absurd all
  idles_back (v ∷ vs) (w ∷ ws) us xs all one = inr (idles_back vs ws us xs all.1 one)

  -- those behind were asked and had none, and then those before were asked
  none_both : (vs ws us xs : List P) (over last : Bool) → NoneHas answers us xs over → NoneHas answers vs ws last
      → NoneHas answers (vs ++ us) (ws ++ xs) (over && last)
  none_both vs ws us xs true true later earlier = zip_both (answers claim.Over) vs ws us xs earlier later
  none_both vs ws us xs true false later earlier =
      (zip_both (HasNone answers) vs ws us xs earlier.0 (over_has_none us xs later), idles_front vs ws us xs earlier.1)
  none_both vs ws us xs false true later earlier =
      let none : AllZip (HasNone answers) vs ws = over_has_none vs ws earlier in
      (zip_both (HasNone answers) vs ws us xs none later.0, idles_back vs ws us xs none later.1)
  none_both vs ws us xs false false later earlier =
      (zip_both (HasNone answers) vs ws us xs earlier.0 later.0, idles_front vs ws us xs earlier.1)

  parted : (n : ℕ) (before behind : List P) → length before ≡ n
      → (take n (before ++ behind) ≡ before) × (drop n (before ++ behind) ≡ behind)
  parted n before behind long = (
    subst (λ (k : ℕ). take k (before ++ behind) ≡ before) long (take-append_seam before behind),
    subst (λ (k : ℕ). drop k (before ++ behind) ≡ behind) long (drop-append_seam before behind),
  )

  -- one of those from the first on gave the job
  pub given_later : (first : ℕ) (all before behind left : List P) (k : ℕ) (job : Held) → all ≡ before ++ behind → length before ≡ first
      → Gives answers behind left k job → GivesFrom answers first all (before ++ left) (first + k) job
  given_later first all before behind left k job is long given =
      let old = parted first before behind long in
      let new = parted first before left long in
      let there : Gives answers (drop first (before ++ behind)) (drop first (before ++ left)) k job = rw (old.1, new.1) given in
      let same : take first (before ++ left) ≡ take first (before ++ behind) = new.0 ∙ sym old.0 in
      rw is (inl (k, refl, there, same))

  -- or none of them, and then those before were asked
  pub asked_both : (first : ℕ) (all before behind after left : List P) (over : Bool) (asked : Asked) → all ≡ before ++ behind
      → length before ≡ first → length after ≡ length before → NoneHas answers behind left over → AskedEach answers before after asked
      → AskedFrom answers first all (after ++ left) (with_over over asked)
  asked_both first all before behind after left over (Job at job) is long same none given =
      let old = parted first before behind long in
      let new = parted first after left (same ∙ long) in
      let empty : AllZip (HasNone answers) (drop first (before ++ behind)) (drop first (after ++ left)) = rw (old.1, new.1) (none_have behind left over none) in
      let there : Gives answers (take first (before ++ behind)) (take first (after ++ left)) at job = rw (old.0, new.0) given in
      rw is (inr (empty, there))
  asked_both first all before behind after left over (Nothing last) is long same none given =
      rw is (none_both before after behind left over last none given)

  pub gives_within : (vs ws : List P) (at : ℕ) (job : Held) → Gives answers vs ws at job → at < length vs
  gives_within [] ws at job given = absurd given
  gives_within (v ∷ vs) [] at job given = absurd given
  gives_within (v ∷ vs) (w ∷ ws) zero job given = omega arith
  gives_within (v ∷ vs) (w ∷ ws) (suc at) job given = let k : at < length vs = gives_within vs ws at job given.1 in omega arith
