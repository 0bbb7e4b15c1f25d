-- An arrival goes to the line of its talker, and no other changes.
use Rattle.std.proofs.Common.{◌≡◌, ◌≢◌, ℕ, zero, suc, Bool, true, false, cond, List, [], ◌∷◌, map, refl, ap, ◌∙◌, sym, subst, arith, length, get_or, set, ◌<◌, ◌≤◌, Some, None, eq-eqb}
use Rattle.std.specs.Prelude.{◌==◌, position, nat_lt}
use Rattle.std.specs.List.{AllByRecursion, position_or_len}
use Rattle.std.proofs.lemmas.List.Quantifiers.{position-Some}
use Rattle.std.proofs.lemmas.List.Sums.{fails_before_first}
use Rattle.std.proofs.lemmas.Bool.{ltb-false}
use Rattle.std.proofs.lemmas.Bool.Decides.{nat_tests}
use Rattle.session_spec.specs.Talkers.{Talker, Way, Stops, ToLine, given, talker_on}
use Rattle.desk.specs.declared.channel.Channel.{Channel}
use Rattle.desk.specs.Channels.{StandsFor, EachStands, after_way}
use Rattle.desk.specs.Kept.{EachOther, members}
use Rattle.desk.proofs.Members.{other_at}

-- the way stops, or goes to this member's line
abbrev pub IsOwn : Way → ℕ → Type 0
IsOwn (Stops refusal) member = Unit {0}
IsOwn (ToLine other line p) member = other ≡ member

same_test : (n : ℕ) → (n == n) ≡ true
same_test n = eq-eqb n n refl

other_test : (a b : ℕ) → a ≢ b → (a == b) ≡ false
other_test a b differ = grind (arith, nat_tests)

-- the talker itself is changed by its own way, and no other
given_own : (w : Way) (t : Talker) → IsOwn w t.member → given w t ≡ after_way w t
given_own (Stops refusal) t own = refl
given_own (ToLine member line p) t own =
    let e : (t.member == member) ≡ true = rw own (same_test t.member) in
    rw e refl

given_other : (w : Way) (n : ℕ) (t : Talker) → IsOwn w n → t.member ≢ n → given w t ≡ t
given_other (Stops refusal) n t own differ = refl
given_other (ToLine member line p) n t own differ =
    let e : (t.member == member) ≡ false = other_test t.member member (λ same. differ (same ∙ own)) in
    rw e refl

-- talkers of other members are left as they are
others_same : (w : Way) (n : ℕ) (cs : List Channel) (ts : List Talker) → IsOwn w n → EachStands cs ts
    → AllByRecursion (λ o. o ≢ n) (members cs) → map (given w) ts ≡ ts
others_same w n [] [] own each differ = refl
others_same w n [] (t ∷ ts) own each differ = absurd each
others_same w n (c ∷ cs) [] own each differ = absurd each
others_same w n (c ∷ cs) (t ∷ ts) own each differ =
    let other : t.member ≢ n = λ e. differ.0 (each.0.member ∙ e) in
    rw (given_other w n t own other, others_same w n cs ts own each.1 differ.1) refl

-- the talker of the first channel with an SSRC
pub record Found (ssrc : ℕ) (cs : List Channel) (ts : List Talker) (place : ℕ) (c : Channel) : Type 0 where
  pub talker : Talker
  pub on : talker_on ssrc ts ≡ Some talker
  pub stands : StandsFor c talker
  pub after : (new : Channel) (w : Way) → IsOwn w talker.member → StandsFor new (after_way w talker)
      → EachStands (set cs place new) (map (given w) ts)

same_ssrc : (ssrc : ℕ) (c : Channel) (t : Talker) → StandsFor c t → (t.talk.ssrc == ssrc) ≡ (c.ssrc == ssrc)
same_ssrc ssrc c t stands = ap (λ talk. talk.ssrc == ssrc) (sym stands.talk)

pub found_at : (ssrc place : ℕ) (cs : List Channel) (ts : List Talker) (c : Channel) → EachStands cs ts → EachOther (members cs)
    → place < length cs → c ≡ get_or cs place c → (c.ssrc == ssrc) ≡ true
    → ((k : ℕ) → k < place → ((get_or cs k c).ssrc == ssrc) ≡ false) → Found ssrc cs ts place c
found_at ssrc place [] ts c each differ within is passes below = absurd (omega arith)
found_at ssrc place (d ∷ cs) [] c each differ within is passes below = absurd each
found_at ssrc zero (d ∷ cs) (t ∷ ts) c each differ within is passes below =
    let stands : StandsFor c t = subst (λ (x : Channel). StandsFor x t) (sym is) each.0 in
    let here : (t.talk.ssrc == ssrc) ≡ true = same_ssrc ssrc c t stands ∙ passes in
    record {
      talker = t;
      on = rw here refl;
      stands = stands;
      after = λ new w own after.
          let differ_here : AllByRecursion (λ o. o ≢ t.member) (members cs) =
          subst (λ (n : ℕ). AllByRecursion (λ o. o ≢ n) (members cs)) each.0.member differ.0 in (
            subst (λ (x : Talker). StandsFor new x) (sym (given_own w t own)) after,
            subst (λ (us : List Talker). EachStands cs us) (sym (others_same w t.member cs ts own each.1 differ_here)) each.1,
          );
    }
found_at ssrc (suc place) (d ∷ cs) (t ∷ ts) c each differ within is passes below =
    let rest : Found ssrc cs ts place c =
    found_at ssrc place cs ts c each.1 differ.1 (omega arith) is passes (λ k lt. below (suc k) (omega arith)) in
    let not_here : (t.talk.ssrc == ssrc) ≡ false = same_ssrc ssrc d t each.0 ∙ below 0 (omega arith) in
    let later : c.member ≢ d.member =
    λ e. other_at d.member cs place c differ.0 (omega arith) (ap (λ (x : Channel). x.member) (sym is) ∙ e) in
    record {
      talker = rest.talker;
      on = rw not_here rest.on;
      stands = rest.stands;
      after = λ new w own after.
          let other : t.member ≢ rest.talker.member = λ e. later (rest.stands.member ∙ sym e ∙ sym each.0.member) in (
            subst (λ (x : Talker). StandsFor d x) (sym (given_other w rest.talker.member t own other)) each.0,
            rest.after new w own after,
          );
    }

cond_none : (b : Bool) (n : ℕ) → cond b (Some n) None ≡ None → b ≡ false
cond_none true n e = cc
cond_none false n e = refl

none_on : (ssrc : ℕ) (cs : List Channel) (ts : List Talker) → EachStands cs ts
    → ((k : ℕ) (d : Channel) → k < length cs → ((get_or cs k d).ssrc == ssrc) ≡ false) → talker_on ssrc ts ≡ None
none_on ssrc [] [] each fails = refl
none_on ssrc [] (t ∷ ts) each fails = absurd each
none_on ssrc (c ∷ cs) [] each fails = absurd each
none_on ssrc (c ∷ cs) (t ∷ ts) each fails =
    let not_here : (t.talk.ssrc == ssrc) ≡ false = same_ssrc ssrc c t each.0 ∙ fails 0 c (omega arith) in
    rw not_here (none_on ssrc cs ts each.1 (λ k d lt. fails (suc k) d (omega arith)))

pub unknown : (ssrc : ℕ) (cs : List Channel) (ts : List Talker) → EachStands cs ts
    → position (λ (c : Channel). c.ssrc == ssrc) cs ≡ None → talker_on ssrc ts ≡ None
unknown ssrc cs ts each none =
    let test : Channel → Bool = λ c. c.ssrc == ssrc in
    let past : nat_lt (position_or_len test cs) (length cs) ≡ false = cond_none _ _ none in
    let far : length cs ≤ position_or_len test cs = ltb-false (position_or_len test cs) (length cs) past in
    none_on ssrc cs ts each (λ k d lt. fails_before_first test cs k d (omega arith))

pub found : (ssrc place : ℕ) (cs : List Channel) (ts : List Talker) (c : Channel) → EachStands cs ts → EachOther (members cs)
    → position (λ (c : Channel). c.ssrc == ssrc) cs ≡ Some place → c ≡ get_or cs place c → Found ssrc cs ts place c
found ssrc place cs ts c each differ at is =
    let facts = position-Some (λ (c : Channel). c.ssrc == ssrc) cs place c at in
    found_at ssrc place cs ts c each differ facts.0 is
    (ap (λ (x : Channel). x.ssrc == ssrc) is ∙ facts.1) facts.2
