-- What is found in looks and rounds, one after the other.
use Rattle.std.proofs.Common.{◌≡◌, ◌∙◌, ℕ, zero, suc, ◌+◌, ◌-◌, ◌<◌, ◌≤◌, Bool, true, false, not, List, [], ◌∷◌, ◌++◌, length, map, take, drop, Option, Some, None, Result, Ok, Err, refl, sym, ap, subst, arith, append_assoc, take-add, add-one}
use Rattle.std.specs.Prelude.{nat_lt, nat_le, min, is_ok, is_err, slice_get, if◌then◌else◌, IfSome}
use Rattle.std.specs.List.{filter}
use Rattle.std.proofs.lemmas.Bool.{cond-true, cond-false}
use Rattle.std.proofs.lemmas.Bool.Decides.{nat_tests}
use Rattle.std.proofs.lemmas.List.{append-nil, length-append, map-append, take_min, drop-drop}
use Rattle.std.proofs.lemmas.List.Filters.{length-filter_both}
use Rattle.conference_spec.proofs.Members.{length-filter_parts}
use Rattle.std.proofs.lemmas.List.Elements.{filter-append}
use Rattle.edge_io.specs.declared.faults.Failed.{Failed}
use Rattle.rtp_dump.specs.declared.item.DumpItem.{DumpItem}
use Rattle.rtcp_pack.specs.Compound.{compound}
use Rattle.udp_edge.specs.declared.peer.Got.{Got}
use Rattle.udp_edge.specs.declared.turns.Turn.{Turn}
use Rattle.udp_edge.specs.declared.turns.Turn.TheVariants as turns
use Rattle.udp_edge.specs.Traffic.{Traffic, Receives, next_turn}
use Rattle.udp_edge.specs.Traffic.{Finds as Meets}
use Rattle.udp_edge.specs.Time.{later, Answers}
use Rattle.session_spec.specs.Talkers.{Events, Hears}
use Rattle.session_spec.specs.Events.{begin_of, after_record, after_records}
use Rattle.live_spec.specs.Heard.{next_answer, after_answers, rounds, rounds_in, looked_at, datagrams, is_control, recorded}
use Rattle.live_spec.proofs.Counting.{datagrams-append}
use Rattle.live_link.specs.declared.controls.Controls.{Controls}
use Rattle.live_link.specs.Rounds.{speech, with_controls, with_datagrams, Finds, Looks, Listens}

-- ---- one look ----

take-least : (n : ℕ) (xs : List ℕ) → take (min (length xs) n) xs ≡ take n xs
take-least n xs = let same : min (length xs) n ≡ min n (length xs) = omega arith in ap (λ k. take k xs) same ∙ take_min n xs

-- what is looked at of a datagram with an octet
looks-at : (octets : List ℕ) (n : ℕ) → n ≡ 65527 → 0 < length octets → looked_at octets ≡ take n octets ∷ []
looks-at [] n e lt = absurd (omega arith)
looks-at (o ∷ octets) n e lt = ap (λ k. take k (o ∷ octets) ∷ []) (sym e)

found-some : (old new : Option Traffic) (got : Got) (room : ℕ) (buf : List ℕ) → room ≡ 65527 → 0 < got.len → Receives old new (Ok (Some got)) room buf
    → Finds 1 old new (take got.len buf ∷ [])
found-some None new got room buf full lt r = tt
found-some (Some told) new got room buf full lt r = by told.coming refl r.0
  where
    by : (coming : List Turn) → told.coming ≡ coming → Meets (next_turn coming) (Ok (Some got)) room buf
        → (take got.len buf ∷ [] ≡ datagrams (take 1 told.coming)) × (new ≡ Some (record told { coming = drop 1 told.coming }))
    by [] e f = absurd f
    by (turns.Datagram octets from ∷ coming) e f =
        let (who, len, same) = f in
        let some : 0 < length octets = omega arith in
        let one : take got.len buf ≡ take room octets = same ∙ ap (λ k. take k octets) len ∙ take-least room octets in
        (ap (λ xs. xs ∷ []) one ∙ sym (append-nil (looked_at octets) ∙ looks-at octets room full some) ∙ ap (λ ts. datagrams (take 1 ts)) (sym e), r.1)
    by (turns.Nothing ∷ coming) e f = absurd f
    by (turns.Fault ∷ coming) e f = absurd f

pub found : (old new : Option Traffic) (taken : Option Got) (got : Got) (room : ℕ) (buf : List ℕ) → taken ≡ Some got → room ≡ 65527 → 0 < got.len
    → Receives old new (Ok taken) room buf → Finds 1 old new (take got.len buf ∷ [])
found old new taken got room buf is full lt r = found-some old new got room buf full lt (subst (λ (o : Option Got). Receives old new (Ok o) room buf) is r)

-- ---- looks one after the other ----

finds-more : (n : ℕ) (a b c : Option Traffic) (ds es : List (List ℕ)) → Finds n a b ds → Finds 1 b c es → Finds (n + 1) a c (ds ++ es)
finds-more n None b c ds es one two = tt
finds-more n (Some told) b c ds es one two =
    let (first, mid) = one in
    let (second, last) = subst (λ (o : Option Traffic). Finds 1 o c es) mid two in (
      ap (λ xs. xs ++ es) first ∙ ap (λ xs. datagrams (take n told.coming) ++ xs) second
          ∙ sym (datagrams-append (take n told.coming) (take 1 (drop n told.coming))) ∙ ap datagrams (sym (take-add n 1 told.coming)),
      last ∙ ap (λ ts. Some (record told { coming = ts })) (drop-drop 1 n told.coming),
    )

pub finds-none : (a : Option Traffic) → Finds 0 a a []
finds-none None = tt
finds-none (Some told) = (refl, refl)

same-controls : (a b c d : ℕ) → a ≡ b → c ≡ d → ◌≡◌ {A = Controls} (record { heard = a; refused = c }) (record { heard = b; refused = d })
same-controls a b c d e f = rw (e, f) refl

-- packets of RTCP, one list after the other
pub controls-both : (c : Controls) (os ps : List (List ℕ)) → with_controls (with_controls c os) ps ≡ with_controls c (os ++ ps)
controls-both c os ps =
    let ok : List ℕ → Bool = λ o. is_ok (compound o) in
    let err : List ℕ → Bool = λ o. is_err (compound o) in
    let oks : length (filter ok (os ++ ps)) ≡ length (filter ok os) + length (filter ok ps) = ap length (filter-append ok os ps) ∙ length-append (filter ok os) (filter ok ps) in
    let errs : length (filter err (os ++ ps)) ≡ length (filter err os) + length (filter err ps) = ap length (filter-append err os ps) ∙ length-append (filter err os) (filter err ps) in
    let heard : c.heard + length (filter ok os) + length (filter ok ps) ≡ c.heard + length (filter ok (os ++ ps)) = omega arith in
    let refused : c.refused + length (filter err os) + length (filter err ps) ≡ c.refused + length (filter err (os ++ ps)) = omega arith in
    same-controls _ _ _ _ heard refused

with-more : (c : Controls) (ds es : List (List ℕ)) → with_datagrams (with_datagrams c ds) es ≡ with_datagrams c (ds ++ es)
with-more c ds es = controls-both c (filter is_control ds) (filter is_control es) ∙ ap (with_controls c) (sym (filter-append is_control ds es))

with-none : (c : Controls) → c ≡ with_datagrams c []
with-none c =
    let one : c.heard ≡ c.heard + 0 = omega arith in
    let two : c.refused ≡ c.refused + 0 = omega arith in
    same-controls _ _ _ _ one two

err-not : {T E : Type 0} (r : Result T E) → is_err r ≡ not (is_ok r)
err-not (Ok x) = refl
err-not (Err e) = refl

-- as many more packets of RTCP as datagrams at the most
pub few-more : (c : Controls) (ds : List (List ℕ)) → (with_datagrams c ds).heard + (with_datagrams c ds).refused ≤ c.heard + c.refused + length ds
few-more c ds =
    let os = filter is_control ds in
    let parts = length-filter_both (λ (o : List ℕ). is_ok (compound o)) (λ (o : List ℕ). is_err (compound o)) (λ o. err-not (compound o)) os in
    let all = length-filter_parts is_control ds in
    omega arith

pub looks-few : (a b : Option Traffic) (between now : Controls) (P : List (List ℕ) → Type 0) (n : ℕ) → Looks a b between now P
    → between.heard + between.refused ≤ n → now.heard + now.refused ≤ n + 1
looks-few a b between now P n look le =
    let one = look.few in
    let more = few-more between look.ds in
    let all : (with_datagrams between look.ds).heard + (with_datagrams between look.ds).refused ≤ n + 1 = omega arith in
    subst (λ (c : Controls). c.heard + c.refused ≤ n + 1) (sym look.counted) all

records-append : (is js : List DumpItem) (h : Events) → after_records (is ++ js) h ≡ after_records js (after_records is h)
records-append [] js h = refl
records-append (i ∷ is) js h = records-append is js (after_record i h)

speech-append : (k : ℕ) (ds es : List (List ℕ)) (h : Events) → after_records (speech k (ds ++ es)) h ≡ after_records (speech k es) (after_records (speech k ds) h)
speech-append k ds es h =
    let p : List ℕ → Bool = λ o. not (is_control o) in
    ap (λ is. after_records is h) (ap (map (recorded k)) (filter-append p ds es) ∙ map-append (recorded k) (filter p ds) (filter p es))
    ∙ records-append (speech k ds) (speech k es) h

-- ---- rounds one after the other ----

unfoldable pub rounds_left : ℕ → ℕ → ℕ → List ℕ → ℕ
rounds_left most k start answers = rounds most (begin_of (k + 1)) start answers

left-at-first : (most k start : ℕ) (answers : List ℕ) → most ≡ 65536 → rounds_left most k start answers ≡ rounds_in k start answers
unfolding rounds_left rounds_in
left-at-first most k start answers e = ap (λ m. rounds m (begin_of (k + 1)) start answers) e

left-none : (k start : ℕ) (answers : List ℕ) → rounds_left 0 k start answers ≡ 0
unfolding rounds_left
left-none k start answers = refl

left-last : (most k start : ℕ) (answers : List ℕ) → begin_of (k + 1) ≤ next_answer answers - start → rounds_left (suc most) k start answers ≡ 1
unfolding rounds_left
left-last most k start answers le =
    cond-true {A = ℕ} (nat_le (begin_of (k + 1)) (next_answer answers - start)) 1 (suc (rounds most (begin_of (k + 1)) start (later answers))) (le-passes (begin_of (k + 1)) (next_answer answers - start) le)
  where
    le-passes : (a b : ℕ) → a ≤ b → nat_le a b ≡ true
    le-passes a b h = grind (arith, nat_tests)

left-more : (most k start : ℕ) (answers : List ℕ) → next_answer answers - start < begin_of (k + 1)
    → rounds_left (suc most) k start answers ≡ suc (rounds_left most k start (later answers))
unfolding rounds_left
left-more most k start answers lt =
    cond-false {A = ℕ} (nat_le (begin_of (k + 1)) (next_answer answers - start)) 1 (suc (rounds most (begin_of (k + 1)) start (later answers))) (le-fails (begin_of (k + 1)) (next_answer answers - start) lt)
  where
    le-fails : (a b : ℕ) → b < a → nat_le a b ≡ false
    le-fails a b h = grind (arith, nat_tests)

later-after : (n : ℕ) (answers : List ℕ) → later (after_answers n answers) ≡ after_answers (suc n) answers
later-after zero answers = refl
later-after (suc n) answers = later-after n (later answers)

next-is : (answers : List ℕ) (now : ℕ) → slice_get answers 0 ≡ Some now → next_answer answers ≡ now
next-is [] now e = cc
next-is (a ∷ answers) now e = cc

-- the first n rounds of tick k, and how many there may still be
pub record SoFar (old new : Option Traffic) (answers after : Option (List ℕ)) (k start n : ℕ) (before now : Controls) (P : List (List ℕ) → Type 0) : Type 0 where
  pub ds : List (List ℕ)
  pub left : ℕ
  pub sum : n + left ≡ 65536
  pub finds : Finds n old new ds
  pub clock : IfSome answers (λ told. (n + rounds_left left k start (after_answers n told) ≡ rounds_in k start told) × (after ≡ Some (after_answers n told)))
  pub counted : now ≡ with_datagrams before ds
  pub here : P ds

clock-none : (answers : Option (List ℕ)) (k start left : ℕ) → left ≡ 65536
    → IfSome answers (λ told. (0 + rounds_left left k start (after_answers 0 told) ≡ rounds_in k start told) × (answers ≡ Some (after_answers 0 told)))
clock-none None k start left e = tt
clock-none (Some told) k start left e = let same = left-at-first left k start told e in (omega arith, refl)

pub so-none : (old : Option Traffic) (answers : Option (List ℕ)) (k start : ℕ) (c : Controls) (P : List (List ℕ) → Type 0) → P [] → SoFar old old answers answers k start 0 c c P
so-none old answers k start c P here = record {
  ds = [];
  left = 65536;
  sum = omega arith;
  finds = finds-none old;
  clock = clock-none answers k start 65536 refl;
  counted = with-none c;
  here = here;
}

-- one look more, and one at the clock
module _ (S0 S1 S2 : Events → Type 0) (a b c : Option Traffic) (answers mid after : Option (List ℕ)) (k start n : ℕ) (before between now : Controls) (time : ℕ)
    (so : SoFar a b answers mid k start n before between (λ ds. (h : Events) → S0 h → S1 (after_records (speech k ds) h)))
    (look : Looks b c between now (λ ds. (tick : ℕ) (h : Events) → S1 h → S2 (after_records (speech tick ds) h)))
    (told : Answers mid after time) where
  both-here : (h : Events) → S0 h → S2 (after_records (speech k (so.ds ++ look.ds)) h)
  both-here h s = subst S2 (sym (speech-append k so.ds look.ds h)) (look.here k (after_records (speech k so.ds) h) (so.here h s))

  both-counted : now ≡ with_datagrams before (so.ds ++ look.ds)
  both-counted = look.counted ∙ ap (λ x. with_datagrams x look.ds) so.counted ∙ with-more before so.ds look.ds

  clock-more : (left : ℕ) → so.left ≡ suc left → time - start < begin_of (k + 1)
      → IfSome answers (λ told. ((n + 1) + rounds_left left k start (after_answers (n + 1) told) ≡ rounds_in k start told) × (after ≡ Some (after_answers (n + 1) told)))
  clock-more left is lt = by answers so.clock
    where
      by : (o : Option (List ℕ)) → IfSome o (λ told. (n + rounds_left so.left k start (after_answers n told) ≡ rounds_in k start told) × (mid ≡ Some (after_answers n told)))
          → IfSome o (λ told. ((n + 1) + rounds_left left k start (after_answers (n + 1) told) ≡ rounds_in k start told) × (after ≡ Some (after_answers (n + 1) told)))
      by None at = tt
      by (Some ans) (sum, here) =
          let (first, next) = subst (λ (o : Option (List ℕ)). Answers o after time) here told in
          let now-is = next-is (after_answers n ans) time first in
          let later-is : later (after_answers n ans) ≡ after_answers (n + 1) ans = later-after n ans ∙ ap (λ i. after_answers i ans) (sym (add-one n)) in
          let step : rounds_left so.left k start (after_answers n ans) ≡ suc (rounds_left left k start (after_answers (n + 1) ans)) =
          ap (λ i. rounds_left i k start (after_answers n ans)) is ∙ left-more left k start (after_answers n ans) (subst (λ (t : ℕ). t - start < begin_of (k + 1)) (sym now-is) lt)
          ∙ ap (λ xs. suc (rounds_left left k start xs)) later-is in
          (omega arith, next ∙ ap Some later-is)

  clock-last : (left : ℕ) → so.left ≡ suc left → begin_of (k + 1) ≤ time - start
      → IfSome answers (λ told. (n + 1 ≡ rounds_in k start told) × (after ≡ Some (after_answers (n + 1) told)))
  clock-last left is le = by answers so.clock
    where
      by : (o : Option (List ℕ)) → IfSome o (λ told. (n + rounds_left so.left k start (after_answers n told) ≡ rounds_in k start told) × (mid ≡ Some (after_answers n told)))
          → IfSome o (λ told. (n + 1 ≡ rounds_in k start told) × (after ≡ Some (after_answers (n + 1) told)))
      by None at = tt
      by (Some ans) (sum, here) =
          let (first, next) = subst (λ (o : Option (List ℕ)). Answers o after time) here told in
          let now-is = next-is (after_answers n ans) time first in
          let later-is : later (after_answers n ans) ≡ after_answers (n + 1) ans = later-after n ans ∙ ap (λ i. after_answers i ans) (sym (add-one n)) in
          let step : rounds_left so.left k start (after_answers n ans) ≡ 1 =
          ap (λ i. rounds_left i k start (after_answers n ans)) is ∙ left-last left k start (after_answers n ans) (subst (λ (t : ℕ). begin_of (k + 1) ≤ t - start) (sym now-is) le) in
          (omega arith, next ∙ ap Some later-is)

  left-is : n < 65536 → (left : ℕ) × (so.left ≡ suc left)
  left-is lt = let sum = so.sum in by so.left refl
    where
      by : (m : ℕ) → so.left ≡ m → (left : ℕ) × (so.left ≡ suc left)
      by zero e = let sum = so.sum in absurd (omega arith)
      by (suc m) e = (m, e)

  pub so-more : n < 65536 → time - start < begin_of (k + 1)
      → SoFar a c answers after k start (n + 1) before now (λ ds. (h : Events) → S0 h → S2 (after_records (speech k ds) h))
  so-more lt early =
      let (left, is) = left-is lt in
      let sum = so.sum in
      record {
        ds = so.ds ++ look.ds;
        left = left;
        sum = omega arith;
        finds = finds-more n a b c so.ds look.ds so.finds look.finds;
        clock = clock-more left is early;
        counted = both-counted;
        here = both-here;
      }

  pub so-last : n < 65536 → begin_of (k + 1) ≤ time - start
      → Listens a c answers after k start before now (λ ds. (h : Events) → S0 h → S2 (after_records (speech k ds) h))
  so-last lt late =
      let (left, is) = left-is lt in
      record {
        n = n + 1;
        ds = so.ds ++ look.ds;
        rounds_are = clock-last left is late;
        finds = finds-more n a b c so.ds look.ds so.finds look.finds;
        counted = both-counted;
        here = both-here;
      }

-- no more rounds may follow
pub so-all : (a b : Option Traffic) (answers after : Option (List ℕ)) (k start n : ℕ) (before now : Controls) (P : List (List ℕ) → Type 0) → n ≡ 65536
    → SoFar a b answers after k start n before now P → Listens a b answers after k start before now P
so-all a b answers after k start n before now P is so = record { n = n; ds = so.ds; rounds_are = by answers so.clock; finds = so.finds; counted = so.counted; here = so.here }
  where
    by : (o : Option (List ℕ)) → IfSome o (λ told. (n + rounds_left so.left k start (after_answers n told) ≡ rounds_in k start told) × (after ≡ Some (after_answers n told)))
        → IfSome o (λ told. (n ≡ rounds_in k start told) × (after ≡ Some (after_answers n told)))
    by None at = tt
    by (Some told) (sum, here) =
        let all = so.sum in
        let none : so.left ≡ 0 = omega arith in
        let zero-left : rounds_left so.left k start (after_answers n told) ≡ 0 = ap (λ i. rounds_left i k start (after_answers n told)) none ∙ left-none k start (after_answers n told) in
        (omega arith, here)
