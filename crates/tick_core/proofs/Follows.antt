-- What a log counts of the feed that it follows, and what one more entry or a cut leaves.
use Rattle.std.proofs.Common.{◌≡◌, ℕ, ◌+◌, ◌*◌, ◌≤◌, ◌<◌, inl, inr, Bool, true, false, not, ◌&&◌, List, [], ◌∷◌, ◌++◌, length, refl, sym, ◌∙◌, ap, subst, arith, length-append, add-one}
use Rattle.std.specs.Prelude.{◌==◌, nat_lt, if◌then◌else◌}
use Rattle.std.specs.List.{filter, list_any}
use Rattle.std.proofs.lemmas.Bool.{cases_Bool, and_parts, and_from, lt-ltb, cond-true, cond-false, eqb-true, eq-eqb, ltb-true, false≢true, not-true, not_from_false, not_from_true}
use Rattle.conference_spec.specs.declared.Entry.{Entry}
use Rattle.conference_spec.specs.declared.Entry.TheVariants.{Join, Leave, Close, Collect, Cut, End}
use Rattle.conference_spec.specs.declared.Stay.{Stay}
use Rattle.conference_spec.specs.Codec.{g726}
use Rattle.conference_spec.specs.Coding.{Coder}
use Rattle.conference_spec.specs.Feed.{Feed, Listener, begins, hears, listeners, closes, collects, ended, joined, cut, kept, is_legal, may_follow}
use Rattle.conference_spec.specs.Tasks.{due}
use Rattle.conference_spec.specs.Base.{Base, base}
use Rattle.conference_spec.proofs.Members.{Once, in-any, length-filter_parts}
use Rattle.conference_spec.proofs.Events.{length-map}
use Rattle.book_feed.specs.Logged.{KeptFeed, IsModest, blank, with_entry, cut_off, closed_in, collected_in, joined_in, entries_in}
use Rattle.tick_core.specs.Standing.{Follows, since_cut}

-- ---- feeds that go on ----

pub closes-append : (s h : Feed) → closes (s ++ h) ≡ closes s + closes h
closes-append [] h = omega arith
closes-append (Join spec ∷ s) h = closes-append s h
closes-append (Leave m ∷ s) h = closes-append s h
closes-append (Close tick ∷ s) h = let ih = closes-append s h in omega arith
closes-append (Collect ∷ s) h = closes-append s h
closes-append (Cut ∷ s) h = closes-append s h
closes-append (End ∷ s) h = closes-append s h

pub collects-append : (s h : Feed) → collects (s ++ h) ≡ collects s + collects h
collects-append [] h = omega arith
collects-append (Join spec ∷ s) h = collects-append s h
collects-append (Leave m ∷ s) h = collects-append s h
collects-append (Close tick ∷ s) h = collects-append s h
collects-append (Collect ∷ s) h = let ih = collects-append s h in omega arith
collects-append (Cut ∷ s) h = collects-append s h
collects-append (End ∷ s) h = collects-append s h

pub joined-append : (s h : Feed) → joined (s ++ h) ≡ joined s ++ joined h
joined-append [] h = refl
joined-append (Join spec ∷ s) h = ap (λ (ms : List ℕ). spec.member ∷ ms) (joined-append s h)
joined-append (Leave m ∷ s) h = joined-append s h
joined-append (Close tick ∷ s) h = joined-append s h
joined-append (Collect ∷ s) h = joined-append s h
joined-append (Cut ∷ s) h = joined-append s h
joined-append (End ∷ s) h = joined-append s h

pub ended-append : (s h : Feed) → ended h ≡ false → ended (s ++ h) ≡ ended s
ended-append [] h e = e
ended-append (Join spec ∷ s) h e = ended-append s h e
ended-append (Leave m ∷ s) h e = ended-append s h e
ended-append (Close tick ∷ s) h e = ended-append s h e
ended-append (Collect ∷ s) h e = ended-append s h e
ended-append (Cut ∷ s) h e = ended-append s h e
ended-append (End ∷ s) h e = refl

-- what a cut asks for
pub record MayCut (h : Feed) : Type 0 where
  pub collected : collects h ≡ closes h
  pub some : 0 < kept h
  pub open' : ended h ≡ false

pub may-cut : (coder : Coder) (h : Feed) → may_follow coder h Cut ≡ true → MayCut h
may-cut coder h may =
    let p = and_parts (closes h == collects h) (nat_lt 0 (kept h) && not (ended h)) may in
    let q = and_parts (nat_lt 0 (kept h)) (not (ended h)) p.1 in
    record { collected = sym (eqb-true (closes h) (collects h) p.0); some = ltb-true 0 (kept h) q.0; open' = not-true (ended h) q.1 }

pub may-be-cut : (coder : Coder) (h : Feed) → MayCut h → may_follow coder h Cut ≡ true
may-be-cut coder h m =
    and_from (closes h == collects h) (nat_lt 0 (kept h) && not (ended h)) (eq-eqb (closes h) (collects h) (sym m.collected))
    (and_from (nat_lt 0 (kept h)) (not (ended h)) (lt-ltb 0 (kept h) m.some) (not_from_false (ended h) m.open'))

-- at a cut, each closed tick was collected, and the end hadn't come
pub cut-parts : (coder : Coder) (h : Feed) → is_legal coder (cut h) ≡ true → (collects (cut h) ≡ closes (cut h)) × (ended (cut h) ≡ false)
cut-parts coder [] l = (refl, refl)
cut-parts coder (Join spec ∷ h) l = cut-parts coder h l
cut-parts coder (Leave m ∷ h) l = cut-parts coder h l
cut-parts coder (Close tick ∷ h) l = cut-parts coder h l
cut-parts coder (Collect ∷ h) l = cut-parts coder h l
cut-parts coder (Cut ∷ h) l = let may = may-cut coder h (and_parts (may_follow coder h Cut) (is_legal coder h) l).0 in (may.collected, may.open')
cut-parts coder (End ∷ h) l = cut-parts coder h l

pub cut-closes-le : (h : Feed) → closes (cut h) ≤ closes h
cut-closes-le [] = omega arith
cut-closes-le (Join spec ∷ h) = cut-closes-le h
cut-closes-le (Leave m ∷ h) = cut-closes-le h
cut-closes-le (Close tick ∷ h) = let ih = cut-closes-le h in omega arith
cut-closes-le (Collect ∷ h) = cut-closes-le h
cut-closes-le (Cut ∷ h) = omega arith
cut-closes-le (End ∷ h) = cut-closes-le h

-- a feed is what was done since its last cut, after what was done up to it
pub cut-whole : (h : Feed) → h ≡ since_cut h ++ cut h
cut-whole [] = refl
cut-whole (Join spec ∷ h) = ap (λ (x : Feed). Join spec ∷ x) (cut-whole h)
cut-whole (Leave m ∷ h) = ap (λ (x : Feed). Leave m ∷ x) (cut-whole h)
cut-whole (Close tick ∷ h) = ap (λ (x : Feed). Close tick ∷ x) (cut-whole h)
cut-whole (Collect ∷ h) = ap (λ (x : Feed). Collect ∷ x) (cut-whole h)
cut-whole (Cut ∷ h) = refl
cut-whole (End ∷ h) = ap (λ (x : Feed). End ∷ x) (cut-whole h)

follows-whole : {k : KeptFeed} {stays : List Stay} {h : Feed} → Follows k stays h → h ≡ k.since ++ cut h
follows-whole {k} {stays} {h} f = cut-whole h ∙ ap (λ (s : Feed). s ++ cut h) (sym f.since)

-- ---- what a log counts ----

pub closed-is : {k : KeptFeed} {stays : List Stay} {h : Feed} → Follows k stays h → closed_in k ≡ closes h
closed-is {k} {stays} {h} f =
    let a = ap (λ (b : Base). b.closed) f.base in
    let d = ap closes (follows-whole f) ∙ closes-append k.since (cut h) in
    omega arith

pub collected-is : {k : KeptFeed} {stays : List Stay} {h : Feed} → Follows k stays h → collected_in k ≡ collects h
collected-is {k} {stays} {h} f =
    let a = ap (λ (b : Base). b.closed) f.base in
    let d = ap collects (follows-whole f) ∙ collects-append k.since (cut h) in
    let e = (cut-parts g726 h f.legal).0 in
    omega arith

pub kept-is : {k : KeptFeed} {stays : List Stay} {h : Feed} → Follows k stays h → closes k.since ≡ kept h
kept-is {k} {stays} {h} f =
    let d = ap closes (follows-whole f) ∙ closes-append k.since (cut h) in
    omega arith

pub ended-is : {k : KeptFeed} {stays : List Stay} {h : Feed} → Follows k stays h → ended k.since ≡ ended h
ended-is {k} {stays} {h} f = sym (ap ended (follows-whole f) ∙ ended-append k.since (cut h) (cut-parts g726 h f.legal).1)

pub joined-is : {k : KeptFeed} {stays : List Stay} {h : Feed} → Follows k stays h → joined_in k ≡ joined h
joined-is {k} {stays} {h} f =
    ap (λ (b : Base). joined k.since ++ b.members) f.base ∙ sym (ap joined (follows-whole f) ∙ joined-append k.since (cut h))

pub entries-is : {k : KeptFeed} {stays : List Stay} {h : Feed} → Follows k stays h → entries_in k ≡ length h
entries-is {k} {stays} {h} f =
    let a = ap (λ (b : Base). b.entries) f.base in
    let d = ap length (follows-whole f) ∙ length-append k.since (cut h) in
    omega arith

-- ---- how a log goes on ----

pub follows-begun : Follows blank [] []
follows-begun = record { base = refl; since = refl; legal = refl }

pub follows-same : (k k' : KeptFeed) (stays stays' : List Stay) (h : Feed) → k' ≡ k → stays' ≡ stays → Follows k stays h → Follows k' stays' h
follows-same k k' stays stays' h a b f =
    subst (λ (x : KeptFeed). Follows x stays' h) (sym a) (subst (λ (x : List Stay). Follows k x h) (sym b) f)

pub follows-entry : (e : Entry) (k k' : KeptFeed) (stays stays' : List Stay) (h : Feed) → cut (e ∷ h) ≡ cut h → since_cut (e ∷ h) ≡ e ∷ since_cut h → k' ≡ with_entry e k → stays' ≡ stays
    → Follows k stays h → Follows k' stays' (e ∷ h)
follows-entry e k k' stays stays' h same grows a b f =
    let g : Follows (with_entry e k) stays (e ∷ h) = record {
      base = f.base ∙ ap (base g726) (sym same);
      since = ap (λ (x : Feed). e ∷ x) f.since ∙ sym grows;
      legal = subst (λ (x : Feed). is_legal g726 x ≡ true) (sym same) f.legal;
    } in
    follows-same (with_entry e k) k' stays stays' (e ∷ h) a b g

pub follows-cut : (k k' : KeptFeed) (stays stays' : List Stay) (h : Feed) (runs : ℕ) → is_legal g726 (Cut ∷ h) ≡ true → k' ≡ cut_off runs k
    → runs ≡ due g726 h → stays' ≡ (base g726 h).stays → Follows k stays h → Follows k' stays' (Cut ∷ h)
follows-cut k k' stays stays' h runs legal a due' b f =
    let entries = entries-is f in
    let closed = closed-is f in
    let members = joined-is f in
    let g : Follows (cut_off runs k) stays' (Cut ∷ h) = record {
      base = λ i. record { entries = (ap (λ (n : ℕ). n + 1) entries ∙ add-one (length h)) i; closed = closed i; runs = due' i; members = members i; stays = b i };
      since = refl;
      legal = legal;
    } in
    follows-same (cut_off runs k) k' stays' stays' (Cut ∷ h) a refl g

-- ---- how many entries a feed has ----

any-listener : (m : ℕ) (ls : List Listener) → list_any (λ l. l.spec.member == m) ls ≡ true
    → length (filter (λ l. not (l.spec.member == m)) ls) < length ls
any-listener m [] e = cc
any-listener m (l ∷ ls) e =
    let p = λ (x : Listener). not (x.spec.member == m) in
    let whole = length-filter_parts p ls in
    elim (cases_Bool (l.spec.member == m)) [
      | inl t ↦ (let a = ap length (cond-false (p l) (l ∷ filter p ls) (filter p ls) (not_from_true (l.spec.member == m) t)) in omega arith)
      | inr t ↦ (
          let a = ap length (cond-true (p l) (l ∷ filter p ls) (filter p ls) (not_from_false (l.spec.member == m) t)) in
          let ih = any-listener m ls (cc) in
          omega arith)
    ]

abbrev one_if : Bool → ℕ
one_if b = if b then 1 else 0

-- a leave for each join at most, a collect for each close, and a close for each cut
few-entries : (coder : Coder) (h : Feed) → is_legal coder h ≡ true
    → length h + length (listeners coder h) ≤ 2 * length (joined h) + closes h + collects h + closes (cut h) + one_if (ended h)
few-entries coder [] l = omega arith
few-entries coder (Join spec ∷ h) l =
    let ih = few-entries coder h (and_parts (may_follow coder h (Join spec)) (is_legal coder h) l).1 in
    let e = length-append (listeners coder h) (begins coder spec (closes h) ∷ []) in
    omega arith
few-entries coder (Leave m ∷ h) l =
    let p = and_parts (may_follow coder h (Leave m)) (is_legal coder h) l in
    let there = (and_parts (list_any (λ x. x.spec.member == m) (listeners coder h)) (not (ended h)) p.0).0 in
    let ih = few-entries coder h p.1 in
    let less = any-listener m (listeners coder h) there in
    omega arith
few-entries coder (Close tick ∷ h) l =
    let ih = few-entries coder h (and_parts (may_follow coder h (Close tick)) (is_legal coder h) l).1 in
    let e = length-map (hears tick) (listeners coder h) in
    omega arith
few-entries coder (Collect ∷ h) l =
    let ih = few-entries coder h (and_parts (may_follow coder h Collect) (is_legal coder h) l).1 in
    omega arith
few-entries coder (Cut ∷ h) l =
    let p = and_parts (may_follow coder h Cut) (is_legal coder h) l in
    let may = may-cut coder h p.0 in
    let some = may.some in
    let ih = few-entries coder h p.1 in
    omega arith
few-entries coder (End ∷ h) l =
    let p = and_parts (may_follow coder h End) (is_legal coder h) l in
    let open' = ap one_if (not-true (ended h) p.0) in
    let ih = few-entries coder h p.1 in
    omega arith

pub once-joined : (coder : Coder) (h : Feed) → is_legal coder h ≡ true → Once (joined h)
once-joined coder [] l = tt
once-joined coder (Join spec ∷ h) l =
    let p = and_parts (may_follow coder h (Join spec)) (is_legal coder h) l in
    let is = λ (m : ℕ). m == spec.member in
    let q = and_parts (not (list_any is (joined h))) (nat_lt (length (listeners coder h)) 1024 && not (ended h)) p.0 in (
      λ i. false≢true (sym (not-true (list_any is (joined h)) q.0) ∙ in-any is spec.member (joined h) i (eq-eqb spec.member spec.member refl)),
      once-joined coder h p.1,
    )
once-joined coder (Leave m ∷ h) l = once-joined coder h (and_parts (may_follow coder h (Leave m)) (is_legal coder h) l).1
once-joined coder (Close tick ∷ h) l = once-joined coder h (and_parts (may_follow coder h (Close tick)) (is_legal coder h) l).1
once-joined coder (Collect ∷ h) l = once-joined coder h (and_parts (may_follow coder h Collect) (is_legal coder h) l).1
once-joined coder (Cut ∷ h) l = once-joined coder h (and_parts (may_follow coder h Cut) (is_legal coder h) l).1
once-joined coder (End ∷ h) l = once-joined coder h (and_parts (may_follow coder h End) (is_legal coder h) l).1

-- so a log of a legal feed can count its entries
pub is-modest : {k : KeptFeed} {stays : List Stay} {h : Feed} → Follows k stays h → is_legal g726 h ≡ true → closes h ≤ 4320000 → collects h ≤ closes h
    → IsModest k
is-modest {k} {stays} {h} f legal few back =
    let same = joined-is f in
    let long = ap length same in
    let entries = entries-is f in
    let most = few-entries g726 h legal in
    let early = cut-closes-le h in
    let last = at-most-one (ended h) in
    record { once = subst Once (sym same) (once-joined g726 h legal); entries = omega arith }
  where
    at-most-one : (b : Bool) → one_if b ≤ 1
    at-most-one true = omega arith
    at-most-one false = omega arith
