-- One record after another.
use Rattle.std.proofs.Common.{◌≡◌, ◌<◌, ◌-◌, ◌++◌, ◌∷◌, [], ℕ, List, map, refl, sym, ap, ◌∙◌, subst, Option, Some, None, Ok, Err, append_assoc}
use Rattle.std.specs.Prelude.{IfSome, IfNone, IsErrOf}
use Rattle.std.proofs.lemmas.List.{append-nil}
use Rattle.edge_io.specs.Told.{Loses}
use Rattle.rtp_dump.specs.declared.item.TheConstants.{MAX_RECORDS}
use Rattle.rtp_dump.specs.declared.item.DumpItem.{DumpItem}
use Rattle.rtp_dump.specs.declared.faults.DumpFault.{DumpFault}
use Rattle.rtp_dump.specs.declared.faults.DumpFault.TheVariants as fault
use Rattle.rtp_dump.specs.declared.stage.Stage.{Stage}
use Rattle.rtp_dump.specs.declared.stage.Stage.TheVariants.{Open}
use Rattle.rtp_dump.specs.Spelling.{Placed, Fault, Capture, Fits, record_octets}
use Rattle.rtp_dump.specs.Capture.{before}
use Rattle.rtp_dump.specs.Reading.{Reading, after, ahead, answered, first, first_of, from_here, octets_of, AnswersBefore, IsBegun, IsLate, IsPartOfRecord, IsSound}
use Rattle.session_spec.specs.Captured.{items}
use Rattle.session_spec.specs.Talkers.{Events}
use Rattle.session_spec.specs.Events.{after_record, after_records}
use Rattle.desk_run.specs.Taking.{octets_all, Before, Joins, IsPast, IsGoing, Hands, Heard, Why, Broken}

octets-append : (xs ys : List DumpItem) → octets_all (xs ++ ys) ≡ octets_all xs ++ octets_all ys
octets-append [] ys = refl
octets-append (x ∷ xs) ys = ap (λ (o : List ℕ). record_octets x ++ o) (octets-append xs ys) ∙ sym (append_assoc (record_octets x) (octets_all xs) (octets_all ys))

pub before-append : (end : ℕ) (xs ys : List DumpItem) → Before end xs → Before end ys → Before end (xs ++ ys)
before-append end [] ys a b = b
before-append end (x ∷ xs) ys a b = (a.0, before-append end xs ys a.1 b)

none-behind : (xs : List DumpItem) (y : DumpItem) → xs ++ y ∷ [] ≡ [] → ⊥
none-behind [] y e = absurd (cc)
none-behind (x ∷ xs) y e = absurd (cc)

after-append : (xs ys : List DumpItem) (h : Events) → after_records (xs ++ ys) h ≡ after_records ys (after_records xs h)
after-append [] ys h = refl
after-append (x ∷ xs) ys h = after-append xs ys (after_record x h)

-- a capture that has neither a record nor a fault, or begins with a fault
first-none : (records : List Placed) (end : Option Fault) → first_of records end ≡ Ok None → (records ≡ []) × (end ≡ None)
first-none (p ∷ ps) end e = absurd (cc)
first-none [] None e = (refl, refl)
first-none [] (Some f) e = absurd (cc)

first-is : (records : List Placed) (end : Option Fault) (f : Fault) → first_of records end ≡ Err f → (records ≡ []) × (end ≡ Some f)
first-is (p ∷ ps) end f e = absurd (cc)
first-is [] None f e = absurd (cc)
first-is [] (Some g) f e = let same : g ≡ f = cc in (refl, ap Some same)

module _ {S : Type 0} (rest : S → Option (List ℕ)) where
  -- nothing was handed out
  pub hands-none : (r : Reading S) → Hands rest r r []
  hands-none r = record { follows = λ more. record { items_are = refl; fault_is = refl }; taken = lost (rest r.source) }
    where
      lost : (o : Option (List ℕ)) → Loses o o (λ front. octets_of r.held ++ front ≡ [] ++ octets_of r.held)
      lost None = refl
      lost (Some octets) = ([], octets, append-nil (octets_of r.held), refl, refl)

  -- one after another
  pub hands-more : (a b c : Reading S) (xs ys : List DumpItem) → Hands rest a b xs → Hands rest b c ys → Hands rest a c (xs ++ ys)
  hands-more a b c xs ys p q = record {
    follows = λ more.
        let there = octets_all ys ++ more in
        let e : octets_all (xs ++ ys) ++ more ≡ octets_all xs ++ there =
        ap (λ (o : List ℕ). o ++ more) (octets-append xs ys) ∙ append_assoc (octets_all xs) (octets_all ys) more in
        let one = p.follows there in
        let two = q.follows more in
        record {
          items_are =
              ap (λ (o : List ℕ). items (from_here a o)) e ∙ one.items_are ∙ ap (λ (is : List DumpItem). xs ++ is) two.items_are
              ∙ sym (append_assoc xs ys (items (from_here c more)));
          fault_is = ap (λ (o : List ℕ). (from_here a o).fault) e ∙ one.fault_is ∙ two.fault_is;
        };
    taken = lost (rest a.source) (rest b.source) (rest c.source) p.taken q.taken;
  }
    where
      lost : (o m n : Option (List ℕ)) → Loses o m (λ front. octets_of a.held ++ front ≡ octets_all xs ++ octets_of b.held)
          → Loses m n (λ front. octets_of b.held ++ front ≡ octets_all ys ++ octets_of c.held)
          → Loses o n (λ front. octets_of a.held ++ front ≡ octets_all (xs ++ ys) ++ octets_of c.held)
      lost None m n one two =
          let P : Option (List ℕ) → Type 0 = λ x. Loses x n (λ front. octets_of b.held ++ front ≡ octets_all ys ++ octets_of c.held) in
          subst P one two
      lost (Some octets) m n (front, after, is, split, left) two =
          let P : Option (List ℕ) → Type 0 = λ x. Loses x n (λ front. octets_of b.held ++ front ≡ octets_all ys ++ octets_of c.held) in
          let (front', after', is', split', left') = subst P left two in (
            front ++ front',
            after',
            sym (append_assoc (octets_of a.held) front front')
                ∙ ap (λ (o : List ℕ). o ++ front') is ∙ append_assoc (octets_all xs) (octets_of b.held) front'
                ∙ ap (λ (o : List ℕ). octets_all xs ++ o) is' ∙ sym (append_assoc (octets_all xs) (octets_all ys) (octets_of c.held))
                ∙ ap (λ (o : List ℕ). o ++ octets_of c.held) (sym (octets-append xs ys)),
            split ∙ ap (λ (o : List ℕ). front ++ o) split' ∙ sym (append_assoc front front' after'),
            left',
          )

  -- what is ahead of a told source, before and after
  pub ahead-moves : (a b : Reading S) (xs : List DumpItem) (octets : List ℕ) → rest a.source ≡ Some octets → Hands rest a b xs
      → (front : List ℕ) × (left : List ℕ) × (octets ≡ front ++ left) × (rest b.source ≡ Some left)
      × (octets_of a.held ++ front ≡ octets_all xs ++ octets_of b.held) × Joins xs (ahead b left) (ahead a octets)
  ahead-moves a b xs octets told p =
      let P : Option (List ℕ) → Type 0 = λ x. Loses x (rest b.source) (λ front. octets_of a.held ++ front ≡ octets_all xs ++ octets_of b.held) in
      let (front, left, is, split, kept) = subst P told p.taken in
      let e : octets_of a.held ++ octets ≡ octets_all xs ++ (octets_of b.held ++ left) =
      ap (λ (o : List ℕ). octets_of a.held ++ o) split ∙ sym (append_assoc (octets_of a.held) front left)
      ∙ ap (λ (o : List ℕ). o ++ left) is ∙ append_assoc (octets_all xs) (octets_of b.held) left in
      let joins = p.follows (octets_of b.held ++ left) in (
        front,
        left,
        split,
        kept,
        is,
        record {
          items_are = ap (λ (o : List ℕ). items (from_here a o)) e ∙ joins.items_are;
          fault_is = ap (λ (o : List ℕ). (from_here a o).fault) e ∙ joins.fault_is;
        },
      )

  -- one record was handed out
  pub hands-one : (a b : Reading S) (at : ℕ) (item : DumpItem) → ((more : List ℕ) → from_here a (record_octets item ++ more) ≡ before (record { at = at; item = item }) (from_here b more))
      → Loses (rest a.source) (rest b.source) (λ front. octets_of a.held ++ front ≡ octets_of (Some item) ++ octets_of b.held) → Hands rest a b (item ∷ [])
  hands-one a b at item goes lost = record {
    follows = λ more.
        let e : octets_all (item ∷ []) ++ more ≡ record_octets item ++ more = ap (λ (o : List ℕ). o ++ more) (append-nil (record_octets item)) in
        record {
          items_are = ap (λ (o : List ℕ). items (from_here a o)) e ∙ ap items (goes more);
          fault_is = ap (λ (o : List ℕ). (from_here a o).fault) e ∙ ap (λ (c : Capture). c.fault) (goes more);
        };
    taken = moved (rest a.source) (rest b.source) lost;
  }
    where
      moved : (o n : Option (List ℕ)) → Loses o n (λ front. octets_of a.held ++ front ≡ octets_of (Some item) ++ octets_of b.held)
          → Loses o n (λ front. octets_of a.held ++ front ≡ octets_all (item ∷ []) ++ octets_of b.held)
      moved None n h = h
      moved (Some octets) n (front, left, is, split, kept) =
          (front, left, is ∙ ap (λ (o : List ℕ). o ++ octets_of b.held) (sym (append-nil (record_octets item))), split, kept)

  same-place : (a : Reading S) (held : Option DumpItem) (source : S) → (after a (Ok None) held source).place ≡ a.place
  same-place a None source = refl
  same-place a (Some item) source = refl

  same-count : (a : Reading S) (held : Option DumpItem) (source : S) → (after a (Ok None) held source).records ≡ a.records
  same-count a None source = refl
  same-count a (Some item) source = refl

  -- none was, and what follows is past the moment
  pub hands-last : (a b : Reading S) → b ≡ after a (Ok None) b.held b.source
      → Loses (rest a.source) (rest b.source) (λ front. octets_of a.held ++ front ≡ octets_of None ++ octets_of b.held) → Hands rest a b []
  hands-last a b is lost =
      let place : b.place ≡ a.place = ap (λ (r : Reading S). r.place) is ∙ same-place a b.held b.source in
      let count : b.records ≡ a.records = ap (λ (r : Reading S). r.records) is ∙ same-count a b.held b.source in
      let e : (more : List ℕ) → from_here a more ≡ from_here b more = λ more. rw (place, count) refl in
      record {
        follows = λ more. record { items_are = ap items (e more); fault_is = ap (λ (c : Capture). c.fault) (e more) };
        taken = lost;
      }

  past-by : (end : ℕ) (stage : Stage) (held : Option DumpItem) (c : Capture) → IsLate end stage held → first c ≡ Ok held → IsPast end held c
  past-by end stage (Some item) c late answer = late
  past-by end stage None c late answer =
      let r = first-none c.records c.fault answer in
      (ap (map (λ (p : Placed). p.item)) r.0, r.1)

  past-here : (end : ℕ) (held : Option DumpItem) (c d : Capture) → Joins [] d c → IsPast end held c → IsPast end held d
  past-here end (Some item) c d joins past = past
  past-here end None c d joins past = (sym joins.items_are ∙ past.0, sym joins.fault_is ∙ past.1)

  pub past-now : (end : ℕ) (a b : Reading S) → Hands rest a b [] → IsLate end b.stage b.held → answered a ≡ None
      → IfNone (answered a) (IfSome (rest a.source) (λ octets. AnswersBefore (Ok None) b.held (first (ahead a octets))))
      → IfSome (rest b.source) (λ octets. IsPast end b.held (ahead b octets))
  past-now end a b hands late open' answer =
      let told = subst (λ (f : Option DumpFault). IfNone f (IfSome (rest a.source) (λ octets. AnswersBefore (Ok None) b.held (first (ahead a octets))))) open' answer in
      by-told (rest a.source) refl told
    where
      by-told : (o : Option (List ℕ)) → rest a.source ≡ o → IfSome o (λ octets. AnswersBefore (Ok None) b.held (first (ahead a octets)))
          → IfSome (rest b.source) (λ octets. IsPast end b.held (ahead b octets))
      by-told None e h =
          let P : Option (List ℕ) → Type 0 = λ x. Loses x (rest b.source) (λ front. octets_of a.held ++ front ≡ octets_all [] ++ octets_of b.held) in
          let none : rest b.source ≡ None = subst P e hands.taken in
          subst (λ (x : Option (List ℕ)). IfSome x (λ octets. IsPast end b.held (ahead b octets))) (sym none) tt
      by-told (Some octets) e h =
          let (front, left, split, kept, is, joins) = ahead-moves a b [] octets e hands in
          subst (λ (x : Option (List ℕ)). IfSome x (λ octets. IsPast end b.held (ahead b octets))) (sym kept)
          (past-here end b.held (ahead a octets) (ahead b left) joins (past-by end b.stage b.held (ahead a octets) late h))

  -- why the reader gave up now
  pub why-now : (why : DumpFault) (a b : Reading S) → answered a ≡ None
      → IfNone (answered a) (IsErrOf {T = Option DumpItem} (Err why) fault.Read → (a.held ≡ None) × (a.stage ≡ Open))
      → IfNone (answered a) (IfSome (rest a.source) (λ octets. AnswersBefore (Err why) b.held (first (ahead a octets))))
      → (IsErrOf {T = Option DumpItem} (Err why) fault.Read → Loses (rest a.source) (rest b.source) IsPartOfRecord) → Why rest why a b
  why-now (fault.Bad at kind) a b open' met answer read =
      by-told (rest a.source) (subst (λ (f : Option DumpFault). IfNone f (IfSome (rest a.source) (λ octets. AnswersBefore (Err (fault.Bad at kind)) b.held (first (ahead a octets))))) open' answer)
    where
      by-told : (o : Option (List ℕ)) → IfSome o (λ octets. AnswersBefore (Err (fault.Bad at kind)) b.held (first (ahead a octets)))
          → IfSome o (λ octets. (items (ahead a octets) ≡ []) × ((ahead a octets).fault ≡ Some (record { at = at; kind = kind })))
      by-told None h = tt
      by-told (Some octets) h =
          let r = first-is (ahead a octets).records (ahead a octets).fault (record { at = at; kind = kind }) h in
          (ap (map (λ (p : Placed). p.item)) r.0, r.1)
  why-now fault.Read a b open' met answer read =
      let here = subst (λ (f : Option DumpFault). IfNone f (IsErrOf {T = Option DumpItem} (Err fault.Read) fault.Read → (a.held ≡ None) × (a.stage ≡ Open))) open' met refl in
      (here.0, here.1, read refl)
  why-now fault.Memory a b open' met answer read = tt

  -- the loop over a tick's records: its start, one more, the end, and where the reader gives up
  pub record Hearing (old new : Reading S) (end : ℕ) (P : List DumpItem → Type 0) : Type 0 where
    pub its : List DumpItem
    pub hands : Hands rest old new its
    pub same : its ≡ [] → new ≡ old
    pub early : Before end its
    pub here : P its

  pub hearing-none : (r : Reading S) (end : ℕ) (P : List DumpItem → Type 0) → P [] → Hearing r r end P
  hearing-none r end P here = record { its = []; hands = hands-none r; same = λ e. refl; early = tt; here = here }

  pub hearing-more : (a b c : Reading S) (end : ℕ) (found : Option DumpItem) (item : DumpItem) (D0 D1 D2 : Events → Type 0)
      → Hearing a b end (λ its. (h : Events) → D0 h → D1 (after_records its h)) → found ≡ Some item → IfSome found (λ i. Fits i × (i.offset < end))
      → IfSome found (λ i. (more : List ℕ) → from_here b (record_octets i ++ more) ≡ before (record { at = b.place; item = i }) (from_here c more))
      → Loses (rest b.source) (rest c.source) (λ front. octets_of b.held ++ front ≡ octets_of found ++ octets_of c.held)
      → ((h : Events) → D1 h → D2 (after_record item h)) → Hearing a c end (λ its. (h : Events) → D0 h → D2 (after_records its h))
  hearing-more a b c end found item D0 D1 D2 p is early goes lost step =
      let E : Option DumpItem → Type 0 = λ o. IfSome o (λ i. Fits i × (i.offset < end)) in
      let G : Option DumpItem → Type 0 = λ o. IfSome o (λ i. (more : List ℕ) → from_here b (record_octets i ++ more) ≡ before (record { at = b.place; item = i }) (from_here c more)) in
      let L : Option DumpItem → Type 0 = λ o. Loses (rest b.source) (rest c.source) (λ front. octets_of b.held ++ front ≡ octets_of o ++ octets_of c.held) in
      record {
        its = p.its ++ item ∷ [];
        hands = hands-more a b c p.its (item ∷ []) p.hands (hands-one b c b.place item (subst G is goes) (subst L is lost));
        same = λ e. absurd (none-behind p.its item e);
        early = before-append end p.its (item ∷ []) p.early ((subst E is early).1, tt);
        here = λ h d. subst D2 (sym (after-append p.its (item ∷ []) h)) (step (after_records p.its h) (p.here h d));
      }

  pub hearing-end : (a b c : Reading S) (end : ℕ) (found : Option DumpItem) (P : List DumpItem → Type 0) → Hearing a b end P → found ≡ None → answered b ≡ None
      → c ≡ after b (Ok found) c.held c.source
      → Loses (rest b.source) (rest c.source) (λ front. octets_of b.held ++ front ≡ octets_of found ++ octets_of c.held) → IfNone found (IsLate end c.stage c.held)
      → IfNone (answered b) (IfSome (rest b.source) (λ octets. AnswersBefore (Ok found) c.held (first (ahead b octets)))) → IsSound c
      → Heard rest a c end P
  hearing-end a b c end found P p none open' is lost late answer sound =
      let L : Option DumpItem → Type 0 = λ o. Loses (rest b.source) (rest c.source) (λ front. octets_of b.held ++ front ≡ octets_of o ++ octets_of c.held) in
      let I : Option DumpItem → Type 0 = λ o. c ≡ after b (Ok o) c.held c.source in
      let N : Option DumpItem → Type 0 = λ o. IfNone o (IsLate end c.stage c.held) in
      let A : Option DumpItem → Type 0 = λ o. IfNone (answered b) (IfSome (rest b.source) (λ octets. AnswersBefore (Ok o) c.held (first (ahead b octets)))) in
      let last = hands-last b c (subst I none is) (subst L none lost) in
      record {
        its = p.its;
        hands = subst (Hands rest a c) (append-nil p.its) (hands-more a b c p.its [] p.hands last);
        early = p.early;
        late = subst N none late;
        past = past-now end b c last (subst N none late) open' (subst A none answer);
        sound = sound;
        here = p.here;
      }

  pub hearing-broken : (a b c : Reading S) (end : ℕ) (P : List DumpItem → Type 0) (why : DumpFault) → Hearing a b end P → Why rest why b c → Broken rest a c end why
  hearing-broken a b c end P why p because = record { mid = b; its = p.its; hands = p.hands; same = p.same; early = p.early; because = because }

-- a reader goes on after what it handed out
going-by : {S : Type 0} (a : Reading S) (found held : Option DumpItem) (source : S) → IsBegun a → answered a ≡ None
    → IsBegun (after a (Ok found) held source) × (answered (after a (Ok found) held source) ≡ None)
going-by a (Some item) held source begun open' = (begun, open')
going-by a None (Some item) source begun open' = (begun, open')
going-by a None None source begun open' = (λ e. absurd (cc), refl)

pub going-on : {S : Type 0} (a b : Reading S) (found : Option DumpItem) → IsGoing a → b ≡ after a (Ok found) b.held b.source → IsSound b → IsGoing b
going-on {S = S} a b found going is sound =
    let next = going-by a found b.held b.source going.begun going.open' in
    let P : Reading S → Type 0 = λ r. IsBegun r × (answered r ≡ None) in
    let here : P b = subst P (sym is) next in
    record { begun = here.0; open' = here.1; sound = sound }

-- how many more records may come
abbrev pub room_of : {S : Type 0} → Reading S → ℕ
room_of reader = MAX_RECORDS - reader.records

-- ---- what an answer says ----

pub if-open : (f : Option DumpFault) (P : Type 0) → f ≡ None → IfNone f P → P
if-open f P e h = let Q : Option DumpFault → Type 0 = λ x. IfNone x P in subst Q e h

pub some-of : (o : Option DumpItem) (item : DumpItem) (P : DumpItem → Type 0) → o ≡ Some item → IfSome o P → P item
some-of o item P e h = let Q : Option DumpItem → Type 0 = λ x. IfSome x P in subst Q e h

pub none-of : (o : Option DumpItem) → ((item : DumpItem) → o ≡ Some item → ⊥) → o ≡ None
none-of None other = refl
none-of (Some item) other = absurd (other item refl)

pub if-none : (o : Option DumpItem) (P : Type 0) → o ≡ None → IfNone o P → P
if-none o P e h = let Q : Option DumpItem → Type 0 = λ x. IfNone x P in subst Q e h
