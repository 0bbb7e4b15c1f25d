-- Two feeds that go on in one way from equal bases.
use Rattle.std.proofs.Common.{◌≡◌, ℕ, suc, ◌+◌, ◌-◌, ◌≤◌, ◌<◌, inl, inr, Bool, true, false, not, ◌&&◌, ◌||◌, cond, List, [], ◌∷◌, ◌++◌, length, map, refl, sym, ◌∙◌, ap, subst, arith, Some, None, length-append}
use Rattle.std.specs.Prelude.{◌==◌, nat_lt, is_none, unwrap_or}
use Rattle.std.specs.List.{filter, flat_map, list_any, AllZip}
use Rattle.std.proofs.lemmas.Bool.{cases_Bool, cases_eq, cond_both, cond-true, cond-false, and_parts, and_left, or_left, or_parts, not-true, eqb-true, ne_eqb, ltb-false, leb-false, le-ltb, lt-leb}
use Rattle.talk_mix.specs.declared.ticks.Tick.{Tick}
use Rattle.talk_mix.specs.Mix.{mix}
use Rattle.conference_spec.specs.declared.Entry.{Entry}
use Rattle.conference_spec.specs.declared.Entry.TheVariants.{Join, Leave, Close, Collect, Cut, End}
use Rattle.conference_spec.specs.declared.Task.{Task}
use Rattle.conference_spec.specs.Coding.{Coder}
use Rattle.conference_spec.specs.Feed.{Feed, Listener, Guest, closes, collects, ended, cut, joined, listeners, guests, goes, stays, hears, begins, may_follow, is_legal, before, talkers}
use Rattle.conference_spec.specs.Packets.{packets_at, sent}
use Rattle.conference_spec.specs.Tasks.{task_of, each_once, wanted, tasks, due}
use Rattle.conference_spec.specs.Base.{IsCut, Agree, base, seen, stays_on, stay_of}
use Rattle.conference_spec.proofs.Members.{In, in-filter_parts}
use Rattle.conference_spec.proofs.Wants.{wanted-tick}
use Rattle.conference_spec.proofs.Stages.{filter-append'}
use Rattle.conference_spec.proofs.Steps.{filter-none}
use Rattle.conference_spec.proofs.Events.{filter-agree}
use Rattle.conference_spec.proofs.Sends.{dated, listeners-present, flat_map-filter}
use Rattle.conference_spec.proofs.Chunks.{late-at}
use Rattle.conference_spec.proofs.Zips.{zip-push, zip-filter, zip-map, zip-same, zip-flat, zip-length, zip-any, same-zip, filter-through, filter-changed, none-there}
use Rattle.conference_spec.proofs.Alike.{AreLike, AreGuests, late, begins-like, hears-like, packets-like, stays-like}

-- ---- guests that later ticks ask for ----

-- the guest is present, left when more than m ticks were closed, or is sent a packet at tick m
abbrev pub matters : Coder → ℕ → Guest → Bool
matters coder m g = is_none g.left || (nat_lt m (unwrap_or g.left 0) || nat_lt 0 (length (packets_at coder m g.listener)))

-- whoever doesn't has left, at that tick at the latest
idle-gone : (coder : Coder) (m : ℕ) (g : Guest) → matters coder m g ≡ false → is_none g.left ≡ false
idle-gone coder m g t = (or_parts (is_none g.left) (nat_lt m (unwrap_or g.left 0) || nat_lt 0 (length (packets_at coder m g.listener))) t).0

-- and is sent nothing more
idle-packets : (coder : Coder) (h : Feed) (m k : ℕ) (g : Guest) → In g (guests coder h) → m ≤ k → matters coder m g ≡ false → packets_at coder k g.listener ≡ []
idle-packets coder h m k g i le t =
    let ps = packets_at coder m g.listener in
    let gone = or_parts (is_none g.left) (nat_lt m (unwrap_or g.left 0) || nat_lt 0 (length ps)) t in
    let rest = or_parts (nat_lt m (unwrap_or g.left 0)) (nat_lt 0 (length ps)) gone.1 in
    let early = ltb-false m (unwrap_or g.left 0) rest.0 in
    let at = (dated coder h g i).gone gone.0 in
    elim (cases_eq m k) [
      | inl e ↦ ap (λ x. packets_at coder x g.listener) (sym e) ∙ none-there ps (let none = ltb-false 0 (length ps) rest.1 in omega arith)
      | inr ne ↦ late-at coder g.listener k (omega arith)
    ]

matters-like : (coder : Coder) (m : ℕ) (g k : Guest) → AreGuests coder m g k → matters coder m g ≡ matters coder m k
matters-like coder m g k z =
    let at = packets-like coder m g.listener k.listener z.1 m (omega arith) in
    λ i. is_none (z.0 i) || (nat_lt m (unwrap_or (z.0 i) 0) || nat_lt 0 (length (at i)))

-- Of two feeds, those who matter are alike, one by one. Others may stand on one side only.
abbrev pub AreSides : Coder → ℕ → List Guest → List Guest → Type 0
AreSides coder m gs ks = AllZip (AreGuests coder m) (filter (matters coder m) gs) (filter (matters coder m) ks)

sides-push : (coder : Coder) (m : ℕ) (gs ks : List Guest) (g k : Guest) → matters coder m g ≡ true → matters coder m k ≡ true → AreGuests coder m g k
    → AreSides coder m gs ks → AreSides coder m (gs ++ g ∷ []) (ks ++ k ∷ [])
sides-push coder m gs ks g k t u z all =
    let p = matters coder m in
    let P : List Guest → List Guest → Type 0 = λ us vs. AllZip (AreGuests coder m) us vs in
    let at = λ (xs : List Guest) (x : Guest) (e : p x ≡ true). filter-append' p xs (x ∷ []) ∙ ap (λ ys. filter p xs ++ ys) (cond-true (p x) (x ∷ []) [] e) in
    subst (λ us. P us (filter p (ks ++ k ∷ []))) (sym (at gs g t))
    (subst (P (filter p gs ++ g ∷ [])) (sym (at ks k u)) (zip-push (AreGuests coder m) (filter p gs) (filter p ks) g k all z))

-- a change of each guest that leaves those who don't matter what they are
sides-changed : (coder : Coder) (m : ℕ) (f f' : Guest → Guest) (gs ks : List Guest)
    → ((g : Guest) → is_none g.left ≡ false → f g ≡ g) → ((g : Guest) → is_none g.left ≡ false → f' g ≡ g)
    → ((g k : Guest) → AreGuests coder m g k → AreGuests coder m (f g) (f' k)) → AreSides coder m gs ks → AreSides coder m (map f gs) (map f' ks)
sides-changed coder m f f' gs ks still still' alike all =
    let p = matters coder m in
    let P : List Guest → List Guest → Type 0 = λ us vs. AllZip (AreGuests coder m) us vs in
    let at = λ (h : Guest → Guest) (xs : List Guest) (same : (g : Guest) → is_none g.left ≡ false → h g ≡ g).
    filter-changed h p p xs (λ x i t. ap p (same x (idle-gone coder m x t)) ∙ t) in
    subst (λ us. P us (filter p (map f' ks))) (sym (at f gs still))
    (subst (P (filter p (map f (filter p gs)))) (sym (at f' ks still'))
    (zip-filter (AreGuests coder m) p p (map f (filter p gs)) (map f' (filter p ks)) (matters-like coder m)
    (zip-map (AreGuests coder m) (AreGuests coder m) f f' (filter p gs) (filter p ks) alike all)))

goes-gone : (who c : ℕ) (g : Guest) → is_none g.left ≡ false → goes who c g ≡ g
goes-gone who c g t =
    cond-false (is_none g.left && (g.listener.spec.member == who)) (record { listener = g.listener; left = Some c }) g
    (and_left (is_none g.left) (g.listener.spec.member == who) t)

goes-like : (coder : Coder) (m who c d : ℕ) → c ≡ d → (g k : Guest) → AreGuests coder m g k → AreGuests coder m (goes who c g) (goes who d k)
goes-like coder m who c d e g k z =
    let b = is_none g.left && (g.listener.spec.member == who) in
    let b' = is_none k.left && (k.listener.spec.member == who) in
    let same : b ≡ b' = λ i. is_none (z.0 i) && ((z.1.spec i).member == who) in
    let went = λ (x : Guest) (j : ℕ). let y : Guest = record { listener = x.listener; left = Some j } in y in
    cond_both b (went g c) g (λ x. AreGuests coder m x (goes who d k))
    (λ t. subst (AreGuests coder m (went g c)) (sym (cond-true b' (went k d) k (sym same ∙ t))) (ap Some e, z.1))
    (λ t. subst (AreGuests coder m g) (sym (cond-false b' (went k d) k (sym same ∙ t))) z)

hears-guests : (coder : Coder) (m : ℕ) (tick : Tick) (g k : Guest) → AreGuests coder m g k → AreGuests coder m (stays tick g) (stays tick k)
hears-guests coder m tick g k z =
    let same : is_none g.left ≡ is_none k.left = ap is_none z.0 in
    let more = λ (x : Guest). let y : Guest = record { listener = hears tick x.listener; left = None } in y in
    cond_both (is_none g.left) (more g) g (λ x. AreGuests coder m x (stays tick k))
    (λ t. subst (AreGuests coder m (more g)) (sym (cond-true (is_none k.left) (more k) k (sym same ∙ t)))
    (refl, hears-like coder m tick g.listener k.listener z.1))
    (λ t. subst (AreGuests coder m g) (sym (cond-false (is_none k.left) (more k) k (sym same ∙ t))) z)

-- those who are present are alike
listeners-like : (coder : Coder) (m : ℕ) (g h : Feed) → AreSides coder m (guests coder g) (guests coder h)
    → AllZip (AreLike coder m) (listeners coder g) (listeners coder h)
listeners-like coder m g h all =
    let here = λ (x : Guest). is_none x.left in
    let p = matters coder m in
    let P : List Listener → List Listener → Type 0 = λ us vs. AllZip (AreLike coder m) us vs in
    let at = λ (x : Feed).
    listeners-present coder x
    ∙ ap (map (λ y. y.listener)) (filter-through p here (guests coder x) (λ y i t. idle-gone coder m y t)) in
    subst (λ us. P us (listeners coder h)) (sym (at g))
    (subst (P (map (λ y. y.listener) (filter here (filter p (guests coder g))))) (sym (at h))
    (zip-map (AreGuests coder m) (AreLike coder m) (λ y. y.listener) (λ y. y.listener)
    (filter here (filter p (guests coder g))) (filter here (filter p (guests coder h))) (λ x y z. z.1)
    (zip-filter (AreGuests coder m) here here (filter p (guests coder g)) (filter p (guests coder h)) (λ x y z. ap is_none z.0) all)))

-- ---- what goes on from entry to entry ----

-- of listeners that no later tick tells apart, the test says the same
abbrev pub IsBlind : Coder → ℕ → (Listener → Bool) → Type 0
IsBlind coder m p = (l k : Listener) → AreLike coder m l k → p l ≡ p k

pub record Both (coder : Coder) (m : ℕ) (g h : Feed) : Type 0 where
  pub legal : is_legal coder g ≡ is_legal coder h
  pub closed : closes g ≡ closes h
  pub collected : collects g ≡ collects h
  pub cut_at : closes (cut g) ≡ closes (cut h)
  pub over : ended g ≡ ended h
  pub runs : due coder g ≡ due coder h
  pub members : joined g ≡ joined h
  pub long : length g ≡ length h
  pub least : m ≤ closes g
  pub least_gone : m ≤ collects g
  pub sides : AreSides coder m (guests coder g) (guests coder h)
  pub talking : (k : ℕ) → m ≤ k → talkers k g ≡ talkers k h
  pub listening : (k : ℕ) → m ≤ k → map (seen coder) (listeners coder (before k g)) ≡ map (seen coder) (listeners coder (before k h))
  pub to_run : (p : Listener → Bool) → IsBlind coder m p → filter (late m) (wanted coder p g) ≡ filter (late m) (wanted coder p h)

pub present-like : (coder : Coder) (m : ℕ) (g h : Feed) → Both coder m g h → AllZip (AreLike coder m) (listeners coder g) (listeners coder h)
present-like coder m g h b = listeners-like coder m g h b.sides

seen-same : (coder : Coder) (m : ℕ) (g h : Feed) → Both coder m g h → map (seen coder) (listeners coder g) ≡ map (seen coder) (listeners coder h)
seen-same coder m g h b =
    zip-same (AreLike coder m) (seen coder) (seen coder) (listeners coder g) (listeners coder h)
    (λ l k z. λ i. record { spec = z.spec i; from = z.from i; ticks = z.ticks i; state = z.state i }) (present-like coder m g h b)

pub may-same : (coder : Coder) (m : ℕ) (g h : Feed) → Both coder m g h → (e : Entry) → may_follow coder g e ≡ may_follow coder h e
may-same coder m g h b (Join spec) =
    let count : length (listeners coder g) ≡ length (listeners coder h) =
    zip-length (AreLike coder m) (listeners coder g) (listeners coder h) (present-like coder m g h b) in
    λ i. not (list_any (λ x. x == spec.member) (b.members i)) && (nat_lt (count i) 1024 && not (b.over i))
may-same coder m g h b (Leave who) =
    let any = zip-any (AreLike coder m) (λ l. l.spec.member == who) (λ l. l.spec.member == who) (listeners coder g) (listeners coder h)
    (λ l k z. ap (λ s. s.member == who) z.spec) (present-like coder m g h b) in
    λ i. any i && not (b.over i)
may-same coder m g h b (Close tick) =
    λ i. nat_lt (b.closed i) 4320000
    && (nat_lt (b.closed i - b.cut_at i) 18000 && (nat_lt (b.closed i) (b.collected i + 64) && not (b.over i)))
may-same coder m g h b Collect = λ i. nat_lt (b.collected i) (b.closed i)
may-same coder m g h b Cut = λ i. (b.closed i == b.collected i) && (nat_lt 0 (b.closed i - b.cut_at i) && not (b.over i))
may-same coder m g h b End = λ i. not (b.over i)

-- what is to be run at the close of a tick
here-same : (coder : Coder) (m : ℕ) (g h : Feed) → Both coder m g h → (tick : Tick) (p : Listener → Bool) → IsBlind coder m p
    → each_once coder (map (task_of coder (closes g) tick) (filter p (listeners coder g)))
    ≡ each_once coder (map (task_of coder (closes h) tick) (filter p (listeners coder h)))
here-same coder m g h b tick p blind =
    ap (each_once coder)
    (zip-same (AreLike coder m) (task_of coder (closes g) tick) (task_of coder (closes h) tick) (filter p (listeners coder g)) (filter p (listeners coder h))
    (λ l k z. λ i. record { tick = b.closed i; triple = record { rate = (z.spec i).rate; state = z.state i; mix = mix (z.spec i).member tick } })
    (zip-filter (AreLike coder m) p p (listeners coder g) (listeners coder h) blind (present-like coder m g h b)))

pub both-entry : (coder : Coder) (m : ℕ) (g h : Feed) (e : Entry) → Both coder m g h → Both coder m (e ∷ g) (e ∷ h)
both-entry coder m g h (Join spec) b = record {
  legal = λ i. may-same coder m g h b (Join spec) i && b.legal i;
  closed = b.closed;
  collected = b.collected;
  cut_at = b.cut_at;
  over = b.over;
  runs = b.runs;
  members = λ i. spec.member ∷ b.members i;
  long = λ i. suc (b.long i);
  least = b.least;
  least_gone = b.least_gone;
  sides = sides-push coder m (guests coder g) (guests coder h) (record { listener = begins coder spec (closes g); left = None })
      (record { listener = begins coder spec (closes h); left = None }) refl refl
      (refl, begins-like coder m spec (closes g) (closes h) b.closed b.least) b.sides;
  talking = b.talking;
  listening = b.listening;
  to_run = b.to_run;
}
both-entry coder m g h (Leave who) b = record {
  legal = λ i. may-same coder m g h b (Leave who) i && b.legal i;
  closed = b.closed;
  collected = b.collected;
  cut_at = b.cut_at;
  over = b.over;
  runs = b.runs;
  members = b.members;
  long = λ i. suc (b.long i);
  least = b.least;
  least_gone = b.least_gone;
  sides = sides-changed coder m (goes who (closes g)) (goes who (closes h)) (guests coder g) (guests coder h)
      (goes-gone who (closes g)) (goes-gone who (closes h)) (goes-like coder m who (closes g) (closes h) b.closed) b.sides;
  talking = b.talking;
  listening = b.listening;
  to_run = b.to_run;
}
both-entry coder m g h (Close tick) b =
    let all = λ (l : Listener). true in
    let here = λ (x : Feed) (p : Listener → Bool). each_once coder (map (task_of coder (closes x) tick) (filter p (listeners coder x))) in
    let still : (x : Guest) → is_none x.left ≡ false → stays tick x ≡ x =
    λ x t. cond-false (is_none x.left) (record { listener = hears tick x.listener; left = None }) x t in
    let none = here-same coder m g h b tick all (λ l k z. refl) in
    record {
      legal = λ i. may-same coder m g h b (Close tick) i && b.legal i;
      closed = λ i. b.closed i + 1;
      collected = b.collected;
      cut_at = b.cut_at;
      over = b.over;
      runs = length-append (tasks coder g) (here g all) ∙ (λ i. b.runs i + length (none i)) ∙ sym (length-append (tasks coder h) (here h all));
      members = b.members;
      long = λ i. suc (b.long i);
      least = let le = b.least in omega arith;
      least_gone = b.least_gone;
      sides = sides-changed coder m (stays tick) (stays tick) (guests coder g) (guests coder h) still still (hears-guests coder m tick) b.sides;
      talking = λ k le. λ i. cond (b.closed i == k) (Some tick) (b.talking k le i);
      listening = λ k le.
          let same : (closes g == k) ≡ (closes h == k) = ap (λ c. c == k) b.closed in
          elim (cases_Bool (closes g == k)) [
            | inl t ↦
                ap (λ x. map (seen coder) (listeners coder x)) (cond-true (closes g == k) g (before k g) t)
                ∙ seen-same coder m g h b
                ∙ sym (ap (λ x. map (seen coder) (listeners coder x)) (cond-true (closes h == k) h (before k h) (sym same ∙ t)))
            | inr t ↦
                ap (λ x. map (seen coder) (listeners coder x)) (cond-false (closes g == k) g (before k g) t)
                ∙ b.listening k le
                ∙ sym (ap (λ x. map (seen coder) (listeners coder x)) (cond-false (closes h == k) h (before k h) (sym same ∙ t)))
          ];
      to_run = λ p blind.
          let now = here-same coder m g h b tick p blind in
          filter-append' (late m) (wanted coder p g) (here g p)
          ∙ (λ i. b.to_run p blind i ++ filter (late m) (now i))
          ∙ sym (filter-append' (late m) (wanted coder p h) (here h p));
    }
both-entry coder m g h Collect b = record {
  legal = λ i. may-same coder m g h b Collect i && b.legal i;
  closed = b.closed;
  collected = λ i. b.collected i + 1;
  cut_at = b.cut_at;
  over = b.over;
  runs = b.runs;
  members = b.members;
  long = λ i. suc (b.long i);
  least = b.least;
  least_gone = let le = b.least_gone in omega arith;
  sides = b.sides;
  talking = b.talking;
  listening = b.listening;
  to_run = b.to_run;
}
both-entry coder m g h Cut b = record {
  legal = λ i. may-same coder m g h b Cut i && b.legal i;
  closed = b.closed;
  collected = b.collected;
  cut_at = b.closed;
  over = b.over;
  runs = b.runs;
  members = b.members;
  long = λ i. suc (b.long i);
  least = b.least;
  least_gone = b.least_gone;
  sides = b.sides;
  talking = b.talking;
  listening = b.listening;
  to_run = b.to_run;
}
both-entry coder m g h End b = record {
  legal = λ i. may-same coder m g h b End i && b.legal i;
  closed = b.closed;
  collected = b.collected;
  cut_at = b.cut_at;
  over = refl;
  runs = b.runs;
  members = b.members;
  long = λ i. suc (b.long i);
  least = b.least;
  least_gone = b.least_gone;
  sides = b.sides;
  talking = b.talking;
  listening = b.listening;
  to_run = b.to_run;
}

-- ---- the start ----

cut-shorter : (h : Feed) → length (cut h) ≤ length h
cut-shorter [] = omega arith
cut-shorter (Cut ∷ h) = omega arith
cut-shorter (Join spec ∷ h) = let ih = cut-shorter h in omega arith
cut-shorter (Leave who ∷ h) = let ih = cut-shorter h in omega arith
cut-shorter (Close tick ∷ h) = let ih = cut-shorter h in omega arith
cut-shorter (Collect ∷ h) = let ih = cut-shorter h in omega arith
cut-shorter (End ∷ h) = let ih = cut-shorter h in omega arith

no-other : (e : Entry) (h : Feed) → cut h ≡ e ∷ h → ⊥
no-other e h w = let a = cut-shorter h in let b : length (cut h) ≡ length (e ∷ h) = ap length w in omega arith

-- at a cut all is collected, and nothing has ended
pub cut-whole : (coder : Coder) (h : Feed) → IsCut coder h → (collects h ≡ closes h) × (ended h ≡ false)
cut-whole coder [] c = (refl, refl)
cut-whole coder (Cut ∷ h) c =
    let may = (and_parts (may_follow coder h Cut) (is_legal coder h) c.legal).0 in
    let parts = and_parts (closes h == collects h) (nat_lt 0 (closes h - closes (cut h)) && not (ended h)) may in
    (sym (eqb-true (closes h) (collects h) parts.0), not-true (ended h) (and_parts (nat_lt 0 (closes h - closes (cut h))) (not (ended h)) parts.1).1)
cut-whole coder (Join spec ∷ h) c = absurd (no-other (Join spec) h c.whole)
cut-whole coder (Leave who ∷ h) c = absurd (no-other (Leave who) h c.whole)
cut-whole coder (Close tick ∷ h) c = absurd (no-other (Close tick) h c.whole)
cut-whole coder (Collect ∷ h) c = absurd (no-other Collect h c.whole)
cut-whole coder (End ∷ h) c = absurd (no-other End h c.whole)

-- ticks that aren't closed have no talkers
none-talk : (k : ℕ) (h : Feed) → closes h ≤ k → talkers k h ≡ None
none-talk k [] le = refl
none-talk k (Join spec ∷ h) le = none-talk k h le
none-talk k (Leave who ∷ h) le = none-talk k h le
none-talk k (Close tick ∷ h) le =
    cond-false (closes h == k) (Some tick) (talkers k h) (ne_eqb (closes h) k (λ e. omega arith)) ∙ none-talk k h (omega arith)
none-talk k (Collect ∷ h) le = none-talk k h le
none-talk k (Cut ∷ h) le = none-talk k h le
none-talk k (End ∷ h) le = none-talk k h le

none-before : (k : ℕ) (h : Feed) → closes h ≤ k → before k h ≡ []
none-before k [] le = refl
none-before k (Join spec ∷ h) le = none-before k h le
none-before k (Leave who ∷ h) le = none-before k h le
none-before k (Close tick ∷ h) le = cond-false (closes h == k) h (before k h) (ne_eqb (closes h) k (λ e. omega arith)) ∙ none-before k h (omega arith)
none-before k (Collect ∷ h) le = none-before k h le
none-before k (Cut ∷ h) le = none-before k h le
none-before k (End ∷ h) le = none-before k h le

none-wanted : (coder : Coder) (p : Listener → Bool) (h : Feed) (m : ℕ) → closes h ≤ m → filter (late m) (wanted coder p h) ≡ []
none-wanted coder p h m le =
    filter-none (late m) (wanted coder p h) (λ x i. let lt = wanted-tick coder p h x i in lt-leb m x.tick (omega arith))

-- at the last close those matter who stay on
matters-now : (coder : Coder) (h : Feed) (g : Guest) → In g (guests coder h) → matters coder (closes h) g ≡ stays_on coder (closes h) g
matters-now coder h g i =
    let m = closes h in
    let owed = nat_lt 0 (length (packets_at coder m g.listener)) in
    let d = dated coder h g i in
    elim (cases_Bool (is_none g.left)) [
      | inl t ↦ or_left (is_none g.left) (nat_lt m (unwrap_or g.left 0) || owed) t ∙ sym (or_left (is_none g.left) owed t)
      | inr t ↦
          let gone = d.gone t in
          let most = d.within in
          ap (λ b. is_none g.left || (b || owed)) (le-ltb m (unwrap_or g.left 0) (omega arith))
    ]

pub both-start : (coder : Coder) (p q : Feed) → IsCut coder p → IsCut coder q → base coder p ≡ base coder q → Both coder (closes p) p q
both-start coder p q c d e =
    let m = closes p in
    let a = cut-whole coder p c in
    let b = cut-whole coder q d in
    let closed : closes p ≡ closes q = ap (λ x. x.closed) e in
    let P : List Guest → List Guest → Type 0 = λ us vs. AllZip (AreGuests coder m) us vs in
    let on = λ (x : Feed). filter (stays_on coder (closes x)) (guests coder x) in
    let now : (x : Feed) → filter (matters coder (closes x)) (guests coder x) ≡ on x =
    λ x. filter-agree (matters coder (closes x)) (stays_on coder (closes x)) (guests coder x) (matters-now coder x) in
    record {
      legal = c.legal ∙ sym d.legal;
      closed = closed;
      collected = a.0 ∙ closed ∙ sym b.0;
      cut_at = ap closes c.whole ∙ closed ∙ sym (ap closes d.whole);
      over = a.1 ∙ sym b.1;
      runs = ap (λ x. x.runs) e;
      members = ap (λ x. x.members) e;
      long = ap (λ x. x.entries) e;
      least = omega arith;
      least_gone = let all = a.0 in omega arith;
      sides = subst (λ us. P us (filter (matters coder m) (guests coder q))) (sym (now p))
          (subst (P (on p)) (sym (ap (λ x. filter (matters coder x) (guests coder q)) closed ∙ now q))
          (same-zip (AreGuests coder m) (stay_of coder m) (stay_of coder (closes q)) (on p) (on q)
          (λ g k i j s.
          let u = in-filter_parts (stays_on coder m) g (guests coder p) i in
          let v = in-filter_parts (stays_on coder (closes q)) k (guests coder q) j in
          stays-like coder p q closed g k u.0 v.0 u.1 v.1 s)
          (ap (λ x. x.stays) e)));
      talking = λ k le. none-talk k p le ∙ sym (none-talk k q (omega arith));
      listening = λ k le.
          ap (λ x. map (seen coder) (listeners coder x)) (none-before k p le)
          ∙ sym (ap (λ x. map (seen coder) (listeners coder x)) (none-before k q (omega arith)));
      to_run = λ f blind. none-wanted coder f p m (omega arith) ∙ sym (none-wanted coder f q m (omega arith));
    }

pub both-since : (coder : Coder) (p q s : Feed) → IsCut coder p → IsCut coder q → base coder p ≡ base coder q → Both coder (closes p) (s ++ p) (s ++ q)
both-since coder p q [] c d e = both-start coder p q c d e
both-since coder p q (x ∷ s) c d e = both-entry coder (closes p) (s ++ p) (s ++ q) x (both-since coder p q s c d e)

-- ---- what they have in common ----

-- what is wanted from a tick on, where that isn't before the m-th
pub wanted-from : (coder : Coder) (m : ℕ) (g h : Feed) → Both coder m g h → (p : Listener → Bool) → IsBlind coder m p
    → (f : Task → Bool) → ((x : Task) → x.tick < m → f x ≡ false) → filter f (wanted coder p g) ≡ filter f (wanted coder p h)
wanted-from coder m g h b p blind f none =
    let through = λ (x : Feed). filter-through (late m) f (wanted coder p x) (λ y i t. none y (leb-false m y.tick t)) in
    through g ∙ ap (filter f) (b.to_run p blind) ∙ sym (through h)

sent-same : (coder : Coder) (m : ℕ) (g h : Feed) → Both coder m g h → (k : ℕ) → m ≤ k → sent coder k g ≡ sent coder k h
sent-same coder m g h b k le =
    let p = matters coder m in
    let at = λ (x : Guest). packets_at coder k x.listener in
    flat_map-filter at p (guests coder g) (λ x i t. idle-packets coder g m k x i le t)
    ∙ zip-flat (AreGuests coder m) at at (filter p (guests coder g)) (filter p (guests coder h))
    (λ x y z. packets-like coder m x.listener y.listener z.1 k le) b.sides
    ∙ sym (flat_map-filter at p (guests coder h) (λ x i t. idle-packets coder h m k x i le t))

stays-same : (coder : Coder) (m : ℕ) (g h : Feed) → Both coder m g h
    → map (stay_of coder (closes g)) (filter (stays_on coder (closes g)) (guests coder g))
    ≡ map (stay_of coder (closes h)) (filter (stays_on coder (closes h)) (guests coder h))
stays-same coder m g h b =
    let p = matters coder m in
    let at = λ (x y : Guest) (z : AreGuests coder m x y).
    packets-like coder m x.listener y.listener z.1 (closes g) b.least ∙ ap (λ c. packets_at coder c y.listener) b.closed in
    let through = λ (x : Feed) (le : m ≤ closes x).
    ap (map (stay_of coder (closes x))) (filter-through p (stays_on coder (closes x)) (guests coder x)
    (λ y i t.
    let none = idle-packets coder x m (closes x) y i le t in
    let gone = idle-gone coder m y t in
    λ j. gone j || nat_lt 0 (length (none j)))) in
    through g b.least
    ∙ zip-same (AreGuests coder m) (stay_of coder (closes g)) (stay_of coder (closes h)) (filter (stays_on coder (closes g)) (filter p (guests coder g)))
    (filter (stays_on coder (closes h)) (filter p (guests coder h)))
    (λ x y z. let ps = at x y z in λ i. record {
      spec = z.1.spec i;
      from = z.1.from i;
      is_here = is_none (z.0 i);
      ticks = z.1.ticks i;
      state = z.1.state i;
      pending = flat_map (λ q. q.payload) (ps i);
    })
    (zip-filter (AreGuests coder m) (stays_on coder (closes g)) (stays_on coder (closes h)) (filter p (guests coder g)) (filter p (guests coder h))
    (λ x y z. let ps = at x y z in λ i. is_none (z.0 i) || nat_lt 0 (length (ps i))) b.sides)
    ∙ sym (through h (subst (λ c. m ≤ c) b.closed b.least))

pub both-agree : (coder : Coder) (m : ℕ) (g h : Feed) → Both coder m g h → Agree coder m g h
both-agree coder m g h b =
    let on = stays-same coder m g h b in
    record {
      legal = b.legal;
      closed = b.closed;
      collected = b.collected;
      since = λ i. b.closed i - b.cut_at i;
      over = b.over;
      runs = b.runs;
      members = b.members;
      present = seen-same coder m g h b;
      talking = b.talking;
      listening = b.listening;
      to_run = λ k le. wanted-from coder m g h b (λ l. true) (λ l n z. refl) (λ x. x.tick == k) (λ x lt. ne_eqb x.tick k (λ e. omega arith));
      handed = sent-same coder m g h b;
      left = sent-same coder m g h b (closes g) b.least ∙ ap (λ k. sent coder k h) b.closed;
      bases = λ i. record { entries = b.long i; closed = b.closed i; runs = b.runs i; members = b.members i; stays = on i };
    }

pub bases-agree : (coder : Coder) (p q s : Feed) → IsCut coder p → IsCut coder q → base coder p ≡ base coder q → Agree coder (closes p) (s ++ p) (s ++ q)
bases-agree coder p q s c d e = both-agree coder (closes p) (s ++ p) (s ++ q) (both-since coder p q s c d e)
