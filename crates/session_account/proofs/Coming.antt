-- Guests that come and go, as visits.
use Rattle.std.proofs.Common.{◌≡◌, ◌∙◌, ℕ, zero, suc, ◌+◌, inl, inr, Bool, true, false, List, [], ◌∷◌, ◌++◌, take, map, refl, sym, ap, subst, arith, Option, Some, None}
use Rattle.std.specs.Prelude.{◌==◌, ◌||◌, slice_get, unwrap_or, if◌then◌else◌, Result, Ok, Err, OnOk}
use Rattle.std.specs.List.{list_any}
use Rattle.std.proofs.lemmas.List.{map-append}
use Rattle.std.proofs.lemmas.Bool.{cond-false}
use Rattle.talk_mix.specs.declared.ticks.Tick.{Tick}
use Rattle.conference_spec.specs.declared.JoinSpec.{JoinSpec}
use Rattle.conference_spec.specs.declared.Entry.TheVariants.{Join, Leave, Close}
use Rattle.conference_spec.specs.Codec.{g726}
use Rattle.conference_spec.specs.Feed.{Feed, Listener, Guest, guests, goes, stays, begins, closes, listeners}
use Rattle.conference_spec.specs.Members.{In}
use Rattle.conference_spec.proofs.Sends.{present, listeners-present, until-dated}
use Rattle.session_account.specs.declared.visits.Listener.{Listener as Row}
use Rattle.session_account.specs.declared.visits.Visit.{Visit}
use Rattle.session_account.specs.Listening.{Visited, Lists, visit_of, went, listener_of, IsPast, IsAged}
use Rattle.session_account.proofs.Rows.{front-more}

-- one who comes
pub lists-join : (v : Visited) (spec : JoinSpec) (f : Feed) (new : Visited)
    → new.visits ≡ v.visits ++ record { member = spec.member; rate = spec.rate; bundle = spec.ticks; from = v.closed; left = None } ∷ [] → new.closed ≡ v.closed
    → Lists v f → Lists new (Join spec ∷ f)
lists-join v spec f new added same was = record {
  visits =
      added ∙ ap (λ n. v.visits ++ record { member = spec.member; rate = spec.rate; bundle = spec.ticks; from = n; left = None } ∷ []) was.closed
      ∙ ap (λ (vs : List Visit). vs ++ record { member = spec.member; rate = spec.rate; bundle = spec.ticks; from = closes f; left = None } ∷ []) was.visits
      ∙ sym (map-append visit_of (guests g726 f) (record { listener = begins g726 spec (closes f); left = None } ∷ []));
  closed = same ∙ was.closed;
}

visit-stays : (tick : Tick) (l : Listener) (o : Option ℕ) → visit_of (stays tick (record { listener = l; left = o })) ≡ visit_of (record { listener = l; left = o })
visit-stays tick l None = refl
visit-stays tick l (Some k) = refl

visits-stay : (tick : Tick) (gs : List Guest) → map visit_of (map (stays tick) gs) ≡ map visit_of gs
visits-stay tick [] = refl
visits-stay tick (g ∷ gs) =
    ap (λ v. v ∷ map visit_of (map (stays tick) gs)) (visit-stays tick g.listener g.left) ∙ ap (λ vs. visit_of g ∷ vs) (visits-stay tick gs)

-- a tick is closed
pub lists-close : (v : Visited) (tick : Tick) (f : Feed) (new : Visited) → new.visits ≡ v.visits → new.closed ≡ v.closed + 1 → Lists v f → Lists new (Close tick ∷ f)
lists-close v tick f new same more was = record {
  visits = same ∙ was.visits ∙ sym (visits-stay tick (guests g726 f));
  closed = more ∙ ap (λ n. n + 1) was.closed;
}

visit-goes : (m k : ℕ) (l : Listener) (o : Option ℕ) → went m k (visit_of (record { listener = l; left = o })) ≡ visit_of (goes m k (record { listener = l; left = o }))
visit-goes m k l (Some n) = refl
visit-goes m k l None = by-test (l.spec.member == m)
  where
    by-test : (b : Bool) → (if b then record (visit_of (record { listener = l; left = None })) { left = Some k } else visit_of (record { listener = l; left = None }))
        ≡ visit_of (if b then record { listener = l; left = Some k } else record { listener = l; left = None })
    by-test true = refl
    by-test false = refl

visits-go : (m k : ℕ) (gs : List Guest) → map (went m k) (map visit_of gs) ≡ map visit_of (map (goes m k) gs)
visits-go m k [] = refl
visits-go m k (g ∷ gs) =
    ap (λ v. v ∷ map (went m k) (map visit_of gs)) (visit-goes m k g.listener g.left) ∙ ap (λ vs. visit_of (goes m k g) ∷ vs) (visits-go m k gs)

-- one who goes
pub lists-leave : (v : Visited) (member : ℕ) (f : Feed) (new : Visited) → new.visits ≡ map (went member v.closed) v.visits → new.closed ≡ v.closed
    → Lists v f → Lists new (Leave member ∷ f)
lists-leave v member f new gone same was = record {
  visits =
      gone ∙ ap (λ n. map (went member n) v.visits) was.closed ∙ ap (λ vs. map (went member (closes f)) vs) was.visits
      ∙ visits-go member (closes f) (guests g726 f);
  closed = same ∙ was.closed;
}

or-none : (a b : Bool) → (a || b) ≡ false → (a ≡ false) × (b ≡ false)
or-none false b h = (refl, h)
or-none true b h = absurd (cc)

visits-same : (m k : ℕ) (gs : List Guest) → list_any (λ (l : Listener). l.spec.member == m) (present gs) ≡ false → map (went m k) (map visit_of gs) ≡ map visit_of gs
visits-same m k [] none = refl
visits-same m k (g ∷ gs) none = by-left g.listener g.left none (visits-same m k gs)
  where
    by-left : (l : Listener) (o : Option ℕ) → list_any (λ (l : Listener). l.spec.member == m) (present (record { listener = l; left = o } ∷ gs)) ≡ false
        → (list_any (λ (l : Listener). l.spec.member == m) (present gs) ≡ false → map (went m k) (map visit_of gs) ≡ map visit_of gs)
        → map (went m k) (map visit_of (record { listener = l; left = o } ∷ gs)) ≡ map visit_of (record { listener = l; left = o } ∷ gs)
    by-left l (Some n) none others = ap (λ vs. visit_of (record { listener = l; left = Some n }) ∷ vs) (others none)
    by-left l None none others =
        let v = visit_of (record { listener = l; left = None }) in
        let more = list_any (λ (l : Listener). l.spec.member == m) (present gs) in
        ap (λ w. w ∷ map (went m k) (map visit_of gs)) (cond-false (l.spec.member == m) (record v { left = Some k }) v (or-none (l.spec.member == m) more none).0)
        ∙ ap (λ vs. v ∷ vs) (others (or-none (l.spec.member == m) more none).1)

-- one who goes and doesn't listen
pub lists-same : (v : Visited) (member : ℕ) (f : Feed) (new : Visited) → new.visits ≡ map (went member v.closed) v.visits → new.closed ≡ v.closed
    → list_any (λ (l : Listener). l.spec.member == member) (listeners g726 f) ≡ false → Lists v f → Lists new f
lists-same v member f new gone same absent was = record {
  visits =
      gone ∙ ap (λ vs. map (went member v.closed) vs) was.visits
      ∙ visits-same member v.closed (guests g726 f) (sym (ap (list_any (λ (l : Listener). l.spec.member == member)) (listeners-present g726 f)) ∙ absent);
  closed = same ∙ was.closed;
}

-- what stands at a place of a mapped list
mapped-at : {X Y : Type 0} (f : X → Y) (i : ℕ) (xs : List X) (y : Y) → slice_get (map f xs) i ≡ Some y → (x : X) × (slice_get xs i ≡ Some x) × In x xs × (y ≡ f x)
mapped-at f i [] y at = absurd (cc)
mapped-at f zero (x ∷ xs) y at = (x, refl, inl refl, cc)
mapped-at f (suc i) (x ∷ xs) y at = let r = mapped-at f i xs y at in (r.0, r.1, inr r.2, r.3)

aged : (v : Visited) (f : Feed) (g : Guest) → Lists v f → In g (guests g726 f) → IsAged g v.closed
aged v f g was there = sym (until-dated g726 f g there) ∙ ap (λ n. unwrap_or g.left n) (sym was.closed)

past-of : (v : Visit) (g : Guest) (closed : ℕ) → v ≡ visit_of g → IsAged g closed → IsPast v closed
past-of v g closed is old = subst (λ (x : Visit). IsPast x closed) (sym is) (omega arith)

-- a visit began before it ended
pub visit-past : (v : Visited) (f : Feed) (i : ℕ) (x : Visit) (xs : List Visit) (closed : ℕ) → xs ≡ v.visits → closed ≡ v.closed → Lists v f
    → slice_get xs i ≡ Some x → IsPast x closed
visit-past v f i x xs closed same now was at =
    let r = mapped-at visit_of i (guests g726 f) x (sym (ap (λ vs. slice_get vs i) (same ∙ was.visits)) ∙ at) in
    past-of x r.0 closed r.3 (subst (λ (n : ℕ). IsAged r.0 n) (sym now) (aged v f r.0 was r.2))

-- one more listener
pub one-more : (v : Visited) (f : Feed) (i : ℕ) (x : Visit) (xs : List Visit) (closed : ℕ) (row : Row) (old new : List Row) → xs ≡ v.visits → closed ≡ v.closed
    → Lists v f → slice_get xs i ≡ Some x → ((g : Guest) → x ≡ visit_of g → IsAged g closed → row ≡ listener_of g)
    → old ≡ map listener_of (take i (guests g726 f)) → new ≡ old ++ row ∷ [] → new ≡ map listener_of (take (i + 1) (guests g726 f))
one-more v f i x xs closed row old new same now was at made before added =
    let r = mapped-at visit_of i (guests g726 f) x (sym (ap (λ vs. slice_get vs i) (same ∙ was.visits)) ∙ at) in
    added ∙ ap (λ rs. rs ++ row ∷ []) before
    ∙ ap (λ y. map listener_of (take i (guests g726 f)) ++ y ∷ []) (made r.0 r.3 (subst (λ (n : ℕ). IsAged r.0 n) (sym now) (aged v f r.0 was r.2)))
    ∙ sym (ap (map listener_of) (front-more i (guests g726 f) r.0 r.1) ∙ map-append listener_of (take i (guests g726 f)) (r.0 ∷ []))

-- what follows from it, of an answer without a fault
pub ok-with : {T E : Type 0} (r : Result T E) (P Q : Type 0) → (P → Q) → OnOk r P → OnOk r Q
ok-with (Ok x) P Q f h = f h
ok-with (Err e) P Q f h = tt
