-- A listener comes, and a listener goes.
use Rattle.std.proofs.Common.{◌≡◌, ◌≢◌, ◌⊎◌, ℕ, ◌+◌, ◌<◌, ◌≤◌, ◌||◌, ◌==◌, not, Bool, true, false, cond, if◌then◌else◌, List, [], ◌∷◌, ◌++◌, map}
use Rattle.std.proofs.Common.{filter, find, length, Option, Some, None, is_some, IfSome, IsSome, refl, sym, ap, subst, ◌∙◌, inl, inr, arith}
use Rattle.std.specs.List.{list_any, AllByRecursion}
use Rattle.std.specs.Option.{option_map}
use Rattle.std.proofs.lemmas.Bool.{false≢true, eqb-true, eqb-false, eq-eqb, ne_eqb, or_parts}
use Rattle.std.proofs.lemmas.Bool.Decides.{eqb_tells}
use Rattle.enc_group.specs.declared.Group.{Group}
use Rattle.enc_group.specs.declared.Seat.{Seat}
use Rattle.enc_group.specs.Groups.{group_in, sits, is_of, key_in, without, EachOnce, Sets}
use Rattle.enc_group.specs.Inside.{ArePeopled}
use Rattle.enc_group.proofs.Passing.{bool-cases, or-left, or-right, or-rest, all-of, all-mono, all-both, all-push, all-filter, any-some, any-kept, any-push, any-last, length-filter_less}
use Rattle.enc_group.proofs.People.{none-is}

or-false : (a b : Bool) → a ≡ false → b ≡ false → (a || b) ≡ false
or-false a b f g = ap (λ (x : Bool). x || b) f ∙ g

-- the look-up of a listener, at the first seat
key-here : (listener : ℕ) (s : Seat) (ss : List Seat) → is_of listener s ≡ true → key_in listener (s ∷ ss) ≡ Some s.key
key-here listener s ss t = ap (λ (b : Bool). option_map (λ (z : Seat). z.key) (cond b (Some s) (find (is_of listener) ss))) t

key-later : (listener : ℕ) (s : Seat) (ss : List Seat) → is_of listener s ≡ false → key_in listener (s ∷ ss) ≡ key_in listener ss
key-later listener s ss f = ap (λ (b : Bool). option_map (λ (z : Seat). z.key) (cond b (Some s) (find (is_of listener) ss))) f

some-none : {X : Type 0} (x : X) → Some x ≡ None → ⊥
some-none x e = cc

-- a listener that is in no group is on no seat
pub unlisted : (listener : ℕ) (seats : List Seat) → key_in listener seats ≡ None → list_any (λ m. m == listener) (map (λ s. s.listener) seats) ≡ false
unlisted listener [] e = refl
unlisted listener (s ∷ ss) e =
    elim (bool-cases (is_of listener s)) [
      | inl t ↦ absurd (some-none s.key (sym (key-here listener s ss t) ∙ e))
      | inr f ↦ or-false (s.listener == listener) (list_any (λ m. m == listener) (map (λ s. s.listener) ss)) f (unlisted listener ss (sym (key-later listener s ss f) ∙ e))
    ]

-- and no seat is taken away with it
pub without-none : (listener : ℕ) (seats : List Seat) → key_in listener seats ≡ None → without listener seats ≡ seats
without-none listener [] e = refl
without-none listener (s ∷ ss) e =
    elim (bool-cases (is_of listener s)) [
      | inl t ↦ absurd (some-none s.key (sym (key-here listener s ss t) ∙ e))
      | inr f ↦ ap (λ (b : Bool). cond (not b) (s ∷ without listener ss) (without listener ss)) f ∙ ap (λ z. s ∷ z) (without-none listener ss (sym (key-later listener s ss f) ∙ e))
    ]

-- the group of a listener is there
pub key-there : (groups : List (Option Group)) (listener : ℕ) (seats : List Seat) → AllByRecursion (λ s. is_some (group_in groups s.key) ≡ true) seats
    → IfSome (key_in listener seats) (λ key. is_some (group_in groups key) ≡ true)
key-there groups listener [] a = tt
key-there groups listener (s ∷ ss) a =
    let P : Option ℕ → Type 0 = λ o. IfSome o (λ key. is_some (group_in groups key) ≡ true) in
    elim (bool-cases (is_of listener s)) [
      | inl t ↦ subst P (sym (key-here listener s ss t)) a.0
      | inr f ↦ subst P (sym (key-later listener s ss f)) (key-there groups listener ss a.1)
    ]

once-push : (ls : List ℕ) (l : ℕ) → list_any (λ m. m == l) ls ≡ false → EachOnce ls → EachOnce (ls ++ l ∷ [])
once-push [] l e o = (refl, tt)
once-push (m ∷ ls) l e o =
    let parts = or_parts (m == l) (list_any (λ k. k == l) ls) e in
    (later ls m l o.0 (ne_eqb l m (λ q. eqb-false m l parts.0 (sym q))), once-push ls l parts.1 o.1)
  where
    later : (ls : List ℕ) (m l : ℕ) → list_any (λ k. k == m) ls ≡ false → (l == m) ≡ false → list_any (λ k. k == m) (ls ++ l ∷ []) ≡ false
    later [] m l e f = or-false (l == m) false f refl
    later (k ∷ ls) m l e f =
        let parts = or_parts (k == m) (list_any (λ k. k == m) ls) e in
        or-false (k == m) (list_any (λ k. k == m) (ls ++ l ∷ [])) parts.0 (later ls m l parts.1 f)

listeners-push : (seats : List Seat) (s : Seat) → map (λ s. s.listener) (seats ++ s ∷ []) ≡ map (λ s. s.listener) seats ++ s.listener ∷ []
listeners-push [] s = refl
listeners-push (t ∷ ts) s = ap (λ z. t.listener ∷ z) (listeners-push ts s)

-- a listener comes
pub people-entered : (old new : List (Option Group)) (seats : List Seat) (key listener : ℕ) (g : Group) → Sets old new key (Some g)
    → key_in listener seats ≡ None → ArePeopled old seats → ArePeopled new (seats ++ (record { listener = listener; key = key }) ∷ [])
people-entered old new seats key listener g sets free p =
    record {
      seated = all-push (λ (s : Seat). is_some (group_in new s.key) ≡ true) seats (record { listener = listener; key = key })
          (all-mono (λ (s : Seat). is_some (group_in old s.key) ≡ true) (λ (s : Seat). is_some (group_in new s.key) ≡ true) seat seats p.seated)
          (ap is_some sets.here);
      peopled = λ k e. elim (eqb_tells k key) [
        | inl q ↦ any-last (sits k) seats (record { listener = listener; key = key }) (eq-eqb key k (sym q.1))
        | inr q ↦ any-push (sits k) seats (record { listener = listener; key = key }) (p.peopled k (sym (ap is_some (sets.others k q.1)) ∙ e))
      ];
      once = subst EachOnce (sym (listeners-push seats (record { listener = listener; key = key }))) (once-push (map (λ s. s.listener) seats) listener (unlisted listener seats free) p.once);
    }
  where
    seat : (s : Seat) → is_some (group_in old s.key) ≡ true → is_some (group_in new s.key) ≡ true
    seat s e =
        elim (eqb_tells s.key key) [
          | inl q ↦ ap is_some (ap (group_in new) q.1 ∙ sets.here)
          | inr q ↦ ap is_some (sets.others s.key q.1) ∙ e
        ]

-- a listener has one seat, at its key
own-key : (listener key : ℕ) (seats : List Seat) → key_in listener seats ≡ Some key → EachOnce (map (λ s. s.listener) seats) → AllByRecursion (λ s. is_of listener s ≡ true → s.key ≡ key) seats
own-key listener key [] e o = tt
own-key listener key (s ∷ ss) e o =
    elim (bool-cases (is_of listener s)) [
      | inl t ↦
          (let same : s.key ≡ key = let q = sym (key-here listener s ss t) ∙ e in cc in
          ((λ z. same), absent ss (subst (λ (m : ℕ). list_any (λ k. k == m) (map (λ s. s.listener) ss) ≡ false) (eqb-true s.listener listener t) o.0)))
      | inr f ↦ ((λ z. absurd (false≢true (sym f ∙ z))), own-key listener key ss (sym (key-later listener s ss f) ∙ e) o.1)
    ]
  where
    absent : (ss : List Seat) → list_any (λ k. k == listener) (map (λ s. s.listener) ss) ≡ false → AllByRecursion (λ s. is_of listener s ≡ true → s.key ≡ key) ss
    absent [] e = tt
    absent (s ∷ ss) e =
        let parts = or_parts (s.listener == listener) (list_any (λ k. k == listener) (map (λ s. s.listener) ss)) e in
        ((λ z. absurd (false≢true (sym parts.0 ∙ z))), absent ss parts.1)

-- each seat is at its own key
self-sits : (all seats : List Seat) → ((t : Seat → Bool) → list_any t seats ≡ true → list_any t all ≡ true) → AllByRecursion (λ s. list_any (sits s.key) all ≡ true) seats
self-sits all [] h = tt
self-sits all (s ∷ ss) h =
    (h (sits s.key) (or-left (sits s.key s) (list_any (sits s.key) ss) (eq-eqb s.key s.key refl)), self-sits all ss (λ t e. h t (or-right (t s) (list_any t ss) e)))

unlisted-filter : (r : Seat → Bool) (m : ℕ) (seats : List Seat) → list_any (λ k. k == m) (map (λ s. s.listener) seats) ≡ false → list_any (λ k. k == m) (map (λ s. s.listener) (filter r seats)) ≡ false
unlisted-filter r m [] e = refl
unlisted-filter r m (s ∷ ss) e =
    let parts = or_parts (s.listener == m) (list_any (λ k. k == m) (map (λ s. s.listener) ss)) e in
    let later = unlisted-filter r m ss parts.1 in
    elim (bool-cases (r s)) [
      | inl t ↦ rw t (or-false (s.listener == m) (list_any (λ k. k == m) (map (λ s. s.listener) (filter r ss))) parts.0 later)
      | inr f ↦ rw f later
    ]

once-filter : (r : Seat → Bool) (seats : List Seat) → EachOnce (map (λ s. s.listener) seats) → EachOnce (map (λ s. s.listener) (filter r seats))
once-filter r [] o = tt
once-filter r (s ∷ ss) o =
    elim (bool-cases (r s)) [
      | inl t ↦ rw t (unlisted-filter r s.listener ss o.0, once-filter r ss o.1)
      | inr f ↦ rw f (once-filter r ss o.1)
    ]

abbrev pub settled : List (Option Group) → ℕ → ℕ → List Seat → Option Group
settled groups key listener seats = if list_any (sits key) (without listener seats) then group_in groups key else None

settled-yes : (groups : List (Option Group)) (key listener : ℕ) (seats : List Seat) → list_any (sits key) (without listener seats) ≡ true → settled groups key listener seats ≡ group_in groups key
settled-yes groups key listener seats t = ap (λ (b : Bool). cond b (group_in groups key) None) t

settled-no : (groups : List (Option Group)) (key listener : ℕ) (seats : List Seat) → list_any (sits key) (without listener seats) ≡ false → settled groups key listener seats ≡ None
settled-no groups key listener seats f = ap (λ (b : Bool). cond b (group_in groups key) None) f

-- a listener goes
pub people-left : (old new : List (Option Group)) (seats : List Seat) (key listener : ℕ) → Sets old new key (settled old key listener seats)
    → key_in listener seats ≡ Some key → ArePeopled old seats → ArePeopled new (without listener seats)
people-left old new seats key listener sets own p =
    record {
      seated = all-both (λ (s : Seat). is_some (group_in old s.key) ≡ true) (λ (s : Seat). list_any (sits s.key) (without listener seats) ≡ true) (λ (s : Seat). is_some (group_in new s.key) ≡ true)
          seat (without listener seats) (all-filter (λ (s : Seat). is_some (group_in old s.key) ≡ true) (λ s. not (is_of listener s)) seats p.seated)
          (self-sits (without listener seats) (without listener seats) (λ t e. e));
      peopled = people;
      once = once-filter (λ s. not (is_of listener s)) seats p.once;
    }
  where
    seat : (s : Seat) → is_some (group_in old s.key) ≡ true → list_any (sits s.key) (without listener seats) ≡ true → is_some (group_in new s.key) ≡ true
    seat s e used =
        elim (eqb_tells s.key key) [
          | inl q ↦
              (let still = settled-yes old key listener seats (subst (λ (z : ℕ). list_any (sits z) (without listener seats) ≡ true) q.1 used) in
              ap is_some (ap (group_in new) q.1 ∙ sets.here ∙ still ∙ ap (group_in old) (sym q.1)) ∙ e)
          | inr q ↦ ap is_some (sets.others s.key q.1) ∙ e
        ]

    people : (k : ℕ) → is_some (group_in new k) ≡ true → list_any (sits k) (without listener seats) ≡ true
    people k e =
        elim (eqb_tells k key) [
          | inl q ↦
              elim (bool-cases (list_any (sits key) (without listener seats))) [
                | inl t ↦ ap (λ (z : ℕ). list_any (sits z) (without listener seats)) q.1 ∙ t
                | inr f ↦ absurd (false≢true (sym (ap is_some (ap (group_in new) q.1 ∙ sets.here ∙ settled-no old key listener seats f)) ∙ e))
              ]
          | inr q ↦
              any-kept (sits k) (λ s. not (is_of listener s)) (sits k) seats
              (all-mono (λ (s : Seat). is_of listener s ≡ true → s.key ≡ key) (λ (s : Seat). sits k s ≡ true → (not (is_of listener s) ≡ true) × (sits k s ≡ true))
              (λ s h t. (
                elim (bool-cases (is_of listener s)) [
                  | inl y ↦ absurd (q.1 (sym (eqb-true s.key k t) ∙ h y))
                  | inr n ↦ ap not n
                ],
                t,
              )) seats (own-key listener key seats own p.once))
              (p.peopled k (sym (ap is_some (sets.others k q.1)) ∙ e))
        ]

-- one seat fewer
pub listed-of : (listener key : ℕ) (seats : List Seat) → key_in listener seats ≡ Some key → list_any (is_of listener) seats ≡ true
listed-of listener key [] e = absurd (some-none key (sym e))
listed-of listener key (s ∷ ss) e =
    elim (bool-cases (is_of listener s)) [
      | inl t ↦ or-left (is_of listener s) (list_any (is_of listener) ss) t
      | inr f ↦ or-right (is_of listener s) (list_any (is_of listener) ss) (listed-of listener key ss (sym (key-later listener s ss f) ∙ e))
    ]

pub length-without : (listener key : ℕ) (seats : List Seat) → key_in listener seats ≡ Some key → length (without listener seats) < length seats
length-without listener key seats e = length-filter_less (is_of listener) seats (listed-of listener key seats e)

-- what a key has afterwards, by whether anybody sits there
pub left-empty : (new : List (Option Group)) (seats : List Seat) → ArePeopled new seats → (key : ℕ) → list_any (sits key) seats ≡ false → group_in new key ≡ None
left-empty new seats p key f =
    none-is (group_in new key) (elim (bool-cases (is_some (group_in new key))) [
      | inl t ↦ absurd (false≢true (sym f ∙ p.peopled key t))
      | inr n ↦ n
    ])

pub left-used : (old new : List (Option Group)) (seats : List Seat) (key listener : ℕ) → Sets old new key (settled old key listener seats) → (k : ℕ)
    → list_any (sits k) (without listener seats) ≡ true → group_in new k ≡ group_in old k
left-used old new seats key listener sets k t =
    elim (eqb_tells k key) [
      | inl q ↦ ap (group_in new) q.1 ∙ sets.here ∙ settled-yes old key listener seats (subst (λ (z : ℕ). list_any (sits z) (without listener seats) ≡ true) q.1 t) ∙ ap (group_in old) (sym q.1)
      | inr q ↦ sets.others k q.1
    ]
