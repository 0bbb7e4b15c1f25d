-- A stream through the codec, piece by piece: what is written so far with what is to come is the whole.
use Rattle.std.proofs.Common.{◌≡◌, ◌∙◌, ℕ, List, [], ◌++◌, length, take, drop, min, Option, Some, None, IfSome, Result, Ok, Err, OnErr, ◌+◌, ◌*◌, ◌<◌, ◌≤◌, refl, sym, ap, subst, arith}
use Rattle.std.proofs.lemmas.List.{take_all, length-drop, nil_from_length}
use Rattle.edge_io.specs.Told.{Grows, GrowsByFront, Takes}
use Rattle.g726_bits.specs.State.{CodecState}
use Rattle.g726_stream.specs.declared.status.Status.{Status}
use Rattle.g726_stream.proofs.Growing.{grows_then, front_then, front_none}

-- so many pieces of these octets were read, and the others are left
pub record Goes (size : ℕ) (to_come : CodecState → List ℕ → List ℕ) (octets whole : List ℕ) (before : Option (List ℕ))
    (number : ℕ) (state : CodecState) (left : List ℕ) (held : Option (List ℕ)) : Type 0 where
  pub counted : length octets ≡ size * number + length left
  pub grown : (new : Option (List ℕ)) → Grows held new (to_come state left) → Grows before new whole
  pub front : (new : Option (List ℕ)) → GrowsByFront held new (to_come state left) → GrowsByFront before new whole

-- the same where the source tells its octets
abbrev pub Going : ℕ → (CodecState → List ℕ → List ℕ) → (List ℕ → List ℕ) → (all before : Option (List ℕ)) → ℕ →
    CodecState → (rest held : Option (List ℕ)) → Type 0
Going size to_come made None before number state rest held = rest ≡ None
Going size to_come made (Some octets) before number state rest held =
    (left : List ℕ) × (rest ≡ Some left) × Goes size to_come octets (made octets) before number state left held

pub begun : (size : ℕ) (to_come : CodecState → List ℕ → List ℕ) (made : List ℕ → List ℕ) (all before : Option (List ℕ))
    (state : CodecState) →
    ((octets : List ℕ) → to_come state octets ≡ made octets) → Going size to_come made all before 0 state all before
begun size to_come made None before state same = refl
begun size to_come made (Some octets) before state same = (
  octets,
  refl,
  record {
    counted = omega arith;
    grown = λ new grown. subst (λ (p : List ℕ). Grows before new p) (same octets) grown;
    front = λ new front. subst (λ (p : List ℕ). GrowsByFront before new p) (same octets) front;
  },
)

pub goes_on : (size : ℕ) (to_come : CodecState → List ℕ → List ℕ) (made : List ℕ → List ℕ)
    (all before : Option (List ℕ)) (number : ℕ) (state next : CodecState) (rest new held after : Option (List ℕ))
    (n : ℕ) (buf out : List ℕ) →
    Going size to_come made all before number state rest held → Takes rest new n buf →
    IfSome rest (λ octets. n ≡ min (length octets) size) → n ≡ size → Grows held after out →
    ((left : List ℕ) → size ≤ length left → take size buf ≡ take size left → to_come state left
    ≡ out ++ to_come next (drop size left)) →
    Going size to_come made all before (number + 1) next new after
goes_on size to_come made None before number state next rest new held after n buf out is taken told n_is written step =
    rw is at taken
goes_on size to_come made (Some octets) before number state next rest new held after n buf out (left, is, goes) taken
    told n_is written step =
    let there : (take n buf ≡ take n left) × (new ≡ Some (drop n left)) = rw is at taken in
    let few : n ≡ min (length left) size = rw is at told in
    let h : size ≤ length left = omega arith in
    let same : take size buf ≡ take size left = rw n_is at there.0 in
    let whole : to_come state left ≡ out ++ to_come next (drop size left) = step left h same in
    let counts : length octets ≡ size * (number + 1) + length (drop size left) =
    omega (arith, length-drop size left, goes.counted, h) in (
      drop size left,
      there.1 ∙ ap (λ (k : ℕ). Some (drop k left)) n_is,
      record {
        counted = counts;
        grown = λ end more. goes.grown end (subst (λ (p : List ℕ). Grows held end p) (sym whole)
            (grows_then held after end out (to_come next (drop size left)) written more));
        front = λ end more. goes.front end (subst (λ (p : List ℕ). GrowsByFront held end p) (sym whole)
            (front_then held after end out (to_come next (drop size left)) written more));
      },
    )

-- the last piece, which is no whole one
pub ends : (size : ℕ) (to_come : CodecState → List ℕ → List ℕ) (made : List ℕ → List ℕ) (all before : Option (List ℕ))
    (number : ℕ) (state : CodecState) (rest new held after : Option (List ℕ)) (n : ℕ) (buf out : List ℕ)
    (end_at : ℕ → Status) (end : Status) →
    Going size to_come made all before number state rest held → Takes rest new n buf →
    IfSome rest (λ octets. n ≡ min (length octets) size) → n < size → Grows held after out →
    ((left : List ℕ) → length left ≡ n → take n buf ≡ left → to_come state left ≡ out) →
    end ≡ end_at (size * number + n) →
    IfSome all (λ octets. (end ≡ end_at (length octets)) × Grows before after (made octets) × (new ≡ Some []))
ends size to_come made None before number state rest new held after n buf out end_at end is taken told few written step
    end_is = tt
ends size to_come made (Some octets) before number state rest new held after n buf out end_at end (left, is, goes)
    taken told few written step end_is =
    let there : (take n buf ≡ take n left) × (new ≡ Some (drop n left)) = rw is at taken in
    let fewer : n ≡ min (length left) size = rw is at told in
    let long : length left ≡ n = omega arith in
    let whole : to_come state left ≡ out = step left long (there.0 ∙ take_all n left (omega arith)) in
    let counts : size * number + n ≡ length octets = omega (arith, goes.counted, long) in
    let none : drop n left ≡ [] = nil_from_length (drop n left) (omega (arith, length-drop n left, long)) in (
      end_is ∙ ap end_at counts,
      goes.grown after (subst (λ (p : List ℕ). Grows held after p) (sym whole) written),
      there.1 ∙ ap (λ (rest : List ℕ). Some rest) none,
    )

-- a write that failed
pub stops : (size : ℕ) (to_come : CodecState → List ℕ → List ℕ) (made : List ℕ → List ℕ) (all before : Option (List ℕ))
    (number : ℕ) (state : CodecState) (rest new held after : Option (List ℕ)) (n : ℕ) (buf : List ℕ) →
    Going size to_come made all before number state rest held → Takes rest new n buf →
    IfSome rest (λ octets. n ≡ min (length octets) size) →
    ((left : List ℕ) → n ≡ min (length left) size → take n buf
    ≡ take n left → GrowsByFront held after (to_come state left)) →
    IfSome all (λ octets. GrowsByFront before after (made octets))
stops size to_come made None before number state rest new held after n buf is taken told front = tt
stops size to_come made (Some octets) before number state rest new held after n buf (left, is, goes) taken told front =
    let there : (take n buf ≡ take n left) × (new ≡ Some (drop n left)) = rw is at taken in
    let fewer : n ≡ min (length left) size = rw is at told in
    goes.front after (front left fewer there.0)

-- a read that failed, or more pieces than are counted
pub fails : (size : ℕ) (to_come : CodecState → List ℕ → List ℕ) (made : List ℕ → List ℕ) (all before : Option (List ℕ))
    (number : ℕ) (state : CodecState) (rest held : Option (List ℕ)) →
    Going size to_come made all before number state rest held →
    IfSome all (λ octets. GrowsByFront before held (made octets))
fails size to_come made None before number state rest held is = tt
fails size to_come made (Some octets) before number state rest held (left, is, goes) =
    goes.front held (front_none held (to_come state left))

-- what holds whatever the fault is
pub on_err : {X E : Type 0} (r : Result X E) (P : Type 0) → P → OnErr r P
on_err (Ok x) P p = tt
on_err (Err e) P p = p
