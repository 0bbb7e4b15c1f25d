-- Two pieces that are written one after the other.
use Rattle.std.proofs.Common.{◌≡◌, ◌+◌, ◌++◌, ℕ, List, length, take, drop, min, sym, ap, ◌∙◌, subst, arith, Option, Some, None}
use Rattle.std.proofs.lemmas.List.{append_assoc, length-append, take-append-le, take_at, take_min}
use Rattle.std.proofs.lemmas.Slice.{take-put_mid}
use Rattle.std.proofs.Math.Seq.{take-append-add}
use borrow.Rule.Slice.PartMut.{put_mid}
use Rattle.edge_io.specs.Told.{Grows, GrowsByFront}

-- a front of the second piece behind the first
pub front_then_front : (old mid new : Option (List ℕ)) (front back : List ℕ) → Grows old mid front → GrowsByFront mid new back → GrowsByFront old new (front ++ back)
front_then_front None mid new front back first second =
    let P : Option (List ℕ) → Type 0 = λ mid. GrowsByFront mid new back in subst P first second
front_then_front (Some held) mid new front back first second =
    let P : Option (List ℕ) → Type 0 = λ mid. GrowsByFront mid new back in
    let (n, is) = subst P first second in
    (length front + n, is ∙ ap Some (append_assoc held front (take n back) ∙ ap (λ (r : List ℕ). held ++ r) (sym (take-append-add front back n))))

-- a front of the first piece is a front of both
take-first : (front back : List ℕ) (n : ℕ) → take n front ≡ take (min n (length front)) (front ++ back)
take-first front back n = sym (take_min n front) ∙ sym (take-append-le (min n (length front)) front back (omega arith))

pub front_of_first : (old new : Option (List ℕ)) (front back : List ℕ) → GrowsByFront old new front → GrowsByFront old new (front ++ back)
front_of_first None new front back h = h
front_of_first (Some held) new front back (n, is) =
    (min n (length front), is ∙ ap (λ (r : List ℕ). Some (held ++ r)) (take-first front back n))

-- a head and octets that were copied one after the other
pub joined_piece : (first second piece head octets : List ℕ) (k n : ℕ) → first ≡ head → second ≡ octets → length head ≡ 8 → n ≡ 8 + length octets
    → take n (put_mid 8 k (first ++ drop 8 piece) second) ≡ head ++ octets
joined_piece first second piece head octets k n one two size len =
    take-put_mid 8 k (first ++ drop 8 piece) second n (omega (arith, ap length two)) (omega (arith, ap length one, length-append first (drop 8 piece)))
    ∙ ap (λ (front : List ℕ). front ++ second) (take_at first (drop 8 piece) 8 (ap length one ∙ size))
    ∙ ap (λ (front : List ℕ). front ++ second) one ∙ ap (λ (back : List ℕ). head ++ back) two
