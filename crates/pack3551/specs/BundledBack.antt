-- What contracts see of a bundle gives back its arrays.
use Rattle.std.specs.Prelude.{ℕ, List, [], ◌∷◌, ◌≡◌, ◌-◌, ◌≤◌, ◌++◌, length, map, take, drop, replicate}
use Rattle.std.proofs.Common.{◌∙◌, ap, arith, sym, refl, take-append-drop, take-add}
use Rattle.std.proofs.lemmas.List.{length-take-le, length-drop, length-map}
use Rattle.pack3551.specs.Bundled.{IsBundled, total, pieces, joined, filled_up}

pub filled_up_shown : (n k : ℕ) (xs : List ℕ) → length xs ≡ n → k ≤ n → drop k xs ≡ replicate (n - k) 0 → filled_up n (take k xs) ≡ xs
filled_up_shown n k xs long within rest =
    ap (λ m. take k xs ++ replicate (n - m) 0) (length-take-le k xs (omega (arith, long)))
    ∙ (ap (λ ys. take k xs ++ ys) (sym rest) ∙ take-append-drop k xs)

-- pieces give back their sizes and the octets that were cut
pub pieces_lengths : (sizes octets : List ℕ) → total sizes ≤ length octets → map length (pieces sizes octets) ≡ sizes
pieces_lengths [] octets le = refl
pieces_lengths (n ∷ sizes) octets le =
    ap (λ m. m ∷ map length (pieces sizes (drop n octets))) (length-take-le n octets (omega arith))
    ∙ ap (λ ns. n ∷ ns) (pieces_lengths sizes (drop n octets) (omega (arith, length-drop n octets)))

pub pieces_joined : (sizes octets : List ℕ) → total sizes ≤ length octets → joined (pieces sizes octets) ≡ take (total sizes) octets
pieces_joined [] octets le = refl
pieces_joined (n ∷ sizes) octets le =
    ap (λ os. take n octets ++ os) (pieces_joined sizes (drop n octets) (omega (arith, length-drop n octets)))
    ∙ sym (take-add n (total sizes) octets)

pub bundle_cut : (octets sizes : List ℕ) (count filled : ℕ) → IsBundled octets sizes count filled →
    joined (pieces (take count sizes) octets) ≡ take filled octets
bundle_cut octets sizes count filled is =
    pieces_joined (take count sizes) octets (omega (arith, is.sum, is.most, is.within, is.long)) ∙ ap (λ n. take n octets) is.sum

-- payloads give back the arrays, and how much of them counts
pub record IsShown (xs ns : List ℕ) (n m : ℕ) (payloads : List (List ℕ)) : Type 0 where
  pub octets : filled_up 400 (joined payloads) ≡ xs
  pub sizes : filled_up 4 (map length payloads) ≡ ns
  pub count : length payloads ≡ n
  pub filled : length (joined payloads) ≡ m

pub bundle_shown : (octets sizes : List ℕ) (count filled : ℕ) → IsBundled octets sizes count filled →
    IsShown octets sizes count filled (pieces (take count sizes) octets)
bundle_shown octets sizes count filled is =
    let ns = take count sizes in
    let cut = bundle_cut octets sizes count filled is in
    let told : map length (pieces ns octets) ≡ ns = pieces_lengths ns octets (omega (arith, is.sum, is.most, is.within, is.long)) in
    record {
      octets = ap (filled_up 400) cut ∙ filled_up_shown 400 filled octets is.long (omega (arith, is.most, is.within)) is.rest;
      sizes = ap (filled_up 4) told ∙ filled_up_shown 4 count sizes is.places is.within is.no_sizes;
      count = sym (length-map (pieces ns octets) length) ∙ (ap length told ∙ length-take-le count sizes (omega (arith, is.places, is.within)));
      filled = ap length cut ∙ length-take-le filled octets (omega (arith, is.most, is.within, is.long));
    }
