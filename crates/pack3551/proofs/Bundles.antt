-- One payload more in a bundle.
use Rattle.std.proofs.Common.{◌≡◌, ◌∙◌, ℕ, List, [], ◌∷◌, ◌++◌, length, take, drop, ◌+◌, ◌-◌, ◌<◌, ◌≤◌, Bool, true, false, refl, sym, ap, subst, replicate, slice_set, arith, take-append-drop}
use Rattle.std.specs.Prelude.{◌&&◌}
use Rattle.std.proofs.lemmas.List.{take_more_set, take-append-le, drop-append-le, take_at, drop-drop, drop-replicate, drop-set-lt, length-set, length-take-le, length-drop}
use Rattle.std.proofs.lemmas.Slice.{drop-put_mid}
use borrow.Rule.Slice.PartMut.{put_mid, post_of, same_len_mid}
use Rattle.g726_bits.specs.declared.Rate.TheVariants.{R16, R24, R32, R40}
use Rattle.pack3551.specs.Sizes.{IsSize}
use Rattle.pack3551.specs.Bundled.{IsBundled, total, pieces}
use Rattle.pack3551.specs.BundledBack.{IsShown, bundle_shown}

-- what contracts see gives back the fields
pub shown_value : (octets sizes : List ℕ) (count filled : ℕ) (payloads : List (List ℕ)) → IsBundled octets sizes count filled →
    pieces (take count sizes) octets ≡ payloads → IsShown octets sizes count filled payloads
shown_value octets sizes count filled payloads is e = subst (IsShown octets sizes count filled) e (bundle_shown octets sizes count filled is)

and_four : (a b c d : Bool) → ((a && b) && c) && d ≡ a && (b && (c && d))
and_four true true c d = refl
and_four true false c d = refl
and_four false b c d = refl

-- four tests, one after the other
pub all_four : (a b c d t u v w : Bool) → t ≡ a → u ≡ t && b → v ≡ u && c → w ≡ v && d → w ≡ a && (b && (c && d))
all_four a b c d t u v w one two three four =
    four ∙ (ap (λ x. x && d) (three ∙ ap (λ x. x && c) (two ∙ ap (λ x. x && b) one)) ∙ and_four a b c d)

pub size_most : (n : ℕ) → IsSize n → n ≤ 100
size_most n (R16, e) = omega (arith, e)
size_most n (R24, e) = omega (arith, e)
size_most n (R32, e) = omega (arith, e)
size_most n (R40, e) = omega (arith, e)

total-push : (sizes : List ℕ) (n : ℕ) → total (sizes ++ n ∷ []) ≡ total sizes + n
total-push [] n = omega arith
total-push (m ∷ sizes) n = omega (arith, total-push sizes n)

pieces-push : (sizes : List ℕ) (n : ℕ) (front after before : List ℕ) → total sizes ≡ length front →
    pieces (sizes ++ n ∷ []) (front ++ after) ≡ pieces sizes (front ++ before) ++ take n after ∷ []
pieces-push [] n [] after before e = refl
pieces-push [] n (x ∷ front) after before e = absurd (omega (arith, e))
pieces-push (m ∷ sizes) n front after before e =
    let one : take m (front ++ after) ≡ take m (front ++ before) =
    take-append-le m front after (omega (arith, e)) ∙ sym (take-append-le m front before (omega (arith, e))) in
    ap (λ o. o ∷ pieces (sizes ++ n ∷ []) (drop m (front ++ after))) one
    ∙ ap (λ os. take m (front ++ before) ∷ os)
    (ap (pieces (sizes ++ n ∷ [])) (drop-append-le m front after (omega (arith, e)))
    ∙ pieces-push sizes n (drop m front) after before (omega (arith, e, length-drop m front))
    ∙ ap (λ os. pieces sizes os ++ take n after ∷ []) (sym (drop-append-le m front before (omega (arith, e)))))

pub pushed : (octets sizes payload copied : List ℕ) (count filled : ℕ) → IsBundled octets sizes count filled → copied ≡ payload →
    length payload ≤ 100 → count < 4 →
    IsBundled (put_mid filled (filled + length payload - filled) octets copied) (slice_set sizes count (length payload)) (count + 1) (filled + length payload)
pushed octets sizes payload copied count filled is same few room =
    let n = length payload in
    let one : take (count + 1) (slice_set sizes count n) ≡ take count sizes ++ n ∷ [] = take_more_set sizes count n (omega (arith, is.places)) in
    let fits : filled + n ≤ 400 = omega (arith, is.most) in
    let width : filled + n - filled ≡ length copied = omega (arith, ap length same) in
    record {
      long = same_len_mid filled (filled + n - filled) octets copied
          (sym width ∙ sym (length-take-le (filled + n - filled) (drop filled octets) (omega (arith, is.long, length-drop filled octets)))) ∙ is.long;
      places = length-set sizes count n ∙ is.places;
      within = omega arith;
      sum = ap total one ∙ (total-push (take count sizes) n ∙ ap (λ m. m + n) is.sum);
      most = omega (arith, is.most);
      rest = drop-put_mid filled (filled + n - filled) octets copied (filled + n) (omega arith) (omega (arith, is.long)) (sym width)
          ∙ (sym (drop-drop n filled octets) ∙ (ap (drop n) is.rest ∙ (drop-replicate n (400 - filled) 0 ∙ ap (λ k. replicate k 0) (omega arith))));
      no_sizes = drop-set-lt (count + 1) sizes count n (omega arith)
          ∙ (sym (drop-drop 1 count sizes) ∙ (ap (drop 1) is.no_sizes ∙ (drop-replicate 1 (4 - count) 0 ∙ ap (λ k. replicate k 0) (omega arith))));
    }

pub pushed_value : (octets sizes payload copied : List ℕ) (count filled : ℕ) → IsBundled octets sizes count filled → copied ≡ payload → count < 4 →
    pieces (take (count + 1) (slice_set sizes count (length payload))) (put_mid filled (filled + length payload - filled) octets copied)
    ≡ pieces (take count sizes) octets ++ payload ∷ []
pushed_value octets sizes payload copied count filled is same room =
    let n = length payload in
    let front = take filled octets in
    let after = copied ++ post_of filled (filled + n - filled) octets in
    let one : take (count + 1) (slice_set sizes count n) ≡ take count sizes ++ n ∷ [] = take_more_set sizes count n (omega (arith, is.places)) in
    let long : total (take count sizes) ≡ length front = is.sum ∙ sym (length-take-le filled octets (omega (arith, is.most, is.long))) in
    ap (λ ns. pieces ns (front ++ after)) one
    ∙ pieces-push (take count sizes) n front after (drop filled octets) long
    ∙ ap (λ os. pieces (take count sizes) os ++ take n after ∷ []) (take-append-drop filled octets)
    ∙ ap (λ p. pieces (take count sizes) octets ++ p ∷ []) (take_at copied (post_of filled (filled + n - filled) octets) n (ap length same) ∙ same)
