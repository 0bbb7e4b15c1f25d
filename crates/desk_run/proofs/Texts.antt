-- Octets that a sink took one piece after another.
use Rattle.std.proofs.Common.{◌≡◌, ◌<◌, ◌+◌, ◌*◌, ◌++◌, ◌∷◌, [], ℕ, List, length, take, drop, get_or, refl, sym, ap, ◌∙◌, subst, arith, Option, Some, None, append_assoc, add-one}
use Rattle.std.proofs.lemmas.List.{append-nil, take_all, take-append-drop}
use Rattle.std.proofs.lemmas.Grind.{flat_map-append}
use Rattle.std.proofs.Math.Seq.{take-suc}
use Rattle.rtp_dump.specs.Spelling.{record_octets}
use Rattle.rtp_dump.specs.Writing.{written as whole}
use Rattle.rtp_dump.proofs.Written.{front_then_front, front_of_first}
use Rattle.conference_spec.specs.declared.Packet.{Packet}
use Rattle.session_spec.specs.Answer.{packet_octets, tick_text}
use Rattle.desk_run.specs.Handing.{packet_text}
use Rattle.std.proofs.lemmas.List.{take_at, length-append}
use Rattle.std.proofs.lemmas.Slice.{take-put_mid}
use borrow.Rule.Slice.PartMut.{put_mid}
use Rattle.edge_io.specs.Told.{Grows, GrowsByFront}

pub grows_none : (o : Option (List ℕ)) → Grows o o []
grows_none None = refl
grows_none (Some held) = ap Some (sym (append-nil held))

pub grows_append : (o m n : Option (List ℕ)) (xs ys : List ℕ) → Grows o m xs → Grows m n ys → Grows o n (xs ++ ys)
grows_append None m n xs ys a b = let P : Option (List ℕ) → Type 0 = λ x. Grows x n ys in subst P a b
grows_append (Some held) m n xs ys a b =
    let P : Option (List ℕ) → Type 0 = λ x. Grows x n ys in
    subst P a b ∙ ap Some (append_assoc held xs ys)

pub front_all : (o n : Option (List ℕ)) (xs : List ℕ) → Grows o n xs → GrowsByFront o n xs
front_all None n xs a = a
front_all (Some held) n xs a = (length xs, a ∙ ap (λ (ys : List ℕ). Some (held ++ ys)) (sym (take_all (length xs) xs (omega arith))))

-- a head and a payload that were copied one after the other
pub spelled : (first second head octets rest : List ℕ) (k n : ℕ) → first ≡ head → second ≡ octets → length head ≡ 12 → n ≡ 12 + length octets
    → take n (put_mid 12 k (first ++ rest) second) ≡ head ++ octets
spelled first second head octets rest k n one two size len =
    take-put_mid 12 k (first ++ rest) second n (omega (arith, ap length two)) (omega (arith, ap length one, length-append first rest))
    ∙ ap (λ (front : List ℕ). front ++ second) (take_at first rest 12 (ap length one ∙ size))
    ∙ ap (λ (front : List ℕ). front ++ second) one ∙ ap (λ (back : List ℕ). head ++ back) two

take_more : (ps : List Packet) (i : ℕ) (p : Packet) → i < length ps → p ≡ get_or ps i p → take (i + 1) ps ≡ take i ps ++ p ∷ []
take_more ps i p lt is = rw (add-one, take-suc ps i p lt, ← is) refl

-- one more packet
pub text_more : (k i : ℕ) (ps : List Packet) (p : Packet) → i < length ps → p ≡ get_or ps i p
    → tick_text k (take (i + 1) ps) ≡ tick_text k (take i ps) ++ record_octets (whole (20 * (k + 1)) (packet_octets p))
text_more k i ps p lt is =
    let f : Packet → List ℕ = λ q. record_octets (whole (20 * (k + 1)) (packet_octets q)) in
    ap (tick_text k) (take_more ps i p lt is)
    ∙ flat_map-append f (take i ps) (p ∷ [])
    ∙ ap (λ (xs : List ℕ). tick_text k (take i ps) ++ xs) (append-nil (f p))

text_parts : (k n : ℕ) (ps : List Packet) → tick_text k ps ≡ tick_text k (take n ps) ++ tick_text k (drop n ps)
text_parts k n ps =
    let f : Packet → List ℕ = λ q. record_octets (whole (20 * (k + 1)) (packet_octets q)) in
    ap (tick_text k) (sym (take-append-drop n ps)) ∙ flat_map-append f (take n ps) (drop n ps)

pub wrote_more : (o m n : Option (List ℕ)) (k i : ℕ) (ps : List Packet) (p : Packet) → i < length ps → p ≡ get_or ps i p
    → Grows o m (tick_text k (take i ps)) → Grows m n (packet_text k p) → Grows o n (tick_text k (take (i + 1) ps))
wrote_more o m n k i ps p lt is a b =
    subst (λ (text : List ℕ). Grows o n text) (sym (text_more k i ps p lt is)) (grows_append o m n _ _ a b)

pub wrote_front : (o m n : Option (List ℕ)) (k i : ℕ) (ps : List Packet) (p : Packet) → i < length ps → p ≡ get_or ps i p
    → Grows o m (tick_text k (take i ps)) → GrowsByFront m n (packet_text k p) → GrowsByFront o n (tick_text k ps)
wrote_front o m n k i ps p lt is a b =
    let G : List ℕ → Type 0 = λ text. GrowsByFront o n text in
    subst G (sym (text_parts k (i + 1) ps))
    (front_of_first o n (tick_text k (take (i + 1) ps)) (tick_text k (drop (i + 1) ps))
    (subst G (sym (text_more k i ps p lt is)) (front_then_front o m n _ _ a b)))

-- the octets of a packet, as they were spelled
pub put_whole : (m n : Option (List ℕ)) (k : ℕ) (p : Packet) (octets : List ℕ) → octets ≡ packet_octets p → Grows m n (record_octets (whole (20 * (k + 1)) octets)) → Grows m n (packet_text k p)
put_whole m n k p octets same grew = subst (λ (xs : List ℕ). Grows m n (record_octets (whole (20 * (k + 1)) xs))) same grew

pub put_front : (m n : Option (List ℕ)) (k : ℕ) (p : Packet) (octets : List ℕ) → octets ≡ packet_octets p
    → GrowsByFront m n (record_octets (whole (20 * (k + 1)) octets)) → GrowsByFront m n (packet_text k p)
put_front m n k p octets same grew = subst (λ (xs : List ℕ). GrowsByFront m n (record_octets (whole (20 * (k + 1)) xs))) same grew
