-- Octets that were copied one after the other.
use Rattle.std.proofs.Common.{◌≡◌, ◌∙◌, ℕ, ◌+◌, ◌*◌, List, ◌++◌, length, take, refl, ap, sym, arith}
use Rattle.std.proofs.lemmas.List.{take_at, length-append}
use Rattle.std.proofs.lemmas.Slice.{take-put_mid}
use borrow.Rule.Slice.PartMut.{put_mid}
use Rattle.rtp_dump.specs.Spelling.{record_octets}
use Rattle.rtp_dump.specs.Writing.{written}
use Rattle.conference_spec.specs.declared.Packet.{Packet}
use Rattle.session_spec.specs.Answer.{packet_octets}
use Rattle.desk_run.specs.Handing.{packet_text}

-- a head and what follows it, that were copied to the front
pub spelled : (first second head octets rest : List ℕ) (m k n : ℕ) → first ≡ head → second ≡ octets → length head ≡ m → n ≡ m + length octets
    → take n (put_mid m k (first ++ rest) second) ≡ head ++ octets
spelled first second head octets rest m k n one two size len =
    take-put_mid m k (first ++ rest) second n (omega (arith, ap length two)) (omega (arith, ap length one, length-append first rest))
    ∙ ap (λ (front : List ℕ). front ++ second) (take_at first rest m (ap length one ∙ size))
    ∙ ap (λ (front : List ℕ). front ++ second) one ∙ ap (λ (back : List ℕ). head ++ back) two

-- a record's head and a packet are the packet's record
pub record-spelled : (tick : ℕ) (p : Packet) (head octets text : List ℕ) → text ≡ head ++ octets → octets ≡ packet_octets p
    → head ++ octets ≡ record_octets (written (20 * (tick + 1)) octets) → text ≡ packet_text tick p
record-spelled tick p head octets text joined is spelt =
    joined ∙ spelt ∙ ap (λ (xs : List ℕ). record_octets (written (20 * (tick + 1)) xs)) is
