-- What is written is parsed to the same head.
use Rattle.std.proofs.Common.{◌≡◌, ◌≤◌, ◌+◌, ◌++◌, ℕ, List, length, Ok, refl, ap, arith, Bool, true, false}
use Rattle.std.proofs.lemmas.Bool.{le-ltb}
use Rattle.std.specs.Prelude.{◌/◌, ◌%◌, ◌==◌, nat_lt, if◌then◌else◌}
use Rattle.byteorder.specs.Endian.{big_bytes}
use Rattle.byteorder.specs.Numbers.{big_number-reads_back}
use Rattle.rtp_head.specs.declared.Head.{Head}
use Rattle.rtp_head.specs.Rtp.{Fits, head_octets, rtp, head_of}

-- a head by its fields
abbrev pub head_with : Bool → ℕ → ℕ → ℕ → ℕ → Head
head_with marker pt seq stamp ssrc = record { marker = marker; pt = pt; seq = seq; stamp = stamp; ssrc = ssrc }

-- the second octet gives the marker back
pub marker-second : (marker : Bool) (pt : ℕ) → pt ≤ 127 → ((if marker then 128 + pt else pt) / 128 == 1) ≡ marker
marker-second true pt h = let e : (128 + pt) / 128 ≡ 1 = omega arith in rw e refl
marker-second false pt h = let e : pt / 128 ≡ 0 = omega arith in rw e refl

-- and the payload type
pub pt-second : (marker : Bool) (pt : ℕ) → pt ≤ 127 → (if marker then 128 + pt else pt) % 128 ≡ pt
pt-second true pt h = omega arith
pt-second false pt h = omega arith

-- heads with equal fields
pub same_head : (head : Head) (marker : Bool) (pt seq stamp ssrc : ℕ)
    → marker ≡ head.marker → pt ≡ head.pt → seq ≡ head.seq → stamp ≡ head.stamp → ssrc ≡ head.ssrc
    → head_with marker pt seq stamp ssrc ≡ head
same_head head marker pt seq stamp ssrc a b c d e = rw (a, b, c, d, e) refl

-- the fields come back
pub head_of-head_octets : (head : Head) (payload : List ℕ) → Fits head → head_of (head_octets head ++ payload) ≡ head
head_of-head_octets head payload fits =
    same_head head _ _ _ _ _
    (marker-second head.marker head.pt (omega arith))
    (pt-second head.marker head.pt (omega arith))
    (big_number-reads_back 2 head.seq (big_bytes 4 head.stamp ++ big_bytes 4 head.ssrc ++ payload) fits.seq)
    (big_number-reads_back 4 head.stamp (big_bytes 4 head.ssrc ++ payload) fits.stamp)
    (big_number-reads_back 4 head.ssrc payload fits.ssrc)

-- the octets of a head, with a payload behind them, are a packet
pub rtp-head_octets : (head : Head) (payload : List ℕ) → Fits head
    → rtp (head_octets head ++ payload) ≡ Ok (record { head = head; from = 12; to = 12 + length payload })
rtp-head_octets head payload fits =
    let same = head_of-head_octets head payload fits in
    let long : nat_lt (length (head_octets head ++ payload)) 12 ≡ false = le-ltb _ _ (omega arith) in
    rw (long, same) (ap (λ (to : ℕ). Ok (record { head = head; from = 12; to = to })) (omega arith))

-- the same of octets that are known to be the head's
pub rtp-written : (out : List ℕ) (head : Head) (payload : List ℕ) → out ≡ head_octets head → Fits head
    → rtp (out ++ payload) ≡ Ok (record { head = head; from = 12; to = 12 + length payload })
rtp-written out head payload same fits = rw same (rtp-head_octets head payload fits)
