-- One mail's turn after another, and the packets that are left.
use Rattle.std.proofs.Common.{zero, suc, ◌≡◌, ℕ, ◌+◌, ◌-◌, ◌≤◌, ◌<◌, true, List, [], ◌∷◌, ◌++◌, length, get_or, drop, refl, sym, ◌∙◌, ap, subst, arith, append_assoc, append-nil, add-one}
use Rattle.std.proofs.Math.Seq.{drop-cons}
use Rattle.std.specs.Prelude.{◌==◌, nat_lt, slice_get, Option, Some, if◌then◌else◌}
use Rattle.std.specs.List.{AllZip, flat_map}
use Rattle.std.proofs.lemmas.Bool.{cond-true, cond-false, le-ltb, eq-eqb, ne_eqb}
use Rattle.g726_bits.specs.State.{CodecState}
use Rattle.triple_table.specs.Rows.{Row}
use Rattle.conference_spec.specs.declared.Packet.{Packet}
use Rattle.conference_spec.specs.Codec.{g726}
use Rattle.conference_spec.specs.Packets.{packet_with}
use Rattle.book_lists.specs.declared.mails.Mail.{Mail}
use Rattle.book_lists.specs.declared.seats.Seat.{Seat}
use Rattle.book_lists.specs.Mailing.{Turned, IsResultOf, turned, turned_there, walked, with_result, goes_out, last_of, leaves_after}
use Rattle.tick_core.specs.Posting.{Turns, Walks}

-- a finished run's result
pub record IsMade (rows : List Row) (at : ℕ) (state : CodecState) (payload : List ℕ) : Type 0 where
  pub row : Row
  pub there : slice_get rows at ≡ Some row
  pub state_is : state ≡ (g726.encoded row.triple.rate row.triple.state row.triple.mix).0
  pub payload_is : payload ≡ (g726.encoded row.triple.rate row.triple.state row.triple.mix).1

-- a seat has one result alone
one-result : (rows : List Row) (at : ℕ) (state : CodecState) (payload : List ℕ) (r : CodecState × List ℕ) → IsMade rows at state payload
    → IsResultOf g726 rows (Some at) r → r ≡ (state, payload)
one-result rows at state payload r made is =
    let both : Some is.0 ≡ Some made.row = sym is.1 ∙ made.there in
    let one : is.0 ≡ made.row = cc in
    is.2 ∙ ap (λ (q : Row). g726.encoded q.triple.rate q.triple.state q.triple.mix) one ∙ (λ i. (sym made.state_is i, sym made.payload_is i))

-- a mail whose listener was there takes the next result
pub turns-there : (k : ℕ) (rows : List Row) (s : Seat) (ss : List Seat) (m m' : Mail) (ps ps' : List Packet) (at : ℕ) (state : CodecState) (payload : List ℕ)
    → m.from ≤ k → leaves_after k m.left ≡ true → s.run ≡ Some at → IsMade rows at state payload → m' ≡ with_result m (state, payload)
    → ps' ≡ ps ++ goes_out m (state, payload)
    → Turns k rows (s ∷ ss) m ps m' ss ps'
turns-there k rows s ss m m' ps ps' at state payload le there run made mail packets [] z = absurd z
turns-there k rows s ss m m' ps ps' at state payload le there run made mail packets (r ∷ rs) z =
    let gone : Turned = record { mail = m; packets = last_of m; results = r ∷ rs } in
    let waits : Turned = record { mail = m; packets = []; results = r ∷ rs } in
    let e : r ≡ (state, payload) = one-result rows at state payload r made (subst (λ (o : Option ℕ). IsResultOf g726 rows o r) run z.0) in
    let is : turned k m (r ∷ rs) ≡ turned_there m ((state, payload) ∷ rs) =
    cond-false (nat_lt k m.from) waits (if leaves_after k m.left then turned_there m (r ∷ rs) else gone) (le-ltb k m.from le)
    ∙ cond-true (leaves_after k m.left) (turned_there m (r ∷ rs)) gone there
    ∙ ap (λ (q : CodecState × List ℕ). turned_there m (q ∷ rs)) e in (
      mail ∙ sym (ap (λ (t : Turned). t.mail) is),
      packets ∙ sym (ap (λ (t : Turned). ps ++ t.packets) is),
      subst (λ (qs : List (CodecState × List ℕ)). AllZip (λ s r. IsResultOf g726 rows s.run r) ss qs) (sym (ap (λ (t : Turned). t.results) is)) z.1,
    )

-- the first mail's turn, and those of the others
pub walks-on : (k : ℕ) (rows : List Row) (ss ss' : List Seat) (m m' : Mail) (ms ms' : List Mail) (ps ps' ps'' : List Packet)
    → Turns k rows ss m ps m' ss' ps' → Walks k rows ss' ms ps' ms' ps'' → Walks k rows ss (m ∷ ms) ps (m' ∷ ms') ps''
walks-on k rows ss ss' m m' ms ms' ps ps' ps'' turns walks rs z =
    let t = turned k m rs in
    let one = turns rs z in
    let all = walks t.results one.2 in (
      (λ i. one.0 i ∷ all.0 i),
      all.1 ∙ ap (λ (qs : List Packet). qs ++ (walked k ms t.results).packets) one.1 ∙ append_assoc ps t.packets (walked k ms t.results).packets,
    )

pub walks-none : (k : ℕ) (rows : List Row) (ss : List Seat) (ps : List Packet) → Walks k rows ss [] ps [] ps
walks-none k rows ss ps rs z = (refl, sym (append-nil ps))

-- ---- what is left ----

-- the next mail's part
pub last-next : (ms : List Mail) (i : ℕ) (m : Mail) → i < length ms → m ≡ get_or ms i m
    → flat_map last_of (drop i ms) ≡ last_of m ++ flat_map last_of (drop (i + 1) ms)
last-next ms i m lt is =
    ap (flat_map last_of) (drop-cons ms i m lt)
    ∙ ap (λ (w : Mail). last_of w ++ flat_map last_of (drop (suc i) ms)) (sym is)
    ∙ ap (λ (n : ℕ). last_of m ++ flat_map last_of (drop n ms)) (sym (add-one i))

last-none : (m : Mail) → length m.pending ≡ 0 → last_of m ≡ []
last-none m e = cond-true (length m.pending == 0) [] (packet_with m.spec m.sent m.pending ∷ []) (eq-eqb (length m.pending) 0 e)

last-some : (m : Mail) → 0 < length m.pending → last_of m ≡ packet_with m.spec m.sent m.pending ∷ []
last-some m lt = cond-false (length m.pending == 0) [] (packet_with m.spec m.sent m.pending ∷ []) (ne_eqb (length m.pending) 0 (λ e. omega arith))

get-behind : {X : Type 0} (x : X) (xs : List X) (n : ℕ) → 0 < n → slice_get (x ∷ xs) n ≡ slice_get xs (n - 1)
get-behind {X} x xs n lt =
    let at : (n : ℕ) → 0 < n → slice_get (x ∷ xs) n ≡ slice_get xs (n - 1) = elim [
      | zero ↦ λ lt. absurd (omega arith)
      | suc n ↦ λ lt. (let e : n ≡ suc n - 1 = omega arith in ap (slice_get xs) e)
    ] in
    at n lt

-- a packet is ahead, at this place among those of the mails from the i-th on
pub record IsAhead (ms : List Mail) (at i n : ℕ) : Type 0 where
  pub ahead : n < length (flat_map last_of (drop i ms))
  pub there : slice_get (flat_map last_of ms) at ≡ slice_get (flat_map last_of (drop i ms)) n

pub skip-mail : (ms : List Mail) (at i n n' : ℕ) (m : Mail) → i < length ms → m ≡ get_or ms i m → length m.pending ≤ 0 → n' ≡ n
    → n < length (flat_map last_of (drop i ms)) → slice_get (flat_map last_of ms) at ≡ slice_get (flat_map last_of (drop i ms)) n → IsAhead ms at (i + 1) n'
skip-mail ms at i n n' m lt is none same ahead there =
    let e : flat_map last_of (drop i ms) ≡ flat_map last_of (drop (i + 1) ms) =
    last-next ms i m lt is ∙ ap (λ (ps : List Packet). ps ++ flat_map last_of (drop (i + 1) ms)) (last-none m (omega arith)) in
    let l = ap length e in
    record { ahead = omega arith; there = there ∙ (λ j. slice_get (e j) (sym same j)) }

pub pass-mail : (ms : List Mail) (at i n n' : ℕ) (m : Mail) → i < length ms → m ≡ get_or ms i m → 0 < length m.pending → 0 < n → n' ≡ n - 1
    → n < length (flat_map last_of (drop i ms)) → slice_get (flat_map last_of ms) at ≡ slice_get (flat_map last_of (drop i ms)) n → IsAhead ms at (i + 1) n'
pass-mail ms at i n n' m lt is some behind less ahead there =
    let rest = flat_map last_of (drop (i + 1) ms) in
    let p = packet_with m.spec m.sent m.pending in
    let e : flat_map last_of (drop i ms) ≡ p ∷ rest = last-next ms i m lt is ∙ ap (λ (ps : List Packet). ps ++ rest) (last-some m some) in
    let l = ap length e in
    record { ahead = omega arith; there = there ∙ (ap (λ (ps : List Packet). slice_get ps n) e ∙ (get-behind p rest n behind ∙ ap (slice_get rest) (sym less))) }
