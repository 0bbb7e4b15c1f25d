-- One mail at a tick.
use Rattle.std.proofs.Common.{suc, ◌≡◌, ℕ, ◌+◌, ◌-◌, ◌*◌, ◌≤◌, ◌<◌, List, [], ◌∷◌, ◌++◌, length, sym, ◌∙◌, ap, subst, arith, take, drop, length-append}
use Rattle.std.specs.Prelude.{◌==◌, reverse}
use Rattle.std.proofs.lemmas.Bool.{cond_both, eqb-true, eqb-false}
use Rattle.std.proofs.lemmas.List.{length-take, drop-append-le, drop_all, take_all}
use Rattle.std.proofs.Math.Nat.{mul-suc}
use Rattle.g726_bits.specs.State.{CodecState}
use Rattle.conference_spec.specs.Coding.{Coder, after_all}
use Rattle.conference_spec.specs.Feed.{Guest}
use Rattle.conference_spec.specs.Packets.{payloads_a_packet, own_payloads, packet_with, packets_at}
use Rattle.book_lists.specs.declared.mails.Mail.{Mail}
use Rattle.book_lists.specs.Mailing.{IsMail, fills, with_result, goes_out, last_of}
use Rattle.conference_spec.proofs.Alone.{length-own}
use Rattle.conference_spec.proofs.Chunks.{full-at, waits-at, last-at, none-left-at}

-- the result is what the guest's own encoder makes at tick k, of which the payload is the next of its payloads
pub record IsNext (coder : Coder) (k : ℕ) (r : CodecState × List ℕ) (g : Guest) : Type 0 where
  pub came : g.listener.from ≤ k
  pub there : k < g.listener.from + length g.listener.heard
  pub payload : take (k + 1 - g.listener.from) (own_payloads coder g.listener) ≡ take (k - g.listener.from) (own_payloads coder g.listener) ++ r.1 ∷ []
  pub state : r.0 ≡ after_all coder g.listener.spec.rate g.listener.first (take (k + 1 - g.listener.from) (reverse g.listener.heard))

-- what a mail has pending, with the next payload
pub more-pending : (coder : Coder) (k : ℕ) (m : Mail) (r : CodecState × List ℕ) (g : Guest) → IsMail coder k m g → IsNext coder k r g
    → m.pending ++ r.1 ∷ [] ≡ drop (payloads_a_packet m.spec * m.sent) (take (k + 1 - m.from) (own_payloads coder g.listener))
more-pending coder k m r g z x =
    let ps = own_payloads coder g.listener in
    let n = length-own coder g.listener in
    let t = length-take (k - m.from) ps in
    let c = z.count in
    let f = z.from in
    let lt = x.there in
    let le = x.came in
    let P : ℕ → Type 0 = λ f. take (k + 1 - f) ps ≡ take (k - f) ps ++ r.1 ∷ [] in
    ap (λ qs. qs ++ r.1 ∷ []) z.pending
    ∙ sym (drop-append-le (payloads_a_packet m.spec * m.sent) (take (k - m.from) ps) (r.1 ∷ []) (omega arith))
    ∙ ap (drop (payloads_a_packet m.spec * m.sent)) (sym (subst P (sym z.from) x.payload))

-- the mail after its result
pub next-mail : (coder : Coder) (k : ℕ) (m : Mail) (r : CodecState × List ℕ) (g : Guest) → IsMail coder k m g → IsNext coder k r g
    → IsMail coder (k + 1) (with_result m r) g
next-mail coder k m r g z x =
    let l = g.listener in
    let ps = own_payloads coder l in
    let b = payloads_a_packet m.spec in
    let c = z.count in
    let f = z.from in
    let le = x.came in
    let s = z.short in
    let state : r.0 ≡ after_all coder l.spec.rate l.first (take (k + 1 - m.from) (reverse l.heard)) =
    (let P : ℕ → Type 0 = λ f. r.0 ≡ after_all coder l.spec.rate l.first (take (k + 1 - f) (reverse l.heard)) in subst P (sym z.from) x.state) in
    let full : Mail = record m { sent = m.sent + 1; pending = []; state = r.0 } in
    let more : Mail = record m { pending = m.pending ++ r.1 ∷ []; state = r.0 } in
    let n = length-append m.pending (r.1 ∷ []) in
    cond_both (fills m) full more (λ w. IsMail coder (k + 1) w g)
    (λ t.
    let e = eqb-true (length m.pending + 1) b t in
    let p : b * (m.sent + 1) ≡ b * m.sent + b = ap (λ j. b * j) (let q : m.sent + 1 ≡ suc m.sent = omega arith in q) ∙ mul-suc b m.sent in
    let all = length-take (k + 1 - m.from) ps in
    record {
      spec = z.spec;
      from = z.from;
      left = z.left;
      short = omega arith;
      count = omega arith;
      pending = sym (drop_all (b * (m.sent + 1)) (take (k + 1 - m.from) ps) (omega arith));
      state = state;
    })
    (λ t.
    let ne = eqb-false (length m.pending + 1) b t in
    record { spec = z.spec; from = z.from; left = z.left; short = omega arith; count = omega arith; pending = more-pending coder k m r g z x; state = state })

-- what goes out with the result is what the guest is sent at the tick
pub next-sent : (coder : Coder) (k : ℕ) (m : Mail) (r : CodecState × List ℕ) (g : Guest) → IsMail coder k m g → IsNext coder k r g
    → goes_out m r ≡ packets_at coder k g.listener
next-sent coder k m r g z x =
    let l = g.listener in
    let ps = own_payloads coder l in
    let b = payloads_a_packet m.spec in
    let j = k - l.from in
    let c = z.count in
    let f = z.from in
    let le = x.came in
    let lt = x.there in
    let s = z.short in
    let at : l.from + j ≡ k = omega arith in
    let same : b ≡ payloads_a_packet l.spec = ap payloads_a_packet z.spec in
    let prod : b * m.sent ≡ payloads_a_packet l.spec * m.sent = ap (λ w. w * m.sent) same in
    cond_both (fills m) (packet_with m.spec m.sent (m.pending ++ r.1 ∷ []) ∷ []) [] (λ out. out ≡ packets_at coder k l)
    (λ t.
    let e = eqb-true (length m.pending + 1) b t in
    let last : k + 1 - m.from ≡ j + 1 = omega arith in
    ap (λ w. packet_with w m.sent (m.pending ++ r.1 ∷ []) ∷ []) z.spec
    ∙ ap (λ qs. packet_with l.spec m.sent qs ∷ [])
    (more-pending coder k m r g z x ∙ ap (λ w. drop w (take (k + 1 - m.from) ps)) prod ∙ ap (λ w. drop (payloads_a_packet l.spec * m.sent) (take w ps)) last)
    ∙ sym (full-at coder l m.sent j (omega arith) (omega arith))
    ∙ ap (λ w. packets_at coder w l) at)
    (λ t.
    let ne = eqb-false (length m.pending + 1) b t in
    sym (waits-at coder l m.sent j (omega arith) (omega arith) (omega arith)) ∙ ap (λ w. packets_at coder w l) at)

-- what is left goes out at the tick after the last one that the guest heard
pub last-sent : (coder : Coder) (k : ℕ) (m : Mail) (g : Guest) → IsMail coder k m g → k ≡ g.listener.from + length g.listener.heard
    → last_of m ≡ packets_at coder k g.listener
last-sent coder k m g z e =
    let l = g.listener in
    let ps = own_payloads coder l in
    let b = payloads_a_packet m.spec in
    let c = z.count in
    let f = z.from in
    let s = z.short in
    let same : b ≡ payloads_a_packet l.spec = ap payloads_a_packet z.spec in
    let prod : b * m.sent ≡ payloads_a_packet l.spec * m.sent = ap (λ w. w * m.sent) same in
    let n = length-own coder l in
    cond_both (length m.pending == 0) [] (packet_with m.spec m.sent m.pending ∷ []) (λ out. out ≡ packets_at coder k l)
    (λ t.
    let none = eqb-true (length m.pending) 0 t in
    sym (none-left-at coder l m.sent (omega arith)) ∙ ap (λ w. packets_at coder w l) (sym e))
    (λ t.
    let some = eqb-false (length m.pending) 0 t in
    ap (λ w. packet_with w m.sent m.pending ∷ []) z.spec
    ∙ ap (λ qs. packet_with l.spec m.sent qs ∷ [])
    (z.pending ∙ ap (λ w. drop w (take (k - m.from) ps)) prod ∙ ap (drop (payloads_a_packet l.spec * m.sent)) (take_all (k - m.from) ps (omega arith)))
    ∙ sym (last-at coder l m.sent (omega arith) (omega arith))
    ∙ ap (λ w. packets_at coder w l) (sym e))
