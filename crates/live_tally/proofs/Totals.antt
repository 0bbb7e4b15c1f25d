-- What each member was sent, with one packet more.
use Rattle.std.proofs.Common.{◌≡◌, ◌∙◌, ℕ, ◌+◌, ◌%◌, ◌^◌, List, [], ◌∷◌, ◌++◌, length, refl, sym, ap, arith, Option, Some, inl, inr}
use Rattle.std.specs.Prelude.{◌==◌, if◌then◌else◌}
use Rattle.std.specs.List.{flat_map}
use Rattle.std.proofs.lemmas.Bool.{cases_Bool, cond-true, cond-false, eqb-true}
use Rattle.std.proofs.lemmas.List.{append-nil, length-append}
use Rattle.std.proofs.lemmas.List.Elements.{filter-append}
use Rattle.conference_spec.specs.declared.Packet.{Packet}
use Rattle.session_spec.specs.Laws.{packets_to}
use Rattle.live_spec.specs.Reports.{payload_len}
use Rattle.live_tally.specs.declared.account.Total.{Total}
use Rattle.live_tally.specs.Accounts.{with_packet}
use Rattle.live_tally.specs.Kept.{total_of}

abbrev len_of : Packet → ℕ
len_of p = length (flat_map (λ octets. octets) p.payload)

len-append : (ps : List Packet) (p : Packet) → payload_len (ps ++ p ∷ []) ≡ payload_len ps + len_of p
len-append [] p = omega arith
len-append (x ∷ ps) p = omega (arith, len-append ps p)

more-modulo : (n m : ℕ) → (n + m) % 2 ^ 32 ≡ (n % 2 ^ 32 + m) % 2 ^ 32
more-modulo n m = omega arith

total-more : (ps : List Packet) (p : Packet) → total_of (ps ++ p ∷ []) ≡ Some (with_packet (total_of ps) (len_of p))
total-more [] p =
    let len : (len_of p + 0) % 2 ^ 32 ≡ len_of p % 2 ^ 32 = omega arith in
    rw len refl
total-more (x ∷ ps) p =
    let count : length (x ∷ (ps ++ p ∷ [])) % 2 ^ 32 ≡ (length (x ∷ ps) % 2 ^ 32 + 1) % 2 ^ 32 =
    ap (λ n. n % 2 ^ 32) (length-append (x ∷ ps) (p ∷ [])) ∙ more-modulo (length (x ∷ ps)) 1 in
    let octets : payload_len (x ∷ (ps ++ p ∷ [])) % 2 ^ 32 ≡ (payload_len (x ∷ ps) % 2 ^ 32 + len_of p) % 2 ^ 32 =
    ap (λ n. n % 2 ^ 32) (len-append (x ∷ ps) p) ∙ more-modulo (payload_len (x ∷ ps)) (len_of p) in
    rw (count, octets) refl

-- the totals, one of which has a packet more, are those of the packets with this one
pub counted : (total new : ℕ → Option Total) (packets : List Packet) (p : Packet) → ((q : ℕ) → total q ≡ total_of (packets_to q packets)) →
    ((q : ℕ) → new q ≡ (if p.member == q then Some (with_packet (total p.member) (len_of p)) else total q)) →
    (q : ℕ) → new q ≡ total_of (packets_to q (packets ++ p ∷ []))
counted total new packets p are is q =
    let both : packets_to q (packets ++ p ∷ []) ≡ packets_to q packets ++ packets_to q (p ∷ []) = filter-append (λ (x : Packet). x.member == q) packets (p ∷ []) in
    elim (cases_Bool (p.member == q)) [
      | inl t ↦
          let same : p.member ≡ q = eqb-true p.member q t in
          let own : packets_to q (p ∷ []) ≡ p ∷ [] = cond-true {A = List Packet} (p.member == q) (p ∷ []) [] t in
          is q ∙ cond-true {A = Option Total} (p.member == q) (Some (with_packet (total p.member) (len_of p))) (total q) t
          ∙ ap (λ m. Some (with_packet (total m) (len_of p))) same
          ∙ ap (λ o. Some (with_packet o (len_of p))) (are q)
          ∙ sym (ap total_of (both ∙ ap (λ ps. packets_to q packets ++ ps) own) ∙ total-more (packets_to q packets) p)
      | inr t ↦
          let none : packets_to q (p ∷ []) ≡ [] = cond-false {A = List Packet} (p.member == q) (p ∷ []) [] t in
          is q ∙ cond-false {A = Option Total} (p.member == q) (Some (with_packet (total p.member) (len_of p))) (total q) t
          ∙ are q
          ∙ sym (ap total_of (both ∙ ap (λ ps. packets_to q packets ++ ps) none ∙ append-nil (packets_to q packets)))
    ]
