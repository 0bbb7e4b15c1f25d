-- What a cut keeps of the mails, where all ticks are collected.
use Rattle.std.proofs.Common.{◌≡◌, ℕ, ◌+◌, ◌-◌, ◌≤◌, inl, inr, false, ◌||◌, List, [], ◌∷◌, length, map, refl, sym, ◌∙◌, ap, arith}
use Rattle.std.specs.Prelude.{◌==◌, nat_lt, unwrap_or, is_none, reverse}
use Rattle.std.specs.List.{filter, flat_map, AllZip}
use Rattle.std.proofs.lemmas.Bool.{cases_Bool, cond_both, cond-true, cond-false, eqb-true, eqb-false, lt-ltb, leb-true, leb-false}
use Rattle.std.proofs.lemmas.List.{append-nil, take_all, length-reverse}
use Rattle.conference_spec.specs.Coding.{Coder, after, after_all}
use Rattle.conference_spec.specs.Feed.{Feed, Guest, guests, closes}
use Rattle.conference_spec.specs.Packets.{packet_with, packets_at}
use Rattle.conference_spec.specs.Base.{base, stays_on, stay_of}
use Rattle.conference_spec.specs.Members.{In}
use Rattle.conference_spec.proofs.Alone.{after-heard}
use Rattle.conference_spec.proofs.Chunks.{late-at}
use Rattle.conference_spec.proofs.Zips.{none-there}
use Rattle.conference_spec.proofs.Sends.{dated, until-dated, none-left}
use Rattle.book_lists.specs.declared.mails.Mail.{Mail}
use Rattle.book_lists.specs.Mailing.{IsMail, Mails, last_of, stay_of_mail, is_kept, stays_kept}
use Rattle.book_lists.proofs.MailingTurns.{last-sent}
use Rattle.book_lists.proofs.MailingWalk.{is_owed, zip-picked, zip-passed}

-- what is left goes out in one packet, or there is nothing
last-some : (m : Mail) → nat_lt 0 (length (last_of m)) ≡ nat_lt 0 (length m.pending)
last-some m =
    cond_both (length m.pending == 0) [] (packet_with m.spec m.sent m.pending ∷ []) (λ out. nat_lt 0 (length out) ≡ nat_lt 0 (length m.pending))
    (λ t. ap (nat_lt 0) (sym (eqb-true (length m.pending) 0 t)))
    (λ t. let some = eqb-false (length m.pending) 0 t in sym (lt-ltb 0 (length m.pending) (omega arith)))

last-payloads : (m : Mail) → flat_map (λ p. p.payload) (last_of m) ≡ m.pending
last-payloads m =
    cond_both (length m.pending == 0) [] (packet_with m.spec m.sent m.pending ∷ []) (λ out. flat_map (λ p. p.payload) out ≡ m.pending)
    (λ t. sym (none-there m.pending (eqb-true (length m.pending) 0 t)))
    (λ t. append-nil m.pending)

kept-stays : (coder : Coder) (k : ℕ) (m : Mail) (g : Guest) → IsMail coder k m g → k ≡ g.listener.from + length g.listener.heard
    → is_kept m ≡ stays_on coder k g
kept-stays coder k m g z e =
    let owed : nat_lt 0 (length m.pending) ≡ nat_lt 0 (length (packets_at coder k g.listener)) =
    sym (last-some m) ∙ ap (λ ps. nat_lt 0 (length ps)) (last-sent coder k m g z e) in
    λ i. is_none (z.left i) || owed i

stay-mail : (coder : Coder) (k : ℕ) (m : Mail) (g : Guest) → IsMail coder k m g → k ≡ g.listener.from + length g.listener.heard
    → stay_of_mail k m ≡ stay_of coder k g
stay-mail coder k m g z e =
    let l = g.listener in
    let f = z.from in
    let ticks : k - m.from ≡ length l.heard = omega arith in
    let all = length-reverse l.heard in
    let state : m.state ≡ after coder l.spec.rate l.first l.heard =
    z.state ∙ ap (after_all coder l.spec.rate l.first) (take_all (k - m.from) (reverse l.heard) (omega arith))
    ∙ sym (after-heard coder l.spec.rate l.first l.heard) in
    let pending : m.pending ≡ flat_map (λ p. p.payload) (packets_at coder k l) =
    sym (last-payloads m) ∙ ap (flat_map (λ p. p.payload)) (last-sent coder k m g z e) in
    λ i. record { spec = z.spec i; from = z.from i; is_here = is_none (z.left i); ticks = ticks i; state = state i; pending = pending i }

-- whoever left before isn't kept
past-stays : (coder : Coder) (k : ℕ) (g : Guest) → unwrap_or g.left k ≡ g.listener.from + length g.listener.heard → is_owed k k g ≡ false
    → stays_on coder k g ≡ false
past-stays coder k g at t =
    let lt = leb-false k (unwrap_or g.left k) t in
    let none = late-at coder g.listener k (omega arith) in
    let gone : is_none g.left ≡ false = elim (cases_Bool (is_none g.left)) [
      | inl here ↦ let e = none-left g.left k here in absurd (omega arith)
      | inr gone ↦ gone
    ] in
    λ i. gone i || nat_lt 0 (length (none i))

stays-mails : (coder : Coder) (k : ℕ) (gs : List Guest) (ms : List Mail)
    → ((g : Guest) → In g gs → unwrap_or g.left k ≡ g.listener.from + length g.listener.heard)
    → ((g : Guest) → In g gs → g.listener.from + length g.listener.heard ≤ k)
    → AllZip (IsMail coder k) ms (filter (is_owed k k) gs) → stays_kept k ms ≡ map (stay_of coder k) (filter (stays_on coder k) gs)
stays-mails coder k [] [] d w z = refl
stays-mails coder k [] (m ∷ ms) d w z = absurd z
stays-mails coder k (g ∷ gs) ms d w z =
    let at = d g (inl refl) in
    let within = w g (inl refl) in
    let d' = λ (y : Guest) (i : In y gs). d y (inr i) in
    let w' = λ (y : Guest) (i : In y gs). w y (inr i) in
    let p = stays_on coder k in
    elim (cases_Bool (is_owed k k g)) [
      | inl t ↦
          let le = leb-true k (unwrap_or g.left k) t in
          let x = zip-picked (IsMail coder k) (is_owed k k) ms g gs t z in
          let e : k ≡ g.listener.from + length g.listener.heard = omega arith in
          let m = x.head in
          let same = kept-stays coder k m g x.one e in
          let ih = stays-mails coder k gs x.others d' w' x.rest in
          ap (stays_kept k) x.whole
          ∙ elim (cases_Bool (p g)) [
            | inl u ↦
                ap (map (stay_of_mail k)) (cond-true (is_kept m) (m ∷ filter is_kept x.others) (filter is_kept x.others) (same ∙ u))
                ∙ (λ i. stay-mail coder k m g x.one e i ∷ ih i)
                ∙ sym (ap (map (stay_of coder k)) (cond-true (p g) (g ∷ filter p gs) (filter p gs) u))
            | inr u ↦
                ap (map (stay_of_mail k)) (cond-false (is_kept m) (m ∷ filter is_kept x.others) (filter is_kept x.others) (same ∙ u))
                ∙ ih
                ∙ sym (ap (map (stay_of coder k)) (cond-false (p g) (g ∷ filter p gs) (filter p gs) u))
          ]
      | inr t ↦
          stays-mails coder k gs ms d' w' (zip-passed (IsMail coder k) (is_owed k k) ms g gs t z)
          ∙ sym (ap (map (stay_of coder k)) (cond-false (p g) (g ∷ filter p gs) (filter p gs) (past-stays coder k g at t)))
    ]

pub mails-stays : (coder : Coder) (h : Feed) (ms : List Mail) → Mails coder (closes h) h ms → stays_kept (closes h) ms ≡ (base coder h).stays
mails-stays coder h ms z = stays-mails coder (closes h) (guests coder h) ms (until-dated coder h) (λ g i. (dated coder h g i).within) z
