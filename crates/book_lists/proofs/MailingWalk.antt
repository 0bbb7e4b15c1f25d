-- All mails at a tick.
use Rattle.std.proofs.Common.{◌≡◌, ℕ, ◌+◌, ◌-◌, ◌*◌, ◌≤◌, ◌<◌, inl, inr, Bool, true, false, if◌then◌else◌, List, [], ◌∷◌, ◌++◌, length, take, drop}
use Rattle.std.proofs.Common.{refl, sym, ◌∙◌, ap, subst, arith, Option, Some, None}
use Rattle.std.specs.Prelude.{nat_lt, nat_le, unwrap_or, reverse}
use Rattle.std.specs.List.{filter, flat_map, AllZip}
use Rattle.std.proofs.lemmas.Bool.{cases_Bool, cond-true, cond-false, ltb-true, ltb-false, leb-true, leb-false, lt-ltb, le-ltb, le-leb, lt-leb}
use Rattle.std.proofs.lemmas.Bool.{and_from, and_left, and_right}
use Rattle.g726_bits.specs.State.{CodecState}
use Rattle.conference_spec.specs.Coding.{Coder, after_all}
use Rattle.conference_spec.specs.Feed.{Guest, is_at}
use Rattle.conference_spec.specs.Packets.{packets_at, own_payloads, payloads_a_packet}
use Rattle.conference_spec.specs.Members.{In}
use Rattle.book_lists.specs.declared.mails.Mail.{Mail}
use Rattle.book_lists.specs.Mailing.{IsMail, Turned, Walked, turned, turned_there, walked, put_first, still_open, leaves_after, with_result, goes_out, last_of}
use Rattle.conference_spec.proofs.Chunks.{early-at, late-at}
use Rattle.book_lists.proofs.MailingTurns.{IsNext, next-mail, next-sent, last-sent}

-- ---- lists that go with a filtered one ----

-- the next of the filtered list goes with the first of the other
pub record First {A : Type 0} {B : Type 0} (R : A → B → Type 0) (xs : List A) (y : B) (ys : List B) : Type 0 where
  pub head : A
  pub others : List A
  pub whole : xs ≡ head ∷ others
  pub one : R head y
  pub rest : AllZip R others ys

pub zip-first : {A B : Type 0} (R : A → B → Type 0) (xs : List A) (y : B) (ys : List B) → AllZip R xs (y ∷ ys) → First R xs y ys
zip-first R [] y ys z = absurd z
zip-first R (x ∷ xs) y ys z = record { head = x; others = xs; whole = refl; one = z.0; rest = z.1 }

pub zip-picked : {A B : Type 0} (R : A → B → Type 0) (p : B → Bool) (xs : List A) (y : B) (ys : List B) → p y ≡ true → AllZip R xs (filter p (y ∷ ys))
    → First R xs y (filter p ys)
zip-picked {A} {B} R p xs y ys t z =
    let P : List B → Type 0 = λ bs. AllZip R xs bs in
    zip-first R xs y (filter p ys) (subst P (cond-true (p y) (y ∷ filter p ys) (filter p ys) t) z)

pub zip-passed : {A B : Type 0} (R : A → B → Type 0) (p : B → Bool) (xs : List A) (y : B) (ys : List B) → p y ≡ false → AllZip R xs (filter p (y ∷ ys))
    → AllZip R xs (filter p ys)
zip-passed {A} {B} R p xs y ys t z =
    let P : List B → Type 0 = λ bs. AllZip R xs bs in subst P (cond-false (p y) (y ∷ filter p ys) (filter p ys) t) z

pub pick-zip : {A B : Type 0} (R : A → B → Type 0) (p : B → Bool) (x : A) (xs : List A) (y : B) (ys : List B) → p y ≡ true → R x y → AllZip R xs (filter p ys)
    → AllZip R (x ∷ xs) (filter p (y ∷ ys))
pick-zip {A} {B} R p x xs y ys t r z =
    let P : List B → Type 0 = λ bs. AllZip R (x ∷ xs) bs in subst P (sym (cond-true (p y) (y ∷ filter p ys) (filter p ys) t)) (r, z)

pub pass-zip : {A B : Type 0} (R : A → B → Type 0) (p : B → Bool) (xs : List A) (y : B) (ys : List B) → p y ≡ false → AllZip R xs (filter p ys)
    → AllZip R xs (filter p (y ∷ ys))
pass-zip {A} {B} R p xs y ys t z =
    let P : List B → Type 0 = λ bs. AllZip R xs bs in subst P (sym (cond-false (p y) (y ∷ filter p ys) (filter p ys) t)) z

-- ---- guests of a tick ----

-- who is owed something at tick k or later, where so many ticks are closed
abbrev pub is_owed : ℕ → ℕ → Guest → Bool
is_owed k closed g = nat_le k (unwrap_or g.left closed)

-- it heard the ticks from its join to its leave, or so far
abbrev pub IsDated : ℕ → Guest → Type 0
IsDated closed g = unwrap_or g.left closed ≡ g.listener.from + length g.listener.heard

pub leaves-until : (k closed : ℕ) (left : Option ℕ) → k < closed → leaves_after k left ≡ nat_lt k (unwrap_or left closed)
leaves-until k closed None lt = sym (lt-ltb k closed lt)
leaves-until k closed (Some n) lt = refl

-- ---- one mail in front of the others ----

-- what is to be shown of mails at tick k
pub record Walks (coder : Coder) (k closed : ℕ) (gs : List Guest) (w : Walked) : Type 0 where
  pub packets : w.packets ≡ flat_map (λ g. packets_at coder k g.listener) gs
  pub mails : AllZip (IsMail coder (k + 1)) (still_open k w.mails) (filter (is_owed (k + 1) closed) gs)

-- the walk by its first turn
pub walk-turn : (k : ℕ) (m : Mail) (ms : List Mail) (rs : List (CodecState × List ℕ)) (t : Turned) → turned k m rs ≡ t
    → walked k (m ∷ ms) rs ≡ put_first t (walked k ms t.results)
walk-turn k m ms rs t e = ap (λ t. put_first t (walked k ms t.results)) e

-- a mail that stays, in front
pub walks-on : (coder : Coder) (k closed : ℕ) (g : Guest) (gs : List Guest) (t : Turned) (w : Walked) → Walks coder k closed gs w
    → t.packets ≡ packets_at coder k g.listener → IsMail coder (k + 1) t.mail g → leaves_after k t.mail.left ≡ true → is_owed (k + 1) closed g ≡ true
    → Walks coder k closed (g ∷ gs) (put_first t w)
walks-on coder k closed g gs t w ws out mail stays owed =
    let open' = λ (m : Mail). leaves_after k m.left in
    let P : List Mail → Type 0 = λ ms. AllZip (IsMail coder (k + 1)) ms (filter (is_owed (k + 1) closed) (g ∷ gs)) in
    record {
      packets = ap (λ ps. ps ++ w.packets) out ∙ ap (λ ps. packets_at coder k g.listener ++ ps) ws.packets;
      mails = subst P (sym (cond-true (open' t.mail) (t.mail ∷ filter open' w.mails) (filter open' w.mails) stays))
          (pick-zip (IsMail coder (k + 1)) (is_owed (k + 1) closed) t.mail (still_open k w.mails) g gs owed mail ws.mails);
    }

-- a mail that is done, in front
pub walks-done : (coder : Coder) (k closed : ℕ) (g : Guest) (gs : List Guest) (t : Turned) (w : Walked) → Walks coder k closed gs w
    → t.packets ≡ packets_at coder k g.listener → leaves_after k t.mail.left ≡ false → is_owed (k + 1) closed g ≡ false
    → Walks coder k closed (g ∷ gs) (put_first t w)
walks-done coder k closed g gs t w ws out stays owed =
    let open' = λ (m : Mail). leaves_after k m.left in
    let P : List Mail → Type 0 = λ ms. AllZip (IsMail coder (k + 1)) ms (filter (is_owed (k + 1) closed) (g ∷ gs)) in
    record {
      packets = ap (λ ps. ps ++ w.packets) out ∙ ap (λ ps. packets_at coder k g.listener ++ ps) ws.packets;
      mails = subst P (sym (cond-false (open' t.mail) (t.mail ∷ filter open' w.mails) (filter open' w.mails) stays))
          (pass-zip (IsMail coder (k + 1)) (is_owed (k + 1) closed) (still_open k w.mails) g gs owed ws.mails);
    }

-- a guest without a mail, in front
pub walks-past : (coder : Coder) (k closed : ℕ) (g : Guest) (gs : List Guest) (w : Walked) → Walks coder k closed gs w
    → packets_at coder k g.listener ≡ [] → is_owed (k + 1) closed g ≡ false → Walks coder k closed (g ∷ gs) w
walks-past coder k closed g gs w ws out owed = record {
  packets = ws.packets ∙ sym (ap (λ ps. ps ++ flat_map (λ g. packets_at coder k g.listener) gs) out);
  mails = pass-zip (IsMail coder (k + 1)) (is_owed (k + 1) closed) (still_open k w.mails) g gs owed ws.mails;
}

-- ---- one turn ----

-- a mail of who came later
pub early-mail : (coder : Coder) (k : ℕ) (m : Mail) (g : Guest) → IsMail coder k m g → k < g.listener.from → IsMail coder (k + 1) m g
early-mail coder k m g z lt =
    let f = z.from in
    let at : k + 1 - m.from ≡ k - m.from = omega arith in
    let c = z.count in
    record {
      spec = z.spec;
      from = z.from;
      left = z.left;
      short = z.short;
      count = omega arith;
      pending = z.pending ∙ ap (λ n. drop (payloads_a_packet m.spec * m.sent) (take n (own_payloads coder g.listener))) (sym at);
      state = z.state ∙ ap (λ n. after_all coder g.listener.spec.rate g.listener.first (take n (reverse g.listener.heard))) (sym at);
    }

pub turned-early : (k : ℕ) (m : Mail) (rs : List (CodecState × List ℕ)) → nat_lt k m.from ≡ true
    → turned k m rs ≡ record { mail = m; packets = []; results = rs }
turned-early k m rs t =
    cond-true (nat_lt k m.from) (record { mail = m; packets = []; results = rs })
    (if leaves_after k m.left then turned_there m rs else record { mail = m; packets = last_of m; results = rs }) t

pub turned-here : (k : ℕ) (m : Mail) (rs : List (CodecState × List ℕ)) → nat_lt k m.from ≡ false → leaves_after k m.left ≡ true
    → turned k m rs ≡ turned_there m rs
turned-here k m rs f t =
    let gone : Turned = record { mail = m; packets = last_of m; results = rs } in
    cond-false (nat_lt k m.from) (record { mail = m; packets = []; results = rs }) (if leaves_after k m.left then turned_there m rs else gone) f
    ∙ cond-true (leaves_after k m.left) (turned_there m rs) gone t

pub turned-gone : (k : ℕ) (m : Mail) (rs : List (CodecState × List ℕ)) → nat_lt k m.from ≡ false → leaves_after k m.left ≡ false
    → turned k m rs ≡ record { mail = m; packets = last_of m; results = rs }
turned-gone k m rs f t =
    let gone : Turned = record { mail = m; packets = last_of m; results = rs } in
    cond-false (nat_lt k m.from) (record { mail = m; packets = []; results = rs }) (if leaves_after k m.left then turned_there m rs else gone) f
    ∙ cond-false (leaves_after k m.left) (turned_there m rs) gone t

-- ---- all of them ----

-- each guest's mail in turn, with the results of those who were there
pub walk-mails : (coder : Coder) (k closed : ℕ) (gs : List Guest) (ms : List Mail) (rs : List (CodecState × List ℕ)) → k < closed
    → ((g : Guest) → In g gs → IsDated closed g) → AllZip (IsMail coder k) ms (filter (is_owed k closed) gs)
    → AllZip (IsNext coder k) rs (filter (is_at k closed) gs) → Walks coder k closed gs (walked k ms rs)
walk-mails coder k closed [] [] rs lt d z x = record { packets = refl; mails = tt }
walk-mails coder k closed [] (m ∷ ms) rs lt d z x = absurd z
walk-mails coder k closed (g ∷ gs) ms rs lt d z x =
    let l = g.listener in
    let end = unwrap_or g.left closed in
    let at : end ≡ l.from + length l.heard = d g (inl refl) in
    let d' = λ (y : Guest) (i : In y gs). d y (inr i) in
    elim (cases_Bool (is_owed k closed g)) [
      | inl owed ↦
          let le : k ≤ end = leb-true k end owed in
          let f = zip-picked (IsMail coder k) (is_owed k closed) ms g gs owed z in
          let m = f.head in
          let W : List Mail → Type 0 = λ ms. Walks coder k closed (g ∷ gs) (walked k ms rs) in
          let T : Walked → Type 0 = λ w. Walks coder k closed (g ∷ gs) w in
          let left : leaves_after k m.left ≡ nat_lt k end = ap (leaves_after k) f.one.left ∙ leaves-until k closed g.left lt in
          let from : nat_lt k m.from ≡ nat_lt k l.from = ap (nat_lt k) f.one.from in
          subst W (sym f.whole)
          (elim (cases_Bool (nat_lt k l.from)) [
            | inl early ↦
                let before : k < l.from = ltb-true k l.from early in
                let t : Turned = record { mail = m; packets = []; results = rs } in
                let x' = zip-passed (IsNext coder k) (is_at k closed) rs g gs
                (and_left (nat_le l.from k) (nat_lt k end) (lt-leb l.from k before)) x in
                subst T (sym (walk-turn k m f.others rs t (turned-early k m rs (from ∙ early))))
                (walks-on coder k closed g gs t (walked k f.others rs) (walk-mails coder k closed gs f.others rs lt d' f.rest x')
                (sym (early-at coder l k before)) (early-mail coder k m g f.one before)
                (left ∙ lt-ltb k end (omega arith)) (le-leb (k + 1) end (omega arith)))
            | inr late ↦
                let since : l.from ≤ k = ltb-false k l.from late in
                elim (cases_Bool (nat_lt k end)) [
                  | inl here ↦
                      let there : k < end = ltb-true k end here in
                      let n = zip-picked (IsNext coder k) (is_at k closed) rs g gs
                      (and_from (nat_le l.from k) (nat_lt k end) (le-leb l.from k since) here) x in
                      let r = n.head in
                      let t : Turned = record { mail = with_result m r; packets = goes_out m r; results = n.others } in
                      let mail = next-mail coder k m r g f.one n.one in
                      subst T (sym (walk-turn k m f.others rs t (turned-here k m rs (from ∙ late) (left ∙ here) ∙ ap (turned_there m) n.whole)))
                      (walks-on coder k closed g gs t (walked k f.others n.others) (walk-mails coder k closed gs f.others n.others lt d' f.rest n.rest)
                      (next-sent coder k m r g f.one n.one) mail
                      (ap (leaves_after k) mail.left ∙ leaves-until k closed g.left lt ∙ here) (le-leb (k + 1) end (omega arith)))
                  | inr gone ↦
                      let done : end ≤ k = ltb-false k end gone in
                      let t : Turned = record { mail = m; packets = last_of m; results = rs } in
                      let x' = zip-passed (IsNext coder k) (is_at k closed) rs g gs (and_right (nat_le l.from k) (nat_lt k end) gone) x in
                      subst T (sym (walk-turn k m f.others rs t (turned-gone k m rs (from ∙ late) (left ∙ gone))))
                      (walks-done coder k closed g gs t (walked k f.others rs) (walk-mails coder k closed gs f.others rs lt d' f.rest x')
                      (last-sent coder k m g f.one (omega arith)) (left ∙ gone) (lt-leb (k + 1) end (omega arith)))
                ]
          ])
      | inr owed ↦
          let past : end < k = leb-false k end owed in
          let x' = zip-passed (IsNext coder k) (is_at k closed) rs g gs
          (and_right (nat_le l.from k) (nat_lt k end) (le-ltb k end (omega arith))) x in
          let z' = zip-passed (IsMail coder k) (is_owed k closed) ms g gs owed z in
          walks-past coder k closed g gs (walked k ms rs) (walk-mails coder k closed gs ms rs lt d' z' x')
          (late-at coder l k (omega arith)) (lt-leb (k + 1) end (omega arith))
    ]
