-- The outbox at joins, leaves and closes, and where all ticks are collected.
use Rattle.std.proofs.Common.{zero, suc, ◌≡◌, ℕ, ◌+◌, ◌-◌, ◌*◌, ◌≤◌, ◌<◌, inl, inr, true, ◌&&◌, List, [], ◌∷◌, ◌++◌, length, map, take, drop, refl}
use Rattle.std.proofs.Common.{sym, ◌∙◌, ap, subst, arith, Option, Some, None, get_or}
use Rattle.std.specs.Prelude.{◌==◌, nat_le, unwrap_or, is_none, reverse}
use Rattle.std.specs.List.{filter, flat_map, All, AllZip}
use Rattle.std.proofs.lemmas.Bool.{cases_Bool, cond_both, cond-true, cond-false, false≢true, leb-true, leb-false, le-leb, and_parts}
use Rattle.std.proofs.lemmas.List.{drop_all, take_all, take-append-le, length-reverse}
use Rattle.std.proofs.lemmas.Grind.{reverse_onto}
use Rattle.std.proofs.Math.Nat.{le-mul_of_pos_right, mul_comm}
use Rattle.talk_mix.specs.declared.ticks.Tick.{Tick}
use Rattle.talk_mix.specs.Mix.{mix}
use Rattle.conference_spec.specs.declared.JoinSpec.{JoinSpec}
use Rattle.conference_spec.specs.declared.Entry.TheVariants.{Join, Leave, Close}
use Rattle.conference_spec.specs.Coding.{Coder, after_all}
use Rattle.conference_spec.specs.Feed.{Feed, Guest, guests, goes, stays, begins, hears, closes}
use Rattle.conference_spec.specs.Packets.{payloads_a_packet, packets_at, rest}
use Rattle.conference_spec.specs.Members.{In}
use Rattle.conference_spec.proofs.Stages.{filter-append'}
use Rattle.conference_spec.proofs.Chunks.{some-payloads, late-at}
use Rattle.conference_spec.proofs.Alone.{own-front}
use Rattle.conference_spec.proofs.Sends.{Dated, dated, until-dated, some-left, none-left}
use Rattle.book_lists.specs.declared.mails.Mail.{Mail}
use Rattle.book_lists.specs.Mailing.{IsMail, Mails, first_mail, mail_goes, last_of}
use Rattle.book_lists.proofs.Joining.{zip-push}
use Rattle.book_lists.proofs.MailingTurns.{last-sent}
use Rattle.book_lists.proofs.MailingWalk.{is_owed, zip-picked, zip-passed, pick-zip, pass-zip}

none-is : (o : Option ℕ) → is_none o ≡ true → o ≡ None
none-is None t = refl
none-is (Some k) t = absurd (false≢true t)

-- ---- a change of mails and guests, one by one ----

-- where each guest goes on being owed or not, and its mail goes on being its mail
pub mails-map : (coder : Coder) (k closed now : ℕ) (f : Mail → Mail) (f' : Guest → Guest) (gs : List Guest) (ms : List Mail)
    → ((g : Guest) → In g gs → is_owed k now (f' g) ≡ is_owed k closed g)
    → ((g : Guest) (m : Mail) → In g gs → IsMail coder k m g → IsMail coder k (f m) (f' g))
    → AllZip (IsMail coder k) ms (filter (is_owed k closed) gs) → AllZip (IsMail coder k) (map f ms) (filter (is_owed k now) (map f' gs))
mails-map coder k closed now f f' [] [] owed mail z = tt
mails-map coder k closed now f f' [] (m ∷ ms) owed mail z = absurd z
mails-map coder k closed now f f' (g ∷ gs) ms owed mail z =
    let owed' = λ (y : Guest) (i : In y gs). owed y (inr i) in
    let mail' = λ (y : Guest) (m : Mail) (i : In y gs). mail y m (inr i) in
    elim (cases_Bool (is_owed k closed g)) [
      | inl t ↦
          let x = zip-picked (IsMail coder k) (is_owed k closed) ms g gs t z in
          let P : List Mail → Type 0 = λ ms. AllZip (IsMail coder k) (map f ms) (filter (is_owed k now) (map f' (g ∷ gs))) in
          subst P (sym x.whole)
          (pick-zip (IsMail coder k) (is_owed k now) (f x.head) (map f x.others) (f' g) (map f' gs) (owed g (inl refl) ∙ t) (mail g x.head (inl refl) x.one)
          (mails-map coder k closed now f f' gs x.others owed' mail' x.rest))
      | inr t ↦
          pass-zip (IsMail coder k) (is_owed k now) (map f ms) (f' g) (map f' gs) (owed g (inl refl) ∙ t)
          (mails-map coder k closed now f f' gs ms owed' mail' (zip-passed (IsMail coder k) (is_owed k closed) ms g gs t z))
    ]

-- ---- joins ----

-- the new listener's mail
pub mail-first : (coder : Coder) (k closed : ℕ) (spec : JoinSpec) → k ≤ closed
    → IsMail coder k (first_mail coder.start spec closed) (record { listener = begins coder spec closed; left = None })
mail-first coder k closed spec le =
    let b = payloads_a_packet spec in
    record {
      spec = refl;
      from = refl;
      left = refl;
      short = some-payloads spec;
      count = omega arith;
      pending = sym (ap (drop (b * 0)) (take_all (k - closed) [] (omega arith)) ∙ drop_all (b * 0) [] (omega arith));
      state = sym (ap (after_all coder spec.rate coder.start) (take_all (k - closed) [] (omega arith)));
    }

pub mails-joined : (coder : Coder) (k : ℕ) (h : Feed) (ms : List Mail) (spec : JoinSpec) → k ≤ closes h → Mails coder k h ms
    → Mails coder k (Join spec ∷ h) (ms ++ first_mail coder.start spec (closes h) ∷ [])
mails-joined coder k h ms spec le z =
    let p = is_owed k (closes h) in
    let gs = guests coder h in
    let new : Guest = record { listener = begins coder spec (closes h); left = None } in
    let P : List Guest → Type 0 = λ gs. AllZip (IsMail coder k) (ms ++ first_mail coder.start spec (closes h) ∷ []) gs in
    subst P
    (sym (filter-append' p gs (new ∷ []) ∙ ap (λ ns. filter p gs ++ ns) (cond-true (p new) (new ∷ []) [] (le-leb k (closes h) le))))
    (zip-push (IsMail coder k) ms (filter p gs) (first_mail coder.start spec (closes h)) new z (mail-first coder k (closes h) spec le))

-- ---- leaves ----

pub goes-owed : (k closed member : ℕ) (g : Guest) → is_owed k closed (goes member closed g) ≡ is_owed k closed g
goes-owed k closed member g =
    let b = g.listener.spec.member == member in
    cond_both (is_none g.left && b) (record { listener = g.listener; left = Some closed }) g (λ w. is_owed k closed w ≡ is_owed k closed g)
    (λ t. ap (nat_le k) (sym (none-left g.left closed (and_parts (is_none g.left) b t).0)))
    (λ t. refl)

pub goes-mail : (coder : Coder) (k closed member : ℕ) (m : Mail) (g : Guest) → IsMail coder k m g
    → IsMail coder k (mail_goes member closed m) (goes member closed g)
goes-mail coder k closed member m g z =
    let b = is_none g.left && (g.listener.spec.member == member) in
    let a = is_none m.left && (m.spec.member == member) in
    let same : a ≡ b =
    ap (λ o. is_none o && (m.spec.member == member)) z.left ∙ ap (λ (s : JoinSpec). is_none g.left && (s.member == member)) z.spec in
    let gone : Mail = record m { left = Some closed } in
    let went : Guest = record { listener = g.listener; left = Some closed } in
    elim (cases_Bool b) [
      | inl t ↦
          let P : Mail → Type 0 = λ w. IsMail coder k w (goes member closed g) in
          let Q : Guest → Type 0 = λ w. IsMail coder k gone w in
          subst P (sym (cond-true a gone m (same ∙ t)))
          (subst Q (sym (cond-true b went g t))
          (record { spec = z.spec; from = z.from; left = refl; short = z.short; count = z.count; pending = z.pending; state = z.state }))
      | inr t ↦
          let P : Mail → Type 0 = λ w. IsMail coder k w (goes member closed g) in
          let Q : Guest → Type 0 = λ w. IsMail coder k m w in
          subst P (sym (cond-false a gone m (same ∙ t))) (subst Q (sym (cond-false b went g t)) z)
    ]

pub mails-left : (coder : Coder) (k : ℕ) (h : Feed) (ms : List Mail) (m : ℕ) → Mails coder k h ms
    → Mails coder k (Leave m ∷ h) (map (mail_goes m (closes h)) ms)
mails-left coder k h ms m z =
    mails-map coder k (closes h) (closes h) (mail_goes m (closes h)) (goes m (closes h)) (guests coder h) ms
    (λ g i. goes-owed k (closes h) m g) (λ g w i x. goes-mail coder k (closes h) m w g x) z

-- ---- closes ----

pub stays-owed : (k closed : ℕ) (tick : Tick) (g : Guest) → k ≤ closed → is_owed k (closed + 1) (stays tick g) ≡ is_owed k closed g
stays-owed k closed tick g le =
    let stayed : Guest = record { listener = hears tick g.listener; left = None } in
    cond_both (is_none g.left) stayed g (λ w. is_owed k (closed + 1) w ≡ is_owed k closed g)
    (λ t. le-leb k (closed + 1) (omega arith) ∙ sym (ap (nat_le k) (none-left g.left closed t) ∙ le-leb k closed le))
    (λ t. ap (nat_le k) (some-left g.left (closed + 1) t ∙ sym (some-left g.left closed t)))

pub stays-mail : (coder : Coder) (k : ℕ) (h : Feed) (tick : Tick) (m : Mail) (g : Guest) → k ≤ closes h → Dated h g → IsMail coder k m g
    → IsMail coder k m (stays tick g)
stays-mail coder k h tick m g le d z =
    let l = g.listener in
    let stayed : Guest = record { listener = hears tick l; left = None } in
    cond_both (is_none g.left) stayed g (IsMail coder k m)
    (λ t.
    let here = d.here t in
    let f = z.from in
    let n = k - m.from in
    let long = length-reverse l.heard in
    record {
      spec = z.spec;
      from = z.from;
      left = z.left ∙ none-is g.left t;
      short = z.short;
      count = z.count;
      pending = z.pending ∙ ap (drop (payloads_a_packet m.spec * m.sent)) (sym (own-front coder tick l n (omega arith)));
      state = z.state
          ∙ ap (after_all coder l.spec.rate l.first)
          (sym (ap (take n) (reverse_onto l.heard (mix l.spec.member tick) [])
          ∙ take-append-le n (reverse l.heard) (mix l.spec.member tick ∷ []) (omega arith)));
    })
    (λ t. z)

pub mails-closed : (coder : Coder) (k : ℕ) (h : Feed) (ms : List Mail) (tick : Tick) → k ≤ closes h → Mails coder k h ms
    → Mails coder k (Close tick ∷ h) ms
mails-closed coder k h ms tick le z =
    let P : List Mail → Type 0 = λ ms. Mails coder k (Close tick ∷ h) ms in
    subst P (map-same ms)
    (mails-map coder k (closes h) (closes h + 1) (λ m. m) (stays tick) (guests coder h) ms
    (λ g i. stays-owed k (closes h) tick g le) (λ g m i x. stays-mail coder k h tick m g le (dated coder h g i) x) z)
  where
    map-same : (ms : List Mail) → map (λ m. m) ms ≡ ms
    map-same [] = refl
    map-same (m ∷ ms) = ap (λ ms. m ∷ ms) (map-same ms)

-- ---- the rest ----

pub rest-mails : (coder : Coder) (closed : ℕ) (gs : List Guest) (ms : List Mail)
    → ((g : Guest) → In g gs → unwrap_or g.left closed ≡ g.listener.from + length g.listener.heard)
    → ((g : Guest) → In g gs → g.listener.from + length g.listener.heard ≤ closed)
    → AllZip (IsMail coder closed) ms (filter (is_owed closed closed) gs) → flat_map last_of ms ≡ flat_map (λ g. packets_at coder closed g.listener) gs
rest-mails coder closed [] [] d w z = refl
rest-mails coder closed [] (m ∷ ms) d w z = absurd z
rest-mails coder closed (g ∷ gs) ms d w z =
    let l = g.listener in
    let at = d g (inl refl) in
    let within = w g (inl refl) in
    let d' = λ (y : Guest) (i : In y gs). d y (inr i) in
    let w' = λ (y : Guest) (i : In y gs). w y (inr i) in
    let others = flat_map (λ (g : Guest). packets_at coder closed g.listener) gs in
    elim (cases_Bool (is_owed closed closed g)) [
      | inl t ↦
          let le = leb-true closed (unwrap_or g.left closed) t in
          let x = zip-picked (IsMail coder closed) (is_owed closed closed) ms g gs t z in
          ap (flat_map last_of) x.whole
          ∙ ap (λ ps. ps ++ flat_map last_of x.others) (last-sent coder closed x.head g x.one (omega arith))
          ∙ ap (λ ps. packets_at coder closed l ++ ps) (rest-mails coder closed gs x.others d' w' x.rest)
      | inr t ↦
          let lt = leb-false closed (unwrap_or g.left closed) t in
          rest-mails coder closed gs ms d' w' (zip-passed (IsMail coder closed) (is_owed closed closed) ms g gs t z)
          ∙ sym (ap (λ ps. ps ++ others) (late-at coder l closed (omega arith)))
    ]

pub rest-last : (coder : Coder) (h : Feed) (ms : List Mail) → Mails coder (closes h) h ms → flat_map last_of ms ≡ rest coder h
rest-last coder h ms z = rest-mails coder (closes h) (guests coder h) ms (until-dated coder h) (λ g i. (dated coder h g i).within) z

-- ---- how much a mail keeps ----

pub zip-all : {A B : Type 0} (R : A → B → Type 0) (P : A → Type 0) (xs : List A) (ys : List B) → ((x : A) (y : B) → R x y → P x) → AllZip R xs ys → All P xs
zip-all R P [] ys f z k d lt = absurd (omega arith)
zip-all R P (x ∷ xs) [] f z k d lt = absurd z
zip-all R P (x ∷ xs) (y ∷ ys) f z k d lt =
    let at : (k : ℕ) → k < length (x ∷ xs) → P (get_or (x ∷ xs) k d) = elim [
      | zero ↦ λ lt. f x y z.0
      | suc k ↦ λ lt. zip-all R P xs ys f z.1 k d (omega arith)
    ] in
    at k lt

pub mails-short : (coder : Coder) (k : ℕ) (h : Feed) (ms : List Mail) → Mails coder k h ms → All (λ m. length m.pending < payloads_a_packet m.spec) ms
mails-short coder k h ms z =
    zip-all (IsMail coder k) (λ m. length m.pending < payloads_a_packet m.spec) ms (filter (is_owed k (closes h)) (guests coder h)) (λ m g x. x.short) z

pub mails-sent : (coder : Coder) (k : ℕ) (h : Feed) (ms : List Mail) → Mails coder k h ms → All (λ m. m.sent ≤ k) ms
mails-sent coder k h ms z =
    zip-all (IsMail coder k) (λ m. m.sent ≤ k) ms (filter (is_owed k (closes h)) (guests coder h))
    (λ m g x.
    let c = x.count in
    let le : m.sent ≤ payloads_a_packet m.spec * m.sent = more (payloads_a_packet m.spec) m.sent (some-payloads m.spec) in
    omega arith)
    z
  where
    more : (b n : ℕ) → 0 < b → n ≤ b * n
    more b n lt = let le = le-mul_of_pos_right {m = b} n lt in let e = mul_comm n b in omega arith
