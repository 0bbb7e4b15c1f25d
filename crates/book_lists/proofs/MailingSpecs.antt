-- What mails keep, whatever their results: their specs, and how many packets they give.
use Rattle.std.proofs.Common.{◌≡◌, ℕ, ◌+◌, ◌≤◌, Bool, List, [], ◌∷◌, ◌++◌, length, map, refl, sym, ◌∙◌, ap, subst, arith, if◌then◌else◌, length-append}
use Rattle.std.specs.Prelude.{◌==◌, nat_lt, is_none, ◌&&◌, Some}
use Rattle.std.specs.List.{filter, All}
use Rattle.std.proofs.lemmas.Bool.{cond_both}
use Rattle.std.proofs.lemmas.List.Elements.{All-nil, All-cons, All-head, All-tail}
use Rattle.g726_bits.specs.State.{CodecState}
use Rattle.conference_spec.specs.declared.JoinSpec.{JoinSpec}
use Rattle.conference_spec.specs.Packets.{packet_with}
use Rattle.book_lists.specs.declared.mails.Mail.{Mail}
use Rattle.book_lists.specs.Mailing.{Turned, turned, turned_there, walked, still_open, leaves_after, fills, with_result, last_of, mail_goes}

-- ---- one mail ----

pub result-spec : (m : Mail) (r : CodecState × List ℕ) → (with_result m r).spec ≡ m.spec
result-spec m r =
    cond_both (fills m) (record m { sent = m.sent + 1; pending = []; state = r.0 }) (record m { pending = m.pending ++ r.1 ∷ []; state = r.0 })
    (λ (w : Mail). w.spec ≡ m.spec) (λ t. refl) (λ t. refl)

pub goes-spec : (member k : ℕ) (m : Mail) → (mail_goes member k m).spec ≡ m.spec
goes-spec member k m =
    cond_both (is_none m.left && (m.spec.member == member)) (record m { left = Some k }) m (λ (w : Mail). w.spec ≡ m.spec) (λ t. refl) (λ t. refl)

-- a turn keeps the spec, and gives at most one packet
pub record TurnKeeps (m : Mail) (t : Turned) : Type 0 where
  pub spec : t.mail.spec ≡ m.spec
  pub most : length t.packets ≤ 1

pub there-keeps : (m : Mail) (rs : List (CodecState × List ℕ)) → TurnKeeps m (turned_there m rs)
there-keeps m [] = record { spec = refl; most = omega arith }
there-keeps m (r ∷ rs) = record {
  spec = result-spec m r;
  most = cond_both (fills m) (packet_with m.spec m.sent (m.pending ++ r.1 ∷ []) ∷ []) [] (λ ps. length ps ≤ 1) (λ t. omega arith) (λ t. omega arith);
}

pub turn-keeps : (k : ℕ) (m : Mail) (rs : List (CodecState × List ℕ)) → TurnKeeps m (turned k m rs)
turn-keeps k m rs =
    let later : Turned = record { mail = m; packets = []; results = rs } in
    let gone : Turned = record { mail = m; packets = last_of m; results = rs } in
    cond_both (nat_lt k m.from) later (if leaves_after k m.left then turned_there m rs else gone) (TurnKeeps m)
    (λ t. record { spec = refl; most = omega arith })
    (λ t.
    cond_both (leaves_after k m.left) (turned_there m rs) gone (TurnKeeps m)
    (λ u. there-keeps m rs)
    (λ u. record {
      spec = refl;
      most = cond_both (length m.pending == 0) [] (packet_with m.spec m.sent m.pending ∷ []) (λ ps. length ps ≤ 1) (λ v. omega arith) (λ v. omega arith);
    }))

-- ---- all mails ----

pub specs-walked : (k : ℕ) (ms : List Mail) (rs : List (CodecState × List ℕ)) → map (λ m. m.spec) (walked k ms rs).mails ≡ map (λ m. m.spec) ms
specs-walked k [] rs = refl
specs-walked k (m ∷ ms) rs =
    let t = turned k m rs in
    ap (λ s. s ∷ map (λ (m : Mail). m.spec) (walked k ms t.results).mails) (turn-keeps k m rs).spec
    ∙ ap (λ ss. m.spec ∷ ss) (specs-walked k ms t.results)

pub specs-goes : (member k : ℕ) (ms : List Mail) → map (λ m. m.spec) (map (mail_goes member k) ms) ≡ map (λ m. m.spec) ms
specs-goes member k [] = refl
specs-goes member k (m ∷ ms) =
    ap (λ s. s ∷ map (λ (m : Mail). m.spec) (map (mail_goes member k) ms)) (goes-spec member k m) ∙ ap (λ ss. m.spec ∷ ss) (specs-goes member k ms)

-- what holds of all specs goes on holding
pub all-goes : (P : JoinSpec → Type 0) (member k : ℕ) (ms : List Mail) → All (λ m. P m.spec) ms → All (λ m. P m.spec) (map (mail_goes member k) ms)
all-goes P member k [] a = All-nil (λ (m : Mail). P m.spec)
all-goes P member k (m ∷ ms) a =
    let Q : Mail → Type 0 = λ m. P m.spec in
    All-cons Q (mail_goes member k m) (map (mail_goes member k) ms) (subst P (sym (goes-spec member k m)) (All-head Q m ms a))
    (all-goes P member k ms (All-tail Q m ms a))

pub all-walked : (P : JoinSpec → Type 0) (k : ℕ) (ms : List Mail) (rs : List (CodecState × List ℕ)) → All (λ m. P m.spec) ms
    → All (λ m. P m.spec) (walked k ms rs).mails
all-walked P k [] rs a = All-nil (λ (m : Mail). P m.spec)
all-walked P k (m ∷ ms) rs a =
    let Q : Mail → Type 0 = λ m. P m.spec in
    let t = turned k m rs in
    let keeps = turn-keeps k m rs in
    All-cons Q t.mail (walked k ms t.results).mails (subst P (sym keeps.spec) (All-head Q m ms a))
    (all-walked P k ms t.results (All-tail Q m ms a))

pub all-filtered : {X : Type 0} (P : X → Type 0) (p : X → Bool) (xs : List X) → All P xs → All P (filter p xs)
all-filtered P p [] a = a
all-filtered {X} P p (x ∷ xs) a =
    let ih = all-filtered P p xs (All-tail P x xs a) in
    cond_both (p x) (x ∷ filter p xs) (filter p xs) (All P) (λ t. All-cons P x (filter p xs) (All-head P x xs a) ih) (λ t. ih)

pub all-open : (P : JoinSpec → Type 0) (k : ℕ) (ms : List Mail) → All (λ m. P m.spec) ms → All (λ m. P m.spec) (still_open k ms)
all-open P k ms a = all-filtered (λ (m : Mail). P m.spec) (λ m. leaves_after k m.left) ms a

-- as many mails, and at most as many packets
pub length-walked : (k : ℕ) (ms : List Mail) (rs : List (CodecState × List ℕ)) → length (walked k ms rs).mails ≡ length ms
length-walked k [] rs = refl
length-walked k (m ∷ ms) rs = let t = turned k m rs in let ih = length-walked k ms t.results in omega arith

pub packets-walked : (k : ℕ) (ms : List Mail) (rs : List (CodecState × List ℕ)) → length (walked k ms rs).packets ≤ length ms
packets-walked k [] rs = omega arith
packets-walked k (m ∷ ms) rs =
    let t = turned k m rs in
    let w = walked k ms t.results in
    let ih = packets-walked k ms t.results in
    let keeps = turn-keeps k m rs in
    let one = keeps.most in
    let n = length-append t.packets w.packets in
    omega arith
