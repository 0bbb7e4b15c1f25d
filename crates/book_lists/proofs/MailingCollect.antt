-- A collect: the seats' results are the guests' next ones.
use Rattle.std.proofs.Common.{◌≡◌, ℕ, ◌+◌, ◌-◌, Bool, true, false, List, [], ◌∷◌, ◌++◌, length, take, refl, sym, ◌∙◌, ap, subst, arith, inl, inr}
use Rattle.std.proofs.Common.{Option, Some, None}
use Rattle.std.specs.Prelude.{nat_lt, nat_le, unwrap_or, reverse}
use Rattle.std.specs.List.{filter, AllZip}
use Rattle.std.proofs.lemmas.Bool.{ltb-true, leb-true, and_parts}
use Rattle.g726_bits.specs.State.{CodecState}
use Rattle.g726_codec.specs.declared.Triple.{Triple}
use Rattle.talk_mix.specs.declared.ticks.Tick.{Tick}
use Rattle.talk_mix.specs.Mix.{mix}
use Rattle.triple_table.specs.Rows.{Row}
use Rattle.conference_spec.specs.declared.Entry.TheVariants.{Collect}
use Rattle.conference_spec.specs.Coding.{Coder, after, after_all}
use Rattle.conference_spec.specs.Feed.{Feed, Listener, Guest, WasThere, guests, listeners, closes, is_at}
use Rattle.conference_spec.specs.Packets.{own_payloads, sent}
use Rattle.conference_spec.specs.Tasks.{task_of}
use Rattle.conference_spec.specs.Machine.{Run, has_passed}
use Rattle.conference_spec.specs.Members.{In}
use Rattle.conference_spec.proofs.Members.{in-filter_parts}
use Rattle.conference_spec.proofs.Wants.{heard-ticks}
use Rattle.conference_spec.proofs.Alone.{own-next, state-next}
use Rattle.conference_spec.proofs.Sends.{until-dated}
use Rattle.conference_spec.proofs.Sayings.{were-there}
use Rattle.book_lists.specs.declared.mails.Mail.{Mail}
use Rattle.book_lists.specs.declared.seats.Seat.{Seat}
use Rattle.book_lists.specs.Levels.{Level, Knows, Sits, Opens}
use Rattle.book_lists.specs.Mailing.{Mails, IsResultOf, walked, still_open}
use Rattle.book_lists.proofs.Collecting.{oldest, last-closed}
use Rattle.book_lists.proofs.MailingTurns.{IsNext}
use Rattle.book_lists.proofs.MailingWalk.{Walks, walk-mails}

-- ---- seats, listeners as they were, and guests ----

-- the result of a seat is what its listener's encoder makes
pub result-of_seat : (coder : Coder) (gone : ℕ) (runs : List Run) (rows : List Row) (k : ℕ) (tick : Tick) (h : Feed) (s : Seat) (l : Listener)
    (r : CodecState × List ℕ) → Sits coder gone runs rows k tick h s l → IsResultOf coder rows s.run r
    → r ≡ coder.encoded l.spec.rate (after coder l.spec.rate l.first l.heard) (mix l.spec.member tick)
result-of_seat coder gone runs rows k tick h s l r z q =
    let t = (task_of coder k tick l).triple in
    let by : (b : Bool) (o : Option ℕ) → Knows b o rows t → IsResultOf coder rows o r → r ≡ coder.encoded t.rate t.state t.mix = elim [
      | true ↦ elim [
        | Some at ↦ λ a q.
            let both : Some q.0 ≡ Some a.row = sym q.1 ∙ a.there in
            let one : q.0 ≡ a.row = cc in
            q.2 ∙ ap (λ (w : Row). coder.encoded w.triple.rate w.triple.state w.triple.mix) one
            ∙ ap (λ (x : Triple). coder.encoded x.rate x.state x.mix) a.same
        | None ↦ λ a q. absurd a
      ]
      | false ↦ elim [ Some at ↦ λ a q. absurd a | None ↦ λ a q. absurd q ]
    ] in
    by (has_passed coder gone runs l) s.run z.run q

-- and so the guest's next
pub next-of_guest : (coder : Coder) (k : ℕ) (tick : Tick) (h first : Feed) (r : CodecState × List ℕ) (g : Guest) (l : Listener)
    → In g (guests coder h) → is_at k (closes h) g ≡ true → WasThere tick g l → closes first ≡ k → In l (listeners coder first)
    → r ≡ coder.encoded l.spec.rate (after coder l.spec.rate l.first l.heard) (mix l.spec.member tick) → IsNext coder k r g
next-of_guest coder k tick h first r g l j at was e i result =
    let gl = g.listener in
    let end = unwrap_or g.left (closes h) in
    let until = until-dated coder h g j in
    let parts = and_parts (nat_le gl.from k) (nat_lt k end) at in
    let since = leb-true gl.from k parts.0 in
    let ends = ltb-true k end parts.1 in
    let ticks = heard-ticks coder first l i in
    let from = was.from in
    let n = length l.heard in
    let ps = own_payloads coder gl in
    let now : k - gl.from ≡ n = omega arith in
    let later : k + 1 - gl.from ≡ n + 1 = omega arith in
    record {
      came = since;
      there = omega arith;
      payload = ap (λ j. take j ps) later ∙ own-next coder tick g l was
          ∙ ap (λ (q : CodecState × List ℕ). take n ps ++ q.1 ∷ []) (sym result) ∙ ap (λ j. take j ps ++ r.1 ∷ []) (sym now);
      state = ap (λ (q : CodecState × List ℕ). q.0) result ∙ sym (state-next coder tick g l was)
          ∙ ap (λ j. after_all coder gl.spec.rate gl.first (take j (reverse gl.heard))) (sym later);
    }

-- seats with results and with listeners, guests with listeners: results with guests
pub zip-round : {S R L G : Type 0} (T : S → R → Type 0) (Z : S → L → Type 0) (W : G → L → Type 0) (N : R → G → Type 0)
    (ss : List S) (rs : List R) (ls : List L) (gs : List G)
    → ((s : S) (r : R) (l : L) (g : G) → In l ls → In g gs → T s r → Z s l → W g l → N r g)
    → AllZip T ss rs → AllZip Z ss ls → AllZip W gs ls → AllZip N rs gs
zip-round T Z W N [] [] [] [] f t z w = tt
zip-round T Z W N [] [] [] (g ∷ gs) f t z w = absurd w
zip-round T Z W N [] [] (l ∷ ls) gs f t z w = absurd z
zip-round T Z W N [] (r ∷ rs) ls gs f t z w = absurd t
zip-round T Z W N (s ∷ ss) [] ls gs f t z w = absurd t
zip-round T Z W N (s ∷ ss) (r ∷ rs) [] gs f t z w = absurd z
zip-round T Z W N (s ∷ ss) (r ∷ rs) (l ∷ ls) [] f t z w = absurd w
zip-round T Z W N (s ∷ ss) (r ∷ rs) (l ∷ ls) (g ∷ gs) f t z w = (
  f s r l g (inl refl) (inl refl) t.0 z.0 w.0,
  zip-round T Z W N ss rs ls gs (λ s r l g i j. f s r l g (inr i) (inr j)) t.1 z.1 w.1,
)

-- ---- the collect ----

-- the results of the oldest open tick, given to the outbox
pub walks-collected : (coder : Coder) (gone : ℕ) (runs : List Run) (front : List Level) (v : Level) (h : Feed) (ms : List Mail)
    (rs : List (CodecState × List ℕ)) → Opens coder gone runs (front ++ v ∷ []) h → Mails coder gone h ms
    → AllZip (λ s r. IsResultOf coder v.rows s.run r) v.seats rs → Walks coder gone (closes h) (guests coder h) (walked gone ms rs)
walks-collected coder gone runs front v h ms rs o z q =
    let old = oldest coder gone runs front v h o in
    let lt = last-closed coder gone runs front v h o in
    let there = filter (is_at gone (closes h)) (guests coder h) in
    let W : Feed → Type 0 = λ b. AllZip (WasThere old.tick) there (listeners coder b) in
    let were = subst W old.before_is (were-there coder gone h old.tick old.talkers_is) in
    walk-mails coder gone (closes h) (guests coder h) ms rs lt (until-dated coder h) z
    (zip-round (λ s r. IsResultOf coder v.rows s.run r) (Sits coder gone runs v.rows (closes old.feed) old.tick old.feed) (WasThere old.tick)
    (IsNext coder gone) v.seats rs (listeners coder old.feed) there
    (λ s r l g i j t sits was.
    let f = in-filter_parts (is_at gone (closes h)) g (guests coder h) j in
    next-of_guest coder gone old.tick h old.feed r g l f.0 f.1 was old.at i
    (result-of_seat coder gone runs v.rows (closes old.feed) old.tick old.feed s l r sits t))
    q old.level.seats were)

pub mails-collected : (coder : Coder) (gone : ℕ) (runs : List Run) (front : List Level) (v : Level) (h : Feed) (ms : List Mail)
    (rs : List (CodecState × List ℕ)) → Opens coder gone runs (front ++ v ∷ []) h → Mails coder gone h ms
    → AllZip (λ s r. IsResultOf coder v.rows s.run r) v.seats rs
    → ((walked gone ms rs).packets ≡ sent coder gone h) × Mails coder (gone + 1) (Collect ∷ h) (still_open gone (walked gone ms rs).mails)
mails-collected coder gone runs front v h ms rs o z q =
    let w = walks-collected coder gone runs front v h ms rs o z q in
    (w.packets, w.mails)
