-- What keeps a Book standing for its core, or makes it stand for the next one.
use Rattle.std.proofs.Common.{◌≡◌, ℕ, ◌+◌, ◌≤◌, ◌<◌, inl, inr, true, false, not, ◌&&◌, cond, List, [], ◌∷◌, ◌++◌, length, map, refl, sym, ◌∙◌, ap, subst, arith, length-append}
use Rattle.std.specs.Prelude.{◌==◌, nat_lt, vec_capacity}
use Rattle.std.specs.List.{filter, flat_map, list_any, AllZip}
use Rattle.std.proofs.lemmas.Bool.{cases_Bool, cond-true, cond-false, and_from, lt-ltb, not_from_false, not_from_true}
use Rattle.g726_bits.specs.State.{CodecState, start}
use Rattle.conference_spec.specs.declared.Entry.{Entry}
use Rattle.conference_spec.specs.declared.Entry.TheVariants.{Join, Leave, Cut, End}
use Rattle.conference_spec.specs.declared.JoinSpec.{JoinSpec}
use Rattle.conference_spec.specs.Codec.{g726}
use Rattle.conference_spec.specs.Feed.{Feed, Listener, listeners, closes, collects, ended, joined, is_legal, may_follow}
use Rattle.conference_spec.specs.Packets.{rest}
use Rattle.conference_spec.specs.Machine.{Core, Enters, accepts, appended, entered, next, begun}
use Rattle.conference_spec.proofs.Members.{length-filter_parts}
use Rattle.conference_spec.proofs.Equal.{g726-tells}
use Rattle.conference_spec.proofs.Events.{entered-kept, length-map}
use Rattle.conference_spec.proofs.Steps.{Kept, kept-begun}
use Rattle.conference_spec.proofs.Told.{told}
use Rattle.book_lists.specs.declared.seats.Rest.{Rest}
use Rattle.book_lists.specs.declared.seats.Ticket.{Ticket}
use Rattle.book_lists.specs.declared.seats.Origin.TheVariants.{Known}
use Rattle.book_lists.specs.Levels.{Level, Carries, Rests}
use Rattle.book_lists.proofs.Joining.{join-carries, leave-carries, cut-carries, end-carries, begun-carries}
use Rattle.book_lists.proofs.MailingStays.{mails-stays}
use Rattle.tick_core.specs.declared.book.Book.{Book}
use Rattle.book_feed.specs.Logged.{blank, with_entry, cut_off, closed_in, joined_in}
use Rattle.tick_core.specs.Standing.{Follows, StandsOn, IsRoomy}
use Rattle.tick_core.specs.Steps.{BeforeEndOn}
use Rattle.tick_core.specs.Sweeping.{AllFit, all_seats}
use Rattle.book_lists.specs.Mailing.{Mails, first_mail, mail_goes, last_of, stays_kept}
use Rattle.tick_core.specs.Posting.{Posts}
use Rattle.tick_core.proofs.Postings.{posts-same, posts-begun, posts-join, posts-leave, posts-cut, posts-end, posts-rest}
use Rattle.tick_core.proofs.Seats.{length-zip}
use Rattle.tick_core.proofs.Follows.{may-cut, closed-is, ended-is, joined-is, follows-begun, follows-same, follows-entry, follows-cut}

pub carries-like : (vs vs' : List Level) (rests rests' : List Rest) (queue queue' : List Ticket) (issued issued' : ℕ) (c : Core)
    → vs' ≡ vs → rests' ≡ rests → queue' ≡ queue → issued' ≡ issued → Carries g726 vs rests queue issued c → Carries g726 vs' rests' queue' issued' c
carries-like vs vs' rests rests' queue queue' issued issued' c a b d e car =
    subst (λ (x : List Level). Carries g726 x rests' queue' issued' c) (sym a)
    (subst (λ (x : List Rest). Carries g726 vs x queue' issued' c) (sym b)
    (subst (λ (x : List Ticket). Carries g726 vs rests x issued' c) (sym d)
    (subst (λ (x : ℕ). Carries g726 vs rests queue x c) (sym e) car)))

-- the same lists but for those present and the outbox, and no less room
pub record IsLike (b b' : Book) : Type 0 where
  pub open' : b'.open_ticks.items ≡ b.open_ticks.items
  pub rooms : b'.rooms.items ≡ b.rooms.items
  pub tickets : b'.queue.tickets ≡ b.queue.tickets
  pub issued : b'.queue.issued ≡ b.queue.issued
  pub room : b.queue.room ≤ b'.queue.room
  pub stays : b'.stays.items ≡ b.stays.items
  pub spare : vec_capacity b.stays ≤ vec_capacity b'.stays

-- a Book that has the lists of one that stands for a core, and no less room, stands for it too
pub same-stands : (b b' : Book) (c : Core) → StandsOn b c → b'.log.feed ≡ b.log.feed → b.log.room ≤ b'.log.room → b'.present.items ≡ b.present.items
    → b'.outbox.items ≡ b.outbox.items → IsLike b b' → StandsOn b' c
same-stands b b' c s feed entries present outbox like =
    let fit = s.roomy.fit in
    let tickets = s.roomy.tickets in
    let entries' = s.roomy.entries in
    let a = ap all_seats like.open' in
    let d = ap length like.open' in
    let e = ap length present in
    let f = like.room in
    let g = like.spare in
    let m = ap length outbox in
    let old = s.roomy.stays in
    record {
      feed = follows-same b.log.feed b'.log.feed b.stays.items b'.stays.items c.feed feed like.stays s.feed;
      carries = carries-like b.open_ticks.items b'.open_ticks.items b.present.items b'.present.items b.queue.tickets b'.queue.tickets b.queue.issued b'.queue.issued c
          like.open' present like.tickets like.issued s.carries;
      posts = posts-same b.rooms.items b'.rooms.items b.outbox.items b'.outbox.items c.feed c.feed (sym like.rooms) (sym outbox) refl s.posts;
      kept = s.kept;
      roomy = record { fit = subst AllFit (sym like.open') fit; tickets = omega arith; entries = omega arith; stays = omega arith };
    }

-- a Book whose lists are those of the core that has taken an entry stands for the next core
pub entered-stands : (b' : Book) (c : Core) (e : Entry) → accepts g726 c e ≡ true → Kept g726 c
    → Follows b'.log.feed b'.stays.items (entered g726 c e).feed
    → Carries g726 b'.open_ticks.items b'.present.items b'.queue.tickets b'.queue.issued (entered g726 c e)
    → Posts b'.rooms.items b'.outbox.items (entered g726 c e).feed → IsRoomy b'
    → StandsOn b' (next g726 c (Enters e))
entered-stands b' c e may kept feed carries posts roomy =
    subst (λ (d : Core). StandsOn b' d) (sym (cond-true (accepts g726 c e) (entered g726 c e) c may))
    (record { feed = feed; carries = carries; posts = posts; kept = entered-kept g726 g726-tells c e may kept; roomy = roomy })

-- where the end hasn't come for one core that a Book stands for, it hasn't for any
pub not-ended : (b : Book) (c : Core) → BeforeEndOn b → StandsOn b c → ended c.feed ≡ false
not-ended b c before s = sym (ended-is s.feed) ∙ (ended-is before.1.feed ∙ before.2)

-- ---- the start ----

pub begun-stands : (b : Book) → b.log.feed ≡ blank → b.stays.items ≡ [] → b.open_ticks.items ≡ [] → b.present.items ≡ [] → b.queue.tickets ≡ [] → b.queue.issued ≡ 0
    → b.rooms.items ≡ [] → b.outbox.items ≡ [] → StandsOn b begun
begun-stands b feed stays open' present tickets issued rooms outbox =
    let a = ap all_seats open' in
    let d = ap length open' in
    let e = ap length present in
    let m = ap length outbox in
    record {
      feed = follows-same blank b.log.feed [] b.stays.items [] feed stays follows-begun;
      carries = carries-like [] b.open_ticks.items [] b.present.items [] b.queue.tickets 0 b.queue.issued begun open' present tickets issued (begun-carries g726);
      posts = posts-same [] b.rooms.items [] b.outbox.items [] [] (sym rooms) (sym outbox) refl posts-begun;
      kept = kept-begun g726;
      roomy = record { fit = subst AllFit (sym open') tt; tickets = omega arith; entries = omega arith; stays = omega arith };
    }

-- ---- joins ----

pub listeners-present : (b : Book) (c : Core) → StandsOn b c → length b.present.items ≡ length (listeners g726 c.feed)
listeners-present b c s = sym (length-zip (Rests g726 (collects c.feed) c.feed) b.present.items (listeners g726 c.feed) s.carries.present)

pub join-stands : (b b' : Book) (c : Core) (spec : JoinSpec) (st : CodecState) → BeforeEndOn b
    → list_any (λ m. m == spec.member) (joined_in b.log.feed) ≡ false → length b.present.items < 1024
    → st ≡ start → spec.ticks ≤ 4 → b'.log.feed ≡ with_entry (Join spec) b.log.feed
    → b'.outbox.items ≡ b.outbox.items ++ first_mail start spec (closed_in b.log.feed) ∷ []
    → b'.present.items ≡ b.present.items ++ record { spec = spec; heard = 0; origin = Known st } ∷ []
    → length b.present.items + length b.open_ticks.items + 1 ≤ b'.log.room → length b.outbox.items + 1 ≤ vec_capacity b'.stays
    → IsLike b b' → StandsOn b c
    → (accepts g726 c (Join spec) ≡ true) × StandsOn b' (next g726 c (Enters (Join spec)))
unfolding g726
join-stands b b' c spec st before new few at-start small feed outbox present entries spare like s =
    let n = listeners-present b c s in
    let p = λ (m : ℕ). m == spec.member in
    let none : list_any p (joined c.feed) ≡ false = ap (list_any p) (sym (joined-is s.feed)) ∙ new in
    let open' = not-ended b c before s in
    let may : accepts g726 c (Join spec) ≡ true =
    and_from (not (list_any p (joined c.feed))) (nat_lt (length (listeners g726 c.feed)) 1024 && not (ended c.feed)) (not_from_false (list_any p (joined c.feed)) none)
    (and_from (nat_lt (length (listeners g726 c.feed)) 1024) (not (ended c.feed)) (lt-ltb (length (listeners g726 c.feed)) 1024 (omega arith)) (not_from_false (ended c.feed) open')) in
    let rest = λ (x : CodecState). let r : Rest = record { spec = spec; heard = 0; origin = Known x } in b.present.items ++ r ∷ [] in
    let is : b'.present.items ≡ rest start = present ∙ ap rest at-start in
    let a = ap all_seats like.open' in
    let d = ap length like.open' in
    let e = ap length present in
    let f = length-append b.present.items (record { spec = spec; heard = 0; origin = Known st } ∷ []) in
    let room = like.room in
    let old = s.roomy.tickets in
    let m = ap length outbox ∙ length-append b.outbox.items (first_mail start spec (closed_in b.log.feed) ∷ []) in (
      may,
      entered-stands b' c (Join spec) may s.kept
          (follows-entry (Join spec) b.log.feed b'.log.feed b.stays.items b'.stays.items c.feed refl refl feed like.stays s.feed)
          (carries-like b.open_ticks.items b'.open_ticks.items (rest start) b'.present.items b.queue.tickets b'.queue.tickets b.queue.issued b'.queue.issued (appended c (Join spec))
          like.open' is like.tickets like.issued
          (join-carries g726 c b.open_ticks.items b.present.items b.queue.tickets b.queue.issued spec s.carries))
          (posts-same b.rooms.items b'.rooms.items (b.outbox.items ++ first_mail start spec (closes c.feed) ∷ []) b'.outbox.items (Join spec ∷ c.feed) (Join spec ∷ c.feed)
          (sym like.rooms) (sym (outbox ∙ ap (λ (n : ℕ). b.outbox.items ++ first_mail start spec n ∷ []) (closed-is s.feed))) refl
          (posts-join b.rooms.items b.outbox.items c.feed spec small s.posts))
          (record { fit = subst AllFit (sym like.open') s.roomy.fit; tickets = omega arith; entries = omega arith; stays = omega arith }),
    )

-- ---- leaves ----

-- listeners and those who stand for them have the same numbers
any-present : (m gone : ℕ) (h : Feed) (rests : List Rest) (ls : List Listener) → AllZip (Rests g726 gone h) rests ls
    → list_any (λ r. r.spec.member == m) rests ≡ list_any (λ l. l.spec.member == m) ls
any-present m gone h [] [] z = refl
any-present m gone h [] (l ∷ ls) z = absurd z
any-present m gone h (r ∷ rests) [] z = absurd z
any-present m gone h (r ∷ rests) (l ∷ ls) z =
    let ih = any-present m gone h rests ls z.1 in
    let at = ap (λ (x : JoinSpec). x.member == m) z.0.spec in
    cc

pub is-listener : (b : Book) (c : Core) (m : ℕ) → StandsOn b c
    → list_any (λ r. r.spec.member == m) b.present.items ≡ list_any (λ l. l.spec.member == m) (listeners g726 c.feed)
is-listener b c m s = any-present m (collects c.feed) c.feed b.present.items (listeners g726 c.feed) s.carries.present

any-one : (m : ℕ) (rests : List Rest) → list_any (λ r. r.spec.member == m) rests ≡ true → length (filter (λ r. not (r.spec.member == m)) rests) < length rests
any-one m [] e = cc
any-one m (r ∷ rests) e =
    let p = λ (x : Rest). not (x.spec.member == m) in
    let whole = length-filter_parts p rests in
    elim (cases_Bool (r.spec.member == m)) [
      | inl t ↦ (let a = ap length (cond-false (p r) (r ∷ filter p rests) (filter p rests) (not_from_true (r.spec.member == m) t)) in omega arith)
      | inr t ↦ (
          let a = ap length (cond-true (p r) (r ∷ filter p rests) (filter p rests) (not_from_false (r.spec.member == m) t)) in
          let ih = any-one m rests (cc) in
          omega arith)
    ]

pub leave-stands : (b b' : Book) (c : Core) (m : ℕ) → BeforeEndOn b → list_any (λ r. r.spec.member == m) b.present.items ≡ true
    → b'.log.feed ≡ with_entry (Leave m) b.log.feed
    → b'.outbox.items ≡ map (mail_goes m (closed_in b.log.feed)) b.outbox.items
    → b'.present.items ≡ filter (λ r. not (r.spec.member == m)) b.present.items → b.log.room ≤ b'.log.room + 1 → IsLike b b' → StandsOn b c
    → (accepts g726 c (Leave m) ≡ true) × StandsOn b' (next g726 c (Enters (Leave m)))
leave-stands b b' c m before there feed outbox present entries like s =
    let may : accepts g726 c (Leave m) ≡ true =
    and_from (list_any (λ l. l.spec.member == m) (listeners g726 c.feed)) (not (ended c.feed)) (sym (is-listener b c m s) ∙ there) (not_from_false (ended c.feed) (not-ended b c before s)) in
    let less = any-one m b.present.items there in
    let a = ap all_seats like.open' in
    let d = ap length like.open' in
    let e = ap length present in
    let room = like.room in
    let old = s.roomy.tickets in
    let old' = s.roomy.entries in
    let spare = s.roomy.stays in
    let more = like.spare in
    let same = ap length outbox ∙ length-map (mail_goes m (closed_in b.log.feed)) b.outbox.items in (
      may,
      entered-stands b' c (Leave m) may s.kept
          (follows-entry (Leave m) b.log.feed b'.log.feed b.stays.items b'.stays.items c.feed refl refl feed like.stays s.feed)
          (carries-like b.open_ticks.items b'.open_ticks.items (filter (λ r. not (r.spec.member == m)) b.present.items) b'.present.items b.queue.tickets b'.queue.tickets b.queue.issued b'.queue.issued (appended c (Leave m))
          like.open' present like.tickets like.issued
          (leave-carries g726 c b.open_ticks.items b.present.items b.queue.tickets b.queue.issued m s.carries))
          (posts-same b.rooms.items b'.rooms.items (map (mail_goes m (closes c.feed)) b.outbox.items) b'.outbox.items (Leave m ∷ c.feed) (Leave m ∷ c.feed)
          (sym like.rooms) (sym (outbox ∙ ap (λ (n : ℕ). map (mail_goes m n) b.outbox.items) (closed-is s.feed))) refl
          (posts-leave b.rooms.items b.outbox.items c.feed m s.posts))
          (record { fit = subst AllFit (sym like.open') s.roomy.fit; tickets = omega arith; entries = omega arith; stays = omega arith }),
    )

-- ---- the end ----

pub end-stands : (b b' : Book) (c : Core) → b'.log.feed ≡ cond (ended b.log.feed.since) b.log.feed (with_entry End b.log.feed) → b.log.room ≤ b'.log.room
    → b'.present.items ≡ b.present.items → b'.outbox.items ≡ b.outbox.items → IsLike b b'
    → StandsOn b c → StandsOn b' (next g726 c (Enters End))
end-stands b b' c feed entries present outbox like s =
    let same = ended-is s.feed in
    let e = ended b.log.feed.since in
    elim (cases_Bool (ended c.feed)) [
      | inl t ↦ subst (λ (d : Core). StandsOn b' d) (sym (cond-false (accepts g726 c End) (appended c End) c (not_from_true (ended c.feed) t)))
          (same-stands b b' c s (feed ∙ cond-true e b.log.feed (with_entry End b.log.feed) (same ∙ t)) entries present outbox like)
      | inr t ↦ (
          let d = same-stands b (record b' { log = record { feed = b.log.feed; room = b'.log.room } }) c s refl entries present outbox
          (record { open' = like.open'; rooms = like.rooms; tickets = like.tickets; issued = like.issued; room = like.room; stays = like.stays; spare = like.spare }) in
          entered-stands b' c End (not_from_false (ended c.feed) t) s.kept
          (follows-entry End b.log.feed b'.log.feed b.stays.items b'.stays.items c.feed refl refl
          (feed ∙ cond-false e b.log.feed (with_entry End b.log.feed) (same ∙ t)) like.stays s.feed)
          (end-carries g726 c b'.open_ticks.items b'.present.items b'.queue.tickets b'.queue.issued d.carries)
          (posts-end b'.rooms.items b'.outbox.items c.feed d.posts)
          (record { fit = d.roomy.fit; tickets = d.roomy.tickets; entries = d.roomy.entries; stays = d.roomy.stays }))
    ]

-- ---- cuts ----

pub cut-stands : (b b' : Book) (c : Core) → accepts g726 c Cut ≡ true → b'.log.feed ≡ cut_off b.queue.issued b.log.feed
    → b'.stays.items ≡ stays_kept (closed_in b.log.feed) b.outbox.items → vec_capacity b.stays ≤ vec_capacity b'.stays → b.log.room ≤ b'.log.room
    → b'.open_ticks.items ≡ b.open_ticks.items → b'.rooms.items ≡ b.rooms.items → b'.present.items ≡ b.present.items → b'.outbox.items ≡ b.outbox.items
    → b'.queue ≡ b.queue → StandsOn b c → StandsOn b' (next g726 c (Enters Cut))
cut-stands b b' c may feed stays spare entries open' rooms present outbox queue s =
    let h = c.feed in
    let can = may-cut g726 h may in
    let closed = closed-is s.feed in
    let issued = s.carries.issued_is ∙ (told g726 g726-tells c s.kept).counted.at_end can.collected in
    let mails = subst (λ (k : ℕ). Mails g726 k h b.outbox.items) can.collected s.posts.mails in
    let kept = stays ∙ (ap (λ (k : ℕ). stays_kept k b.outbox.items) closed ∙ mails-stays g726 h b.outbox.items mails) in
    let legal = and_from (may_follow g726 h Cut) (is_legal g726 h) may s.kept.carried.legal in
    let a = ap all_seats open' in
    let d = ap length open' in
    let e = ap length present in
    let f = ap (λ q. q.room) queue in
    let m = ap length outbox in
    let room = s.roomy.tickets in
    let old = s.roomy.entries in
    let least = s.roomy.stays in
    entered-stands b' c Cut may s.kept
    (follows-cut b.log.feed b'.log.feed b.stays.items b'.stays.items h b.queue.issued legal feed issued kept s.feed)
    (carries-like b.open_ticks.items b'.open_ticks.items b.present.items b'.present.items b.queue.tickets b'.queue.tickets b.queue.issued b'.queue.issued (appended c Cut)
    open' present (ap (λ q. q.tickets) queue) (ap (λ q. q.issued) queue)
    (cut-carries g726 c b.open_ticks.items b.present.items b.queue.tickets b.queue.issued s.carries))
    (posts-same b.rooms.items b'.rooms.items b.outbox.items b'.outbox.items (Cut ∷ h) (Cut ∷ h) (sym rooms) (sym outbox) refl
    (posts-cut b.rooms.items b.outbox.items h s.posts))
    (record { fit = subst AllFit (sym open') s.roomy.fit; tickets = omega arith; entries = omega arith; stays = omega arith })

-- ---- what is left ----

-- where each closed tick is collected, what the outbox has left is the rest
pub rests-are : (b : Book) (c : Core) → collects c.feed ≡ closes c.feed → StandsOn b c → flat_map last_of b.outbox.items ≡ rest g726 c.feed
rests-are b c all s = posts-rest b.rooms.items b.outbox.items c.feed all s.posts
