-- What holds between two ticks.
use Rattle.std.proofs.Common.{zero, suc, ◌≡◌, ◌<◌, ◌*◌, ◌+◌, ◌-◌, ◌++◌, ◌∷◌, [], ℕ, List, length, refl, sym, ap, ◌∙◌, subst, arith, append_assoc, add-one, Option, Some, None}
use Rattle.std.specs.Prelude.{IfSome}
use Rattle.std.proofs.lemmas.List.{append-nil}
use Rattle.roster_text.specs.declared.commands.Timed.{Timed}
use Rattle.rtp_dump.specs.declared.item.DumpItem.{DumpItem}
use Rattle.rtp_dump.specs.declared.item.TheConstants.{MAX_RECORDS}
use Rattle.rtp_dump.specs.Spelling.{Capture, Fits, record_octets}
use Rattle.rtp_dump.specs.Capture.{before, records_from}
use Rattle.rtp_dump.specs.Reading.{Reading, ahead, from_here, octets_of, IsLate, IsSound}
use Rattle.rtp_dump.proofs.Records.{records_from-record}
use Rattle.conference_spec.specs.declared.Entry.TheVariants.{Close, Collect}
use Rattle.conference_spec.specs.Codec.{g726}
use Rattle.conference_spec.specs.Feed.{Feed, closes}
use Rattle.conference_spec.specs.Packets.{sent}
use Rattle.session_spec.specs.Talkers.{Events, heard_now}
use Rattle.session_spec.specs.Events.{feed_of, commands_of, after_commands, after_records, after_cut, after_tick, events}
use Rattle.session_spec.specs.Captured.{until, from, heard_in, items, events_over}
use Rattle.session_spec.specs.Answer.{tick_text, ticks_text}
use Rattle.session_spec.proofs.Following.{records-feed, events-closes, text-stays}
use Rattle.desk_run.specs.Taking.{Heard, Hands, IsPast}
use Rattle.desk_run.specs.Handing.{Amount}
use Rattle.desk_run.specs.Ends.{HasWritten, Between}
use Rattle.desk_run.proofs.Texts.{grows_none}
use Rattle.desk_run.proofs.Taken.{hands-none, hands-more, ahead-moves}
use Rattle.desk_run.proofs.Follows.{until-stop, from-stop, from-zero, until-front, from-front, from-from}
use Rattle.desk_run.proofs.Ticked.{cut-since, commands-since}

-- ---- what a tick adds ----

-- what is written of tick k, where these records are heard in it after these events
abbrev text_now : List Timed → ℕ → List DumpItem → Events → List ℕ
text_now plan k items h = tick_text k (sent g726 k (feed_of (after_tick plan k items h)))

tick-since : (plan : List Timed) (k : ℕ) (its : List DumpItem) (h : Events) → (since : Feed) × (feed_of (after_tick plan k its h) ≡ since ++ feed_of h)
tick-since plan k its h =
    let g = after_cut k h in
    let applied = after_commands (commands_of plan k) g in
    let (since, e) = commands-since (commands_of plan k) g in
    let (first, f) = cut-since k h in
    let closed : Feed → Feed = λ f. Collect ∷ Close (heard_now (after_records its applied)) ∷ f in (
      closed (since ++ first),
      ap closed (records-feed its applied ∙ e ∙ ap (λ (x : Feed). since ++ x) f ∙ sym (append_assoc since first (feed_of h))),
    )

text-after : (plan : List Timed) (k : ℕ) (its : List DumpItem) (h : Events) → closes (feed_of h) ≡ k
    → ticks_text g726 (suc k) (feed_of (after_tick plan k its h)) ≡ ticks_text g726 k (feed_of h) ++ text_now plan k its h
text-after plan k its h e =
    let (since, same) = tick-since plan k its h in
    ap (λ (text : List ℕ). text ++ text_now plan k its h)
    (ap (ticks_text g726 k) same ∙ text-stays g726 k since (feed_of h) (omega arith))

-- the text of more ticks begins with that of fewer
pub text-front : (plan : List Timed) (heard : ℕ → List DumpItem) (k d : ℕ)
    → (more : List ℕ) × (ticks_text g726 (d + k) (feed_of (events plan heard (d + k))) ≡ ticks_text g726 k (feed_of (events plan heard k)) ++ more)
text-front plan heard k zero =
    let e : 0 + k ≡ k = omega arith in
    ([], ap (λ (n : ℕ). ticks_text g726 n (feed_of (events plan heard n))) e ∙ sym (append-nil (ticks_text g726 k (feed_of (events plan heard k)))))
text-front plan heard k (suc d) =
    let n = d + k in
    let e : suc d + k ≡ suc n = omega arith in
    let (more, same) = text-front plan heard k d in
    let step = text_now plan n (heard n) (events plan heard n) in (
      more ++ step,
      ap (λ (m : ℕ). ticks_text g726 m (feed_of (events plan heard m))) e
          ∙ text-after plan n (heard n) (events plan heard n) (events-closes plan heard n)
          ∙ ap (λ (text : List ℕ). text ++ step) same
          ∙ append_assoc (ticks_text g726 k (feed_of (events plan heard k))) more step,
    )

-- ---- between two ticks ----

-- by tick k what is still to come lies past the moment at which it begins, and before tick 0 nothing was read
abbrev pub PastAt : {S : Type 0} → (S → Option (List ℕ)) → ℕ → List DumpItem → Reading S → Type 0
PastAt rest zero given now = (given ≡ []) × (now.held ≡ None)
PastAt rest (suc j) given now =
    IsLate (20 * suc j) now.stage now.held × IfSome (rest now.source) (λ octets. IsPast (20 * suc j) now.held (ahead now octets))

-- these events were those of the first k ticks of a told capture, and the others are still to come
pub record Reached {S : Type 0} (rest : S → Option (List ℕ)) (start now : Reading S) (bytes : List ℕ) (plan : List Timed) (k : ℕ) (happened : Events) : Type 0 where
  pub left : List ℕ
  pub left_is : rest now.source ≡ Some left
  pub happened_is : happened ≡ events_over plan (items (ahead start bytes)) k
  pub rest_is : from (20 * k) (items (ahead start bytes)) ≡ items (ahead now left)

-- before tick k, what was handed out decides what happened, and P holds of that
pub record Standing {S : Type 0} (rest : S → Option (List ℕ)) (start now : Reading S) (plan : List Timed) (k : ℕ) (P : Events → Type 0) : Type 0 where
  pub given : List DumpItem
  pub hands : Hands rest start now given
  pub sound : IsSound now
  pub past : PastAt rest k given now
  pub happened : Events
  pub told : IfSome (rest start.source) (λ bytes. Reached rest start now bytes plan k happened)
  pub here : P happened

module _ {S : Type 0} (rest : S → Option (List ℕ)) where
  pub standing_start : (r : Reading S) (plan : List Timed) (P : Events → Type 0) → IsSound r → r.held ≡ None → P [] → Standing rest r r plan 0 P
  standing_start r plan P sound bare here = record {
    given = [];
    hands = hands-none rest r;
    sound = sound;
    past = (refl, bare);
    happened = [];
    told = by-told (rest r.source) refl;
    here = here;
  }
    where
      by-told : (o : Option (List ℕ)) → rest r.source ≡ o → IfSome o (λ bytes. Reached rest r r bytes plan 0 [])
      by-told None e = tt
      by-told (Some bytes) e = record { left = bytes; left_is = e; happened_is = refl; rest_is = from-zero (items (ahead r bytes)) }

  -- the record that is held back comes first
  pub ahead-held : (r : Reading S) (item : DumpItem) (octets : List ℕ) → r.held ≡ Some item → IsSound r
      → (more : Capture) × (ahead r octets ≡ before (record { at = r.place; item = item }) more)
      × (more ≡ records_from (MAX_RECORDS - (r.records + 1)) (r.place + (length item.octets + 8)) octets)
  ahead-held r item octets is sound =
      let fits = subst (λ (o : Option DumpItem). IfSome o (λ i. Fits i × (r.records < MAX_RECORDS))) is sound.held in
      let room : r.records < MAX_RECORDS = fits.1 in
      let one : MAX_RECORDS - r.records ≡ suc (MAX_RECORDS - (r.records + 1)) = omega arith in (
        records_from (MAX_RECORDS - (r.records + 1)) (r.place + (length item.octets + 8)) octets,
        ap (λ (o : Option DumpItem). from_here r (octets_of o ++ octets)) is
            ∙ ap (λ (n : ℕ). records_from n r.place (record_octets item ++ octets)) one
            ∙ records_from-record (MAX_RECORDS - (r.records + 1)) r.place item octets fits.0,
        refl,
      )

  -- what is ahead past a moment stays so
  past-stays : (m : ℕ) (r : Reading S) (octets : List ℕ) → IsSound r → IsPast m r.held (ahead r octets)
      → (until m (items (ahead r octets)) ≡ []) × (from m (items (ahead r octets)) ≡ items (ahead r octets))
  past-stays m r octets sound past = by-held r.held refl past
    where
      by-held : (o : Option DumpItem) → r.held ≡ o → IsPast m o (ahead r octets)
          → (until m (items (ahead r octets)) ≡ []) × (from m (items (ahead r octets)) ≡ items (ahead r octets))
      by-held None e past = (ap (until m) past.0, ap (from m) past.0 ∙ sym past.0)
      by-held (Some item) e late =
          let (more, is, n) = ahead-held r item octets e sound in
          let first : items (ahead r octets) ≡ item ∷ items more = ap items is in
          (ap (until m) first ∙ until-stop m item (items more) late, ap (from m) first ∙ from-stop m item (items more) late ∙ sym first)

  pub standing_tick : (start r s : Reading S) (plan now : List Timed) (k j : ℕ) (P Q : Option (List ℕ) → Events → Type 0) (o : Option (List ℕ)) → j ≡ suc k → now ≡ plan
      → Standing rest start r plan k (P o)
      → Heard rest r s (20 * (k + 1)) (λ its. (x : Option (List ℕ)) (h : Events) → P x h → Q x (after_tick now k its h)) → Standing rest start s plan j (Q o)
  standing_tick start r s plan now k j P Q o next same st heard =
      let its = heard.its in
      let happened = after_tick plan k its st.happened in
      let m = 20 * (k + 1) in
      let here : Q o happened = subst (λ (p : List Timed). Q o (after_tick p k its st.happened)) same (heard.here o st.happened st.here) in
      let whole : Standing rest start s plan (suc k) (Q o) = record {
        given = st.given ++ its;
        hands = hands-more rest start r s st.given its st.hands heard.hands;
        sound = heard.sound;
        past =
            subst (λ (i : ℕ). IsLate (20 * i) s.stage s.held × IfSome (rest s.source) (λ octets. IsPast (20 * i) s.held (ahead s octets))) (add-one k)
            (heard.late, heard.past);
        happened = happened;
        told = by-told (rest start.source) st.told;
        here = here;
      } in
      subst (λ (i : ℕ). Standing rest start s plan i (Q o)) (sym next) whole
    where
      by-told : (told : Option (List ℕ)) → IfSome told (λ bytes. Reached rest start r bytes plan k st.happened)
          → IfSome told (λ bytes. Reached rest start s bytes plan (suc k) (after_tick plan k heard.its st.happened))
      by-told None h = tt
      by-told (Some bytes) h =
          let its = heard.its in
          let m = 20 * (k + 1) in
          let all = items (ahead start bytes) in
          let (front, left, split, kept, is, joins) = ahead-moves rest r s its h.left h.left_is heard.hands in
          let ahead-now = items (ahead s left) in
          let past : IsPast m s.held (ahead s left) = subst (λ (x : Option (List ℕ)). IfSome x (λ octets. IsPast m s.held (ahead s octets))) kept heard.past in
          let stays = past-stays m s left heard.sound past in
          let here : from (20 * k) all ≡ its ++ ahead-now = h.rest_is ∙ joins.items_are in
          let heard-is : its ≡ heard_in all k =
          sym (ap (until m) here ∙ until-front m its ahead-now heard.early ∙ ap (λ (xs : List DumpItem). its ++ xs) stays.0 ∙ append-nil its) in
          record {
            left = left;
            left_is = kept;
            happened_is =
                ap (λ (xs : List DumpItem). after_tick plan k xs st.happened) heard-is
                ∙ ap (λ (e : Events). after_tick plan k (heard_in all k) e) h.happened_is;
            rest_is =
                ap (λ (n : ℕ). from (20 * n) all) (sym (add-one k))
                ∙ sym (from-from (20 * k) m all (omega arith))
                ∙ ap (from m) here ∙ from-front m its ahead-now heard.early ∙ stays.1;
          }

-- at the start nothing was written
pub bare-between : (desk : Events → Type 0) (conference : Feed → ℕ → Type 0) (out : Option (List ℕ)) (w : Amount) → w ≡ record { ticks = 0; packets = 0 } → desk [] → conference [] 0
    → Between desk conference out out w 0 []
bare-between desk conference out w none d c =
    subst (λ (a : Amount). Between desk conference out out a 0 []) (sym none)
    (record { desk_stands = d; conference_stands = c; closed = refl; behind = omega arith; kept_is = refl; written = record { wrote = grows_none out; counted = refl } })

-- the ticks that were left are written too
pub rested : (desk : Events → Type 0) (C D : Feed → ℕ → Type 0) (o m n : Option (List ℕ)) (w v : Amount) (k : ℕ) (h : Events)
    → v.ticks ≡ k → ((f : Feed) → C f w.ticks → closes f ≡ k → D f k)
    → ((x : Option (List ℕ)) (f : Feed) → C f w.ticks → closes f ≡ k → HasWritten x m w f → HasWritten x n v f)
    → Between desk C o m w k h → Between desk D o n v k h
rested desk C D o m n w v k h all stands whole at = record {
  desk_stands = at.desk_stands;
  conference_stands = subst (D (feed_of h)) (sym all) (stands (feed_of h) at.conference_stands at.closed);
  closed = at.closed;
  behind = omega arith;
  kept_is = at.kept_is;
  written = whole o (feed_of h) at.conference_stands at.closed at.written;
}
