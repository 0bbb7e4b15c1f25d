-- How many datagrams a session hears at the most.
use Rattle.std.proofs.Common.{◌≡◌, ◌∙◌, ℕ, zero, suc, ◌+◌, ◌-◌, ◌*◌, ◌<◌, ◌≤◌, Bool, true, false, not, List, [], ◌∷◌, ◌++◌, length, map, take, drop, refl, sym, ap, arith, append_assoc, take-add}
use Rattle.std.specs.Prelude.{nat_lt, nat_le, if◌then◌else◌}
use Rattle.std.specs.List.{filter}
use Rattle.std.proofs.lemmas.List.{length-append, length-map}
use Rattle.std.proofs.lemmas.List.Elements.{filter-append}
use Rattle.std.proofs.lemmas.List.Filters.{length-filter_both}
use Rattle.roster_text.specs.declared.commands.Timed.{Timed}
use Rattle.rtp_dump.specs.declared.item.DumpItem.{DumpItem}
use Rattle.udp_edge.specs.declared.turns.Turn.{Turn}
use Rattle.udp_edge.specs.declared.turns.Turn.TheVariants as turns
use Rattle.udp_edge.specs.Time.{later}
use Rattle.session_spec.specs.Talkers.{Events, Applies, Hears, Cuts, talkers, arrival, is_accepted}
use Rattle.session_spec.specs.Events.{refused, begin_of, commands_of, begins_with_cut, after_commands, after_record, after_records, after_cut, events}
use Rattle.live_spec.specs.Heard.{Live, rounds, rounds_in, rounds_to, turns_to, turns_in, next_answer, after_answers, looked_at, datagrams, is_control, recorded, heard, controls, live_events}

by-test : (b : Bool) (n m : ℕ) (most : ℕ) → n ≤ most → m ≤ most → (if b then n else m) ≤ most
by-test true n m most left right = left
by-test false n m most left right = right

rounds-few : (most gone start : ℕ) (answers : List ℕ) → rounds most gone start answers ≤ most
rounds-few zero gone start answers = omega arith
rounds-few (suc most) gone start answers =
    let more = rounds-few most gone start (later answers) in
    by-test (nat_le gone (next_answer answers - start)) 1 (suc (rounds most gone start (later answers))) (suc most) (omega arith) (omega arith)

rounds-in-few : (k start : ℕ) (answers : List ℕ) → rounds_in k start answers ≤ 65536
unfolding rounds_in
rounds-in-few k start answers = rounds-few 65536 (begin_of (k + 1)) start answers

pub rounds-to-few : (live : Live) (k : ℕ) → rounds_to live k ≤ 65536 * k
rounds-to-few live zero = omega arith
rounds-to-few live (suc k) =
    omega (arith, rounds-to-few live k, rounds-in-few k live.start (after_answers (rounds_to live k) live.answers))

looked-at-few : (octets : List ℕ) → length (looked_at octets) ≤ 1
looked-at-few [] = omega arith
looked-at-few (o ∷ octets) = omega arith

datagrams-few : (coming : List Turn) → length (datagrams coming) ≤ length coming
datagrams-few [] = omega arith
datagrams-few (turns.Datagram octets from ∷ coming) =
    omega (arith, length-append (looked_at octets) (datagrams coming), looked-at-few octets, datagrams-few coming)
datagrams-few (turns.Nothing ∷ coming) = omega (arith, datagrams-few coming)
datagrams-few (turns.Fault ∷ coming) = omega (arith, datagrams-few coming)

pub datagrams-append : (one other : List Turn) → datagrams (one ++ other) ≡ datagrams one ++ datagrams other
datagrams-append [] other = refl
datagrams-append (turns.Datagram octets from ∷ one) other =
    ap (λ (ds : List (List ℕ)). looked_at octets ++ ds) (datagrams-append one other) ∙ sym (append_assoc (looked_at octets) (datagrams one) (datagrams other))
datagrams-append (turns.Nothing ∷ one) other = datagrams-append one other
datagrams-append (turns.Fault ∷ one) other = datagrams-append one other

take-few : {X : Type 0} (n : ℕ) (xs : List X) → length (take n xs) ≤ n
take-few zero xs = omega arith
take-few (suc n) [] = omega arith
take-few (suc n) (x ∷ xs) = omega (arith, take-few n xs)

-- the packets of RTCP of one more tick
pub controls-more : (live : Live) (k : ℕ) → controls live (suc k) ≡ controls live k ++ filter is_control (datagrams (turns_in live k))
controls-more live k =
    ap (λ (ts : List Turn). filter is_control (datagrams ts))
    (take-add (rounds_to live k) (rounds_in k live.start (after_answers (rounds_to live k) live.answers)) live.coming)
    ∙ ap (filter is_control) (datagrams-append (turns_to live k) (turns_in live k))
    ∙ filter-append is_control (datagrams (turns_to live k)) (datagrams (turns_in live k))

refused-commands : (cs : List Timed) (h : Events) → refused (after_commands cs h) ≡ refused h
refused-commands [] h = refl
refused-commands (c ∷ cs) h = refused-commands cs (Applies c.command ∷ h)

refused-cut : (k : ℕ) (h : Events) → refused (after_cut k h) ≡ refused h
refused-cut k h = by (begins_with_cut k)
  where
    by : (b : Bool) → refused (if b then Cuts ∷ h else h) ≡ refused h
    by true = refl
    by false = refl

refused-record : (i : DumpItem) (h : Events) → refused (after_record i h) ≤ refused h + 1
refused-record i h = by (nat_lt 0 i.plen)
  where
    counted : (b : Bool) → (if b then refused h else refused h + 1) ≤ refused h + 1
    counted true = omega arith
    counted false = omega arith

    by : (b : Bool) → refused (if b then Hears i.plen i.octets ∷ h else h) ≤ refused h + 1
    by true = counted (is_accepted (arrival (talkers h) i.plen i.octets))
    by false = omega arith

refused-records : (is : List DumpItem) (h : Events) → refused (after_records is h) ≤ refused h + length is
refused-records [] h = omega arith
refused-records (i ∷ is) h = omega (arith, refused-records is (after_record i h), refused-record i h)

heard-few : (live : Live) (k : ℕ) → length (heard live k) + length (filter is_control (datagrams (turns_in live k))) ≤ rounds_in k live.start (after_answers (rounds_to live k) live.answers)
heard-few live k =
    let ds = datagrams (turns_in live k) in
    let n = rounds_in k live.start (after_answers (rounds_to live k) live.answers) in
    let mapped : length (heard live k) ≡ length (filter (λ (o : List ℕ). not (is_control o)) ds) =
    length-map (filter (λ (o : List ℕ). not (is_control o)) ds) (recorded k) in
    omega (
      arith,
      mapped,
      length-filter_both is_control (λ (o : List ℕ). not (is_control o)) (λ o. refl) ds,
      datagrams-few (turns_in live k),
      take-few n (drop (rounds_to live k) live.coming),
    )

pub refusals-few : (plan : List Timed) (live : Live) (k : ℕ) → refused (live_events plan live k) + length (controls live k) ≤ rounds_to live k
refusals-few plan live zero = omega arith
refusals-few plan live (suc k) =
    let h = live_events plan live k in
    let cs = commands_of plan k in
    let ds = filter is_control (datagrams (turns_in live k)) in
    let all : length (controls live (suc k)) ≡ length (controls live k) + length ds = ap length (controls-more live k) ∙ length-append (controls live k) ds in
    omega (
      arith,
      all,
      refusals-few plan live k,
      heard-few live k,
      refused-records (heard live k) (after_commands cs (after_cut k h)),
      refused-commands cs (after_cut k h),
      refused-cut k h,
    )
