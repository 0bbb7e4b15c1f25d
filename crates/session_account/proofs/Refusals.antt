-- What was refused, kind by kind.
use Rattle.std.proofs.Common.{◌≡◌, ◌∙◌, ℕ, ◌+◌, ◌-◌, Bool, true, false, List, [], ◌∷◌, length, take, drop, refl, sym, ap, arith, Option, Some, None, Result, Ok, Err}
use Rattle.std.specs.Prelude.{nat_eq, nat_lt, unwrap_or, if◌then◌else◌, not, ◌==◌}
use Rattle.std.specs.List.{sum_by}
use Rattle.std.proofs.lemmas.List.Sums.{sum_by-cons}
use Rattle.std.specs.Map.{lookup}
use Rattle.indexmap.specs.IndexMap.{insert_entry}
use Rattle.roster_text.specs.declared.commands.Law.{Law}
use Rattle.rtp_head.specs.declared.Parsed.{Parsed}
use Rattle.rtp_head.specs.declared.HeadFault.{HeadFault}
use Rattle.rtp_head.specs.declared.HeadFault.TheVariants.{Short, Version, Csrcs, Extension, Padding}
use Rattle.rtp_head.specs.Rtp.{rtp}
use Rattle.jitter_line.specs.declared.line.Put.{Put}
use Rattle.jitter_line.specs.declared.line.Put.TheVariants as put
use Rattle.jitter_line.specs.Histories.{packet}
use Rattle.jitter_line.specs.Standing.{answer}
use Rattle.session_spec.specs.declared.Arrival.{Arrival}
use Rattle.session_spec.specs.declared.Arrival.TheVariants.{Took, Restarted, Cut, Head, Unknown, PayloadType, Empty, TooLong, Ragged, Late, Early}
use Rattle.session_spec.specs.Talkers.{Events, Applies, Hears, Ticks, Cuts, Talker, Way, Stops, ToLine, talkers, arrival, arrival_by, arrival_of, way_by_head, way_to, way_of_payload, talker_on, payload_type, longest, is_ragged, placed, is_accepted}
use Rattle.session_spec.specs.Events.{refused}
use Rattle.session_account.specs.declared.counts.Torn.{Torn}
use Rattle.session_account.specs.declared.streams.Stream.{Stream}
use Rattle.session_account.specs.Arriving.{Arrived, arrived, law_at, ssrc_heard, heard, by_head, with_packet, counted, answered, begins, reached, torn_by, with_fault}
use Rattle.session_account.specs.Laws.{refused_by, torn_all, refused_in}

-- one if it wasn't accepted
abbrev one_if : Arrival → ℕ
one_if a = if is_accepted a then 0 else 1

-- it has a head
abbrev HasHead : Arrival → Type 0
HasHead Cut = ⊥
HasHead (Head fault) = ⊥
HasHead a = Unit {0}

abbrev streams_sum : List (ℕ × Stream) → ℕ
streams_sum es = sum_by (λ (e : ℕ × Stream). refused_by e.1) es

answered-more : (law : Option Law) (a : Arrival) (n : ℕ) (s : Stream) → HasHead a → refused_by (answered law a n s) ≡ refused_by s + one_if a
answered-more law (Took new) n s h = omega arith
answered-more law Restarted n s h = omega arith
answered-more law Unknown n s h = omega arith
answered-more law PayloadType n s h = omega arith
answered-more law Empty n s h = omega arith
answered-more law TooLong n s h = omega arith
answered-more law Ragged n s h = omega arith
answered-more law Late n s h = omega arith
answered-more law Early n s h = omega arith
answered-more law Cut n s h = absurd h
answered-more law (Head fault) n s h = absurd h

torn-same : (a : Arrival) (t : Arrived) → HasHead a → torn_by a t.torn ≡ t.torn
torn-same (Took new) t h = refl
torn-same Restarted t h = refl
torn-same Unknown t h = refl
torn-same PayloadType t h = refl
torn-same Empty t h = refl
torn-same TooLong t h = refl
torn-same Ragged t h = refl
torn-same Late t h = refl
torn-same Early t h = refl
torn-same Cut t h = absurd h
torn-same (Head fault) t h = absurd h

plus : (t t' u u' more : ℕ) → t' ≡ t → u' ≡ u + more → t' + u' ≡ (t + u) + more
plus t t' u u' more one other = omega arith

sum-of : (e : ℕ × Stream) (es : List (ℕ × Stream)) → streams_sum (e ∷ es) ≡ refused_by e.1 + streams_sum es
sum-of e es = sum_by-cons (λ (x : ℕ × Stream). refused_by x.1) e es

-- a row that is written changes the sum by what it changed
inserted : (k : ℕ) (new d : Stream) (more : ℕ) (es : List (ℕ × Stream)) → refused_by d ≡ 0 → refused_by new ≡ refused_by (unwrap_or (lookup (nat_eq k) es) d) + more
    → streams_sum (insert_entry nat_eq es k new) ≡ streams_sum es + more
inserted k new d more [] none is = sum-of (k, new) [] ∙ adding (refused_by new) (refused_by d) more is none
  where
    adding : (n m more : ℕ) → n ≡ m + more → m ≡ 0 → n + 0 ≡ 0 + more
    adding n m more a b = omega arith
inserted k new d more (e ∷ es) none is = by-test (nat_eq k e.0) is (λ q. inserted k new d more es none q)
  where
    here : (n m more s : ℕ) → n ≡ m + more → n + s ≡ (m + s) + more
    here n m more s is = omega arith

    there : (m more s s' : ℕ) → s' ≡ s + more → m + s' ≡ (m + s) + more
    there m more s s' is = omega arith

    by-test : (b : Bool) → refused_by new ≡ refused_by (unwrap_or (if b then Some e.1 else lookup (nat_eq k) es) d) + more
        → (refused_by new ≡ refused_by (unwrap_or (lookup (nat_eq k) es) d) + more → streams_sum (insert_entry nat_eq es k new) ≡ streams_sum es + more)
        → streams_sum (if b then (e.0, new) ∷ es else e ∷ insert_entry nat_eq es k new) ≡ streams_sum (e ∷ es) + more
    by-test true is others = sum-of (e.0, new) es ∙ here (refused_by new) (refused_by e.1) more (streams_sum es) is ∙ ap (λ n. n + more) (sym (sum-of e es))
    by-test false is others =
        sum-of e (insert_entry nat_eq es k new)
        ∙ there (refused_by e.1) more (streams_sum es) (streams_sum (insert_entry nat_eq es k new)) (others is)
        ∙ ap (λ n. n + more) (sym (sum-of e es))

of-put : (p : Put) → HasHead (arrival_of p)
of-put (put.Took new) = tt
of-put put.Restarted = tt
of-put put.Late = tt
of-put put.Early = tt

if-way : (b : Bool) (v w : Way) → HasHead (arrival_by v) → HasHead (arrival_by w) → HasHead (arrival_by (if b then v else w))
if-way true v w one other = one
if-way false v w one other = other

of-payload : (t : Talker) (stamp : ℕ) (payload : List ℕ) → HasHead (arrival_by (way_of_payload t stamp payload))
of-payload t stamp payload =
    let last : Way = ToLine t.member t.line (packet stamp (placed t.talk.law payload)) in
    let whole : Way = if is_ragged t.talk.law (length payload) then Stops Ragged else last in
    let short : Way = if nat_lt (longest t.talk.law) (length payload) then Stops TooLong else whole in
    if-way (length payload == 0) (Stops Empty) short tt
    (if-way (nat_lt (longest t.talk.law) (length payload)) (Stops TooLong) whole tt
    (if-way (is_ragged t.talk.law (length payload)) (Stops Ragged) last tt (of-put (answer t.line (packet stamp (placed t.talk.law payload))))))

of-talker : (t : Option Talker) (octets : List ℕ) (parsed : Parsed) → HasHead (arrival_by (way_to t octets parsed))
of-talker None octets parsed = tt
of-talker (Some t) octets parsed =
    let payload : List ℕ = take (parsed.to - parsed.from) (drop parsed.from octets) in
    if-way (not (parsed.head.pt == payload_type t.talk.law)) (Stops PayloadType) (way_of_payload t parsed.head.stamp payload) tt
    (of-payload t parsed.head.stamp payload)

-- one more packet
counted-more : (law : Option Law) (x : Arrival) (parsed : Parsed) (a : Arrived) → HasHead x
    → refused_in (record { torn = torn_by x a.torn; streams = with_packet law x parsed a.streams }) ≡ refused_in a + one_if x
counted-more law x parsed a h =
    let old : Stream = unwrap_or (lookup (nat_eq parsed.head.ssrc) a.streams) (begins parsed.head.seq) in
    plus (torn_all a.torn) (torn_all (torn_by x a.torn)) (streams_sum a.streams) (streams_sum (with_packet law x parsed a.streams)) (one_if x)
    (ap torn_all (torn-same x a h))
    (inserted parsed.head.ssrc (counted law x parsed old) (begins parsed.head.seq) (one_if x) a.streams refl
    (answered-more law x (parsed.to - parsed.from) (record old { packets = old.packets + 1; next = reached parsed.head.seq old.next }) h))

torn-more : (f : HeadFault) (t : Torn) → torn_all (with_fault f t) ≡ torn_all t + 1
torn-more Short t = omega arith
torn-more Version t = omega arith
torn-more Csrcs t = omega arith
torn-more Extension t = omega arith
torn-more Padding t = omega arith

beside : (t t' u : ℕ) → t' ≡ t + 1 → t' + u ≡ (t + u) + 1
beside t t' u is = omega arith

cut-more : (t : Torn) → torn_all (torn_by Cut t) ≡ torn_all t + 1
cut-more t = omega arith

by-head-more : (law : Option Law) (ts : List Talker) (octets : List ℕ) (r : Result Parsed HeadFault) (a : Arrived)
    → refused_in (record { torn = torn_by (arrival_by (way_by_head ts octets r)) a.torn; streams = by_head law (arrival_by (way_by_head ts octets r)) r a.streams })
    ≡ refused_in a + one_if (arrival_by (way_by_head ts octets r))
by-head-more law ts octets (Err fault) a = beside (torn_all a.torn) (torn_all (with_fault fault a.torn)) (streams_sum a.streams) (torn-more fault a.torn)
by-head-more law ts octets (Ok parsed) a =
    let t : Option Talker = talker_on parsed.head.ssrc ts in
    counted-more law (arrival_by (way_to t octets parsed)) parsed a (of-talker t octets parsed)

by-cut-more : (law : Option Law) (b : Bool) (ts : List Talker) (octets : List ℕ) (r : Result Parsed HeadFault) (a : Arrived)
    → refused_in (record {
      torn = torn_by (arrival_by (if b then Stops Cut else way_by_head ts octets r)) a.torn;
      streams = if b then a.streams else by_head law (arrival_by (if b then Stops Cut else way_by_head ts octets r)) r a.streams;
    }) ≡ refused_in a + one_if (arrival_by (if b then Stops Cut else way_by_head ts octets r))
by-cut-more law true ts octets r a = beside (torn_all a.torn) (torn_all (torn_by Cut a.torn)) (streams_sum a.streams) (cut-more a.torn)
by-cut-more law false ts octets r a = by-head-more law ts octets r a

-- one more arrival
pub heard-more : (law : Option Law) (ts : List Talker) (plen : ℕ) (octets : List ℕ) (a : Arrived)
    → refused_in (heard law (arrival ts plen octets) plen octets a) ≡ refused_in a + one_if (arrival ts plen octets)
heard-more law ts plen octets a = by-cut-more law (nat_lt (length octets) plen) ts (take plen octets) (rtp (take plen octets)) a

pub add-up : (h : Events) → refused_in (arrived h) ≡ refused h
add-up [] = refl
add-up (Applies c ∷ h) = add-up h
add-up (Ticks ∷ h) = add-up h
add-up (Cuts ∷ h) = add-up h
add-up (Hears plen octets ∷ h) = heard-more (law_at (ssrc_heard plen octets) (talkers h)) (talkers h) plen octets (arrived h) ∙ ap (λ n. n + one_if (arrival (talkers h) plen octets)) (add-up h) ∙ last (is_accepted (arrival (talkers h) plen octets)) (refused h)
  where
    last : (b : Bool) (n : ℕ) → n + (if b then 0 else 1) ≡ (if b then n else n + 1)
    last true n = omega arith
    last false n = refl
