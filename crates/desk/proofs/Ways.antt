-- Where an arrival goes.
use Rattle.std.proofs.Common.{◌≡◌, ℕ, ◌-◌, ◌<◌, ◌≤◌, Bool, true, false, cond, not, List, [], ◌∷◌, map, take, drop, set, length, refl, ap, ◌∙◌, sym, subst, arith, Some, None, Ok, Err}
use Rattle.std.specs.Prelude.{◌==◌, nat_lt}
use Rattle.std.proofs.lemmas.Bool.{lt-ltb, le-ltb}
use Rattle.rtp_head.specs.declared.Head.{Head}
use Rattle.rtp_head.specs.declared.Parsed.{Parsed}
use Rattle.rtp_head.specs.declared.HeadFault.{HeadFault}
use Rattle.rtp_head.specs.Rtp.{rtp}
use Rattle.jitter_line.specs.Histories.{packet}
use Rattle.session_spec.specs.declared.Arrival.{Arrival}
use Rattle.session_spec.specs.declared.Arrival.TheVariants.{Cut, Head as bad_head, Unknown, PayloadType, Empty, TooLong, Ragged}
use Rattle.session_spec.specs.Talkers.{Talker, Way, Stops, ToLine, given, talker_on, way, way_by_head, way_of_payload, payload_type, longest, is_ragged, placed}
use Rattle.desk.specs.declared.channel.Channel.{Channel}
use Rattle.desk.specs.Channels.{StandsFor, EachStands, way_in, after_way}
use Rattle.desk.proofs.Hearing.{IsOwn, Found}

pub way_cut : (ts : List Talker) (plen : ℕ) (octets : List ℕ) → length octets < plen → way ts plen octets ≡ Stops Cut
way_cut ts plen octets short = let e : nat_lt (length octets) plen ≡ true = lt-ltb (length octets) plen short in rw e refl

way_whole : (ts : List Talker) (plen len : ℕ) (octets : List ℕ) → len ≡ plen → len ≤ length octets
    → way ts plen octets ≡ way_by_head ts (take len octets) (rtp (take len octets))
way_whole ts plen len octets same whole =
    let long : plen ≤ length octets = omega arith in
    let e : nat_lt (length octets) plen ≡ false = le-ltb (length octets) plen long in
    ap (λ (b : Bool). cond b (Stops Cut) (way_by_head ts (take plen octets) (rtp (take plen octets)))) e
    ∙ ap (λ (n : ℕ). way_by_head ts (take n octets) (rtp (take n octets))) (sym same)

pub way_headless : (ts : List Talker) (plen len : ℕ) (octets : List ℕ) (fault : HeadFault) → len ≡ plen → len ≤ length octets
    → rtp (take len octets) ≡ Err fault → way ts plen octets ≡ Stops (bad_head fault)
way_headless ts plen len octets fault same whole is =
    way_whole ts plen len octets same whole ∙ ap (way_by_head ts (take len octets)) is

pub way_unknown : (ts : List Talker) (plen len : ℕ) (octets : List ℕ) (parsed : Parsed) → len ≡ plen → len ≤ length octets
    → rtp (take len octets) ≡ Ok parsed → talker_on parsed.head.ssrc ts ≡ None → way ts plen octets ≡ Stops Unknown
way_unknown ts plen len octets parsed same whole is nobody =
    way_whole ts plen len octets same whole ∙ ap (way_by_head ts (take len octets)) is ∙ rw nobody refl

pub way_known : (ts : List Talker) (plen len : ℕ) (octets : List ℕ) (parsed : Parsed) (t : Talker) → len ≡ plen → len ≤ length octets
    → rtp (take len octets) ≡ Ok parsed → talker_on parsed.head.ssrc ts ≡ Some t
    → way ts plen octets ≡ way_in t parsed.head (take (parsed.to - parsed.from) (drop parsed.from (take len octets)))
way_known ts plen len octets parsed t same whole is on =
    way_whole ts plen len octets same whole ∙ ap (way_by_head ts (take len octets)) is ∙ rw on refl

-- a talker's own packet goes nowhere else
pub own_way : (t : Talker) (head : Head) (payload : List ℕ) → IsOwn (way_in t head payload) t.member
own_way t head payload =
    elim (not (head.pt == payload_type t.talk.law)) as (λ b. IsOwn (cond b (Stops PayloadType) (way_of_payload t head.stamp payload)) t.member) [
      | true ↦ tt
      | false ↦
          let line : Way = ToLine t.member t.line (packet head.stamp (placed t.talk.law payload)) in
          let whole : Way = cond (is_ragged t.talk.law (length payload)) (Stops Ragged) line in
          elim (length payload == 0) as (λ b. IsOwn (cond b (Stops Empty) (cond (nat_lt (longest t.talk.law) (length payload)) (Stops TooLong) whole)) t.member) [
            | true ↦ tt
            | false ↦ elim (nat_lt (longest t.talk.law) (length payload)) as (λ b. IsOwn (cond b (Stops TooLong) whole) t.member) [
              | true ↦ tt
              | false ↦ elim (is_ragged t.talk.law (length payload)) as (λ b. IsOwn (cond b (Stops Ragged) line) t.member) [ true ↦ tt | false ↦ refl ]
            ]
          ]
    ]

stays : (refusal : Arrival) (ts : List Talker) → map (given (Stops refusal)) ts ≡ ts
stays refusal [] = refl
stays refusal (t ∷ ts) = ap (λ (us : List Talker). t ∷ us) (stays refusal ts)

-- who is refused by itself changes no line
pub stopped : (w : Way) (refusal : Arrival) (cs : List Channel) (ts : List Talker) → w ≡ Stops refusal → EachStands cs ts
    → EachStands cs (map (given w) ts)
stopped w refusal cs ts stops each =
    subst (λ (us : List Talker). EachStands cs us) (sym (ap (λ (x : Way). map (given x) ts) stops ∙ stays refusal ts)) each

-- a packet goes to the line of its talker
pub heard_stands : (w : Way) (ssrc place : ℕ) (cs : List Channel) (ts : List Talker) (c new : Channel) (head : Head) (payload : List ℕ)
    → (at : Found ssrc cs ts place c) → w ≡ way_in at.talker head payload → StandsFor new (after_way (way_in at.talker head payload) at.talker)
    → EachStands (set cs place new) (map (given w) ts)
heard_stands w ssrc place cs ts c new head payload at goes stands =
    subst (λ (x : Way). EachStands (set cs place new) (map (given x) ts)) (sym goes)
    (at.after new (way_in at.talker head payload) (own_way at.talker head payload) stands)
