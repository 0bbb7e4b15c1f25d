-- The answer of a session, as its packets make it.
use Rattle.std.proofs.Common.{◌≡◌, ◌∙◌, ℕ, zero, suc, ◌+◌, ◌<◌, ◌≤◌, inl, inr, List, [], ◌∷◌, ◌++◌, refl, sym, ap, arith}
use Rattle.std.specs.Prelude.{Bool, nat_lt, Option, Some, None}
use Rattle.std.specs.List.{flat_map}
use Rattle.std.specs.Option.{option_or, option_map}
use Rattle.std.proofs.lemmas.Bool.{cases_Bool, cond-true, ltb-false}
use Rattle.std.proofs.lemmas.Grind.{flat_map-append}
use Rattle.roster_text.specs.declared.commands.Timed.{Timed}
use Rattle.rtp_dump.specs.declared.item.DumpItem.{DumpItem}
use Rattle.rtp_dump.specs.Spelling.{Fault, Capture}
use Rattle.rtp_dump.specs.Capture.{capture}
use Rattle.rtp_dump.specs.Writing.{output_head}
use Rattle.conference_spec.specs.declared.Packet.{Packet}
use Rattle.conference_spec.specs.Codec.{g726}
use Rattle.conference_spec.specs.Feed.{Feed}
use Rattle.conference_spec.specs.Packets.{Sending, sent, rest}
use Rattle.session_spec.specs.Events.{feed_of}
use Rattle.session_spec.specs.Captured.{Meeting, items, ticks_ended, ticks_before, met, met_after, head_fault, events_over}
use Rattle.session_spec.specs.Answer.{after_head, tick_text, ticks_text, rest_text, text_of, written}
use Rattle.desk_run.specs.Whole.{Given, feed_to}
use Rattle.audit_check.specs.Sendings.{sent_in, sendings_to, sendings, record_text, answer_of}
use Rattle.audit_check.specs.Ends.{answer, fault_met}
use Rattle.audit_check.proofs.Places.{texts}

-- where no fault is met all ticks are run
runs-all : (ticks : ℕ) (its : List DumpItem) (f : Option Fault) → met_after ticks its f ≡ None → ticks_before ticks its f ≡ ticks
runs-all ticks its None e = refl
runs-all ticks its (Some x) e =
    let m : Meeting = record { fault = x; tick = ticks_ended its } in
    elim (cases_Bool (nat_lt (ticks_ended its) ticks)) [
      | inl t ↦ let some = cond-true (nat_lt (ticks_ended its) ticks) (Some m) None t in absurd (cc)
      | inr t ↦ let le = ltb-false (ticks_ended its) ticks t in omega arith
    ]

text-whole : (plan : List Timed) (ticks : ℕ) (c : Capture) → met ticks c ≡ None
    → text_of g726 plan ticks c ≡ ticks_text g726 ticks (feed_of (events_over plan (items c) ticks)) ++ tick_text ticks (rest g726 (feed_of (events_over plan (items c) ticks)))
text-whole plan ticks c e =
    let feed : ℕ → Feed = λ n. feed_of (events_over plan (items c) n) in
    let text : ℕ → Option Meeting → List ℕ = λ n m. ticks_text g726 n (feed n) ++ rest_text g726 ticks m (feed n) in
    ap (λ (n : ℕ). text n (met ticks c)) (runs-all ticks (items c) c.fault e) ∙ ap (text ticks) e

written-is : (plan : List Timed) (ticks : ℕ) (bytes : List ℕ) → head_fault bytes ≡ None → written g726 plan ticks bytes ≡ output_head ++ text_of g726 plan ticks (capture bytes)
unfolding written
written-is plan ticks bytes e = ap (λ (f : Option Fault). after_head f (text_of g726 plan ticks (capture bytes))) e

-- the packets of a tick make its text
tick-texts : (k : ℕ) (ps : List Packet) → texts (sent_in k ps) ≡ tick_text k ps
tick-texts k [] = refl
tick-texts k (p ∷ ps) = ap (λ (xs : List ℕ). record_text (record { tick = k; packet = p }) ++ xs) (tick-texts k ps)

ticks-texts : (k : ℕ) (h : Feed) → texts (sendings_to k h) ≡ ticks_text g726 k h
ticks-texts zero h = refl
ticks-texts (suc k) h =
    flat_map-append record_text (sendings_to k h) (sent_in k (sent g726 k h))
    ∙ ap (λ (xs : List ℕ). xs ++ texts (sent_in k (sent g726 k h))) (ticks-texts k h)
    ∙ ap (λ (xs : List ℕ). ticks_text g726 k h ++ xs) (tick-texts k (sent g726 k h))

none-met : (a : Option Fault) (m : Option Meeting) → option_or a (option_map (λ (x : Meeting). x.fault) m) ≡ None → (a ≡ None) × (m ≡ None)
none-met None None e = (refl, refl)
none-met None (Some m) e = absurd (cc)
none-met (Some f) m e = absurd (cc)

-- of a session without a fault they make the whole answer
pub whole-answer : (given : Given) → fault_met given ≡ None → answer_of (sendings given) ≡ answer given
whole-answer given none =
    let parts = none-met (head_fault given.bytes) (met given.ticks (capture given.bytes)) none in
    let h = feed_to given given.ticks in
    ap (λ (xs : List ℕ). output_head ++ xs)
    (flat_map-append record_text (sendings_to given.ticks h) (sent_in given.ticks (rest g726 h))
    ∙ ap (λ (xs : List ℕ). xs ++ texts (sent_in given.ticks (rest g726 h))) (ticks-texts given.ticks h)
    ∙ ap (λ (xs : List ℕ). ticks_text g726 given.ticks h ++ xs) (tick-texts given.ticks (rest g726 h))
    ∙ sym (text-whole given.plan given.ticks (capture given.bytes) parts.1))
    ∙ sym (written-is given.plan given.ticks given.bytes parts.0)
