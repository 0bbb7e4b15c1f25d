-- The packets of ticks as they are handed out.
use Rattle.std.proofs.Common.{◌≡◌, ◌∙◌, ℕ, zero, suc, ◌+◌, ◌<◌, ◌≤◌, List, [], ◌∷◌, ◌++◌, length, take, map, get_or, refl, sym, ap, subst, arith, append_assoc, add-one}
use Rattle.std.specs.Prelude.{Bool, true, false, ◌==◌, if◌then◌else◌, Result, Ok, Err, OnOk, Option, Some, slice_get}
use Rattle.std.specs.List.{list_any}
use Rattle.std.proofs.lemmas.List.{map-append, take_more}
use Rattle.std.proofs.lemmas.Option.{get_or_from_slice_get, slice_get_within}
use Rattle.conference_spec.specs.declared.Packet.{Packet}
use Rattle.conference_spec.specs.declared.Entry.TheVariants.{Leave, Close, Collect}
use Rattle.talk_mix.specs.declared.ticks.Tick.{Tick}
use Rattle.conference_spec.specs.Machine.{Core}
use Rattle.conference_spec.specs.Codec.{g726}
use Rattle.conference_spec.specs.Feed.{Feed, closes, listeners}
use Rattle.conference_spec.specs.Packets.{Sending, sent, rest}
use Rattle.conference_spec.proofs.Sends.{sent-stays}
use Rattle.tick_core.specs.declared.book.Book.{Book}
use Rattle.tick_core.specs.Held.{Sent}
use Rattle.tick_core.specs.Standing.{Stands}
use Rattle.desk_run.specs.Handing.{leaving, sent_from}
use Rattle.desk_run.specs.BookSide.{StandsFor, HandedAll}
use Rattle.desk_run.proofs.Handing.{sent-at}
use Rattle.audit_check.specs.declared.compare.Compare.{Compare}
use Rattle.audit_check.specs.declared.checking.Checking.{Checking}
use Rattle.audit_check.specs.Sendings.{sent_in, sendings_to}
use Rattle.audit_check.specs.Comparing.{Compared, Checks}

-- what was sent stays, whatever comes later
pub sendings-stay : (n : ℕ) (since h : Feed) → n ≤ closes h → sendings_to n (since ++ h) ≡ sendings_to n h
sendings-stay zero since h le = refl
sendings-stay (suc n) since h le =
    ap (λ (ss : List Sending). ss ++ sent_in n (sent g726 n (since ++ h))) (sendings-stay n since h (omega arith))
    ∙ ap (λ (ps : List Packet). sendings_to n h ++ sent_in n ps) (sent-stays g726 n since h (omega arith))

pub compared-stays : (c : Compare) (n : ℕ) (since h : Feed) → n ≤ closes h → Compared c (sendings_to n h) → Compared c (sendings_to n (since ++ h))
compared-stays c n since h le was = subst (λ (ss : List Sending). Compared c ss) (sym (sendings-stay n since h le)) was

-- one more packet of a tick
pub one-in : (k i : ℕ) (ps : List Packet) (p : Packet) (ss : List Sending) → i < length ps → p ≡ get_or ps i p
    → (ss ++ sent_in k (take i ps)) ++ record { tick = k; packet = p } ∷ [] ≡ ss ++ sent_in k (take (i + 1) ps)
one-in k i ps p ss lt is =
    let more : take (i + 1) ps ≡ take i ps ++ p ∷ [] = take_more ps i p lt ∙ ap (λ (q : Packet). take i ps ++ q ∷ []) (sym is) in
    append_assoc ss (sent_in k (take i ps)) (record { tick = k; packet = p } ∷ [])
    ∙ ap (λ (ts : List Sending). ss ++ ts) (sym (map-append (λ (q : Packet). record { tick = k; packet = q }) (take i ps) (p ∷ [])))
    ∙ ap (λ (qs : List Packet). ss ++ sent_in k qs) (sym more)

-- what is done to the Book changes no packet of the ticks that it handed out
pub checks-since : (old : Checking) (book : Book) (since h : Feed) (n : ℕ) → (HandedAll old.book h n → HandedAll book (since ++ h) n) → Checks old h n
    → Checks (record { book = book; compare = old.compare }) (since ++ h) n
checks-since old book since h n next (handed, ticks, was) = (next handed, ticks, compared-stays old.compare n since h (omega (arith, handed.1)) was)

-- a member that goes
pub checks-leaving : (old : Checking) (book : Book) (member : ℕ) (h : Feed) (n : ℕ) → (HandedAll old.book h n → HandedAll book (leaving member h) n) → Checks old h n
    → Checks (record { book = book; compare = old.compare }) (leaving member h) n
checks-leaving old book member h n next s = by-test (list_any (λ l. l.spec.member == member) (listeners g726 h)) next s
  where
    by-test : (b : Bool) → (HandedAll old.book h n → HandedAll book (if b then Leave member ∷ h else h) n) → Checks old h n
        → Checks (record { book = book; compare = old.compare }) (if b then Leave member ∷ h else h) n
    by-test true next s = checks-since old book (Leave member ∷ []) h n next s
    by-test false next s = checks-since old book [] h n next s

-- what follows from it, of an answer without a fault
pub ok-with : {T E : Type 0} (r : Result T E) (P Q : Type 0) → (P → Q) → OnOk r P → OnOk r Q
ok-with (Ok x) P Q f h = f h
ok-with (Err e) P Q f h = tt

pub one-more-in : (c : Compare) (k t i : ℕ) (ps : List Packet) (p : Packet) (ss : List Sending) → t ≡ k → slice_get ps i ≡ Some p
    → Compared c ((ss ++ sent_in k (take i ps)) ++ record { tick = t; packet = p } ∷ []) → Compared c (ss ++ sent_in k (take (i + 1) ps))
one-more-in c k t i ps p ss same at was =
    let now : Compared c ((ss ++ sent_in k (take i ps)) ++ record { tick = k; packet = p } ∷ []) =
    subst (λ (n : ℕ). Compared c ((ss ++ sent_in k (take i ps)) ++ record { tick = n; packet = p } ∷ [])) same was in
    subst (λ (ts : List Sending). Compared c ts) (one-in k i ps p ss (slice_get_within ps i p at) (sym (get_or_from_slice_get ps i p p at))) now

-- one more tick
pub one-tick : (c : Compare) (n t m i count : ℕ) (h : Feed) (ts : List Sent) (x : Sent) → map (λ (y : Sent). y.packets) ts ≡ sent_from n count h → i < length ts
    → x ≡ get_or ts i x → t ≡ n + i → m ≡ t + 1 → Compared c (sendings_to t h ++ sent_in t x.packets) → Compared c (sendings_to m h)
one-tick c n t m i count h ts x are lt is at next was =
    let packets : x.packets ≡ sent g726 t h = sent-at n count i h ts x are lt is ∙ ap (λ (k : ℕ). sent g726 k h) (sym at) in
    let now : Compared c (sendings_to (suc t) h) = subst (λ (ps : List Packet). Compared c (sendings_to t h ++ sent_in t ps)) packets was in
    subst (λ (k : ℕ). Compared c (sendings_to k h)) (sym (next ∙ add-one t)) now

-- what a Book says of its core it says of its feed
pub as-read : (b : Book) (i : ℕ) (p : Packet) (f : Feed) → ((c : Core) → Stands b c → slice_get (rest g726 c.feed) i ≡ Some p) → StandsFor b f → slice_get (rest g726 f) i ≡ Some p
as-read b i p f read s = subst (λ (h : Feed). slice_get (rest g726 h) i ≡ Some p) s.feed (read s.core s.stands)

-- the ticks that were handed out while one was closed
pub encoded : (old : Checking) (book : Book) (compare : Compare) (tick : Tick) (h : Feed) (n count : ℕ) → n ≡ closes h
    → HandedAll book (Collect ∷ Close tick ∷ h) (n + count) → compare.ticks ≡ old.compare.ticks + count → Checks old h n
    → (Compared old.compare (sendings_to old.compare.ticks (Close tick ∷ h)) → Compared compare (sendings_to compare.ticks (Close tick ∷ h)))
    → Checks (record { book = book; compare = compare }) (Collect ∷ Close tick ∷ h) (n + count)
encoded old book compare tick h n count all handed ticks (was-handed, was-ticks, was) next =
    let before : Compared old.compare (sendings_to n (Close tick ∷ h)) = compared-stays old.compare n (Close tick ∷ []) h (omega arith) was in
    let start = subst (λ (k : ℕ). Compared old.compare (sendings_to k (Close tick ∷ h))) (sym was-ticks) before in
    let sum : compare.ticks ≡ n + count = omega arith in
    let end : Compared compare (sendings_to (n + count) (Close tick ∷ h)) = subst (λ (k : ℕ). Compared compare (sendings_to k (Close tick ∷ h))) sum (next start) in
    (handed, sum, compared-stays compare (n + count) (Collect ∷ []) (Close tick ∷ h) (omega (arith, handed.1)) end)

-- the same ticks, and their number, by other names
pub same-ticks : (xs items : List Sent) (k n : ℕ) (h : Feed) → xs ≡ items → k ≡ n → map (λ (t : Sent). t.packets) items ≡ sent_from n (length items) h
    → map (λ (t : Sent). t.packets) xs ≡ sent_from k (length xs) h
same-ticks xs items k n h e t are = rw (e, t) are
