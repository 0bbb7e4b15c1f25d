-- The records of turns one after the other.
use Rattle.std.proofs.Common.{subst, ◌≡◌, ℕ, zero, suc, ◌+◌, ◌*◌, ◌-◌, ◌++◌, ◌∷◌, [], List, Bool, true, false, cond, map, filter, refl, ap, ◌∙◌, sym, arith, length, ◌≤◌, append_assoc, append-nil, length-append}
use Rattle.std.specs.Prelude.{replicate}
use Rattle.std.specs.List.{range_with_len, flat_map}
use Rattle.std.proofs.lemmas.Grind.{flat_map-append}
use Rattle.std.proofs.lemmas.List.FromFn.{filter_of_map_range_with_len_more}
use Rattle.rtp_dump.specs.declared.item.DumpItem.{DumpItem}
use Rattle.rtp_dump.specs.Spelling.{record_octets}
use Rattle.rtp_dump.specs.Writing.{output_head, written}
use Rattle.rtp_head.specs.Rtp.{head_octets}
use Rattle.demo_gen.specs.declared.turns.Turn.{Turn}
use Rattle.demo_gen.specs.Members.{talks, member_count}
use Rattle.demo_gen.specs.Turns.{turn, turns_in, turns_before, tick_count, head, copies}
use Rattle.demo_gen.specs.Draws.{after_draws, draws}
use Rattle.demo_gen.specs.Capture.{item, items_from, capture}
use Rattle.demo_gen.proofs.Drawing.{after_draws-add, draws-after}

-- turns whose speech goes on where that of others ends
items_from-after : (x n j place : ℕ) (turns : List Turn) → n + j ≡ place
    → items_from x place turns ≡ items_from (after_draws x (160 * n)) j turns
items_from-after x n j place [] e = refl
items_from-after x n j place (t ∷ turns) e =
    let speech : draws x (160 * place) 160 ≡ draws (after_draws x (160 * n)) (160 * j) 160 = draws-after x (160 * n) (160 * j) (160 * place) 160 (omega arith) in
    ap (λ (s : List ℕ). replicate (copies t) (item t s) ++ items_from x (place + 1) turns) speech
    ∙ ap (λ (l : List DumpItem). replicate (copies t) (item t (draws (after_draws x (160 * n)) (160 * j) 160)) ++ l)
    (items_from-after x n (j + 1) (place + 1) turns (omega arith))

items_from-append : (x place place' : ℕ) (ts us : List Turn) → place + length ts ≡ place'
    → items_from x place (ts ++ us) ≡ items_from x place ts ++ items_from x place' us
items_from-append x place place' [] us e =
    let same : place ≡ place' = omega arith in
    ap (λ (p : ℕ). items_from x p us) same
items_from-append x place place' (t ∷ ts) us e =
    let first : List DumpItem = replicate (copies t) (item t (draws x (160 * place) 160)) in
    ap (λ (l : List DumpItem). first ++ l) (items_from-append x (place + 1) place' ts us (omega arith))
    ∙ sym (append_assoc first (items_from x (place + 1) ts) (items_from x place' us))

-- these turns were sent, from a generator at x on, behind what was there before
pub record Sent (x : ℕ) (before : List ℕ) (turns : List Turn) (number : ℕ) (octets : List ℕ) : Type 0 where
  pub number_is : number ≡ after_draws x (160 * length turns)
  pub written : octets ≡ before ++ flat_map record_octets (items_from x 0 turns)

pub sent_none : (x : ℕ) (before : List ℕ) → Sent x before [] x before
unfolding after_draws
sent_none x before = record { number_is = refl; written = sym (append-nil before) }

pub sent_more : (x : ℕ) (before : List ℕ) (ts us : List Turn) (number number' : ℕ) (octets octets' : List ℕ)
    → Sent x before ts number octets → number' ≡ after_draws number (160 * length us)
    → octets' ≡ octets ++ flat_map record_octets (items_from number 0 us) → Sent x before (ts ++ us) number' octets'
sent_more x before ts us number number' octets octets' sent drawn written =
    let n : ℕ = length ts in
    let sum : 160 * length ts + 160 * length us ≡ 160 * length (ts ++ us) = omega (arith, length-append ts us) in
    let moved : items_from x n us ≡ items_from number 0 us =
    items_from-after x n 0 n us (omega arith) ∙ ap (λ (y : ℕ). items_from y 0 us) (sym sent.number_is) in
    let text : flat_map record_octets (items_from x 0 (ts ++ us))
    ≡ flat_map record_octets (items_from x 0 ts) ++ flat_map record_octets (items_from number 0 us) =
    ap (flat_map record_octets) (items_from-append x 0 n ts us (omega arith) ∙ ap (λ (l : List DumpItem). items_from x 0 ts ++ l) moved)
    ∙ flat_map-append record_octets (items_from x 0 ts) (items_from number 0 us) in
    record {
      number_is =
          drawn ∙ ap (λ (y : ℕ). after_draws y (160 * length us)) sent.number_is
          ∙ sym (after_draws-add x (160 * length ts) (160 * length us)) ∙ ap (after_draws x) sum;
      written =
          written ∙ ap (λ (l : List ℕ). l ++ flat_map record_octets (items_from number 0 us)) sent.written
          ∙ append_assoc before (flat_map record_octets (items_from x 0 ts)) (flat_map record_octets (items_from number 0 us))
          ∙ ap (λ (l : List ℕ). before ++ l) (sym text);
    }

-- a turn more of a tick, or none
pub turns_in_none : (tick : ℕ) → turns_in 0 tick ≡ []
unfolding turns_in
turns_in_none tick = refl

turns_in-more : (n m tick : ℕ) → n + 1 ≡ m → turns_in m tick ≡ turns_in n tick ++ cond (talks tick m) (turn tick m ∷ []) []
unfolding turns_in
turns_in-more n m tick e =
    let next : 1 + n ≡ m = omega arith in
    ap (λ (k : ℕ). filter (λ (t : Turn). talks t.tick t.member) (map (turn tick) (range_with_len 1 k))) (sym e)
    ∙ filter_of_map_range_with_len_more (λ (t : Turn). talks t.tick t.member) (turn tick) 1 n m next

pub turns_in_talking : (n m tick : ℕ) → n + 1 ≡ m → talks tick m ≡ true → turns_in m tick ≡ turns_in n tick ++ turn tick m ∷ []
turns_in_talking n m tick e says = turns_in-more n m tick e ∙ ap (λ (b : Bool). turns_in n tick ++ cond b (turn tick m ∷ []) []) says

pub turns_in_silent : (n m tick : ℕ) → n + 1 ≡ m → talks tick m ≡ false → turns_in m tick ≡ turns_in n tick
turns_in_silent n m tick e says =
    turns_in-more n m tick e ∙ ap (λ (b : Bool). turns_in n tick ++ cond b (turn tick m ∷ []) []) says ∙ append-nil (turns_in n tick)

pub turns_before_none : turns_before 0 ≡ []
unfolding turns_before
turns_before_none = refl

range_with_len-more : (a n b : ℕ) → a + n ≡ b → range_with_len a (n + 1) ≡ range_with_len a n ++ b ∷ []
range_with_len-more a zero b e = let same : a ≡ b = omega arith in ap (λ (k : ℕ). k ∷ []) same
range_with_len-more a (suc n) b e =
    let suc_out : suc n + 1 ≡ suc (n + 1) = omega arith in
    rw suc_out (ap (λ (l : List ℕ). a ∷ l) (range_with_len-more (a + 1) n b (omega arith)))

pub turns_before_more : (n : ℕ) → turns_before (n + 1) ≡ turns_before n ++ turns_in member_count n
unfolding turns_before
turns_before_more n =
    ap (flat_map (turns_in member_count)) (range_with_len-more 0 n n (omega arith))
    ∙ flat_map-append (turns_in member_count) (range_with_len 0 n) (n ∷ [])
    ∙ ap (λ (l : List Turn). flat_map (turns_in member_count) (range_with_len 0 n) ++ l) (append-nil (turns_in member_count n))

-- a packet is a record once, or the same one twice
pub written_once : (t : Turn) (speech packet before after : List ℕ) → copies t ≡ 1 → packet ≡ head_octets (head t) ++ speech
    → after ≡ before ++ record_octets (written (20 * t.tick) packet)
    → after ≡ before ++ flat_map record_octets (replicate (copies t) (item t speech))
written_once t speech packet before after once is_packet is_after =
    is_after ∙ ap (λ (p : List ℕ). before ++ record_octets (written (20 * t.tick) p)) is_packet
    ∙ ap (λ (l : List ℕ). before ++ l) (sym (append-nil (record_octets (item t speech))))
    ∙ ap (λ (n : ℕ). before ++ flat_map record_octets (replicate n (item t speech))) (sym once)

pub written_twice : (t : Turn) (speech packet before between after : List ℕ) → copies t ≡ 2 → packet ≡ head_octets (head t) ++ speech
    → between ≡ before ++ record_octets (written (20 * t.tick) packet)
    → after ≡ between ++ record_octets (written (20 * t.tick) packet)
    → after ≡ before ++ flat_map record_octets (replicate (copies t) (item t speech))
written_twice t speech packet before between after twice is_packet is_between is_after =
    let one : List ℕ = record_octets (item t speech) in
    let is_one : record_octets (written (20 * t.tick) packet) ≡ one = ap (λ (p : List ℕ). record_octets (written (20 * t.tick) p)) is_packet in
    is_after ∙ ap (λ (l : List ℕ). l ++ record_octets (written (20 * t.tick) packet)) is_between
    ∙ ap (λ (l : List ℕ). (before ++ l) ++ l) is_one
    ∙ append_assoc before one one
    ∙ ap (λ (l : List ℕ). before ++ (one ++ l)) (sym (append-nil one))
    ∙ ap (λ (n : ℕ). before ++ flat_map record_octets (replicate n (item t speech))) (sym twice)

-- the members below one were asked whether they talk
pub asked_none : (x : ℕ) (before : List ℕ) (tick : ℕ) → Sent x before (turns_in 0 tick) x before
asked_none x before tick = rw (turns_in_none tick) (sent_none x before)

pub asked_talking : (x : ℕ) (before : List ℕ) (tick m number number' : ℕ) (octets octets' : List ℕ)
    → Sent x before (turns_in (m - 1) tick) number octets → 1 ≤ m → talks tick m ≡ true → number' ≡ after_draws number 160
    → octets' ≡ octets ++ flat_map record_octets (replicate (copies (turn tick m)) (item (turn tick m) (draws number 0 160)))
    → Sent x before (turns_in ((m + 1) - 1) tick) number' octets'
asked_talking x before tick m number number' octets octets' sent above says drawn written =
    let t : Turn = turn tick m in
    let last : (m + 1) - 1 ≡ m = omega arith in
    let one : List DumpItem = replicate (copies t) (item t (draws number 0 160)) in
    rw (last, turns_in_talking (m - 1) m tick (omega arith) says)
    (sent_more x before (turns_in (m - 1) tick) (t ∷ []) number number' octets octets' sent drawn
    (written ∙ ap (λ (l : List DumpItem). octets ++ flat_map record_octets l) (sym (append-nil one))))

pub asked_silent : (x : ℕ) (before : List ℕ) (tick m number : ℕ) (octets : List ℕ)
    → Sent x before (turns_in (m - 1) tick) number octets → 1 ≤ m → talks tick m ≡ false
    → Sent x before (turns_in ((m + 1) - 1) tick) number octets
asked_silent x before tick m number octets sent above says =
    let last : (m + 1) - 1 ≡ m = omega arith in
    rw (last, turns_in_silent (m - 1) m tick (omega arith) says) sent

-- all turns of a session were sent, behind line and file head
pub sent_all : (x : ℕ) (before : List ℕ) (ticks number : ℕ) (octets : List ℕ)
    → Sent x (before ++ output_head) (turns_before ticks) number octets → ticks ≡ tick_count
    → octets ≡ before ++ capture x
unfolding capture
sent_all x before ticks number octets sent is_all =
    sent.written
    ∙ append_assoc before output_head (flat_map record_octets (items_from x 0 (turns_before ticks)))
    ∙ ap (λ (n : ℕ). before ++ (output_head ++ flat_map record_octets (items_from x 0 (turns_before n)))) is_all

-- all members of a tick were asked
pub asked_all : (x : ℕ) (before : List ℕ) (tick m number : ℕ) (octets : List ℕ)
    → Sent x before (turns_in (m - 1) tick) number octets → m ≡ member_count + 1
    → Sent x before (turns_in member_count tick) number octets
asked_all x before tick m number octets sent is_all =
    let e : m - 1 ≡ member_count = omega arith in
    subst (λ (n : ℕ). Sent x before (turns_in n tick) number octets) e sent
