-- The answer as it grows tick by tick, over one feed.
use Rattle.std.proofs.Common.{zero, suc, ◌≡◌, ◌<◌, ◌≤◌, ◌-◌, ◌+◌, ◌++◌, ◌∷◌, [], ℕ, List, length, map, get_or, sym, ap, ◌∙◌, subst, arith, append_assoc, add-one, length-append, Option}
use Rattle.std.proofs.lemmas.List.{append-nil}
use Rattle.edge_io.specs.Told.{Grows, GrowsByFront}
use Rattle.rtp_dump.proofs.Written.{front_then_front, front_of_first}
use Rattle.conference_spec.specs.declared.Packet.{Packet}
use Rattle.conference_spec.specs.Codec.{g726}
use Rattle.conference_spec.specs.Feed.{Feed, closes}
use Rattle.conference_spec.specs.Packets.{sent}
use Rattle.session_spec.specs.Answer.{tick_text, ticks_text, sent_to}
use Rattle.session_spec.proofs.Following.{text-stays, packets-stay}
use Rattle.tick_core.specs.Held.{Sent}
use Rattle.desk_run.specs.Handing.{Amount, sent_from}
use Rattle.desk_run.specs.Ends.{HasWritten}
use Rattle.desk_run.proofs.Texts.{grows_append, front_all}

-- one more tick
pub wrote-tick : (o m n : Option (List ℕ)) (w v : Amount) (k count : ℕ) (h : Feed) (packets : List Packet) → packets ≡ sent g726 w.ticks h
    → v ≡ record { ticks = w.ticks + 1; packets = w.packets + count } → count ≡ length packets → k ≡ w.ticks → HasWritten o m w h → Grows m n (tick_text k packets)
    → HasWritten o n v h
wrote-tick o m n w v k count h packets are is len at was grew =
    let j = w.ticks in
    let now : Grows m n (tick_text j (sent g726 j h)) =
    subst (λ (ps : List Packet). Grows m n (tick_text j ps)) are (subst (λ (i : ℕ). Grows m n (tick_text i packets)) at grew) in
    let next : v.ticks ≡ suc j = ap (λ (a : Amount). a.ticks) is ∙ add-one j in
    let all : Grows o n (ticks_text g726 (suc j) h) = grows_append o m n (ticks_text g726 j h) (tick_text j (sent g726 j h)) was.wrote now in
    let counted : v.packets ≡ length (sent_to g726 (suc j) h) =
    (let one = was.counted in
    let two = length-append (sent_to g726 j h) (sent g726 j h) in
    let three = ap (λ (ps : List Packet). length ps) are in
    let four = ap (λ (a : Amount). a.packets) is in
    omega arith) in
    record {
      wrote = subst (λ (i : ℕ). Grows o n (ticks_text g726 i h)) (sym next) all;
      counted = counted ∙ ap (λ (i : ℕ). length (sent_to g726 i h)) (sym next);
    }

-- a front of one more tick
pub wrote-front : (o m n : Option (List ℕ)) (w : Amount) (k : ℕ) (h : Feed) (packets : List Packet) → packets ≡ sent g726 w.ticks h → k ≡ w.ticks
    → HasWritten o m w h → GrowsByFront m n (tick_text k packets) → GrowsByFront o n (ticks_text g726 (w.ticks + 1) h)
wrote-front o m n w k h packets are at was grew =
    let j = w.ticks in
    let now : GrowsByFront m n (tick_text j (sent g726 j h)) =
    subst (λ (ps : List Packet). GrowsByFront m n (tick_text j ps)) are (subst (λ (i : ℕ). GrowsByFront m n (tick_text i packets)) at grew) in
    subst (λ (i : ℕ). GrowsByFront o n (ticks_text g726 i h)) (sym (add-one j))
    (front_then_front o m n (ticks_text g726 j h) (tick_text j (sent g726 j h)) was.wrote now)

-- the text of more ticks begins with that of fewer
more-text : (k d : ℕ) (h : Feed) → (more : List ℕ) × (ticks_text g726 (d + k) h ≡ ticks_text g726 k h ++ more)
more-text k zero h =
    let e : 0 + k ≡ k = omega arith in
    ([], ap (λ (n : ℕ). ticks_text g726 n h) e ∙ sym (append-nil (ticks_text g726 k h)))
more-text k (suc d) h =
    let (more, same) = more-text k d h in
    let step = tick_text (d + k) (sent g726 (d + k) h) in
    let e : suc d + k ≡ suc (d + k) = omega arith in
    (more ++ step, ap (λ (n : ℕ). ticks_text g726 n h) e ∙ ap (λ (text : List ℕ). text ++ step) same ∙ append_assoc (ticks_text g726 k h) more step)

pub front-longer : (o n : Option (List ℕ)) (j k : ℕ) (h : Feed) → j ≤ k → GrowsByFront o n (ticks_text g726 j h) → GrowsByFront o n (ticks_text g726 k h)
front-longer o n j k h le grew =
    let sum : (k - j) + j ≡ k = omega arith in
    let (more, same) = more-text j (k - j) h in
    subst (λ (i : ℕ). GrowsByFront o n (ticks_text g726 i h)) sum
    (subst (λ (text : List ℕ). GrowsByFront o n text) (sym same) (front_of_first o n (ticks_text g726 j h) more grew))

-- what was written is a front of what is still to be
pub written-front : (o n : Option (List ℕ)) (w : Amount) (k : ℕ) (h : Feed) → w.ticks ≤ k → HasWritten o n w h → GrowsByFront o n (ticks_text g726 k h)
written-front o n w k h le was = front-longer o n w.ticks k h le (front_all o n (ticks_text g726 w.ticks h) was.wrote)

-- it stays as it is, whatever comes later
pub written-stays : (o n : Option (List ℕ)) (w : Amount) (since h : Feed) → w.ticks ≤ closes h → HasWritten o n w h → HasWritten o n w (since ++ h)
written-stays o n w since h le was = record {
  wrote = subst (λ (text : List ℕ). Grows o n text) (sym (text-stays g726 w.ticks since h le)) was.wrote;
  counted = was.counted ∙ ap (λ (ps : List Packet). length ps) (sym (packets-stay g726 w.ticks since h le));
}

head-is : {X : Type 0} (x y : X) (xs ys : List X) → x ∷ xs ≡ y ∷ ys → x ≡ y
head-is x y xs ys e = cc

tail-is : {X : Type 0} (x y : X) (xs ys : List X) → x ∷ xs ≡ y ∷ ys → xs ≡ ys
tail-is x y xs ys e = cc

-- the packets of one of the ticks that are handed out
pub sent-at : (n count i : ℕ) (h : Feed) (ts : List Sent) (t : Sent) → map (λ (x : Sent). x.packets) ts ≡ sent_from n count h → i < length ts
    → t ≡ get_or ts i t → t.packets ≡ sent g726 (n + i) h
sent-at n count i h [] t are lt is = absurd (omega arith)
sent-at n zero i h (x ∷ xs) t are lt is = absurd (cc)
sent-at n (suc count) zero h (x ∷ xs) t are lt is =
    let none : n + 0 ≡ n = omega arith in
    ap (λ (y : Sent). y.packets) is
    ∙ head-is x.packets (sent g726 n h) (map (λ (y : Sent). y.packets) xs) (sent_from (suc n) count h) are
    ∙ ap (λ (k : ℕ). sent g726 k h) (sym none)
sent-at n (suc count) (suc i) h (x ∷ xs) t are lt is =
    let sum : suc n + i ≡ n + suc i = omega arith in
    sent-at (suc n) count i h xs t (tail-is x.packets (sent g726 n h) (map (λ (y : Sent). y.packets) xs) (sent_from (suc n) count h) are) (omega arith) is
    ∙ ap (λ (k : ℕ). sent g726 k h) sum
