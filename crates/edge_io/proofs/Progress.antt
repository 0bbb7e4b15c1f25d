-- What a loop of writes has given and what a loop of reads has taken, one call at a time.
use Rattle.std.proofs.Common.{◌≡◌, ℕ, ◌+◌, ◌-◌, ◌<◌, ◌≤◌, ◌↔◌, min, Option, Some, None, List, [], ◌++◌, length, take, drop, ap, sym, ◌∙◌, subst}
use Rattle.std.proofs.Common.{arith, append_assoc, add-zero, length-take, length-drop, IfSome}
use Rattle.std.proofs.Math.Seq.{take-add, take-append-add}
use Rattle.std.proofs.lemmas.List.{take-append-le, length-take-le, drop-drop, take_rest}
use borrow.Rule.Slice.PartMut.{put_mid, post_of}
use Rattle.edge_io.specs.Told.{Grows, Takes}

-- k octets of a piece were given, and then n of the rest of it
pub grows_more : (old mid new : Option (List ℕ)) (k n : ℕ) (piece : List ℕ) → Grows old mid (take k piece) →
    Grows mid new (take n (take (length piece - k) (drop k piece))) → Grows old new (take (k + n) piece)
grows_more None mid new k n piece first more = rw first at more
grows_more (Some held) mid new k n piece first more =
    let there : new ≡ Some ((held ++ take k piece) ++ take n (take (length piece - k) (drop k piece))) = rw first at more in
    let joined : new ≡ Some (held ++ (take k piece ++ take n (drop k piece))) = rw (take_rest, append_assoc) at there in
    rw (take-add k n piece) joined

-- the first k + n octets of a buffer whose part from k on was overwritten
take-overwritten : (k n m : ℕ) (buf part : List ℕ) → k ≤ length buf → n ≤ length part → take (k + n) (put_mid k m buf part) ≡ take k buf ++ take n part
take-overwritten k n m buf part fits enough =
    let behind : List ℕ = part ++ post_of k m buf in
    subst (λ (j : ℕ). take (j + n) (take k buf ++ behind) ≡ take k buf ++ take n behind) (length-take-le k buf fits) (take-append-add (take k buf) behind n)
    ∙ ap (λ (w : List ℕ). take k buf ++ w) (take-append-le n part (post_of k m buf) enough)

-- k octets stand at the front of the buffer, and n more are read behind them
pub takes_more : (old mid new : Option (List ℕ)) (k n m : ℕ) (buf part : List ℕ) → k ≤ length buf → n ≤ length part → Takes old mid k buf →
    Takes mid new n part → Takes old new (k + n) (put_mid k m buf part)
takes_more None mid new k n m buf part fits enough first more = rw first at more
takes_more (Some rest) mid new k n m buf part fits enough first more =
    let there : (take n part ≡ take n (drop k rest)) × (new ≡ Some (drop n (drop k rest))) = rw first.1 at more in
    let front : take (k + n) (put_mid k m buf part) ≡ take (k + n) rest =
    take-overwritten k n m buf part fits enough ∙ rw (first.0, there.0, take-add k n rest) in
    (front, rw (← drop-drop n k rest) there.1)

-- k octets stand at the front of the buffer, and none is read behind them
pub takes_none : (old mid new : Option (List ℕ)) (k n m : ℕ) (buf part : List ℕ) → n ≡ 0 → k ≤ length buf → Takes old mid k buf →
    Takes mid new n part → Takes old new k (put_mid k m buf part)
takes_none old mid new k n m buf part none fits first more =
    let taken : Takes old new (k + n) (put_mid k m buf part) = takes_more old mid new k n m buf part fits (omega arith) first more in
    rw (none, add-zero) at taken

-- where a read into some room gave nothing, the k octets before it were all
pub takes_all : (old mid : Option (List ℕ)) (k n room size : ℕ) (buf : List ℕ) → k ≤ length buf → length buf ≡ size → 0 < room → n ≡ 0 →
    Takes old mid k buf → IfSome mid (λ octets. 0 < room → ((n ≡ 0) ↔ (octets ≡ []))) → IfSome old (λ octets. k ≡ min (length octets) size)
takes_all None mid k n room size buf fits same asked none taken ended = tt
takes_all (Some rest) mid k n room size buf fits same asked none taken ended =
    let nothing : drop k rest ≡ [] = let told = rw taken.1 at ended in (told asked).0 none in
    let ahead : length rest - k ≡ 0 = sym (length-drop k rest) ∙ ap length nothing in
    let behind : min k (length buf) ≡ min k (length rest) = sym (length-take k buf) ∙ ap length taken.0 ∙ length-take k rest in
    omega arith
