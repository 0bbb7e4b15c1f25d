-- Where a chunk ends, and how many stand one behind the other.
use Rattle.std.proofs.Common.{◌≡◌, ◌≢◌, ◌<◌, ◌≤◌, ◌+◌, ◌-◌, ◌*◌, ◌/◌, ℕ, zero, suc, List, [], ◌∷◌, length, drop, get_or, Option, Some, None, true, false, refl, sym, ap, ◌∙◌, arith}
use Rattle.std.specs.Option.{option_map}
use Rattle.std.proofs.lemmas.Bool.{eq-eqb, ne_eqb}
use Rattle.std.proofs.lemmas.List.{drop-drop, drop_all, get_or-drop}
use Rattle.std.proofs.Math.Seq.{drop-cons}
use Rattle.rtcp_pack.specs.Chunks.{chunk_len, chunks_fit, ended_len}

-- two sums are one
pub added : (a b c : ℕ) (o : Option ℕ) → a + b ≡ c → option_map (λ (len : ℕ). a + len) (option_map (λ (len : ℕ). b + len) o) ≡ option_map (λ (len : ℕ). c + len) o
added a b c None e = refl
added a b c (Some len) e = let s : a + (b + len) ≡ c + len = omega arith in rw s refl

none_added : (o : Option ℕ) → o ≡ option_map (λ (len : ℕ). 0 + len) o
none_added None = refl
none_added (Some len) = let s : 0 + len ≡ len = omega arith in rw s refl

-- what stands before is counted
pub ended_behind : (before : ℕ) (bytes : List ℕ) → ended_len before bytes ≡ option_map (λ (len : ℕ). before + len) (ended_len 0 (drop before bytes))
unfolding ended_len
ended_behind zero bytes = none_added (ended_len 0 bytes)
ended_behind (suc before) [] = refl
ended_behind (suc before) (b ∷ bytes) =
    ap (option_map (λ (len : ℕ). 1 + len)) (ended_behind before bytes)
    ∙ added 1 before (suc before) (ended_len 0 (drop before bytes)) (omega arith)

-- an item is passed over with its text
pub item_front : (kind text : ℕ) (rest : List ℕ) → kind ≢ 0 → get_or rest 0 0 ≡ text
    → ended_len 0 (kind ∷ rest) ≡ option_map (λ (len : ℕ). (2 + text) + len) (ended_len 0 (drop (1 + text) rest))
unfolding ended_len
item_front kind text rest other is =
    rw (ne_eqb kind 0 other, is) (ap (option_map (λ (len : ℕ). 1 + len)) (ended_behind (1 + text) rest)
    ∙ added 1 (1 + text) (2 + text) (ended_len 0 (drop (1 + text) rest)) (omega arith))

pub item_passed : (body : List ℕ) (place text next : ℕ) → place < length body → get_or body place 0 ≢ 0 → text ≡ get_or body (place + 1) 0 → next ≡ place + (2 + text)
    → option_map (λ (len : ℕ). place + len) (ended_len 0 (drop place body)) ≡ option_map (λ (len : ℕ). next + len) (ended_len 0 (drop next body))
item_passed body place text next inside other is after =
    let told : get_or (drop (suc place) body) 0 0 ≡ text =
    get_or-drop (suc place) body 0 0 ∙ ap (λ (k : ℕ). get_or body k 0) (omega arith) ∙ sym is in
    let left : drop (1 + text) (drop (suc place) body) ≡ drop next body =
    drop-drop (1 + text) (suc place) body ∙ ap (λ (k : ℕ). drop k body) (omega arith) in
    ap (option_map (λ (len : ℕ). place + len)) (ap (ended_len 0) (drop-cons body place 0 inside)
    ∙ item_front (get_or body place 0) text (drop (suc place) body) other told
    ∙ ap (λ (l : List ℕ). option_map (λ (len : ℕ). (2 + text) + len) (ended_len 0 l)) left)
    ∙ added place (2 + text) next (ended_len 0 (drop next body)) (omega arith)

-- the octet that ends the items
pub end_here : (body : List ℕ) (place : ℕ) → place < length body → get_or body place 0 ≡ 0 → ended_len 0 (drop place body) ≡ Some 1
unfolding ended_len
end_here body place inside is = rw (drop-cons body place 0 inside, eq-eqb (get_or body place 0) 0 is) refl

-- no octet ends the items
pub end_past : (body : List ℕ) (place : ℕ) → length body ≤ place → ended_len 0 (drop place body) ≡ None
unfolding ended_len
end_past body place past = rw (drop_all place body past) refl

pub end_cut : (body : List ℕ) (place : ℕ) → place + 1 ≡ length body → get_or body place 0 ≢ 0 → ended_len 0 (drop place body) ≡ None
unfolding ended_len
end_cut body place last other =
    rw (drop-cons body place 0 (omega arith), drop_all (suc place) body (omega arith), ne_eqb (get_or body place 0) 0 other) refl

-- where the chunk ends
pub chunk_ends : (body : List ℕ) (place : ℕ) → option_map (λ (len : ℕ). place + len) (ended_len 0 (drop place body)) ≡ ended_len 4 body
    → place < length body → get_or body place 0 ≡ 0 → Some (4 * (place / 4 + 1)) ≡ chunk_len body
unfolding chunk_len
chunk_ends body place same inside is =
    let words : 4 * (place / 4 + 1) ≡ 4 * ((place + 1 + 3) / 4) = omega arith in
    rw (← same, end_here body place inside is, words) refl

pub chunk_endless : (body : List ℕ) (place : ℕ) → option_map (λ (len : ℕ). place + len) (ended_len 0 (drop place body)) ≡ ended_len 4 body
    → ended_len 0 (drop place body) ≡ None → None ≡ chunk_len body
unfolding chunk_len
chunk_endless body place same none = rw (← same, none) refl

-- one chunk of those that are left
pub chunk_taken : (left len : ℕ) (rest : List ℕ) → 0 < left → chunk_len rest ≡ Some len → chunks_fit left rest ≡ chunks_fit (left - 1) (drop len rest)
unfolding chunks_fit
chunk_taken zero len rest some is = absurd (omega arith)
chunk_taken (suc left) len rest some is = let e : suc left - 1 ≡ left = omega arith in rw (is, e) refl

pub chunk_missing : (left : ℕ) (rest : List ℕ) → 0 < left → chunk_len rest ≡ None → chunks_fit left rest ≡ false
unfolding chunks_fit
chunk_missing zero rest some is = absurd (omega arith)
chunk_missing (suc left) rest some is = rw is refl

pub no_chunks : (left : ℕ) (rest : List ℕ) → left ≤ 0 → chunks_fit left rest ≡ true
unfolding chunks_fit
no_chunks zero rest none = refl
no_chunks (suc left) rest none = absurd (omega arith)
