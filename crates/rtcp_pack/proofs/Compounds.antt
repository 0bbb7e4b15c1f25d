-- How the packets of a compound follow one another.
use Rattle.std.proofs.Common.{◌≡◌, ◌<◌, ◌≤◌, ◌+◌, ◌-◌, ℕ, zero, suc, List, [], ◌∷◌, length, drop, true, false, refl, sym, ap, ◌∙◌, arith}
use Rattle.std.specs.Prelude.{Result, Ok, Err, ◌==◌}
use Rattle.std.proofs.lemmas.Bool.{eqb-false, eqb-true}
use Rattle.rtcp_pack.specs.declared.compound.RtcpFault.{RtcpFault}
use Rattle.rtcp_pack.specs.Compound.{compound, counted, packet_at, packets_behind}

-- what stands before is passed over
pub packets_from : (before : ℕ) (bytes : List ℕ) → packets_behind before bytes ≡ packets_behind 0 (drop before bytes)
unfolding packets_behind
packets_from zero bytes = refl
packets_from (suc before) [] = refl
packets_from (suc before) (b ∷ bytes) = packets_from before bytes

-- counts add up
counted_twice : (a b c : ℕ) (others : Result ℕ RtcpFault) → a + b ≡ c → counted a (counted b others) ≡ counted c others
counted_twice a b c (Err fault) e = refl
counted_twice a b c (Ok count) e = let s : a + (b + count) ≡ c + count = omega arith in rw s refl

-- what a test for the end says
pub some_left : (n : ℕ) → false ≡ (n == 0) → 0 < n
some_left n is = let other = eqb-false n 0 (sym is) in omega arith

pub none_left : (n : ℕ) → true ≡ (n == 0) → n ≡ 0
none_left n is = eqb-true n 0 (sym is)

-- no packet is left
pub packets_end : (count : ℕ) (rest : List ℕ) → length rest ≡ 0 → counted count (packets_behind 0 rest) ≡ Ok count
unfolding packets_behind
packets_end count [] none = let e : count + 0 ≡ count = omega arith in rw e refl
packets_end count (b ∷ rest) none = absurd (omega arith)

-- one packet more
pub packet_next : (count len next : ℕ) (rest : List ℕ) → 0 < length rest → 4 ≤ len → next ≡ count + 1 → packet_at false rest ≡ Ok len
    → counted count (packets_behind 0 rest) ≡ counted next (packets_behind 0 (drop len rest))
unfolding packets_behind
packet_next count len next [] some long after is = absurd (omega arith)
packet_next count zero next (b ∷ rest) some long after is = absurd (omega arith)
packet_next count (suc len) next (b ∷ rest) some long after is =
    let e : suc len - 1 ≡ len = omega arith in
    rw (is, e) (counted_twice count 1 next (packets_behind len rest) (sym after) ∙ ap (counted next) (packets_from len rest))

-- the first of those that are left has a fault
pub packet_faulty : (count : ℕ) (fault : RtcpFault) (rest : List ℕ) → 0 < length rest → packet_at false rest ≡ Err fault
    → counted count (packets_behind 0 rest) ≡ Err fault
unfolding packets_behind
packet_faulty count fault [] some is = absurd (omega arith)
packet_faulty count fault (b ∷ rest) some is = rw is refl

-- the first packet of all
pub first_taken : (len : ℕ) (bytes : List ℕ) → packet_at true bytes ≡ Ok len → counted 1 (packets_behind 0 (drop len bytes)) ≡ compound bytes
unfolding compound
first_taken len bytes is = rw (is, packets_from len bytes) refl

pub first_faulty : (fault : RtcpFault) (bytes : List ℕ) → packet_at true bytes ≡ Err fault → compound bytes ≡ Err fault
unfolding compound
first_faulty fault bytes is = rw is refl
