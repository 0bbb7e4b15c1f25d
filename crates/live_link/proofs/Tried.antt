-- Letters that were tried one after the other.
use Rattle.std.proofs.Common.{◌≡◌, ◌∙◌, ℕ, ◌+◌, ◌<◌, ◌≤◌, Bool, true, false, not, List, [], ◌∷◌, ◌++◌, length, take, drop, get_or, Option, Some, None, Result, Ok, Err, refl, sym, ap, subst, arith, append_assoc, add-one}
use Rattle.std.specs.List.{filter, flat_map}
use Rattle.std.proofs.lemmas.List.{append-nil, length-append, take-append-drop, get_or_default}
use Rattle.std.proofs.lemmas.List.Elements.{filter-append}
use Rattle.std.proofs.lemmas.Grind.{flat_map-append}
use Rattle.std.proofs.Math.Seq.{take-suc}
use Rattle.edge_io.specs.declared.faults.PutFault.{PutFault}
use Rattle.edge_io.specs.declared.faults.PutFault.TheVariants as put
use Rattle.rtcp_pack.specs.declared.report.Report.{Report}
use Rattle.rtcp_pack.specs.Reports.{report_octets}
use Rattle.udp_edge.specs.declared.peer.Peer.{Peer}
use Rattle.udp_edge.specs.Traffic.{Traffic, Sends}
use Rattle.conference_spec.specs.declared.Packet.{Packet}
use Rattle.session_spec.specs.Answer.{packet_octets}
use Rattle.live_spec.specs.Letters.{Letter, letter_to, port_above, packet_letters, report_letters, tries}
use Rattle.live_link.specs.Posts.{above, Tries, Posts, PostsFront}

-- ---- what was tried, of two lists of letters one after the other ----

pub tries-append : (ls ms : List Letter) (u v : List Bool) → length u ≡ length ls → tries (ls ++ ms) (u ++ v) ≡ tries ls u ++ tries ms v
tries-append [] ms [] v e = refl
tries-append [] ms (w ∷ u) v e = absurd (omega arith)
tries-append (l ∷ ls) ms [] v e = absurd (omega arith)
tries-append (l ∷ ls) ms (w ∷ u) v e = ap (λ ts. record { to = l.to; octets = l.octets; went = w } ∷ ts) (tries-append ls ms u v (omega arith))

pub tries-front : (ls ms : List Letter) (u : List Bool) → length u ≤ length ls → tries (ls ++ ms) u ≡ tries ls u
tries-front [] [] [] e = refl
tries-front [] (m ∷ ms) [] e = refl
tries-front [] ms (w ∷ u) e = absurd (omega arith)
tries-front (l ∷ ls) ms [] e = refl
tries-front (l ∷ ls) ms (w ∷ u) e = ap (λ ts. record { to = l.to; octets = l.octets; went = w } ∷ ts) (tries-front ls ms u (omega arith))

tries-none : (ls : List Letter) → tries ls [] ≡ []
tries-none [] = refl
tries-none (l ∷ ls) = refl

tried-then : (a b c : Option Traffic) (ls ms : List Letter) (u v : List Bool) → length u ≡ length ls → Tries a b ls u → Tries b c ms v → Tries a c (ls ++ ms) (u ++ v)
tried-then None b c ls ms u v e one two = tt
tried-then (Some told) b c ls ms u v e one two =
    let now = subst (λ (o : Option Traffic). Tries o c ms v) one two in
    now ∙ ap (λ ts. Some (record told { tried = ts })) (append_assoc told.tried (tries ls u) (tries ms v) ∙ ap (λ ts. told.tried ++ ts) (sym (tries-append ls ms u v e)))

tried-front : (a b : Option Traffic) (ls ms : List Letter) (u : List Bool) → length u ≤ length ls → Tries a b ls u → Tries a b (ls ++ ms) u
tried-front None b ls ms u e one = tt
tried-front (Some told) b ls ms u e one = one ∙ ap (λ ts. Some (record told { tried = told.tried ++ ts })) (sym (tries-front ls ms u e))

tried-none : (a : Option Traffic) (ls : List Letter) → Tries a a ls []
tried-none None ls = tt
tried-none (Some told) ls = ap (λ ts. Some (record told { tried = ts })) (sym (append-nil told.tried) ∙ ap (λ ts. told.tried ++ ts) (sym (tries-none ls)))

pub posts-none : (a : Option Traffic) (u : ℕ) → Posts a a u u []
posts-none a u = record { went = []; each = refl; counted = omega arith; tried = tried-none a [] }

pub posts-then : (a b c : Option Traffic) (u v w : ℕ) (ls ms : List Letter) → Posts a b u v ls → Posts b c v w ms → Posts a c u w (ls ++ ms)
posts-then a b c u v w ls ms one two =
    let counts : length (filter not (one.went ++ two.went)) ≡ length (filter not one.went) + length (filter not two.went) =
    ap length (filter-append not one.went two.went) ∙ length-append (filter not one.went) (filter not two.went) in
    let first = one.counted in
    let second = two.counted in
    record {
      went = one.went ++ two.went;
      each = length-append one.went two.went ∙ ap (λ n. n + length two.went) one.each ∙ ap (λ n. length ls + n) two.each ∙ sym (length-append ls ms);
      counted = omega arith;
      tried = tried-then a b c ls ms one.went two.went one.each one.tried two.tried;
    }

pub front-then : (a b c : Option Traffic) (u v : ℕ) (ls ms : List Letter) → Posts a b u v ls → PostsFront b c ms → PostsFront a c (ls ++ ms)
front-then a b c u v ls ms one two =
    let each = one.each in
    let front = two.front in
    record {
      went = one.went ++ two.went;
      front = omega (arith, length-append one.went two.went, length-append ls ms);
      tried = tried-then a b c ls ms one.went two.went one.each one.tried two.tried;
    }

pub front-longer : (a b : Option Traffic) (ls ms : List Letter) → PostsFront a b ls → PostsFront a b (ls ++ ms)
front-longer a b ls ms one =
    let front = one.front in
    record {
      went = one.went;
      front = omega (arith, length-append ls ms);
      tried = tried-front a b ls ms one.went one.front one.tried;
    }

pub front-all : (a b : Option Traffic) (u v : ℕ) (ls : List Letter) → Posts a b u v ls → PostsFront a b ls
front-all a b u v ls one =
    let each = one.each in
    record { went = one.went; front = omega arith; tried = one.tried }

pub front-none : (a : Option Traffic) (ls : List Letter) → PostsFront a a ls
front-none a ls = record { went = []; front = omega arith; tried = tried-none a ls }

-- ---- one letter ----

sent-one : (a b : Option Traffic) (to : Peer) (octets : List ℕ) (done : Unit {0}) → Sends {T = Unit {0}} a b to octets (Ok done)
    → Tries a b (record { to = to; octets = octets } ∷ []) (true ∷ [])
sent-one None b to octets done s = tt
sent-one (Some told) b to octets done s = s

failed-one : (a b : Option Traffic) (to : Peer) (octets : List ℕ) → Sends {T = Unit {0}} a b to octets (Err put.Failed)
    → Tries a b (record { to = to; octets = octets } ∷ []) (false ∷ [])
failed-one None b to octets s = tt
failed-one (Some told) b to octets s = s

pub goes-one : (a b : Option Traffic) (u : ℕ) (to : Peer) (octets : List ℕ) (done : Unit {0}) → Sends {T = Unit {0}} a b to octets (Ok done)
    → Posts a b u u (record { to = to; octets = octets } ∷ [])
goes-one a b u to octets done s = record { went = true ∷ []; each = refl; counted = omega arith; tried = sent-one a b to octets done s }

pub stays-one : (a b : Option Traffic) (u v : ℕ) (to : Peer) (octets : List ℕ) (why : PutFault) → why ≡ put.Failed → Sends {T = Unit {0}} a b to octets (Err why)
    → v ≡ u + 1 → Posts a b u v (record { to = to; octets = octets } ∷ [])
stays-one a b u v to octets why is s e = record {
  went = false ∷ [];
  each = refl;
  counted = e;
  tried = failed-one a b to octets (subst (λ (y : PutFault). Sends {T = Unit {0}} a b to octets (Err y)) is s);
}

pub tried-one : (a b : Option Traffic) (to : Peer) (octets : List ℕ) (why : PutFault) → why ≡ put.Failed → Sends {T = Unit {0}} a b to octets (Err why)
    → PostsFront a b (record { to = to; octets = octets } ∷ [])
tried-one a b to octets why is s = front-all a b 0 1 (record { to = to; octets = octets } ∷ []) (stays-one a b 0 1 to octets why is s refl)

pub one-packet : (peer_of : ℕ → Option Peer) (p : Packet) (peer : Peer) (octets : List ℕ) → Some peer ≡ peer_of p.member → octets ≡ packet_octets p
    → record { to = peer; octets = octets } ∷ [] ≡ packet_letters peer_of (p ∷ [])
one-packet peer_of p peer octets at is =
    ap (λ xs. record { to = peer; octets = xs } ∷ []) is ∙ ap (λ (o : Option Peer). letter_to o (packet_octets p) ++ []) at

pub no-packet : (peer_of : ℕ → Option Peer) (p : Packet) → None ≡ peer_of p.member → [] ≡ packet_letters peer_of (p ∷ [])
no-packet peer_of p at = ap (λ (o : Option Peer). letter_to o (packet_octets p) ++ []) at

pub one-report : (peer_of : ℕ → Option Peer) (r : Report) (peer : Peer) (octets : List ℕ) → Some peer ≡ peer_of r.member → octets ≡ report_octets r
    → record { to = above peer; octets = octets } ∷ [] ≡ report_letters peer_of (r ∷ [])
one-report peer_of r peer octets at is =
    ap (λ xs. record { to = above peer; octets = xs } ∷ []) is ∙ ap (λ (o : Option Peer). letter_to (port_above o) (report_octets r) ++ []) at

pub no-report : (peer_of : ℕ → Option Peer) (r : Report) → None ≡ peer_of r.member → [] ≡ report_letters peer_of (r ∷ [])
no-report peer_of r at = ap (λ (o : Option Peer). letter_to (port_above o) (report_octets r) ++ []) at

-- ---- letters of a list, one after the other ----

pub take-more : {X : Type 0} (xs : List X) (i : ℕ) (x : X) → i < length xs → x ≡ get_or xs i x → take (i + 1) xs ≡ take i xs ++ x ∷ []
take-more xs i x lt is = rw (add-one, take-suc xs i x lt, ← is) refl

module _ {X : Type 0} (f : X → List Letter) (a b c : Option Traffic) (xs : List X) (i : ℕ) (x : X) (lt : i < length xs) (is : x ≡ get_or xs i x) where
  letters-more : flat_map f (take (i + 1) xs) ≡ flat_map f (take i xs) ++ flat_map f (x ∷ [])
  letters-more = ap (flat_map f) (take-more xs i x lt is) ∙ flat_map-append f (take i xs) (x ∷ [])

  pub posts-more : (u v w : ℕ) → Posts a b u v (flat_map f (take i xs)) → Posts b c v w (flat_map f (x ∷ [])) → Posts a c u w (flat_map f (take (i + 1) xs))
  posts-more u v w one two = subst (Posts a c u w) (sym letters-more) (posts-then a b c u v w (flat_map f (take i xs)) (flat_map f (x ∷ [])) one two)

pub front-of-take : {X : Type 0} (f : X → List Letter) (a b : Option Traffic) (xs : List X) (n : ℕ) → PostsFront a b (flat_map f (take n xs)) → PostsFront a b (flat_map f xs)
front-of-take f a b xs n front =
    subst (PostsFront a b) (sym (flat_map-append f (take n xs) (drop n xs)) ∙ ap (flat_map f) (take-append-drop n xs))
    (front-longer a b (flat_map f (take n xs)) (flat_map f (drop n xs)) front)

module _ {X : Type 0} (f : X → List Letter) (a b c : Option Traffic) (xs : List X) (i : ℕ) (x : X) (lt : i < length xs) (is : x ≡ get_or xs i x) where
  pub front-at : (u v : ℕ) → Posts a b u v (flat_map f (take i xs)) → PostsFront b c (flat_map f (x ∷ [])) → PostsFront a c (flat_map f xs)
  front-at u v one two =
      front-of-take f a c xs (i + 1)
      (subst (PostsFront a c) (sym (letters-more f a b c xs i x lt is)) (front-then a b c u v (flat_map f (take i xs)) (flat_map f (x ∷ [])) one two))

  pub front-after : (u v w : ℕ) → Posts a b u v (flat_map f (take i xs)) → Posts b c v w (flat_map f (x ∷ [])) → PostsFront a c (flat_map f xs)
  front-after u v w one two = front-at u v one (front-all b c v w (flat_map f (x ∷ [])) two)

-- the same at a place of the list
module _ {X : Type 0} (f : X → List Letter) (a b c : Option Traffic) (xs : List X) (i : ℕ) (d : X) (lt : i < length xs) where
  pub posts-place : (u v w : ℕ) → Posts a b u v (flat_map f (take i xs)) → Posts b c v w (flat_map f (get_or xs i d ∷ [])) → Posts a c u w (flat_map f (take (i + 1) xs))
  posts-place u v w one two = posts-more f a b c xs i (get_or xs i d) lt (get_or_default xs i d (get_or xs i d) lt) u v w one two

  pub front-place : (u v : ℕ) → Posts a b u v (flat_map f (take i xs)) → PostsFront b c (flat_map f (get_or xs i d ∷ [])) → PostsFront a c (flat_map f xs)
  front-place u v one two = front-at f a b c xs i (get_or xs i d) lt (get_or_default xs i d (get_or xs i d) lt) u v one two
