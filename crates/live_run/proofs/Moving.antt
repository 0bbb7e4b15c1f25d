-- Turns that were taken and letters that were tried, one after the other.
use Rattle.std.proofs.Common.{◌≡◌, ◌∙◌, ℕ, ◌+◌, ◌≤◌, Bool, not, List, [], ◌∷◌, ◌++◌, length, drop, Option, Some, None, refl, sym, ap, subst, arith}
use Rattle.std.proofs.Common.{append_assoc}
use Rattle.std.specs.Prelude.{IfSome}
use Rattle.std.specs.List.{filter}
use Rattle.std.proofs.lemmas.List.{append-nil, length-append, drop-drop}
use Rattle.std.proofs.lemmas.List.Elements.{filter-append}
use Rattle.udp_edge.specs.declared.turns.Turn.{Turn}
use Rattle.udp_edge.specs.declared.turns.Tried.{Tried}
use Rattle.udp_edge.specs.Traffic.{Traffic}
use Rattle.live_spec.specs.Letters.{Letter, tries}
use Rattle.live_link.specs.Posts.{Tries, PostsFront}
use Rattle.live_link.specs.Rounds.{Finds}
use Rattle.live_link.proofs.Tried.{tries-append, tries-front}
use Rattle.live_run.specs.Running.{Moves}
use Rattle.live_run.specs.Ended.{SamePort}

tries-none : (ls : List Letter) → tries ls [] ≡ []
tries-none [] = refl
tries-none (l ∷ ls) = refl

-- nothing was taken and tried yet
pub moves-none : (a : Option Traffic) (ls : List Letter) → Moves 0 a a ls []
moves-none None ls = tt
moves-none (Some told) ls =
    ap (λ (ts : List Tried). Some (record told { tried = ts })) (sym (append-nil told.tried) ∙ ap (λ (ts : List Tried). told.tried ++ ts) (sym (tries-none ls)))

-- more turns were taken
pub moves-finds : (n m : ℕ) (a b c : Option Traffic) (ls : List Letter) (u : List Bool) (ds : List (List ℕ)) → Moves n a b ls u → Finds m b c ds
    → Moves (n + m) a c ls u
moves-finds n m None b c ls u ds one two = tt
moves-finds n m (Some told) b c ls u ds one two =
    let now = subst (λ (o : Option Traffic). Finds m o c ds) one two in
    now.1 ∙ ap (λ (ts : List Turn). Some (record told { coming = ts; tried = told.tried ++ tries ls u })) (drop-drop m n told.coming)

-- more letters were tried
pub moves-tries : (n : ℕ) (a b c : Option Traffic) (ls ms : List Letter) (u v : List Bool) → length u ≡ length ls → Moves n a b ls u → Tries b c ms v
    → Moves n a c (ls ++ ms) (u ++ v)
moves-tries n None b c ls ms u v e one two = tt
moves-tries n (Some told) b c ls ms u v e one two =
    let now = subst (λ (o : Option Traffic). Tries o c ms v) one two in
    now
    ∙ ap (λ (ts : List Tried). Some (record told { coming = drop n told.coming; tried = ts }))
    (append_assoc told.tried (tries ls u) (tries ms v) ∙ ap (λ (ts : List Tried). told.tried ++ ts) (sym (tries-append ls ms u v e)))

-- they are a front of more letters
pub moves-front : (n : ℕ) (a b : Option Traffic) (ls ms : List Letter) (u : List Bool) → length u ≤ length ls → Moves n a b ls u → Moves n a b (ls ++ ms) u
moves-front n None b ls ms u e one = tt
moves-front n (Some told) b ls ms u e one =
    one ∙ ap (λ (ts : List Tried). Some (record told { coming = drop n told.coming; tried = told.tried ++ ts })) (sym (tries-front ls ms u e))

-- the port is told as before
pub moves-port : (n : ℕ) (a b : Option Traffic) (ls : List Letter) (u : List Bool) → Moves n a b ls u → SamePort a b
moves-port n None b ls u one = tt
moves-port n (Some told) b ls u one = subst (λ (o : Option Traffic). IfSome o (λ now. now.port ≡ told.port)) (sym one) refl

-- letters that went, of two lists
pub unsent-both : (u v : List Bool) → length (filter not (u ++ v)) ≡ length (filter not u) + length (filter not v)
unsent-both u v = ap (λ (ws : List Bool). length ws) (filter-append not u v) ∙ length-append (filter not u) (filter not v)

-- A front of some letters was tried, after so many turns.
pub record Front (old new : Option Traffic) (letters : List Letter) : Type 0 where
  pub n : ℕ
  pub went : List Bool
  pub front : length went ≤ length letters
  pub moves : Moves n old new letters went

pub front-none : (a : Option Traffic) (ls : List Letter) → Front a a ls
front-none a ls = record { n = 0; went = []; front = omega arith; moves = moves-none a ls }

pub front-longer : (a b : Option Traffic) (ls ms : List Letter) → Front a b ls → Front a b (ls ++ ms)
front-longer a b ls ms f =
    let le = f.front in
    record { n = f.n; went = f.went; front = omega (arith, length-append ls ms); moves = moves-front f.n a b ls ms f.went f.front f.moves }

-- all of the first letters were tried, and a front of the others
pub front-then : (n : ℕ) (a b c : Option Traffic) (ls ms : List Letter) (u : List Bool) → length u ≡ length ls → Moves n a b ls u → PostsFront b c ms
    → Front a c (ls ++ ms)
front-then n a b c ls ms u e one two =
    let le = two.front in
    record {
      n = n;
      went = u ++ two.went;
      front = omega (arith, length-append ls ms, length-append u two.went);
      moves = moves-tries n a b c ls ms u two.went e one two.tried;
    }

-- all were tried
pub front-all : (n : ℕ) (a b : Option Traffic) (ls : List Letter) (u : List Bool) → length u ≡ length ls → Moves n a b ls u → Front a b ls
front-all n a b ls u e one = record { n = n; went = u; front = omega arith; moves = one }
