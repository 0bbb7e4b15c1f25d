-- A word of more than four fields is no address.
use Rattle.std.proofs.Common.{◌≡◌, ℕ, true, false, cond, nat_eq, List, [], ◌∷◌, None, refl, ap}
use Rattle.roster_text.specs.Lines.{onto, fields_of}
use Rattle.udp_edge.specs.Peers.{address_of}

-- a word has a field
some_field : (stop : ℕ) (bs : List ℕ) → (f : List ℕ) × (fs : List (List ℕ)) × (fields_of stop bs ≡ f ∷ fs)
some_field stop [] = ([], [], refl)
some_field stop (b ∷ bs) =
    let rest = some_field stop bs in
    elim (nat_eq b stop) as (λ t. (f : List ℕ) × (fs : List (List ℕ)) × (cond t ([] ∷ fields_of stop bs) (onto b (fields_of stop bs)) ≡ f ∷ fs)) [
      | true ↦ ([], fields_of stop bs, refl)
      | false ↦ (b ∷ rest.0, rest.1, ap (onto b) rest.2)
    ]

pub five_fields : (w a after_a b after_b c d e after_d : List ℕ) → fields_of 46 w ≡ a ∷ fields_of 46 after_a →
    fields_of 46 after_a ≡ b ∷ fields_of 46 after_b → fields_of 46 after_b ≡ c ∷ fields_of 46 d → fields_of 46 d ≡ e ∷ fields_of 46 after_d →
    None ≡ address_of w
five_fields w a after_a b after_b c d e after_d first second third fourth =
    let last = some_field 46 after_d in
    rw (first, second, third, fourth, last.2) refl
