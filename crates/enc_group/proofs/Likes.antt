-- What the conditions of calls say of the groups.
use Rattle.std.proofs.Common.{◌≡◌, ℕ, Bool, true, List, Option, Some, None, is_some, IsSome, IfSome, refl, sym, subst}
use Rattle.enc_group.specs.declared.Group.{Group}
use Rattle.enc_group.specs.Groups.{MayMerge, IsFull, IsVacant, Sets, group_in}

pub like-into : (a b : Option Group) → MayMerge a b → is_some b ≡ true
like-into None b m = absurd m
like-into (Some x) None m = absurd m
like-into (Some x) (Some y) m = refl

pub like-from : (a b : Option Group) → MayMerge a b → is_some a ≡ true
like-from None b m = absurd m
like-from (Some x) None m = absurd m
like-from (Some x) (Some y) m = refl

pub full-there : (a : Option Group) → IsFull a → is_some a ≡ true
full-there None m = absurd m
full-there (Some x) m = refl

pub vacant-there : (a : Option Group) → IsVacant a → is_some a ≡ true
vacant-there None m = absurd m
vacant-there (Some x) m = refl

-- where a state was lifted, the place is vacant
pub lifted-vacant : (a : Option Group) (old new : List (Option Group)) (key : ℕ) → IsFull a
    → IfSome a (λ g. Sets old new key (Some (record g { state = None }))) → IsVacant (group_in new key)
lifted-vacant None old new key full sets = absurd full
lifted-vacant (Some g) old new key full sets = subst (λ (o : Option Group). IsVacant o) (sym sets.here) refl
