-- A reader stands for one more command, and how a text of lines goes on.
use Rattle.std.proofs.Common.{◌≡◌, ◌≤◌, ℕ, Bool, true, false, cond, nat_lt, List, [], ◌∷◌, ◌++◌, Option, None, Some, sym, ap, subst, ◌∙◌}
use Rattle.std.specs.Prelude.{reverse, IfSome}
use Rattle.std.proofs.lemmas.List.{reverse-append}
use Rattle.roster_text.specs.declared.commands.Timed.{Timed}
use Rattle.roster_text.specs.declared.faults.RosterKind.{RosterKind}
use Rattle.roster_text.specs.declared.faults.RosterKind.TheVariants as kinds
use Rattle.roster_text.specs.declared.entry.Entry.{Entry}
use Rattle.roster_text.specs.declared.entry.Entry.TheVariants.{Says}
use Rattle.roster_text.specs.declared.reader.Reader.{Reader}
use Rattle.roster_text.specs.Reading.{Stands}
use Rattle.roster_text.specs.Places.{latest, latest_end, misplaced, place_fault}
use Rattle.roster_text.specs.Tables.{Keeps}

pub one_more : (items : List Timed) (t : Timed) → reverse (items ++ t ∷ []) ≡ t ∷ reverse items
one_more items t = reverse-append items (t ∷ [])

not_back : (b : Bool) (k : RosterKind) (o : Option RosterKind) → cond b (Some k) o ≡ None → o ≡ None
not_back true k o e = absurd (cc)
not_back false k o e = e

-- a command that may stand here isn't misplaced
pub in_place : (past : List Timed) (t : Timed) → place_fault past (Says t) ≡ None → misplaced past t.command ≡ None
in_place past t e = not_back (nat_lt t.at (latest past)) kinds.Back (misplaced past t.command) e

-- a reader that has kept one more command
pub stands_pushed : (old new : Reader) (entry : Entry) (t : Timed) → Stands old → place_fault (reverse old.timed.items) entry ≡ None → entry ≡ Says t
    → ((past : List Timed) (at : ℕ) → Keeps old.room past → misplaced past t.command ≡ None → Keeps new.room (record { at = at; command = t.command } ∷ past))
    → new.timed.items ≡ old.timed.items ++ t ∷ [] → new.end ≡ old.end → new.latest ≡ t.at → Stands new
stands_pushed old new entry t stands placed is applied pushed same_end late =
    let past : List Timed = reverse old.timed.items in
    let fine : misplaced past t.command ≡ None = in_place past t (ap (place_fault past) (sym is) ∙ placed) in
    let more : reverse new.timed.items ≡ t ∷ past = ap (reverse {A = Timed}) pushed ∙ one_more old.timed.items t in
    let kept : Keeps new.room (t ∷ past) = applied past t.at stands.keeps fine in
    record {
      keeps = subst (λ (p : List Timed). Keeps new.room p) (sym more) kept;
      short = subst (λ (o : Option ℕ). IfSome o (λ end. end ≤ latest_end)) (sym same_end) stands.short;
      newest = late ∙ ap latest (sym more);
    }
